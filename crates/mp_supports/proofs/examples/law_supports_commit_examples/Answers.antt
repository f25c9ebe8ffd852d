use Rattle.std.proofs.Common.{◌≡◌, ◌≤◌, None, Some, refl, sym, ap, ◌∙◌, subst, inl, lit≤, lit<, arith}
use Rattle.mp_core.specs.OwnMtrs.{row_restored_by, TrxMtr}
use Rattle.mp_script.specs.declared.statements.Line.{Line}
use Rattle.mp_script.specs.declared.statements.Stmt.{Stmt}
use Rattle.mp_script.specs.declared.statements.Stmt.TheVariants.{Commit, Rollback}
use Rattle.mp_supports.specs.Supports.{Trace}
use Rattle.mp_supports.specs.SmallParts.{own_trx, line_of, commit_mtr, own_mtr}
use Rattle.mp_supports.proofs.SmallParts.{some_one, only_one, the_line}
use Rattle.mp_supports.proofs.examples.law_supports_commit_examples.Goals as goal

pub returns-clause-durable : goal.returns-clause-durable
returns-clause-durable c = record {
  line = line_of 1 2 Commit;
  found = refl;
  reply = (
    own_trx,
    3,
    record { begun = inl refl; named = refl },
    (
      own_mtr (commit_mtr 1),
      refl,
      refl,
      record {
        above = lit< tt;
        drawn = inl refl;
        was_made = inl refl;
        of = refl;
        commit = refl;
        whole = λ k there of upto. let is = only_one k (own_mtr (commit_mtr 1)) there in subst (λ (m : TrxMtr). row_restored_by m.mtr ≡ None) (sym is) refl;
      },
      lit≤ tt,
    ),
  );
  waits = refl;
}

pub returns-clause-not_durable : goal.returns-clause-not_durable
returns-clause-not_durable c = λ s.
    let commit = s.reply.3 in
    let same : commit.0 ≡ own_mtr (commit_mtr 2) = some_one (own_mtr (commit_mtr 2)) commit.0 (ap (λ (t : Trace). t.mtr) commit.2) in
    let llsn : (commit.0).mtr.llsn ≡ 2 = ap (λ (m : TrxMtr). m.mtr.llsn) same in
    let forced : (commit.0).mtr.llsn ≤ 1 = commit.4 in
    omega (arith, llsn, forced)

pub returns-clause-unknown : goal.returns-clause-unknown
returns-clause-unknown c = record {
  line = line_of 1 2 Commit;
  found = refl;
  reply = (
    own_trx,
    3,
    record { begun = inl refl; named = refl },
    (
      own_mtr (commit_mtr 2),
      refl,
      refl,
      record {
        above = lit< tt;
        drawn = inl refl;
        was_made = inl refl;
        of = refl;
        commit = refl;
        whole = λ k there of upto. let is = only_one k (own_mtr (commit_mtr 2)) there in subst (λ (m : TrxMtr). row_restored_by m.mtr ≡ None) (sym is) refl;
      },
    ),
    refl,
    (λ none. let one : 1 ≡ 0 = none in omega (arith, one)),
  );
  waits = refl;
}

pub returns-clause-not_unknown_while_up : goal.returns-clause-not_unknown_while_up
returns-clause-not_unknown_while_up c = λ s. s.reply.5 refl

pub returns-clause-none : goal.returns-clause-none
returns-clause-none c = record { line = line_of 1 2 Commit; found = refl; reply = (refl, refl); waits = refl }

pub returns-clause-none_only_of_a_commit : goal.returns-clause-none_only_of_a_commit
returns-clause-none_only_of_a_commit c = λ s. no_commit (sym (ap (λ (l : Line). l.stmt) (the_line Rollback s.line s.found)) ∙ s.reply.0)
  where
    no_commit : Rollback ≡ Commit → ⊥
    no_commit e = cc

pub returns-clause-rolled_back : goal.returns-clause-rolled_back
returns-clause-rolled_back c = record { line = line_of 1 2 Rollback; found = refl; reply = (refl, refl); waits = refl }

pub returns-clause-no_commit_rolled_back : goal.returns-clause-no_commit_rolled_back
returns-clause-no_commit_rolled_back c = λ s. no_rollback (sym (ap (λ (l : Line). l.stmt) (the_line Commit s.line s.found)) ∙ s.reply.0)
  where
    no_rollback : Commit ≡ Rollback → ⊥
    no_rollback e = cc
