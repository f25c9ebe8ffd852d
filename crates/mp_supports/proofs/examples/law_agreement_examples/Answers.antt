use Rattle.std.proofs.Common.{◌≡◌, ◌≤◌, ◌+◌, ℕ, Some, refl, sym, ap, subst, inl, lit≤, arith}
use Rattle.std.specs.Option.{IfSome}
use Rattle.mp_core_trx.specs.declared.part.Begun.{Begun}
use Rattle.mp_core_trx.specs.Parts.{begun_of}
use Rattle.mp_book.specs.declared.session.Session.{Session}
use Rattle.mp_book.specs.Stages.{next_line, trx_of_stage}
use Rattle.mp_script.specs.declared.statements.Stmt.TheVariants.{Commit}
use Rattle.mp_supports.specs.Supports.{SupportsWaits}
use Rattle.mp_supports.specs.Agreement.{IsOpenAs, RefusalSupported}
use Rattle.mp_supports.specs.SmallParts.{own_trx, work_with, open_part, open_session}
use Rattle.mp_supports.proofs.SmallParts.{only_one}
use Rattle.mp_supports.proofs.examples.law_agreement_examples.Goals as goal

pub returns-clause-opens : goal.returns-clause-opens
returns-clause-opens c = record {
  each = λ s there. subst (λ (x : Session). IfSome (trx_of_stage x.stage) (IsOpenAs (work_with Commit) open_part 0 x)) (sym (only_one s open_session there))
      (record { begun = inl refl; named = refl; active = inl refl; formers = λ key. refl; whole = λ none m there of. absurd there });
  only = λ b there is_open. (open_session, inl refl, ap (λ (x : Begun). Some x) (sym (only_one b (begun_of own_trx 3) there)));
  waits = λ s there. subst (λ (x : Session). IfSome (next_line x) (λ line. SupportsWaits (work_with Commit) open_part line x.waits.items)) (sym (only_one s open_session there)) refl;
  refused = λ s there. subst (λ (x : Session). RefusalSupported (work_with Commit) open_part 0 x.stage (next_line x)) (sym (only_one s open_session there)) tt;
}

pub returns-clause-not_without_its_session : goal.returns-clause-not_without_its_session
returns-clause-not_without_its_session c = λ h. (h.only (begun_of own_trx 3) (inl refl) ((3, inl refl), inl refl)).1

pub returns-clause-mirrors : goal.returns-clause-mirrors
returns-clause-mirrors c = record { not_below = lit≤ tt; not_above = lit≤ tt; undo_page = tt; idle = λ page. inl refl }

pub returns-clause-not_above_all_told : goal.returns-clause-not_above_all_told
returns-clause-not_above_all_told c = λ h. let above : 7 ≤ 0 = h.not_above in omega (arith, above)

pub returns-clause-bounds : goal.returns-clause-bounds
returns-clause-bounds c = record { base = refl; begins = lit≤ tt; few = lit≤ tt; mtrs = lit≤ tt }

pub returns-clause-not_two_mtrs : goal.returns-clause-not_two_mtrs
returns-clause-not_two_mtrs c = λ h. let two : 2 ≤ 1 = h.mtrs in omega (arith, two)
