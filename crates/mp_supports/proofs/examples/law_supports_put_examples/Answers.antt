use Rattle.std.proofs.Common.{◌≡◌, [], ◌∷◌, None, Some, refl, sym, ap, ◌∙◌, inl, inr, Option, lit≤, arith}
use Rattle.mp_cells.specs.declared.rows.Row.{Row}
use Rattle.mp_core.specs.OwnMtrs.{TrxMtr, row_kept_by}
use Rattle.mp_core_trx.specs.declared.slot.SlotTag.TheVariants.{Active, Committed}
use Rattle.mp_core_trx.specs.Words.{shows}
use Rattle.mp_script.specs.declared.statements.Stmt.TheVariants.{Put}
use Rattle.mp_supports.specs.Supports.{Trace}
use Rattle.mp_supports.specs.SmallParts.{own_trx, older_trx, younger_trx, line_of, version_by, first_link, load_showing, put_over, own_mtr, made_at_four}
use Rattle.mp_supports.proofs.SmallParts.{some_one, id_is, view_is, not_seen, while_open}
use Rattle.mp_supports.proofs.examples.law_supports_put_examples.Goals as goal

pub returns-clause-over_settled : goal.returns-clause-over_settled
returns-clause-over_settled c = record {
  line = line_of 1 2 (Put 5 (98 ∷ []));
  found = refl;
  reply = (
    own_trx,
    3,
    record { begun = inl refl; named = refl },
    (
      5,
      own_mtr (put_over (version_by (Some older_trx) None 97) (version_by (Some own_trx) (Some first_link) 98)),
      refl,
      refl,
      record {
        was_made = inl refl;
        of = refl;
        row = version_by (Some own_trx) (Some first_link) 98;
        put = refl;
        writer = refl;
        its_key = refl;
        value = refl;
        former = version_by (Some older_trx) None 97;
        kept = refl;
        over = inr (inr record { writer = older_trx; its_writer = refl; load = load_showing older_trx (shows Committed 1 2); is_load = record { loaded = inl refl; of = refl; slot = refl }; cts = 2; committed = refl; within = lit≤ tt });
        read_before = tt;
      },
    ),
  );
  waits = (tt, tt);
}

pub returns-clause-not_over_an_open_one : goal.returns-clause-not_over_an_open_one
returns-clause-not_over_an_open_one c = λ s.
    let mtr = put_over (version_by (Some younger_trx) None 97) (version_by (Some own_trx) (Some first_link) 98) in
    let load = load_showing younger_trx (shows Active 3 0) in
    let write = s.reply.3 in
    let id = id_is (Put 5 (98 ∷ [])) (load ∷ []) [] (made_at_four mtr) s.line s.reply.0 s.reply.1 s.reply.2 in
    let view = view_is (Put 5 (98 ∷ [])) (load ∷ []) [] (made_at_four mtr) s.line s.reply.0 s.reply.1 s.reply.2 in
    let same : write.1 ≡ own_mtr mtr = some_one (own_mtr mtr) write.1 (ap (λ (t : Trace). t.mtr) write.3) in
    let former : write.4.former ≡ version_by (Some younger_trx) None 97 = some_one (version_by (Some younger_trx) None 97) write.4.former (sym (ap (λ (m : TrxMtr). row_kept_by m.mtr) same) ∙ write.4.kept) in
    not_seen load [] (made_at_four mtr) while_open s.reply.0 write.4.former s.reply.1 id (ap (λ (r : Row). r.writer) former) view write.4.over
