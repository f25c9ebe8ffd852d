use Rattle.std.proofs.Common.{◌≡◌, [], ◌∷◌, Some, refl, sym, ap, subst, ◌∙◌, inl, inr, ⊎_elim, arith}
use Rattle.mp_model.specs.declared.ids.TrxId.{TrxId}
use Rattle.mp_cells.specs.declared.rows.Row.{Row}
use Rattle.mp_cells.specs.declared.records.Mtr.{Mtr}
use Rattle.mp_cells.specs.SmallMaps.{fresh_map, gone_row}
use Rattle.mp_cells.specs.Plans.{plan_of}
use Rattle.mp_core_trx.specs.declared.part.Draw.{Draw}
use Rattle.mp_core_trx.specs.declared.slot.Shown.{Shown}
use Rattle.mp_core_trx.specs.declared.slot.SlotTag.TheVariants.{Active}
use Rattle.mp_core_trx.specs.Words.{tag_number, shows}
use Rattle.mp_core_trx.specs.Parts.{draw_of, shown_at, Shows}
use Rattle.mp_histories.specs.Histories.{pages_after}
use Rattle.mp_histories.specs.SmallHistory.{small_trx, small_row, small_put, small_restore, wrong_restore}
use Rattle.mp_histories.proofs.Lists.{heads_same, some_same, none_some}
use Rattle.mp_core_pages.specs.declared.part.Placed.{Placed}
use Rattle.mp_histories.proofs.Contents.{put_else, restore_else}
use Rattle.mp_histories.proofs.SmallPuts.{small_put_is_well}
use Rattle.mp_facts.proofs.SmallRestore.{row_back, restore_well}
use Rattle.mp_core.specs.Contents.{contents_of}
use Rattle.mp_core.specs.OwnMtrs.{row_restored_by, commit_by_mtr, owner_of, first_former, TrxMtr}
use Rattle.mp_core.specs.MtrKinds.{MayPutOver}
use Rattle.mp_facts.specs.SmallParts.{active_part, put_part, restored_part, drawn_part, slot_one_row}
use Rattle.mp_facts.proofs.examples.law_mtr_kinds_examples.Goals as goal

other_tag : (x y : Shown) → x ≡ y → ¬ (tag_number x.tag ≡ tag_number y.tag) → ⊥
other_tag x y e differ = differ (ap (λ (z : Shown). tag_number z.tag) e)

-- the transactions in slots 0 and 1 are two
two_slots : ¬ (Some (small_trx 1) ≡ Some (small_trx 0))
two_slots e = let slot = ap (λ (x : TrxId). x.slot) (some_same (small_trx 1) (small_trx 0) e) in absurd (omega (arith, slot))

-- who puts the small row is the transaction in slot 0
writer_is : (row : Row) (id : TrxId) → small_row ∷ [] ≡ row ∷ [] → row.writer ≡ Some id → id ≡ small_trx 0
writer_is row id puts by = sym (some_same (small_trx 0) id (ap (λ (r : Row). r.writer) (heads_same small_row row [] [] puts) ∙ by))

-- the transaction in slot 1 was not seen
not_seen : MayPutOver active_part (small_trx 0) slot_one_row → ⊥
not_seen (inl none) = none_some (small_trx 1) (sym none)
not_seen (inr (inl own)) = two_slots own
not_seen (inr (inr saw)) = saw.2.loaded

pub returns-clause-puts : goal.returns-clause-puts
returns-clause-puts c = record {
  row = small_row;
  id = small_trx 0;
  writer = refl;
  begun = (0, inl refl);
  active = refl;
  well = put_else (plan_of small_put.records) fresh_map (contents_of active_part) small_row (refl, (refl, (refl, (refl, tt)))) small_put_is_well;
  over = inl refl;
}

pub returns-clause-no_put_after_the_draw : goal.returns-clause-no_put_after_the_draw
returns-clause-no_put_after_the_draw c = λ may.
    let id = writer_is may.row may.id may.well.puts may.writer in
    other_tag (shown_at (drawn_part active_part).trx.rows 0) (shows Active 1 0) (subst (λ (x : TrxId). Shows (drawn_part active_part).trx.rows x Active) id may.active) (λ e. absurd (omega (arith, e)))

pub returns-clause-no_put_over_unseen : goal.returns-clause-no_put_over_unseen
returns-clause-no_put_over_unseen c = λ may. not_seen (subst (λ (x : TrxId). MayPutOver active_part x slot_one_row) (writer_is may.row may.id may.well.puts may.writer) may.over)

pub returns-clause-over_seen : goal.returns-clause-over_seen
returns-clause-over_seen c = inr (inr (small_trx 1, refl, record { load = _; loaded = inl refl; of = refl; slot = refl; cts = 3; showed = refl }))

pub returns-clause-over_unseen : goal.returns-clause-over_unseen
returns-clause-over_unseen c = not_seen

pub returns-clause-restores : goal.returns-clause-restores
returns-clause-restores c = record {
  row = gone_row 7;
  id = small_trx 0;
  owner = refl;
  begun = (0, inl refl);
  active = refl;
  former = refl;
  well = restore_else (plan_of small_restore.records) (pages_after fresh_map (small_put ∷ [])) (contents_of put_part) (gone_row 7) (refl, tt) restore_well;
}

pub returns-clause-no_other_restore : goal.returns-clause-no_other_restore
returns-clause-no_other_restore c = λ may.
    let row : small_row ≡ may.row = row_back (plan_of wrong_restore.records) small_row may.row may.well.one.0 refl may.well.one.1 in
    let id : small_trx 0 ≡ may.id = some_same (small_trx 0) may.id (subst (λ (r : Row). owner_of put_part.pages.made r.key ≡ Some may.id) (sym row) may.owner) in
    let former : first_former put_part.pages.made (small_trx 0) 7 ≡ Some small_row = subst (λ (x : TrxId). first_former put_part.pages.made x 7 ≡ Some small_row) (sym id) (subst (λ (r : Row). first_former put_part.pages.made may.id r.key ≡ Some r) (sym row) may.former) in
    let writer = ap (λ (r : Row). r.writer) (some_same (gone_row 7) small_row former) in
    none_some (small_trx 0) writer

pub returns-clause-no_second_restore : goal.returns-clause-no_second_restore
returns-clause-no_second_restore c = λ may.
    let row : gone_row 7 ≡ may.row = row_back (plan_of small_restore.records) (gone_row 7) may.row may.well.one.0 refl may.well.one.1 in
    none_some may.id (subst (λ (r : Row). owner_of restored_part.pages.made r.key ≡ Some may.id) (sym row) may.owner)

pub returns-clause-records : goal.returns-clause-records
returns-clause-records c = record {
  id = small_trx 0;
  cts = 5;
  records = refl;
  begun = (0, inl refl);
  prepared = refl;
  drawn = inl refl;
  first = λ x other has told. ⊎_elim (λ is. none_some (draw_of (small_trx 0) other) (ap (λ (y : Placed Mtr). commit_by_mtr y.mtr) (sym is) ∙ told)) (λ none. none) has;
  whole = λ x has of. ⊎_elim (λ is. ap (λ (y : TrxMtr). row_restored_by y.mtr) is) (λ none. absurd none) has;
}

pub returns-clause-no_record_before_the_draw : goal.returns-clause-no_record_before_the_draw
returns-clause-no_record_before_the_draw c = λ may. may.drawn

pub returns-clause-no_record_after_a_restore : goal.returns-clause-no_record_after_a_restore
returns-clause-no_record_after_a_restore c = λ may.
    let id : small_trx 0 ≡ may.id = ap (λ (d : Draw). d.id) (some_same (draw_of (small_trx 0) 5) (draw_of may.id may.cts) may.records) in
    none_some (gone_row 7) (sym (may.whole _ (inl refl) (ap (λ (x : TrxId). Some x) id)))
