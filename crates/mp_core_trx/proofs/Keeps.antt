-- Each event that is allowed keeps the invariant.
use Rattle.std.proofs.Common.{◌≡◌, ℕ, ◌+◌, ◌<◌, ◌≤◌, Option, None, Some, refl, sym, ap, subst, arith}
use Rattle.mp_model.specs.declared.ids.TrxId.{TrxId}
use Rattle.mp_core_trx.specs.declared.opening.TrxOpening.{TrxOpening}
use Rattle.mp_core_trx.specs.declared.slot.SlotTag.TheVariants.{Active, Prep}
use Rattle.mp_core_trx.specs.declared.slot.Shown.{Shown}
use Rattle.mp_core_trx.specs.declared.event.TrxEvent.{TrxEvent}
use Rattle.mp_core_trx.specs.declared.event.TrxEvent.TheVariants.{LoadTso, StoreActive, StorePrep, DrawTso, StoreEnd, LoadTit}
use Rattle.mp_machine.specs.Lists.{pushed}
use Rattle.mp_core_trx.specs.Words.{shows, word_showing}
use Rattle.mp_core_trx.specs.Parts.{begun_of, shown_at, HasBegun, greatest_seen, newest}
use Rattle.mp_core_trx.specs.Events.{IsNode, trx_node_of, ended, load_of, MayEnd, MayStoreActive, TrxAsks, TrxAllowed}
use Rattle.mp_core_trx.specs.World.{TrxWorld, trx_after, tso_after, TrxNumbersFit, openings_in, begun_in, slot_rows_in, drawn_in, tso_seen_in, loaded_in}
use Rattle.mp_core_trx.specs.Invariant.{Sight, SlotIsRight, Holds, TrxInv}
use Rattle.mp_core_trx.proofs.Frames.{openings_are, begun_after, begun_are, rows_after, rows_are, drawn_after, drawn_are, seen_after, seen_are, loaded_after, loaded_are}
use Rattle.mp_core_trx.proofs.Ids.{ids_begin, begun_new}
use Rattle.mp_core_trx.proofs.Timestamps.{draws_draw, drawers_draw, drawers_begin, fresh_drew_nothing}
use Rattle.mp_core_trx.proofs.Sight.{sight_see, sight_begin, sight_load}
use Rattle.mp_core_trx.proofs.SlotWords.{slots_store, slots_begin, slots_draw, right_active, right_prep, right_free, right_committed, once_store, once_begin}
use Rattle.mp_core_trx.proofs.Reliable.{version_fits, reliable_now, loads_load, loads_begin, loads_draw}

-- the components after an event, written out
abbrev pub HoldsAfter : TrxOpening → TrxWorld → TrxEvent → Type 0
HoldsAfter o w e = Holds o (tso_after e w.tso) (openings_in w) (begun_after w e) (rows_after w e) (drawn_after w e) (seen_after w e) (loaded_after w e)

of_components : (o : TrxOpening) (w : TrxWorld) (e : TrxEvent) → HoldsAfter o w e → TrxInv o (trx_after w e)
of_components o w e h =
    subst (λ x. Holds o (tso_after e w.tso) (openings_in (trx_after w e)) (begun_in (trx_after w e)) (slot_rows_in (trx_after w e)) (drawn_in (trx_after w e)) (tso_seen_in (trx_after w e)) x) (sym (loaded_are w e))
    (subst (λ x. Holds o (tso_after e w.tso) (openings_in (trx_after w e)) (begun_in (trx_after w e)) (slot_rows_in (trx_after w e)) (drawn_in (trx_after w e)) x (loaded_after w e)) (sym (seen_are w e))
    (subst (λ x. Holds o (tso_after e w.tso) (openings_in (trx_after w e)) (begun_in (trx_after w e)) (slot_rows_in (trx_after w e)) x (seen_after w e) (loaded_after w e)) (sym (drawn_are w e))
    (subst (λ x. Holds o (tso_after e w.tso) (openings_in (trx_after w e)) (begun_in (trx_after w e)) x (drawn_after w e) (seen_after w e) (loaded_after w e)) (sym (rows_are w e))
    (subst (λ x. Holds o (tso_after e w.tso) (openings_in (trx_after w e)) x (rows_after w e) (drawn_after w e) (seen_after w e) (loaded_after w e)) (sym (begun_are w e))
    (subst (λ x. Holds o (tso_after e w.tso) x (begun_after w e) (rows_after w e) (drawn_after w e) (seen_after w e) (loaded_after w e)) (sym (openings_are w e)) h)))))

module _ (o : TrxOpening) (fair : TrxNumbersFit o) (w : TrxWorld) (i : TrxInv o w) where
  node : (n : ℕ) → IsNode (w.part n).opening n → IsNode o n
  node n h = subst (λ (x : TrxOpening). IsNode x n) (i.carried n) h

  newest_is : (n : ℕ) → newest (w.part n) ≡ greatest_seen o.base.ts (tso_seen_in w n)
  newest_is n = ap (λ (x : TrxOpening). greatest_seen x.base.ts (tso_seen_in w n)) (i.carried n)

  load_tso : (n : ℕ) → HoldsAfter o w (LoadTso n)
  load_tso n =
      let low = i.sight.from_base in
      record {
        carried = i.carried;
        ids = i.ids;
        draws = i.draws;
        drawers = i.drawers;
        sight = sight_see o.base.ts w.tso (begun_in w) (tso_seen_in w) (loaded_in w) i.sight n w.tso w.tso low (omega arith) (omega arith);
        slots = i.slots;
        once = i.once;
        reliable = i.reliable;
      }

  begin : (n : ℕ) (id : TrxId) → IsNode o n → MayStoreActive (w.part n) n id → HoldsAfter o w (StoreActive n id)
  begin n id is may =
      let b = begun_of id (newest (w.part n)) in
      let same = i.carried n in
      let above = subst (λ (x : TrxOpening). x.base.version < id.version) same may.above in
      let within = subst (λ (x : TrxOpening). id.version ≤ x.base.version + x.begins) same may.within in
      let ids = ids_begin o (begun_in w) i.ids n id (newest (w.part n)) is may.own above within may.in_range may.fresh in
      let nothing = fresh_drew_nothing (begun_in w) (drawn_in w) n id i.drawers may.fresh in
      let x = shows Active id.version 0 in
      record {
        carried = i.carried;
        ids = ids;
        draws = i.draws;
        drawers = drawers_begin (begun_in w) (drawn_in w) n b i.drawers;
        sight = subst (λ v. Sight o.base.ts w.tso (pushed (begun_in w) n (begun_of id v)) (tso_seen_in w) (loaded_in w)) (sym (newest_is n)) (sight_begin o.base.ts w.tso (begun_in w) (tso_seen_in w) (loaded_in w) i.sight n id);
        slots = slots_store (pushed (begun_in w) n b) (drawn_in w) (slot_rows_in w) (slots_begin (begun_in w) (drawn_in w) (slot_rows_in w) i.slots n b nothing) n id x
            (right_active o (pushed (begun_in w) n b) ids (drawn_in w n) n id (begun_new (begun_in w) n id (newest (w.part n))) nothing);
        once = once_begin o (begun_in w) (slot_rows_in w) n id (newest (w.part n)) x i.ids i.once may.usable refl;
        reliable = loads_begin (begun_in w) (drawn_in w) (loaded_in w) i.reliable n b;
      }

  -- a row that is right of a transaction with its version
  store : (n : ℕ) (id : TrxId) (x : Shown) → HasBegun (begun_in w n) id → x.version ≡ id.version → SlotIsRight n id.slot (begun_in w n) (drawn_in w n) x
      → Holds o w.tso (openings_in w) (begun_in w) (pushed (slot_rows_in w) n record { slot = id.slot; shown = x }) (drawn_in w) (tso_seen_in w) (loaded_in w)
  store n id x has same right = record {
    carried = i.carried;
    ids = i.ids;
    draws = i.draws;
    drawers = i.drawers;
    sight = i.sight;
    slots = slots_store (begun_in w) (drawn_in w) (slot_rows_in w) i.slots n id x right;
    once = once_store (begun_in w) (slot_rows_in w) n id x i.once has same;
    reliable = i.reliable;
  }

  end : (n : ℕ) (id : TrxId) (cts : Option ℕ) → HasBegun (begun_in w n) id → MayEnd (w.part n) id cts → HoldsAfter o w (StoreEnd n id cts)
  end n id (Some c) has may = store n id (ended id (Some c)) has refl (right_committed o (begun_in w) i.ids (drawn_in w n) n id has c may)
  end n id None has may = store n id (ended id None) has refl (right_free o (begun_in w) i.ids (drawn_in w n) n id has may)

  draw : (n : ℕ) (id : TrxId) → IsNode o n → TrxAsks (w.part n) (DrawTso n id) → HoldsAfter o w (DrawTso n id)
  draw n id is may =
      let low = i.sight.from_base in
      record {
        carried = i.carried;
        ids = i.ids;
        draws = draws_draw o w.tso (drawn_in w) n id i.draws is;
        drawers = drawers_draw o (begun_in w) (drawn_in w) n id (w.tso + 1) i.ids i.drawers may.0 may.2;
        sight = sight_see o.base.ts w.tso (begun_in w) (tso_seen_in w) (loaded_in w) i.sight n (w.tso + 1) (w.tso + 1) (omega arith) (omega arith) (omega arith);
        slots = slots_draw (begun_in w) (drawn_in w) (slot_rows_in w) i.slots n id (w.tso + 1) may.1;
        once = i.once;
        reliable = loads_draw (begun_in w) (drawn_in w) (loaded_in w) i.reliable o.base.ts w.tso (tso_seen_in w) i.sight n id;
      }

  load_tit : (n whose slot : ℕ) → HoldsAfter o w (LoadTit n whose slot)
  load_tit n whose slot =
      let x = shown_at (slot_rows_in w whose) slot in
      let right = i.slots whose slot in
      let l = load_of whose slot (word_showing x) (newest (w.part n)) in
      let fits = version_fits o fair (begun_in w) i.ids (drawn_in w whose) whose slot x right in
      record {
        carried = i.carried;
        ids = i.ids;
        draws = i.draws;
        drawers = i.drawers;
        sight = subst (λ v. Sight o.base.ts w.tso (begun_in w) (tso_seen_in w) (pushed (loaded_in w) n (load_of whose slot (word_showing x) v))) (sym (newest_is n)) (sight_load o.base.ts w.tso (begun_in w) (tso_seen_in w) (loaded_in w) i.sight n whose slot (word_showing x));
        slots = i.slots;
        once = i.once;
        reliable = loads_load (begun_in w) (drawn_in w) (loaded_in w) i.reliable n l (reliable_now whose slot (newest (w.part n)) (begun_in w whose) (drawn_in w whose) x fits right);
      }

  holds_after : (e : TrxEvent) → TrxAllowed (w.part (trx_node_of e)) e → HoldsAfter o w e
  holds_after (LoadTso n) may = load_tso n
  holds_after (StoreActive n id) may = begin n id (node n may.0) may.1
  holds_after (StorePrep n id) may = store n id (shows Prep id.version 0) may.1.0 refl (right_prep o (begun_in w) i.ids (drawn_in w n) n id may.1.0)
  holds_after (DrawTso n id) may = draw n id (node n may.0) may.1
  holds_after (StoreEnd n id cts) may = end n id cts may.1.0.0 may.1.1
  holds_after (LoadTit n whose slot) may = load_tit n whose slot

-- the step theorem
pub keeps_inv : (o : TrxOpening) → TrxNumbersFit o → (w : TrxWorld) (e : TrxEvent) → TrxInv o w → TrxAllowed (w.part (trx_node_of e)) e → TrxInv o (trx_after w e)
keeps_inv o fair w e i may = of_components o w e (holds_after o fair w i e may)
