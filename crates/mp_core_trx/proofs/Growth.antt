-- A part only grows: whatever it has shown, it shows after any later step.
use Rattle.std.proofs.Common.{◌≡◌, ℕ, ◌+◌, refl, sym, ap, ◌∙◌, subst}
use mathlib.Core.Logic.{dite}
use native.Mathlib.Decide.{ℕ_discrete}
use Rattle.mp_core_trx.specs.declared.slot.SlotTag.TheVariants.{Active, Prep}
use Rattle.mp_core_trx.specs.declared.part.TrxPart.{TrxPart}
use Rattle.mp_core_trx.specs.declared.event.TrxEvent.{TrxEvent}
use Rattle.mp_core_trx.specs.declared.event.TrxEvent.TheVariants.{LoadTso, StoreActive, StorePrep, DrawTso, StoreEnd, LoadTit}
use Rattle.mp_core_trx.specs.Words.{shows}
use Rattle.mp_core_trx.specs.Parts.{begun_of, draw_of, newest, PartExtends}
use Rattle.mp_core_trx.specs.Events.{trx_node_of, ended, slot_row, load_of, trx_made}
use Rattle.mp_core_trx.specs.World.{TrxWorld, trx_after, trx_part_after}
use Rattle.mp_machine.proofs.Lists.{grows_refl, grows_one, grows_trans, updated_here, updated_else}

pub extends_refl : (p : TrxPart) → PartExtends p p
extends_refl p = record {
  same_opening = refl;
  more_begun = grows_refl p.begun;
  more_rows = grows_refl p.rows;
  more_drawn = grows_refl p.drew;
  more_seen = grows_refl p.seen;
  more_loaded = grows_refl p.loaded;
}

pub extends_trans : (p q r : TrxPart) → PartExtends p q → PartExtends q r → PartExtends p r
extends_trans p q r a b = record {
  same_opening = b.same_opening ∙ a.same_opening;
  more_begun = grows_trans p.begun q.begun r.begun a.more_begun b.more_begun;
  more_rows = grows_trans p.rows q.rows r.rows a.more_rows b.more_rows;
  more_drawn = grows_trans p.drew q.drew r.drew a.more_drawn b.more_drawn;
  more_seen = grows_trans p.seen q.seen r.seen a.more_seen b.more_seen;
  more_loaded = grows_trans p.loaded q.loaded r.loaded a.more_loaded b.more_loaded;
}

-- what an event makes of a part extends it
pub made_extends : (e : TrxEvent) (found : ℕ) (p : TrxPart) → PartExtends p (trx_made e found p)
made_extends (LoadTso n) found p = record { same_opening = refl; more_begun = grows_refl p.begun; more_rows = grows_refl p.rows; more_drawn = grows_refl p.drew; more_seen = grows_one p.seen found; more_loaded = grows_refl p.loaded }
made_extends (StoreActive n id) found p = record { same_opening = refl; more_begun = grows_one p.begun (begun_of id (newest p)); more_rows = grows_one p.rows (slot_row id (shows Active id.version 0)); more_drawn = grows_refl p.drew; more_seen = grows_refl p.seen; more_loaded = grows_refl p.loaded }
made_extends (StorePrep n id) found p = record { same_opening = refl; more_begun = grows_refl p.begun; more_rows = grows_one p.rows (slot_row id (shows Prep id.version 0)); more_drawn = grows_refl p.drew; more_seen = grows_refl p.seen; more_loaded = grows_refl p.loaded }
made_extends (DrawTso n id) found p = record { same_opening = refl; more_begun = grows_refl p.begun; more_rows = grows_refl p.rows; more_drawn = grows_one p.drew (draw_of id (found + 1)); more_seen = grows_one p.seen (found + 1); more_loaded = grows_refl p.loaded }
made_extends (StoreEnd n id cts) found p = record { same_opening = refl; more_begun = grows_refl p.begun; more_rows = grows_one p.rows (slot_row id (ended id cts)); more_drawn = grows_refl p.drew; more_seen = grows_refl p.seen; more_loaded = grows_refl p.loaded }
made_extends (LoadTit n whose slot) found p = record { same_opening = refl; more_begun = grows_refl p.begun; more_rows = grows_refl p.rows; more_drawn = grows_refl p.drew; more_seen = grows_refl p.seen; more_loaded = grows_one p.loaded (load_of whose slot found (newest p)) }

-- and so of each node's part
pub after_extends : (w : TrxWorld) (e : TrxEvent) (n : ℕ) → PartExtends (w.part n) ((trx_after w e).part n)
after_extends w e n =
    dite (ℕ_discrete n (trx_node_of e))
    (λ same.
    let now : (trx_after w e).part n ≡ trx_part_after w e = ap (trx_after w e).part same ∙ updated_here w.part (trx_node_of e) (trx_part_after w e) in
    subst (λ q. PartExtends (w.part n) q) (sym now) (subst (λ k. PartExtends (w.part k) (trx_part_after w e)) (sym same) (made_extends e _ (w.part (trx_node_of e)))))
    (λ other. subst (λ q. PartExtends (w.part n) q) (sym (updated_else w.part (trx_node_of e) (trx_part_after w e) n other)) (extends_refl (w.part n)))
