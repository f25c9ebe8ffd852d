-- What a node keeps for the slots of its parts goes on through a step.
use Rattle.std.proofs.Common.{◌≡◌, ℕ, ◌≤◌, ◌⊎◌, nat_lt, Bool, true, false, List, ◌∷◌, length, Option, Some, None, if◌then◌else◌, slice_index_or, sym, ap, ◌∙◌, subst, inl, ⊎_elim, arith, ne_eqb}
use mathlib.Core.Logic.{dite}
use native.Mathlib.Decide.{ℕ_discrete}
use Rattle.mp_machine.specs.View.{View, part_in, with_part}
use Rattle.mp_machine.proofs.Views.{part_in-with_here, part_in-with_else}
use Rattle.mp_model.specs.declared.ids.TrxId.{TrxId}
use Rattle.mp_core_trx.specs.declared.opening.TheConstants.{SLOTS}
use Rattle.mp_core_trx.specs.declared.slot.SlotTag.TheVariants.{Active, Prep}
use Rattle.mp_core_trx.specs.declared.slot.Shown.{Shown}
use Rattle.mp_core_trx.specs.declared.part.SlotRow.{SlotRow}
use Rattle.mp_core_trx.specs.declared.part.TrxPart.{TrxPart}
use Rattle.mp_core_trx.specs.declared.event.TrxEvent.{TrxEvent}
use Rattle.mp_core_trx.specs.declared.event.TrxEvent.TheVariants.{LoadTso, StoreActive, StorePrep, DrawTso, StoreEnd, LoadTit}
use Rattle.mp_core_trx.specs.Words.{shows}
use Rattle.mp_core_trx.specs.Parts.{unused, shown_at, Shows}
use Rattle.mp_core_trx.specs.Events.{trx_made, ended, slot_row, TrxAllowed}
use Rattle.mp_core_trx.proofs.SlotWords.{two_tags}
use Rattle.mp_core.specs.declared.part.CorePart.{CorePart}
use Rattle.mp_core.specs.declared.event.CoreEvent.{CoreEvent}
use Rattle.mp_core.specs.declared.event.CoreEvent.TheVariants.{Trx, Pages, Down}
use Rattle.mp_core.specs.World.{Note, core_made, CoreAllowed}
use Rattle.mp_shared.specs.Slots.{used_by, slot_after, SlotsInOrder}

-- the slot of an open transaction is below those that were not used
row_else : (rows : List SlotRow) (row : SlotRow) (slot : ℕ) → ¬ (slot ≡ row.slot) → shown_at (row ∷ rows) slot ≡ shown_at rows slot
row_else rows row slot other = ap (λ b. if b then row.shown else shown_at rows slot) (ne_eqb slot row.slot other)

module _ (p : TrxPart) (h : SlotsInOrder p) where
  above_open : (id : TrxId) → Shows p.rows id Active ⊎ Shows p.rows id Prep → (slot : ℕ) → length p.begun ≤ slot → ¬ (slot ≡ id.slot)
  above_open id open_one slot above same =
      let free : shown_at p.rows id.slot ≡ unused = sym (ap (shown_at p.rows) same) ∙ h.fresh slot above in
      ⊎_elim
      (λ (is : Shows p.rows id Active). two_tags (shows Active id.version 0) unused (sym is ∙ free) (λ e. absurd (omega arith)))
      (λ (is : Shows p.rows id Prep). two_tags (shows Prep id.version 0) unused (sym is ∙ free) (λ e. absurd (omega arith)))
      open_one

  stored : (id : TrxId) (x : Shown) → Shows p.rows id Active ⊎ Shows p.rows id Prep → (slot : ℕ) → length p.begun ≤ slot → shown_at (slot_row id x ∷ p.rows) slot ≡ unused
  stored id x open_one slot above = row_else p.rows (slot_row id x) slot (above_open id open_one slot above) ∙ h.fresh slot above

-- a transaction that begins takes the next slot
abbrev pub TakesNext : TrxEvent → TrxPart → Type 0
TakesNext (LoadTso n) p = Unit {0}
TakesNext (StoreActive n id) p = id.slot ≡ length p.begun
TakesNext (StorePrep n id) p = Unit {0}
TakesNext (DrawTso n id) p = Unit {0}
TakesNext (StoreEnd n id cts) p = Unit {0}
TakesNext (LoadTit n whose slot) p = Unit {0}

order_made : (e : TrxEvent) (found : ℕ) (p : TrxPart) → SlotsInOrder p → TrxAllowed p e → TakesNext e p → SlotsInOrder (trx_made e found p)
order_made (LoadTso n) found p h may next = record { few = h.few; fresh = h.fresh }
order_made (StoreActive n id) found p h may next = record {
  few = let range = may.1.in_range in omega arith;
  fresh = λ slot above. row_else p.rows (slot_row id (shows Active id.version 0)) slot (λ same. absurd (omega arith)) ∙ h.fresh slot (omega arith);
}
order_made (StorePrep n id) found p h may next = record { few = h.few; fresh = stored p h id (shows Prep id.version 0) (inl may.1.1) }
order_made (DrawTso n id) found p h may next = record { few = h.few; fresh = h.fresh }
order_made (StoreEnd n id cts) found p h may next = record { few = h.few; fresh = stored p h id (ended id cts) may.1.0.1 }
order_made (LoadTit n whose slot) found p h may next = record { few = h.few; fresh = h.fresh }

abbrev pub TakesNextSlot : CoreEvent → CorePart → Type 0
TakesNextSlot (Trx e) p = TakesNext e p.trx
TakesNextSlot (Pages e) p = Unit {0}
TakesNextSlot (Down e) p = Unit {0}

pub in_order_made : (e : CoreEvent) (found : ℕ) (x : Note) (p : CorePart) → SlotsInOrder p.trx → CoreAllowed p e → TakesNextSlot e p → SlotsInOrder (core_made e found x p).trx
in_order_made (Trx e) found x p h may next = order_made e found p.trx h may.0 next
in_order_made (Pages e) found x p h may next = h
in_order_made (Down e) found x p h may next = h

-- one part of a view changes
module _ (parts : View CorePart) (n : ℕ) (q next : CorePart) (has : part_in parts n ≡ Some q) where
  pub in_order_turned : ((k : ℕ) (p : CorePart) → part_in parts k ≡ Some p → SlotsInOrder p.trx) → SlotsInOrder next.trx → (k : ℕ) (p : CorePart) → part_in (with_part parts n next) k ≡ Some p → SlotsInOrder p.trx
  in_order_turned all new k p there =
      dite (ℕ_discrete k n)
      (λ same.
      let here : part_in (with_part parts n next) k ≡ Some next = ap (part_in (with_part parts n next)) same ∙ part_in-with_here parts n next q has in
      let is : next ≡ p = cc in
      subst (λ x. SlotsInOrder x.trx) is new)
      (λ other. all k p (sym (part_in-with_else parts n k next other) ∙ there))

  pub counted_turned : (used later : List (Option ℕ)) → ((k : ℕ) → slice_index_or used k None ≡ used_by (part_in parts k))
      → slice_index_or later n None ≡ Some (length next.trx.begun) → ((k : ℕ) → ¬ (k ≡ n) → slice_index_or later k None ≡ slice_index_or used k None)
      → (k : ℕ) → slice_index_or later k None ≡ used_by (part_in (with_part parts n next) k)
  counted_turned used later all here there k =
      dite (ℕ_discrete k n)
      (λ same.
      ap (λ j. slice_index_or later j None) same ∙ here ∙ ap used_by (sym (ap (part_in (with_part parts n next)) same ∙ part_in-with_here parts n next q has)))
      (λ other. there k other ∙ all k ∙ ap used_by (sym (part_in-with_else parts n k next other)))

-- the next slot is the number of transactions begun
pub next_is : (v : View CorePart) (n slot : ℕ) (p : CorePart) → part_in v n ≡ Some p → slot_after (used_by (part_in v n)) ≡ Some slot → slot ≡ length p.trx.begun
next_is v n slot p has is = from_test (nat_lt (length p.trx.begun) SLOTS) (length p.trx.begun) (sym (ap (λ o. slot_after (used_by o)) has) ∙ is)
  where
    from_test : (b : Bool) (count : ℕ) → (if b then Some count else None) ≡ Some slot → slot ≡ count
    from_test true count e = cc
    from_test false count e = absurd (cc)
