-- Which slot a node uses next, and what it keeps for that of the parts that it holds.
use Rattle.std.specs.Prelude.{◌≡◌, ℕ, ◌≤◌, nat_lt, length, Option, Some, None, if◌then◌else◌}
use Rattle.mp_machine.specs.View.{part_in}
use Rattle.mp_core_trx.specs.declared.opening.TheConstants.{SLOTS}
use Rattle.mp_core_trx.specs.declared.part.TrxPart.{TrxPart}
use Rattle.mp_core_trx.specs.Parts.{unused, shown_at}
use Rattle.mp_core_trx.specs.Events.{IsUsable}
use Rattle.mp_core.specs.declared.part.CorePart.{CorePart}
use Rattle.mp_shared.specs.Nodes.{NodeView}

-- how many slots a part has used, if it is held: one for each transaction that it began
abbrev pub used_by : Option CorePart → Option ℕ
used_by (Some p) = Some (length p.trx.begun)
used_by None = None

-- the slot after so many, if there is one
abbrev pub slot_after : Option ℕ → Option ℕ
slot_after (Some count) = if nat_lt count SLOTS then Some count else None
slot_after None = None

-- the slot that a primary's next transaction takes: slots are used in their order, each once
abbrev pub next_slot : NodeView → ℕ → Option ℕ
next_slot n p = slot_after (used_by (part_in n.parts p))

-- a transaction of the primary may take the slot
abbrev pub CanUse : NodeView → ℕ → ℕ → Type 0
CanUse n p slot = (q : CorePart) → part_in n.parts p ≡ Some q → IsUsable q.trx slot

-- The slots of the part are used in their order
pub record SlotsInOrder (p : TrxPart) : Type 0 where
  pub few : length p.begun ≤ SLOTS
  pub fresh : (slot : ℕ) → length p.begun ≤ slot → shown_at p.rows slot ≡ unused
