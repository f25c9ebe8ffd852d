-- What a node's part shows.
use Rattle.std.specs.Prelude.{◌≡◌, ℕ, ◌+◌, ◌==◌, max, if◌then◌else◌, ◌⊎◌, Option, None, Some, List, [], ◌∷◌, length}
use Rattle.mp_model.specs.declared.ids.TrxId.{TrxId}
use Rattle.mp_core_trx.specs.declared.opening.TrxOpening.{TrxOpening}
use Rattle.mp_core_trx.specs.declared.slot.SlotTag.{SlotTag}
use Rattle.mp_core_trx.specs.declared.slot.SlotTag.TheVariants.{Free, Active, Prep}
use Rattle.mp_core_trx.specs.declared.slot.Shown.{Shown}
use Rattle.mp_core_trx.specs.declared.part.Begun.{Begun}
use Rattle.mp_core_trx.specs.declared.part.SlotRow.{SlotRow}
use Rattle.mp_core_trx.specs.declared.part.Draw.{Draw}
use Rattle.mp_core_trx.specs.declared.part.TrxPart.{TrxPart}
use Rattle.mp_machine.specs.Lists.{IsIn, Grows, total}
use Rattle.mp_core_trx.specs.Words.{shows}

-- ids, begins and draws from their fields
abbrev pub trx : ℕ → ℕ → ℕ → TrxId
trx node slot version = record { node = node; slot = slot; version = version }

abbrev pub begun_of : TrxId → ℕ → Begun
begun_of id view = record { id = id; view = view }

abbrev pub draw_of : TrxId → ℕ → Draw
draw_of id cts = record { id = id; cts = cts }

-- a slot that was never used
abbrev pub unused : Shown
unused = shows Free 0 0

-- what a slot shows: what was stored in it last
abbrev pub shown_at : List SlotRow → ℕ → Shown
shown_at [] slot = unused
shown_at (row ∷ rows) slot = if slot == row.slot then row.shown else shown_at rows slot

-- the transaction's slot shows this tag with its version, and no timestamp
abbrev pub Shows : List SlotRow → TrxId → SlotTag → Type 0
Shows rows id tag = shown_at rows id.slot ≡ shows tag id.version 0

-- the transaction was begun
abbrev pub HasBegun : List Begun → TrxId → Type 0
HasBegun begun id = (view : ℕ) × IsIn (begun_of id view) begun

-- it has drawn no timestamp
abbrev pub HasDrawnNothing : List Draw → TrxId → Type 0
HasDrawnNothing drew id = (cts : ℕ) → IsIn (draw_of id cts) drew → ⊥

-- the transaction is open: it was begun, and its slot shows ACTIVE or PREP with its version
abbrev pub IsOpen : TrxPart → TrxId → Type 0
IsOpen p id = HasBegun p.begun id × (Shows p.rows id Active ⊎ Shows p.rows id Prep)

-- the greatest timestamp that was seen, or the base where none was
abbrev pub greatest_seen : ℕ → List ℕ → ℕ
greatest_seen base [] = base
greatest_seen base (v ∷ vs) = max v (greatest_seen base vs)

-- the greatest timestamp that the node knows
abbrev pub newest : TrxPart → ℕ
newest p = greatest_seen p.opening.base.ts p.seen

-- a node's part before any step
abbrev pub first_trx_part : TrxOpening → TrxPart
first_trx_part opening = record { opening = opening; begun = []; rows = []; drew = []; seen = []; loaded = [] }

-- The part may have come from the other by steps: nothing that it knew is lost
pub record PartExtends (old new : TrxPart) : Type 0 where
  pub same_opening : new.opening ≡ old.opening
  pub more_begun : Grows old.begun new.begun
  pub more_rows : Grows old.rows new.rows
  pub more_drawn : Grows old.drew new.drew
  pub more_seen : Grows old.seen new.seen
  pub more_loaded : Grows old.loaded new.loaded

-- how many timestamps a part drew, if it is held
abbrev pub drawn_by : Option TrxPart → ℕ
drawn_by (Some p) = length p.drew
drawn_by None = 0

-- how many the parts drew that are held of all nodes
abbrev pub drawn_by_all : TrxOpening → (ℕ → Option TrxPart) → ℕ
drawn_by_all opening held = total (λ n. drawn_by (held n)) (opening.primaries + 1)
