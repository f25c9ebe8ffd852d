-- What holds of all nodes together, in groups by what each reads.
use Rattle.std.specs.Prelude.{◌≡◌, ℕ, ◌+◌, ◌<◌, ◌≤◌, ◌⊎◌, List, length}
use Rattle.mp_model.specs.declared.ids.TrxId.{TrxId}
use Rattle.mp_core_trx.specs.declared.opening.TheConstants.{SLOTS}
use Rattle.mp_core_trx.specs.declared.opening.TrxOpening.{TrxOpening}
use Rattle.mp_core_trx.specs.declared.slot.SlotTag.TheVariants.{Free, Active, Committed}
use Rattle.mp_core_trx.specs.declared.slot.Shown.{Shown}
use Rattle.mp_core_trx.specs.declared.part.Begun.{Begun}
use Rattle.mp_core_trx.specs.declared.part.SlotRow.{SlotRow}
use Rattle.mp_core_trx.specs.declared.part.Draw.{Draw}
use Rattle.mp_core_trx.specs.declared.part.SlotLoad.{SlotLoad}
use Rattle.mp_machine.specs.Lists.{IsIn, AllDiffer, total}
use Rattle.mp_core_trx.specs.Words.{shows, shown_of}
use Rattle.mp_core_trx.specs.Parts.{trx, draw_of, unused, shown_at, HasBegun, HasDrawnNothing, greatest_seen}
use Rattle.mp_core_trx.specs.Events.{IsNode}
use Rattle.mp_core_trx.specs.World.{TrxWorld, openings_in, begun_in, slot_rows_in, drawn_in, tso_seen_in, loaded_in}

-- An id is of the node that began its transaction, in range, and no other of that node has its version
pub record Ids (opening : TrxOpening) (begun : ℕ → List Begun) : Type 0 where
  pub nodes : (n : ℕ) (b : Begun) → IsIn b (begun n) → IsNode opening n
  pub own : (n : ℕ) (b : Begun) → IsIn b (begun n) → b.id.node ≡ n
  pub slots : (n : ℕ) (b : Begun) → IsIn b (begun n) → b.id.slot < SLOTS
  pub versions : (n : ℕ) (b : Begun) → IsIn b (begun n) → (opening.base.version < b.id.version) × (b.id.version ≤ opening.base.version + opening.begins)
  pub differ : (n : ℕ) → AllDiffer (λ b. b.id.version) (begun n)

-- The timestamps drawn are those above the base up to the TSO's, each by one transaction, and it counts them
pub record Draws (opening : TrxOpening) (tso : ℕ) (drew : ℕ → List Draw) : Type 0 where
  pub within : (n : ℕ) (d : Draw) → IsIn d (drew n) → (opening.base.ts < d.cts) × (d.cts ≤ tso)
  pub none_missing : (cts : ℕ) → opening.base.ts < cts → cts ≤ tso → (n : ℕ) × (id : TrxId) × IsIn (draw_of id cts) (drew n)
  pub by_one : (n m : ℕ) (d e : Draw) → IsIn d (drew n) → IsIn e (drew m) → d.cts ≡ e.cts → (n ≡ m) × (d ≡ e)
  pub counted : tso ≡ opening.base.ts + total (λ n. length (drew n)) (opening.primaries + 1)

-- Who drew had begun, and draws once
pub record Drawers (begun : ℕ → List Begun) (drew : ℕ → List Draw) : Type 0 where
  pub had_begun : (n : ℕ) (d : Draw) → IsIn d (drew n) → HasBegun (begun n) d.id
  pub once : (n : ℕ) → AllDiffer (λ d. d.id.version) (drew n)

-- What a node saw of the TSO lies from the base to it, and no view is above what its node saw
pub record Sight (base tso : ℕ) (begun : ℕ → List Begun) (seen : ℕ → List ℕ) (loaded : ℕ → List SlotLoad) : Type 0 where
  pub from_base : base ≤ tso
  pub values : (n v : ℕ) → IsIn v (seen n) → (base ≤ v) × (v ≤ tso)
  pub views : (n : ℕ) (b : Begun) → IsIn b (begun n) → (base ≤ b.view) × (b.view ≤ greatest_seen base (seen n))
  pub loads : (n : ℕ) (l : SlotLoad) → IsIn l (loaded n) → (base ≤ l.after) × (l.after ≤ greatest_seen base (seen n))

-- What a node's slot may show, by what the node has begun and drawn
pub record SlotIsRight (n slot : ℕ) (begun : List Begun) (drew : List Draw) (x : Shown) : Type 0 where
  -- it was never used, or a transaction with its version was begun in it
  pub known : (x ≡ unused) ⊎ HasBegun begun (trx n slot x.version)
  -- a transaction that is ACTIVE has drawn nothing, and neither has one that is FREE
  pub active : (id : TrxId) → HasBegun begun id → id.slot ≡ slot → x ≡ shows Active id.version 0 → HasDrawnNothing drew id
  pub free : (id : TrxId) → HasBegun begun id → id.slot ≡ slot → x ≡ shows Free id.version 0 → HasDrawnNothing drew id
  -- one that is COMMITTED drew that timestamp
  pub committed : (version cts : ℕ) → x ≡ shows Committed version cts → IsIn (draw_of (trx n slot version) cts) drew
  -- and no other shows one
  pub stamped : (x.cts ≡ 0) ⊎ (x.tag ≡ Committed)

-- each slot shows what it may
abbrev pub Slots : (ℕ → List Begun) → (ℕ → List Draw) → (ℕ → List SlotRow) → Type 0
Slots begun drew rows = (n slot : ℕ) → SlotIsRight n slot (begun n) (drew n) (shown_at (rows n) slot)

-- the slot of each transaction shows its version, since no slot is used twice
abbrev pub SlotsUsedOnce : (ℕ → List Begun) → (ℕ → List SlotRow) → Type 0
SlotsUsedOnce begun rows = (n : ℕ) (id : TrxId) → HasBegun (begun n) id → (shown_at (rows n) id.slot).version ≡ id.version

-- What a node may rely on that loaded a slot's word, by what the slot's node has begun and drawn
pub record IsReliable (begun : List Begun) (drew : List Draw) (l : SlotLoad) : Type 0 where
  -- a transaction that was ACTIVE draws above all that the loading node knew
  pub active : (version cts : ℕ) → shown_of l.word ≡ shows Active version 0 → IsIn (draw_of (trx l.of l.slot version) cts) drew → l.after < cts
  -- one that was COMMITTED drew that timestamp
  pub committed : (version cts : ℕ) → shown_of l.word ≡ shows Committed version cts → IsIn (draw_of (trx l.of l.slot version) cts) drew
  -- the word showed a slot that was never used, or a transaction that was begun
  pub known : (shown_of l.word ≡ unused) ⊎ HasBegun begun (trx l.of l.slot (shown_of l.word).version)

-- each word that was loaded may be relied on
abbrev pub Loads : (ℕ → List Begun) → (ℕ → List Draw) → (ℕ → List SlotLoad) → Type 0
Loads begun drew loaded = (n : ℕ) (l : SlotLoad) → IsIn l (loaded n) → IsReliable (begun l.of) (drew l.of) l

-- All of it, over the TSO and the components of the parts, each by node
pub record Holds (opening : TrxOpening) (tso : ℕ) (openings : ℕ → TrxOpening) (begun : ℕ → List Begun) (rows : ℕ → List SlotRow) (drew : ℕ → List Draw) (seen : ℕ → List ℕ) (loaded : ℕ → List SlotLoad) : Type 0 where
  pub carried : (n : ℕ) → openings n ≡ opening
  pub ids : Ids opening begun
  pub draws : Draws opening tso drew
  pub drawers : Drawers begun drew
  pub sight : Sight opening.base.ts tso begun seen loaded
  pub slots : Slots begun drew rows
  pub once : SlotsUsedOnce begun rows
  pub reliable : Loads begun drew loaded

-- the invariant: what holds wherever allowed events lead
abbrev pub TrxInv : TrxOpening → TrxWorld → Type 0
TrxInv opening w = Holds opening w.tso (openings_in w) (begun_in w) (slot_rows_in w) (drawn_in w) (tso_seen_in w) (loaded_in w)
