-- The steps: who makes one, on which word, what becomes of the word and of the node's part, and when it may come.
use Rattle.std.specs.Prelude.{◌≡◌, ℕ, ◌+◌, ◌-◌, ◌*◌, ◌<◌, ◌≤◌, Option, None, Some, ◌∷◌}
use Rattle.mp_model.specs.declared.ids.TrxId.{TrxId}
use Rattle.mp_core_trx.specs.declared.opening.TheConstants.{SLOTS}
use Rattle.mp_core_trx.specs.declared.opening.TrxOpening.{TrxOpening}
use Rattle.mp_core_trx.specs.declared.slot.SlotTag.TheVariants.{Free, Active, Prep, Committed}
use Rattle.mp_core_trx.specs.declared.slot.Shown.{Shown}
use Rattle.mp_core_trx.specs.declared.part.Begun.{Begun}
use Rattle.mp_core_trx.specs.declared.part.SlotRow.{SlotRow}
use Rattle.mp_core_trx.specs.declared.part.SlotLoad.{SlotLoad}
use Rattle.mp_core_trx.specs.declared.part.TrxPart.{TrxPart}
use Rattle.mp_core_trx.specs.declared.event.TrxEvent.{TrxEvent}
use Rattle.mp_core_trx.specs.declared.event.TrxEvent.TheVariants.{LoadTso, StoreActive, StorePrep, DrawTso, StoreEnd, LoadTit}
use Rattle.mp_machine.specs.Lists.{IsIn}
use Rattle.mp_core_trx.specs.Words.{shows, word_showing}
use Rattle.mp_core_trx.specs.Parts.{begun_of, draw_of, unused, shown_at, Shows, HasBegun, HasDrawnNothing, IsOpen, newest}

-- the words: the timestamp oracle, and each node's slots
pub data TrxPlace : Type 0 where
  at_tso : TrxPlace
  at_slot : ℕ → ℕ → TrxPlace

-- nodes are numbered from 1
abbrev pub IsNode : TrxOpening → ℕ → Type 0
IsNode opening n = (1 ≤ n) × (n ≤ opening.primaries)

-- the words of 8 nodes are there, whether there are so many nodes or not
abbrev pub IsTrxPlace : TrxPlace → Type 0
IsTrxPlace at_tso = Unit {0}
IsTrxPlace (at_slot n slot) = (1 ≤ n) × (n ≤ 8) × (slot < SLOTS)

-- where a word lies
abbrev pub trx_index : TrxPlace → ℕ
trx_index at_tso = 0
trx_index (at_slot n slot) = 1 + ((n - 1) * SLOTS + slot)

-- how many words these are
abbrev pub trx_region : ℕ
trx_region = 1 + 8 * SLOTS

abbrev pub trx_node_of : TrxEvent → ℕ
trx_node_of (LoadTso n) = n
trx_node_of (StoreActive n id) = n
trx_node_of (StorePrep n id) = n
trx_node_of (DrawTso n id) = n
trx_node_of (StoreEnd n id cts) = n
trx_node_of (LoadTit n whose slot) = n

abbrev pub trx_place_of : TrxEvent → TrxPlace
trx_place_of (LoadTso n) = at_tso
trx_place_of (StoreActive n id) = at_slot n id.slot
trx_place_of (StorePrep n id) = at_slot n id.slot
trx_place_of (DrawTso n id) = at_tso
trx_place_of (StoreEnd n id cts) = at_slot n id.slot
trx_place_of (LoadTit n whose slot) = at_slot whose slot

-- what a transaction's slot shows once it has ended
abbrev pub ended : TrxId → Option ℕ → Shown
ended id (Some cts) = shows Committed id.version cts
ended id None = shows Free id.version 0

abbrev pub trx_word_after : TrxEvent → ℕ → ℕ
trx_word_after (LoadTso n) found = found
trx_word_after (StoreActive n id) found = word_showing (shows Active id.version 0)
trx_word_after (StorePrep n id) found = word_showing (shows Prep id.version 0)
trx_word_after (DrawTso n id) found = found + 1
trx_word_after (StoreEnd n id cts) found = word_showing (ended id cts)
trx_word_after (LoadTit n whose slot) found = found

abbrev pub slot_row : TrxId → Shown → SlotRow
slot_row id shown = record { slot = id.slot; shown = shown }

abbrev pub load_of : ℕ → ℕ → ℕ → ℕ → SlotLoad
load_of whose slot word after = record { of = whose; slot = slot; word = word; after = after }

-- the part saw the timestamp oracle at a value
abbrev pub with_seen : ℕ → TrxPart → TrxPart
with_seen v p = record p { seen = v ∷ p.seen }

-- it began a transaction, whose slot shows ACTIVE
abbrev pub with_begun : Begun → TrxPart → TrxPart
with_begun b p = record p { begun = b ∷ p.begun; rows = slot_row b.id (shows Active b.id.version 0) ∷ p.rows }

-- it stored PREP for a transaction
abbrev pub with_prep : TrxId → TrxPart → TrxPart
with_prep id p = record p { rows = slot_row id (shows Prep id.version 0) ∷ p.rows }

-- it drew a timestamp for a transaction, and so saw it
abbrev pub with_draw : TrxId → ℕ → TrxPart → TrxPart
with_draw id cts p = record p { drew = draw_of id cts ∷ p.drew; seen = cts ∷ p.seen }

-- it ended a transaction, with its timestamp or with none
abbrev pub with_end : TrxId → Option ℕ → TrxPart → TrxPart
with_end id cts p = record p { rows = slot_row id (ended id cts) ∷ p.rows }

-- it loaded the word of a slot
abbrev pub with_slot_load : ℕ → ℕ → ℕ → TrxPart → TrxPart
with_slot_load whose slot word p = record p { loaded = load_of whose slot word (newest p) ∷ p.loaded }

-- the part of its node, by the word found: a view is the greatest timestamp that the node knows
abbrev pub trx_made : TrxEvent → ℕ → TrxPart → TrxPart
trx_made (LoadTso n) found p = with_seen found p
trx_made (StoreActive n id) found p = with_begun (begun_of id (newest p)) p
trx_made (StorePrep n id) found p = with_prep id p
trx_made (DrawTso n id) found p = with_draw id (found + 1) p
trx_made (StoreEnd n id cts) found p = with_end id cts p
trx_made (LoadTit n whose slot) found p = with_slot_load whose slot found p

-- a transaction may take the slot: none had it before
abbrev pub IsUsable : TrxPart → ℕ → Type 0
IsUsable p slot = shown_at p.rows slot ≡ unused

-- The node may begin the transaction
pub record MayStoreActive (p : TrxPart) (n : ℕ) (id : TrxId) : Type 0 where
  pub own : id.node ≡ n
  pub above : p.opening.base.version < id.version
  pub within : id.version ≤ p.opening.base.version + p.opening.begins
  pub fresh : (b : Begun) → IsIn b p.begun → ¬ (b.id.version ≡ id.version)
  pub in_range : id.slot < SLOTS
  pub usable : IsUsable p id.slot

-- the transaction may end so: with the timestamp that it drew, or with none where it drew none
abbrev pub MayEnd : TrxPart → TrxId → Option ℕ → Type 0
MayEnd p id (Some cts) = IsIn (draw_of id cts) p.drew
MayEnd p id None = HasDrawnNothing p.drew id

-- what an event asks of the part of its node, besides that there is this node
abbrev pub TrxAsks : TrxPart → TrxEvent → Type 0
TrxAsks p (LoadTso n) = Unit {0}
TrxAsks p (StoreActive n id) = MayStoreActive p n id
TrxAsks p (StorePrep n id) = HasBegun p.begun id × Shows p.rows id Active
TrxAsks p (DrawTso n id) = HasBegun p.begun id × Shows p.rows id Prep × HasDrawnNothing p.drew id
TrxAsks p (StoreEnd n id cts) = IsOpen p id × MayEnd p id cts
TrxAsks p (LoadTit n whose slot) = IsNode p.opening whose × (slot < SLOTS)

-- the condition of an event
abbrev pub TrxAllowed : TrxPart → TrxEvent → Type 0
TrxAllowed p e = IsNode p.opening (trx_node_of e) × TrxAsks p e
