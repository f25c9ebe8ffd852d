-- All nodes together, and the abstract machine that they are.
use Rattle.std.specs.Prelude.{ℕ, ◌+◌, ◌*◌, ◌^◌, ◌<◌, ◌≤◌, List, []}
use Rattle.atomic_table.specs.Table.{keeps}
use Rattle.mp_machine.specs.Machine.{Machine}
use Rattle.mp_core_trx.specs.declared.opening.TrxOpening.{TrxOpening}
use Rattle.mp_core_trx.specs.declared.part.Begun.{Begun}
use Rattle.mp_core_trx.specs.declared.part.SlotRow.{SlotRow}
use Rattle.mp_core_trx.specs.declared.part.Draw.{Draw}
use Rattle.mp_core_trx.specs.declared.part.SlotLoad.{SlotLoad}
use Rattle.mp_core_trx.specs.declared.part.TrxPart.{TrxPart}
use Rattle.mp_core_trx.specs.declared.event.TrxEvent.{TrxEvent}
use Rattle.mp_core_trx.specs.declared.event.TrxEvent.TheVariants.{LoadTso, StoreActive, StorePrep, DrawTso, StoreEnd, LoadTit}
use Rattle.mp_machine.specs.Lists.{updated}
use Rattle.mp_core_trx.specs.Words.{word_showing}
use Rattle.mp_core_trx.specs.Parts.{shown_at, first_trx_part}
use Rattle.mp_core_trx.specs.Events.{TrxPlace, at_tso, at_slot, IsTrxPlace, trx_index, trx_node_of, trx_place_of, trx_word_after, trx_made, TrxAllowed}

-- A slot's word is no field: it is what its node's part shows
pub record TrxWorld : Type 0 where
  pub tso : ℕ
  pub part : ℕ → TrxPart

abbrev pub trx_content : TrxWorld → TrxPlace → ℕ
trx_content w at_tso = w.tso
trx_content w (at_slot n slot) = word_showing (shown_at (w.part n).rows slot)

-- the timestamp oracle after an event
abbrev pub tso_after : TrxEvent → ℕ → ℕ
tso_after (LoadTso n) tso = tso
tso_after (StoreActive n id) tso = tso
tso_after (StorePrep n id) tso = tso
tso_after (DrawTso n id) tso = tso + 1
tso_after (StoreEnd n id cts) tso = tso
tso_after (LoadTit n whose slot) tso = tso

-- the part of the event's node after it
abbrev pub trx_part_after : TrxWorld → TrxEvent → TrxPart
trx_part_after w e = trx_made e (trx_content w (trx_place_of e)) (w.part (trx_node_of e))

abbrev pub trx_after : TrxWorld → TrxEvent → TrxWorld
trx_after w e = record { tso = tso_after e w.tso; part = updated w.part (trx_node_of e) (trx_part_after w e) }

abbrev pub trx_start : TrxOpening → TrxWorld
trx_start opening = record { tso = opening.base.ts; part = λ _. first_trx_part opening }

-- the components, each by node
abbrev pub openings_in : TrxWorld → ℕ → TrxOpening
openings_in w n = (w.part n).opening

abbrev pub begun_in : TrxWorld → ℕ → List Begun
begun_in w n = (w.part n).begun

abbrev pub slot_rows_in : TrxWorld → ℕ → List SlotRow
slot_rows_in w n = (w.part n).rows

abbrev pub drawn_in : TrxWorld → ℕ → List Draw
drawn_in w n = (w.part n).drew

abbrev pub tso_seen_in : TrxWorld → ℕ → List ℕ
tso_seen_in w n = (w.part n).seen

abbrev pub loaded_in : TrxWorld → ℕ → List SlotLoad
loaded_in w n = (w.part n).loaded

-- The numbers of the run stay within their formats
pub record TrxNumbersFit (opening : TrxOpening) : Type 0 where
  pub some_primaries : (1 ≤ opening.primaries) × (opening.primaries ≤ 8)
  pub versions_fit : opening.base.version + opening.begins < 2 ^ 24
  pub timestamps_fit : opening.base.ts + 8 * opening.begins < 2 ^ 38

-- the machine: no slots of a table, no notes; part 0 is nobody's, since nodes are numbered from 1
abbrev pub transactions : TrxOpening → Machine (Unit {0}) TrxPart TrxEvent TrxPlace (Unit {0}) TrxWorld
transactions opening = record {
  nodes = opening.primaries + 1;
  start = trx_start opening;
  after = trx_after;
  part = λ w. w.part;
  content = trx_content;
  homes = λ _. [];
  IsPlace = IsTrxPlace;
  index = trx_index;
  node_of = trx_node_of;
  place_of = trx_place_of;
  word_after = trx_word_after;
  act = λ _ _. keeps;
  note = λ _ _. tt;
  made = λ e found _ p. trx_made e found p;
  Allowed = λ p _ e. TrxAllowed p e;
}
