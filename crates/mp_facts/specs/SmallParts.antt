-- A small part of node 1: its first transaction is ACTIVE over the pages of a fresh map, puts a row and puts the former row
-- back.
use Rattle.std.specs.Prelude.{[], ◌∷◌, None, Some}
use Rattle.mp_cells.specs.declared.changes.Change.TheVariants.{MakeUndo, PutRow, PutUndo, TakePage}
use Rattle.mp_cells.specs.declared.records.Record.TheVariants as records
use Rattle.mp_cells.specs.declared.records.Mtr.{Mtr}
use Rattle.mp_cells.specs.declared.rows.Row.{Row}
use Rattle.mp_cells.specs.SmallMaps.{fresh_map}
use Rattle.mp_core_trx.specs.declared.slot.SlotTag.TheVariants.{Committed}
use Rattle.mp_core_trx.specs.Words.{shows, word_showing}
use Rattle.mp_core_trx.specs.Parts.{begun_of, first_trx_part}
use Rattle.mp_core_trx.specs.Events.{with_begun, with_prep, with_draw, with_slot_load}
use Rattle.mp_core_trx.specs.Examples.{two_primaries}
use Rattle.mp_core_pages.specs.declared.part.ContentStep.TheVariants.{Given}
use Rattle.mp_core_pages.specs.PageParts.{pages_newcomer}
use Rattle.mp_core_pages.specs.PageEvents.{with_mtr}
use Rattle.mp_histories.specs.SmallHistory.{small_trx, small_row, small_put, small_restore}
use Rattle.mp_core.specs.declared.part.CorePart.{CorePart}
use Rattle.mp_core.specs.Commits.{commit_records}
use Rattle.mp_core.specs.Downs.{first_down_part}

-- the part before it makes an mtr
abbrev pub active_part : CorePart
active_part = record {
  trx = with_begun (begun_of (small_trx 0) 0) (first_trx_part two_primaries);
  pages = record pages_newcomer { contents = Given 0 (fresh_map 0) ∷ Given 1 (fresh_map 1) ∷ Given 2 (fresh_map 2) ∷ [] };
  downs = first_down_part;
  ops = 0;
}

-- after the put, and after the restore behind it
abbrev pub put_part : CorePart
put_part = record active_part { pages = with_mtr 0 small_put active_part.pages }

abbrev pub restored_part : CorePart
restored_part = record put_part { pages = with_mtr 1 small_restore put_part.pages }

-- prepared, with 5 drawn
abbrev pub drawn_part : CorePart → CorePart
drawn_part p = record p { trx = with_draw (small_trx 0) 5 (with_prep (small_trx 0) p.trx) }

-- it saw the transaction in slot 1 committed at 3
abbrev pub seeing_part : CorePart → CorePart
seeing_part p = record p { trx = with_slot_load 1 1 (word_showing (shows Committed 1 3)) p.trx }

-- a row of the transaction in slot 1, and an mtr that puts the first transaction's row over it
abbrev pub slot_one_row : Row
slot_one_row = record { key = 7; value = None; writer = Some (small_trx 1); link = None }

abbrev pub put_over_slot_one : Mtr
put_over_slot_one = record { node = 1; llsn = 5; records = records.Page 0 0 (TakePage 2) ∷ records.Page 2 0 MakeUndo ∷ records.Page 2 5 (PutUndo slot_one_row) ∷ records.Page 1 0 (PutRow small_row) ∷ [] }

-- the commit record of the first transaction
abbrev pub first_commit_mtr : Mtr
first_commit_mtr = record { node = 1; llsn = 7; records = commit_records (small_trx 0) 5 }
