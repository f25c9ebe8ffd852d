-- Small cases: a history of one put, which takes an undo page, and its restore, over a fresh map; and versions of two
-- transactions.
use Rattle.std.specs.Prelude.{ℕ, [], ◌∷◌, Some, None}
use Rattle.mp_model.specs.declared.ids.TrxId.{TrxId}
use Rattle.mp_cells.specs.declared.changes.Change.TheVariants.{MakeUndo, PutRow, RestoreRow, PutUndo, TakePage}
use Rattle.mp_cells.specs.declared.records.Record.TheVariants as records
use Rattle.mp_cells.specs.declared.records.Mtr.{Mtr}
use Rattle.mp_cells.specs.declared.rows.Row.{Row}
use Rattle.mp_cells.specs.SmallMaps.{gone_row}
use Rattle.mp_histories.specs.Commits.{Stamp}
use Rattle.mp_histories.specs.Histories.{Version}

-- the transaction in a slot of node 1
abbrev pub small_trx : ℕ → TrxId
small_trx slot = record { node = 1; slot = slot; version = 1 }

-- it deletes key 7; its row links record 0 of undo page 2
abbrev pub small_row : Row
small_row = record { key = 7; value = None; writer = Some (small_trx 0); link = Some (record { page = 2; index = 0 }) }

-- page 2 is taken and made an undo page, the gone row becomes its record, and the row is put into the root
abbrev pub small_put : Mtr
small_put = record { node = 1; llsn = 5; records = records.Page 0 0 (TakePage 2) ∷ records.Page 2 0 MakeUndo ∷ records.Page 2 5 (PutUndo (gone_row 7)) ∷ records.Page 1 0 (PutRow small_row) ∷ [] }

-- another transaction puts its row over it
abbrev pub other_put : Mtr
other_put = record { node = 2; llsn = 6; records = records.Page 1 5 (PutRow (record { key = 7; value = None; writer = Some (small_trx 1); link = Some (record { page = 2; index = 1 }) })) ∷ [] }

-- the gone row is put back; or the row itself, which no rollback puts back
abbrev pub small_restore : Mtr
small_restore = record { node = 1; llsn = 6; records = records.Page 1 5 (RestoreRow (gone_row 7)) ∷ [] }

abbrev pub wrong_restore : Mtr
wrong_restore = record { node = 1; llsn = 6; records = records.Page 1 5 (RestoreRow small_row) ∷ [] }

-- a version at a place by the transaction in a slot, and that transaction's timestamp
abbrev pub small_version : ℕ → ℕ → Version
small_version at slot = record { at = at; row = record { key = 7; value = None; writer = Some (small_trx slot); link = None } }

abbrev pub small_stamp : ℕ → ℕ → Stamp
small_stamp slot cts = record { id = small_trx slot; cts = cts }
