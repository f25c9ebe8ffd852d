-- Rows whose keys rise as those of pages do.
use Rattle.std.proofs.Common.{◌≡◌, ℕ, ◌+◌, ◌<◌, ◌≤◌, List, [], ◌∷◌, None}
use Rattle.mp_model.specs.declared.key_value.KeyValue.{KeyValue}
use Rattle.mp_model.specs.Folded.{value_at}
use Rattle.mp_script.proofs.RisingRows.{RowsAscend, RowsBelow, none_ascend, none_from}
use Rattle.mp_cells.proofs.KeyOrder.{Rises}

abbrev pub RowsRise : ℕ → ℕ → List KeyValue → Type 0
RowsRise low high rows = Rises (λ row. row.key) low high rows

pub rise_ascend : (low high : ℕ) (rows : List KeyValue) → RowsRise low high rows → RowsAscend low rows
rise_ascend low high [] r = tt
rise_ascend low high (row ∷ rows) r = (r.0, rise_ascend (row.key + 1) high rows r.2)

pub rise_below : (low high : ℕ) (rows : List KeyValue) → RowsRise low high rows → RowsBelow high rows
rise_below low high [] r = tt
rise_below low high (row ∷ rows) r = (r.1, rise_below (row.key + 1) high rows r.2)

pub none_below : (key low high : ℕ) (rows : List KeyValue) → RowsRise low high rows → key < low → value_at key rows ≡ None
none_below key low high rows r lt = none_ascend key low rows (rise_ascend low high rows r) lt

pub none_above : (key low high : ℕ) (rows : List KeyValue) → RowsRise low high rows → high ≤ key → value_at key rows ≡ None
none_above key low high rows r le = none_from key high rows (rise_below low high rows r) le
