-- A row's cell: 64 bytes. Which ones a row has, and which row some bytes are.
use Rattle.std.specs.Prelude.{ℕ, ◌+◌, ◌*◌, ◌/◌, ◌%◌, ◌==◌, ◌&&◌, ◌||◌, nat_le, if◌then◌else◌, Bool, List, [], ◌∷◌, ◌++◌, length, take, drop, replicate, slice_index, Option, Some, None}
use Rattle.std.specs.Str.{bytes_eq}
use Rattle.byteorder.specs.Endian.{little_bytes}
use Rattle.mp_model.specs.declared.ids.TrxId.{TrxId}
use Rattle.mp_model.specs.Padded.{padded}
use Rattle.mp_model.specs.Values.{is_value}
use Rattle.mp_cells.specs.declared.rows.Link.{Link}
use Rattle.mp_cells.specs.declared.rows.Row.{Row}
use Rattle.mp_cells.specs.Numbers.{number_at}
use Rattle.mp_cells.specs.Rows.{is_origin}

-- bytes 4..8: the state, 0 for gone and 1 for present, the length of the value, and two zeros
abbrev pub state_bytes : Option (List ℕ) → List ℕ
state_bytes None = 0 ∷ 0 ∷ 0 ∷ 0 ∷ []
state_bytes (Some value) = 1 ∷ length value ∷ 0 ∷ 0 ∷ []

-- bytes 8..16: the writer's node, a zero, its slot and its version; zeros where there is no writer
abbrev pub writer_bytes : Option TrxId → List ℕ
writer_bytes None = replicate 8 0
writer_bytes (Some id) = id.node ∷ 0 ∷ (little_bytes 2 id.slot ++ little_bytes 4 id.version)

-- bytes 16..20: 16 times the page plus the index; zeros where there is no link
abbrev pub link_bytes : Option Link → List ℕ
link_bytes None = replicate 4 0
link_bytes (Some link) = little_bytes 4 (16 * link.page + link.index)

-- bytes 24..56: the value, then zeros
abbrev pub value_bytes : Option (List ℕ) → List ℕ
value_bytes None = replicate 32 0
value_bytes (Some value) = padded 32 0 value

-- bytes 56..64: zeros
abbrev pub tail_bytes : List ℕ
tail_bytes = replicate 8 0

-- bytes 0..24
unfoldable pub row_head : Row → List ℕ
row_head row = little_bytes 4 row.key ++ (state_bytes row.value ++ (writer_bytes row.writer ++ (link_bytes row.link ++ replicate 4 0)))

-- the cell of a row
unfoldable pub row_cell : Row → List ℕ
row_cell row = row_head row ++ (value_bytes row.value ++ tail_bytes)

-- the row that a cell is read as, whatever its bytes are
abbrev pub value_of : List ℕ → Option (List ℕ)
value_of cell = let value = take (slice_index cell 5) (take 32 (drop 24 cell)) in if is_value value then Some value else None

abbrev pub writer_of : List ℕ → Option TrxId
writer_of cell = if slice_index cell 8 == 0 then None else Some (record { node = slice_index cell 8; slot = number_at 10 2 cell; version = number_at 12 4 cell })

abbrev pub link_of : List ℕ → Option Link
link_of cell = let word = number_at 16 4 cell in if word == 0 || nat_le 65536 word then None else Some (record { page = word / 16; index = word % 16 })

unfoldable pub row_of : List ℕ → Row
row_of cell = record { key = number_at 0 4 cell; value = value_of cell; writer = writer_of cell; link = link_of cell }

-- the first 64 bytes are the cell of a row that a page may keep: of the row that they are read as
unfoldable pub is_row_cell : List ℕ → Bool
is_row_cell bytes = is_origin (writer_of bytes) (link_of bytes) && bytes_eq (take 64 bytes) (row_cell (row_of bytes))
