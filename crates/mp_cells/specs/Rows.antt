-- Rows: which ones a page may keep.
use Rattle.std.specs.Prelude.{◌<◌, ◌^◌, ◌&&◌, Bool, true, false, nat_le, nat_lt, Option, Some, None, IsTrue, IfSome}
use Rattle.mp_model.specs.declared.ids.TrxId.{TrxId}
use Rattle.mp_model.specs.Values.{is_value}
use Rattle.mp_cells.specs.declared.rows.Link.{Link}
use Rattle.mp_cells.specs.declared.rows.Row.{Row}

-- what lies behind the last row of a page
abbrev pub no_row : Row
no_row = record { key = 0; value = None; writer = None; link = None }

-- an id that a transaction leaves in its rows
abbrev pub is_writer : TrxId → Bool
is_writer id = nat_le 1 id.node && nat_le id.node 8 && nat_lt id.slot 8192 && nat_le 1 id.version && nat_lt id.version (2 ^ 24)

-- the place of an undo record
abbrev pub is_link : Link → Bool
is_link link = nat_le 2 link.page && nat_lt link.page 4096 && nat_lt link.index 15

-- a row has a writer and the link to the version before, or neither
abbrev pub is_origin : Option TrxId → Option Link → Bool
is_origin None None = true
is_origin (Some id) (Some link) = is_writer id && is_link link
is_origin (Some id) None = false
is_origin None (Some link) = false

-- a row that a page may keep
pub record IsRow (row : Row) : Type 0 where
  pub key : row.key < 2 ^ 32
  pub value : IfSome row.value (λ value. IsTrue (is_value value))
  pub origin : IsTrue (is_origin row.writer row.link)
