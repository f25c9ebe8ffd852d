-- What a node made, as it knows it by its own mtrs alone: which transaction each is of, whose a key is, and the row that
-- stood before a transaction first wrote a key.
use Rattle.std.specs.Prelude.{ℕ, ◌==◌, ◌&&◌, Bool, false, if◌then◌else◌, List, [], ◌∷◌, Option, None, Some, slice_get}
use Rattle.mp_model.specs.declared.ids.TrxId.{TrxId}
use Rattle.mp_cells.specs.declared.records.Record.{Record}
use Rattle.mp_cells.specs.declared.records.Record.TheVariants as records
use Rattle.mp_cells.specs.declared.records.Mtr.{Mtr}
use Rattle.mp_cells.specs.declared.rows.Row.{Row}
use Rattle.mp_cells.specs.Plans.{plan_of}
use Rattle.mp_cells.specs.Writes.{rows_put, rows_kept, rows_restored}
use Rattle.mp_core_trx.specs.declared.part.Draw.{Draw}
use Rattle.mp_core_trx.specs.Parts.{draw_of}
use Rattle.mp_core_pages.specs.declared.part.Placed.{Placed}

-- the row that an mtr puts, the former version that it keeps as an undo record, and the row that it puts back
abbrev pub row_put_by : Mtr → Option Row
row_put_by m = slice_get (rows_put (plan_of m.records)) 0

abbrev pub row_kept_by : Mtr → Option Row
row_kept_by m = slice_get (rows_kept (plan_of m.records)) 0

abbrev pub row_restored_by : Mtr → Option Row
row_restored_by m = slice_get (rows_restored (plan_of m.records)) 0

-- the commit that records tell, which then are one commit record
abbrev pub commit_told : List Record → Option Draw
commit_told (records.Commit id cts ∷ []) = Some (draw_of id cts)
commit_told items = None

abbrev pub commit_by_mtr : Mtr → Option Draw
commit_by_mtr m = commit_told m.records

-- the row is there and is the key's
abbrev pub is_row_of : ℕ → Option Row → Bool
is_row_of key None = false
is_row_of key (Some row) = row.key == key

-- two ids are the same
abbrev pub same_id : TrxId → TrxId → Bool
same_id a b = a.node == b.node && a.slot == b.slot && a.version == b.version

-- a transaction, if there is one, is this one
abbrev pub is_id : TrxId → Option TrxId → Bool
is_id id None = false
is_id id (Some other) = same_id other id

-- the writer of a row, where there is a row
abbrev pub writer_in : Option Row → Option TrxId
writer_in None = None
writer_in (Some row) = row.writer

-- whose a key is, by the newest of the node's own mtrs on it: the writer of the row put, and nobody's where a row was put
-- back
abbrev pub owner_of : List (Placed Mtr) → ℕ → Option TrxId
owner_of [] key = None
owner_of (x ∷ made) key =
    if is_row_of key (row_restored_by x.mtr) then None
    else (if is_row_of key (row_put_by x.mtr) then writer_in (row_put_by x.mtr) else owner_of made key)

-- the owner of the key of a row, where there is a row
abbrev pub owner_in : List (Placed Mtr) → Option Row → Option TrxId
owner_in made None = None
owner_in made (Some row) = owner_of made row.key

-- the transaction whose commit it is, where there is one
abbrev pub committer : Option Draw → Option TrxId
committer None = None
committer (Some d) = Some d.id

-- the one transaction of two, or else the other
abbrev pub or_else_id : Option TrxId → Option TrxId → Option TrxId
or_else_id None other = other
or_else_id (Some id) other = Some id

-- the transaction that an mtr is of, made by a node after these: the writer of the row that it puts; or that which the
-- key of the row was, that it puts back; or that whose commit it records
abbrev pub trx_of_mtr : List (Placed Mtr) → Mtr → Option TrxId
trx_of_mtr made m = or_else_id (writer_in (row_put_by m)) (or_else_id (owner_in made (row_restored_by m)) (committer (commit_by_mtr m)))

-- An mtr that a node made, with the count of all mtrs made before it and the transaction that it is of
pub record TrxMtr : Type 0 where
  pub at : ℕ
  pub of : Option TrxId
  pub mtr : Mtr

-- the mtrs of a node, each with its transaction, the newest first
abbrev pub trx_mtrs : List (Placed Mtr) → List TrxMtr
trx_mtrs [] = []
trx_mtrs (x ∷ made) = record { at = x.at; of = trx_of_mtr made x.mtr; mtr = x.mtr } ∷ trx_mtrs made

-- the row, or else the other
abbrev pub or_else_row : Option Row → Option Row → Option Row
or_else_row None other = other
or_else_row (Some row) other = Some row

-- the row that stood before a transaction's first put of a key that wasn't put back since: what that put kept
abbrev pub first_former : List (Placed Mtr) → TrxId → ℕ → Option Row
first_former [] id key = None
first_former (x ∷ made) id key =
    if is_row_of key (row_restored_by x.mtr) && is_id id (trx_of_mtr made x.mtr) then None
    else (if is_row_of key (row_put_by x.mtr) && is_id id (trx_of_mtr made x.mtr)
    then or_else_row (first_former made id key) (row_kept_by x.mtr)
    else first_former made id key)
