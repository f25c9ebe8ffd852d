-- The commits that some mtrs keep, and rows with commits folded in.
use Rattle.std.specs.Prelude.{◌≢◌, ℕ, ◌==◌, List, [], ◌∷◌, map, filter, Option, Some, None, if◌then◌else◌}
use Rattle.std.specs.List.{flat_map, AllByRecursion}
use Rattle.mp_model.specs.declared.ids.TrxId.{TrxId}
use Rattle.mp_model.specs.declared.key_value.KeyValue.{KeyValue}
use Rattle.mp_model.specs.declared.key_value.KeyWrite.{KeyWrite}
use Rattle.mp_model.specs.Folded.{row_of, over}
use Rattle.mp_cells.specs.declared.records.Mtr.{Mtr}
use Rattle.mp_cells.specs.declared.rows.Row.{Row}
use Rattle.mp_cells.specs.Plans.{plan_of}
use Rattle.mp_cells.specs.Writes.{rows_put}
use Rattle.mp_cells.specs.Orders.{sorted_by}
use Rattle.mp_histories.specs.KeyOps.{same_writer}
use Rattle.mp_histories.specs.Commits.{Stamp}
use Rattle.mp_histories.specs.Histories.{commit_records}

-- a commit that is kept: its transaction, its timestamp, and the rows that it put, in their order
pub record KeptCommit : Type 0 where
  pub id : TrxId
  pub cts : ℕ
  pub puts : List Row

-- the rows that a transaction put, in the mtrs of its node
abbrev pub puts_by : TrxId → ℕ → List Mtr → List Row
puts_by id node mtrs =
    flat_map (λ mtr. if mtr.node == node then filter (λ row. same_writer row.writer (Some id)) (rows_put (plan_of mtr.records)) else []) mtrs

-- the commits with a record among some mtrs, in the order of their records; what they put is looked up in `all`
abbrev pub kept_from : List Mtr → List Mtr → List KeptCommit
kept_from all mtrs =
    flat_map (λ mtr. map (λ stamp. record { id = stamp.id; cts = stamp.cts; puts = puts_by stamp.id mtr.node all }) (commit_records mtr.records)) mtrs

abbrev pub kept_commits : List Mtr → List KeptCommit
kept_commits mtrs = kept_from mtrs mtrs

-- each transaction commits once
abbrev pub CommitsOnce : List KeptCommit → Type 0
CommitsOnce [] = Unit {0}
CommitsOnce (k ∷ commits) = AllByRecursion (λ other. k.id ≢ other.id) commits × CommitsOnce commits

-- who committed, and at which timestamp
abbrev pub stamps_of : List KeptCommit → List Stamp
stamps_of commits = map (λ k. record { id = k.id; cts = k.cts }) commits

-- the last of some rows that has a key
abbrev pub last_or_none : Option Row → Option Row → Option Row
last_or_none None first = first
last_or_none (Some later) first = Some later

abbrev pub last_put : ℕ → List Row → Option Row
last_put key [] = None
last_put key (row ∷ rows) = last_or_none (last_put key rows) (if row.key == key then Some row else None)

-- what a writer wrote to a key, by its commit: the last row that it put there
abbrev pub wrote_to : ℕ → List KeptCommit → Option TrxId → Option Row
wrote_to key [] writer = None
wrote_to key (k ∷ commits) writer = if same_writer (Some k.id) writer then last_put key k.puts else wrote_to key commits writer

-- the write that a row is
abbrev pub write_of : Row → KeyWrite
write_of row = record { key = row.key; value = row.value }

-- the rows that leaves show: those with values
abbrev pub present : List Row → List KeyValue
present rows = flat_map (λ row. row_of (write_of row)) rows

-- rows with commits folded in, the least timestamp first
abbrev pub folded_in : List KeyValue → List KeptCommit → List KeyValue
folded_in rows commits = over rows (flat_map (λ k. map write_of k.puts) (sorted_by (λ k. k.cts) commits))
