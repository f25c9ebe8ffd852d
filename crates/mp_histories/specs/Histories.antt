-- Histories: lists of mini-transactions, the last made first; what they leave of pages, and what they do to a key.
use Rattle.std.specs.Prelude.{ℕ, ◌==◌, nat_lt, List, [], ◌∷◌, ◌++◌, length, map, filter, Option, Some, None, if◌then◌else◌}
use Rattle.mp_model.specs.declared.ids.TrxId.{TrxId}
use Rattle.mp_cells.specs.declared.records.Record.{Record}
use Rattle.mp_cells.specs.declared.records.Record.TheVariants as records
use Rattle.mp_cells.specs.declared.records.Mtr.{Mtr}
use Rattle.mp_cells.specs.declared.rows.Row.{Row}
use Rattle.mp_cells.specs.Trees.{PageMap}
use Rattle.mp_cells.specs.Plans.{Plan, plan_of, touches}
use Rattle.mp_cells.specs.Writes.{rows_put, rows_restored}
use Rattle.mp_cells.specs.PageMaps.{after_mtr}
use Rattle.mp_histories.specs.KeyOps.{KeyOp, put, restore, live}
use Rattle.mp_histories.specs.Commits.{Stamp}

-- mini-transactions, the last made first
abbrev pub History : Type 0
History = List Mtr

-- the first so many that were made
abbrev pub older : ℕ → History → History
older height [] = []
older height (mtr ∷ made) = if nat_lt (length made) height then mtr ∷ made else older height made

-- the one before which so many were made
abbrev pub entry_at : ℕ → History → Option Mtr
entry_at at [] = None
entry_at at (mtr ∷ made) = if length made == at then Some mtr else entry_at at made

-- the pages after a history
abbrev pub pages_after : PageMap → History → PageMap
pages_after opening [] = opening
pages_after opening (mtr ∷ made) = after_mtr mtr (pages_after opening made)

-- those that change a page
abbrev pub touching : ℕ → History → History
touching n made = filter (λ mtr. touches n (plan_of mtr.records)) made

-- those of a node
abbrev pub mtrs_by_node : ℕ → List Mtr → List Mtr
mtrs_by_node node mtrs = filter (λ mtr. mtr.node == node) mtrs

-- a version of a key: the place of the mtr that put it (how many were made before), and its row
pub record Version : Type 0 where
  pub at : ℕ
  pub row : Row

abbrev pub by_version : Version → Option TrxId
by_version v = v.row.writer

abbrev pub rows_of_versions : List Version → List Row
rows_of_versions versions = map (λ v. v.row) versions

-- the rows of a key
abbrev pub of_key : ℕ → List Row → List Row
of_key key rows = filter (λ row. row.key == key) rows

-- what a plan at a place does to a key
abbrev pub ops_of : ℕ → ℕ → Plan → List (KeyOp Version)
ops_of key at plan = map (λ row. put (record { at = at; row = row })) (of_key key (rows_put plan)) ++ map (λ row. restore) (of_key key (rows_restored plan))

-- what a history did to a key, the last first
abbrev pub ops_on : ℕ → History → List (KeyOp Version)
ops_on key [] = []
ops_on key (mtr ∷ made) = ops_of key (length made) (plan_of mtr.records) ++ ops_on key made

-- the versions of a key that stand after a history, the newest first
abbrev pub live_on : ℕ → History → List Version
live_on key made = live by_version (ops_on key made)

-- the commit records of some records, and of a history
abbrev pub commit_records : List Record → List Stamp
commit_records [] = []
commit_records (records.Page page prev change ∷ items) = commit_records items
commit_records (records.Commit id cts ∷ items) = record { id = id; cts = cts } ∷ commit_records items

abbrev pub commits_in : History → List Stamp
commits_in [] = []
commits_in (mtr ∷ made) = commit_records mtr.records ++ commits_in made
