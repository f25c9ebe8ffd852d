-- Chains of versions in pages, mtrs that are well made, and what a history of such mtrs leaves.
use Rattle.std.specs.Prelude.{◌≡◌, ℕ, ◌<◌, ◌^◌, ◌⊎◌, true, List, [], ◌∷◌, length, Option, Some, None, is_some}
use Rattle.std.specs.List.{AllByRecursion}
use Rattle.mp_model.specs.declared.ids.TrxId.{TrxId}
use Rattle.mp_cells.specs.declared.records.Record.TheVariants as records
use Rattle.mp_cells.specs.declared.records.Mtr.{Mtr}
use Rattle.mp_cells.specs.declared.rows.Link.{Link}
use Rattle.mp_cells.specs.declared.rows.Row.{Row}
use Rattle.mp_cells.specs.Trees.{PageMap, IsTree, row_at, height_of, rows_in}
use Rattle.mp_cells.specs.Plans.{plan_of}
use Rattle.mp_cells.specs.Writes.{undo_at, version_of, rows_put, WellPut, WellRestore}
use Rattle.mp_histories.specs.KeyOps.{put, restore, below_top}
use Rattle.mp_histories.specs.Commits.{Stamps, MayCover}
use Rattle.mp_histories.specs.Histories.{History, pages_after, entry_at, Version, by_version, rows_of_versions, ops_on, live_on, commit_records}

-- the undo record at each link
abbrev pub UndoMap : Type 0
UndoMap = Link → Option Row

-- the first of some rows, or the last version behind them
abbrev pub row_over : List Row → Row → Row
row_over [] last = last
row_over (row ∷ rows) last = row

-- a row's link leads to this undo record
pub record LinksTo (undo : UndoMap) (row next : Row) : Type 0 where
  pub link : Link
  pub linked : row.link ≡ Some link
  pub there : undo link ≡ Some next

-- rows, each linked to the next, down to a last version, which has no link
abbrev pub IsChain : UndoMap → List Row → Row → Type 0
IsChain undo [] last = last.link ≡ None
IsChain undo (row ∷ rows) last = LinksTo undo row (row_over rows last) × IsChain undo rows last

-- a walk from a row: each further one is what the link before leads to
abbrev pub IsWalk : UndoMap → Row → List Row → Type 0
IsWalk undo row [] = Unit {0}
IsWalk undo row (next ∷ walked) = LinksTo undo row next × IsWalk undo next walked

-- the row of a key in some pages: where it has none, a gone row without a writer
abbrev pub row_of_key : PageMap → ℕ → Row
row_of_key pages key = version_of key (row_at key (rows_in pages))

-- an mtr puts one row of a transaction over the pages of a history
pub record MakesPut (opening : PageMap) (made : History) (mtr : Mtr) : Type 0 where
  pub row : Row
  pub writer : is_some row.writer ≡ true
  pub well : WellPut (pages_after opening made) row (plan_of mtr.records)
  pub no_commit : commit_records mtr.records ≡ []

-- an mtr puts one row back: the one below the versions of the newest one's writer, which that writer's first put
-- replaced
pub record MakesRestore (opening : PageMap) (made : History) (mtr : Mtr) : Type 0 where
  pub row : Row
  pub well : WellRestore (pages_after opening made) row (plan_of mtr.records)
  pub former : row ≡ row_over (rows_of_versions (below_top by_version (live_on row.key made))) (row_of_key opening row.key)
  pub no_commit : commit_records mtr.records ≡ []

-- an mtr is one commit record
pub record MakesCommit (mtr : Mtr) : Type 0 where
  pub id : TrxId
  pub cts : ℕ
  pub alone : mtr.records ≡ records.Commit id cts ∷ []

-- an mtr that may follow a history over these pages
pub record WellMade (opening : PageMap) (made : History) (mtr : Mtr) : Type 0 where
  pub llsn : mtr.llsn < 2 ^ 62
  pub kind : MakesPut opening made mtr ⊎ (MakesRestore opening made mtr ⊎ MakesCommit mtr)

-- a history each mtr of which is well made over those before it
abbrev pub RunsFrom : PageMap → History → Type 0
RunsFrom opening [] = Unit {0}
RunsFrom opening (mtr ∷ made) = WellMade opening made mtr × RunsFrom opening made

-- after a history the pages are a tree; the row of each key is the newest of its versions that stand, or the opening's,
-- and these versions are its chain, down to the opening's row
pub record HasChains (opening : PageMap) (made : History) : Type 0 where
  pub tree : IsTree (pages_after opening made) (height_of (pages_after opening made))
  pub head : (key : ℕ) → row_of_key (pages_after opening made) key ≡ row_over (rows_of_versions (live_on key made)) (row_of_key opening key)
  pub chain : (key : ℕ) → IsChain (undo_at (pages_after opening made)) (rows_of_versions (live_on key made)) (row_of_key opening key)

-- a version of a key was put by the mtr at its place, as that mtr's one row, by a transaction
pub record IsPutAt (made : History) (key : ℕ) (v : Version) : Type 0 where
  pub mtr : Mtr
  pub before : v.at < length made
  pub entry : entry_at v.at made ≡ Some mtr
  pub puts : rows_put (plan_of mtr.records) ≡ v.row ∷ []
  pub key_is : v.row.key ≡ key
  pub writer : is_some v.row.writer ≡ true

-- versions stand in the order of their places, the newest first
abbrev pub PlacesFall : List Version → Type 0
PlacesFall [] = Unit {0}
PlacesFall (v ∷ vs) = AllByRecursion (λ older. older.at < v.at) vs × PlacesFall vs

-- an mtr puts a row, as the newest version of its key, linked to the row that it replaces
pub record PutsVersion (opening : PageMap) (made : History) (mtr : Mtr) (row : Row) : Type 0 where
  pub ops : ops_on row.key (mtr ∷ made) ≡ put (record { at = length made; row = row }) ∷ ops_on row.key made
  pub now : row_of_key (pages_after opening (mtr ∷ made)) row.key ≡ row
  pub links : LinksTo (undo_at (pages_after opening (mtr ∷ made))) row (row_of_key (pages_after opening made) row.key)

-- an mtr puts a row back, in place of the versions of the newest one's writer
pub record PutsBack (opening : PageMap) (made : History) (mtr : Mtr) (row : Row) : Type 0 where
  pub ops : ops_on row.key (mtr ∷ made) ≡ restore ∷ ops_on row.key made
  pub now : row_of_key (pages_after opening (mtr ∷ made)) row.key ≡ row
  pub former : row ≡ row_over (rows_of_versions (below_top by_version (live_on row.key made))) (row_of_key opening row.key)

-- an mtr leaves a key as it is
pub record LeavesKey (opening : PageMap) (made : History) (mtr : Mtr) (key : ℕ) : Type 0 where
  pub ops : ops_on key (mtr ∷ made) ≡ ops_on key made
  pub now : row_of_key (pages_after opening (mtr ∷ made)) key ≡ row_of_key (pages_after opening made) key

-- a leaf's row of a key, noted after a history, heads this chain under the undo records of a later one
pub record StaysNoted (opening : PageMap) (noted now : History) (key : ℕ) (row : Row) : Type 0 where
  pub head : row ≡ row_over (rows_of_versions (live_on key noted)) (row_of_key opening key)
  pub chain : IsChain (undo_at (pages_after opening now)) (rows_of_versions (live_on key noted)) (row_of_key opening key)

-- each row that an mtr puts comes over one without a writer, or over one that its writer may cover
abbrev pub CoversRows : Stamps → Stamps → PageMap → Mtr → Type 0
CoversRows committed drew pages mtr =
    AllByRecursion (λ row. ((row_of_key pages row.key).writer ≡ None) ⊎ MayCover committed drew (row_of_key pages row.key).writer row.writer) (rows_put (plan_of mtr.records))
