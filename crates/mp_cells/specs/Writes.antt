-- Plans that write one row, and plans that put one row back.
use Rattle.mp_cells.specs.Mtrs.{IsChange}
use Rattle.std.specs.Prelude.{◌≡◌, ℕ, ◌≤◌, ◌==◌, ◌&&◌, Bool, List, [], ◌∷◌, length, slice_get, Option, Some, None, if◌then◌else◌, ◌<◌}
use Rattle.std.specs.List.{flat_map, AllByRecursion}
use Rattle.mp_cells.specs.declared.kinds.Kind.TheVariants.{Undo}
use Rattle.mp_cells.specs.declared.changes.Change.{Change}
use Rattle.mp_cells.specs.declared.changes.Change.TheVariants.{PutRow, RestoreRow, PutUndo, TakePage}
use Rattle.mp_cells.specs.declared.rows.Link.{Link}
use Rattle.mp_cells.specs.declared.rows.Row.{Row}
use Rattle.mp_cells.specs.PageView.{PageView, is_of}
use Rattle.mp_cells.specs.Keys.{with_cell}
use Rattle.mp_cells.specs.Trees.{PageMap, IsTree, tree_rows, row_at}
use Rattle.mp_cells.specs.Plans.{Plan, Meets, after_plan, AgreesOn}

-- a change that a record may have, of one of the 4,096 pages
abbrev pub IsStep : ℕ × Change → Type 0
IsStep step = (step.0 < 4096) × IsChange step.1

-- the rows that a plan puts
abbrev pub row_put : Change → List Row
row_put (PutRow row) = row ∷ []
row_put _ = []

abbrev pub rows_put : Plan → List Row
rows_put plan = flat_map (λ step. row_put step.1) plan

-- the former versions that a plan keeps as undo records
abbrev pub row_kept : Change → List Row
row_kept (PutUndo row) = row ∷ []
row_kept _ = []

abbrev pub rows_kept : Plan → List Row
rows_kept plan = flat_map (λ step. row_kept step.1) plan

-- the rows that a plan puts back
abbrev pub row_restored : Change → List Row
row_restored (RestoreRow row) = row ∷ []
row_restored _ = []

abbrev pub rows_restored : Plan → List Row
rows_restored plan = flat_map (λ step. row_restored step.1) plan

-- the pages that a plan takes
abbrev pub page_taken : Change → List ℕ
page_taken (TakePage number) = number ∷ []
page_taken _ = []

abbrev pub pages_taken : Plan → List ℕ
pages_taken plan = flat_map (λ step. page_taken step.1) plan

-- an undo page's record at a place, and the undo record at a link
abbrev pub record_in : PageView → ℕ → Option Row
record_in page index = if is_of Undo page then slice_get page.rows index else None

abbrev pub undo_at : PageMap → Link → Option Row
undo_at pages link = record_in (pages link.page) link.index

-- two links name one place
abbrev pub same_link : Link → Link → Bool
same_link link other = link.page == other.page && link.index == other.index

-- the version of a key that a write replaces: its row, or, where it has none, a gone row without a writer
abbrev pub version_of : ℕ → Option Row → Row
version_of key None = record { key = key; value = None; writer = None; link = None }
version_of key (Some row) = row

-- the undo records with one more, at a place where there was none
pub record AddsUndo (old new : PageMap) (link : Link) (row : Row) : Type 0 where
  pub fresh : undo_at old link ≡ None
  pub added : (other : Link) → undo_at new other ≡ (if same_link other link then Some row else undo_at old other)

-- applied to a tree, a plan leaves a tree whose rows are the same but for the new row's key; the one new undo record is
-- the version before, and the new row's link names it
pub record WritesRow (plan : Plan) (row : Row) (pages : PageMap) (height : ℕ) : Type 0 where
  pub changes : AllByRecursion IsStep plan
  pub meets : Meets plan pages
  pub new_height : ℕ
  pub tree : IsTree (after_plan plan pages) new_height
  pub rows : tree_rows (after_plan plan pages) new_height ≡ with_cell (λ r. r.key) row (tree_rows pages height)
  pub link : Link
  pub linked : row.link ≡ Some link
  pub undo : AddsUndo pages (after_plan plan pages) link (version_of row.key (row_at row.key (tree_rows pages height)))

-- a plan writes this row, whatever tree it is that has the given contents of the pages that the plan changes
pub record WellPut (given : PageMap) (row : Row) (plan : Plan) : Type 0 where
  pub writes : (pages : PageMap) → AgreesOn plan given pages → (height : ℕ) → IsTree pages height → WritesRow plan row pages height
  -- it puts this row alone, keeps one former version, puts back none, and takes at most 5 pages
  pub puts : rows_put plan ≡ row ∷ []
  pub keeps : (former : Row) × (rows_kept plan ≡ former ∷ [])
  pub restores : rows_restored plan ≡ []
  pub taken : length (pages_taken plan) ≤ 5

-- applied to a tree, a plan leaves a tree whose rows are the same but for this row's key, and the undo records as they were
pub record Restores (plan : Plan) (row : Row) (pages : PageMap) (height : ℕ) : Type 0 where
  pub changes : AllByRecursion IsStep plan
  pub meets : Meets plan pages
  pub tree : IsTree (after_plan plan pages) height
  pub rows : tree_rows (after_plan plan pages) height ≡ with_cell (λ r. r.key) row (tree_rows pages height)
  pub undo : (link : Link) → undo_at (after_plan plan pages) link ≡ undo_at pages link

-- a plan puts this row back by one change, whatever tree it is that has the given contents of the page that it changes
pub record WellRestore (given : PageMap) (row : Row) (plan : Plan) : Type 0 where
  pub restores : (pages : PageMap) → AgreesOn plan given pages → (height : ℕ) → IsTree pages height → Restores plan row pages height
  pub one : (page : ℕ) × (plan ≡ (page, RestoreRow row) ∷ [])
