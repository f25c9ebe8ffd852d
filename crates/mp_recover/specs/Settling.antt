-- What rolling back makes of pages: each row's chain is walked by its links, and undo pages are freed.
use Rattle.std.specs.Prelude.{ℕ, zero, suc, ◌+◌, ◌==◌, nat_lt, not, if◌then◌else◌, List, length, map, filter, Option, Some, None}
use Rattle.mp_model.specs.declared.ids.TrxId.{TrxId}
use Rattle.mp_cells.specs.declared.kinds.Kind.TheVariants.{Meta, Leaf, Undo}
use Rattle.mp_cells.specs.declared.rows.Link.{Link}
use Rattle.mp_cells.specs.declared.rows.Row.{Row}
use Rattle.mp_cells.specs.PageView.{PageView, blank_page, without_bit, is_of}
use Rattle.mp_cells.specs.Trees.{PageMap}
use Rattle.mp_cells.specs.Plans.{with_page}
use Rattle.mp_cells.specs.Writes.{undo_at}
use Rattle.mp_histories.specs.Chains.{UndoMap}
use Rattle.mp_recover.specs.declared.commits.CommitId.{CommitId}
use Rattle.mp_recover.specs.Settled.{is_counted, without_writer}

-- the transactions of some commits
abbrev pub trx_ids : List CommitId → List TrxId
trx_ids ids = map (λ commit. commit.id) ids

-- an undo record, where it is of this key
abbrev pub of_same_key : ℕ → Option Row → Option Row
of_same_key key None = None
of_same_key key (Some row) = if row.key == key then Some row else None

-- the undo record that a link leads to
abbrev pub linked_record : UndoMap → Option Link → Option Row
linked_record undo None = None
linked_record undo (Some link) = undo link

-- the version below another one of its key
abbrev pub version_below : UndoMap → Row → Option Row
version_below undo row = of_same_key row.key (linked_record undo row.link)

abbrev pub row_or : Row → Option Row → Row
row_or row None = row
row_or row (Some below) = below

-- one step down a chain: a version that counts, or that has none below it, stays
abbrev pub step_down : List TrxId → UndoMap → Row → Row
step_down ids undo row = if is_counted ids row.writer then row else row_or row (version_below undo row)

-- so many steps
abbrev pub steps_down : ℕ → List TrxId → UndoMap → Row → Row
steps_down zero ids undo row = row
steps_down (suc steps) ids undo row = steps_down steps ids undo (step_down ids undo row)

-- more steps than there are undo records in 4,096 pages
unfoldable pub most_steps : ℕ
most_steps = 65537

-- the version that a row becomes
abbrev pub row_settled : List TrxId → UndoMap → Row → Row
row_settled ids undo row = without_writer (steps_down most_steps ids undo row)

abbrev pub rows_settled : List TrxId → UndoMap → List Row → List Row
rows_settled ids undo rows = map (λ row. row_settled ids undo row) rows

-- a page with its rows settled, where it is a leaf
abbrev pub leaf_settled : List TrxId → UndoMap → PageView → PageView
leaf_settled ids undo page = if is_of Leaf page then record page { rows = rows_settled ids undo page.rows } else page

abbrev pub leaves_settled : List TrxId → PageMap → PageMap
leaves_settled ids pages n = leaf_settled ids (undo_at pages) (pages n)

-- the bits with those of the undo pages below a number cleared
unfoldable pub bits_freed : ℕ → PageMap → List ℕ → List ℕ
bits_freed zero pages bits = bits
bits_freed (suc n) pages bits = if is_of Undo (pages n) then without_bit (bits_freed n pages bits) n else bits_freed n pages bits

-- page 0 with these bits cleared, where it is a meta page
abbrev pub map_freed : ℕ → PageMap → PageView → PageView
map_freed all pages page = if is_of Meta page then record page { bits = bits_freed all pages page.bits } else page

-- pages with one undo page freed: it is blank, and its bit on page 0 is cleared, where page 0 is a meta page
abbrev pub bit_freed : ℕ → PageView → PageView
bit_freed number page = if is_of Meta page then record page { bits = without_bit page.bits number } else page

abbrev pub one_freed : ℕ → PageMap → PageMap
one_freed number pages = if is_of Undo (pages number) then with_page (with_page pages number (blank_page (pages number).llsn)) 0 (bit_freed number (pages 0)) else pages

-- an undo page becomes blank
abbrev pub undo_freed : PageView → PageView
undo_freed page = if is_of Undo page then blank_page page.llsn else page

-- the pages with the undo pages from 1 on and below a number freed
abbrev pub undo_pages_freed : ℕ → PageMap → PageMap
undo_pages_freed all pages n = if n == 0 then map_freed all pages (pages n) else (if nat_lt n all then undo_freed (pages n) else pages n)

-- pages after a rollback
abbrev pub pages_settled : List TrxId → PageMap → PageMap
pages_settled ids pages = undo_pages_freed 4096 (leaves_settled ids pages)

-- how many rows of a leaf have a writer that isn't listed, and how many rows of the leaves below a number
abbrev pub undone_in : List TrxId → PageView → ℕ
undone_in ids page = if is_of Leaf page then length (filter (λ row. not (is_counted ids row.writer)) page.rows) else 0

unfoldable pub undone_below : ℕ → List TrxId → PageMap → ℕ
undone_below zero ids pages = 0
undone_below (suc n) ids pages = undone_below n ids pages + undone_in ids (pages n)
