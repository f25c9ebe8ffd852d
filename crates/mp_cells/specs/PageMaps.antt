-- Maps of pages from lists of pages, and what a mini-transaction leaves of a map.
use Rattle.std.specs.Prelude.{◌≡◌, ℕ, Bool, List, [], ◌∷◌, slice_get, if◌then◌else◌}
use Rattle.mp_cells.specs.declared.records.Record.{Record}
use Rattle.mp_cells.specs.declared.records.Record.TheVariants as records
use Rattle.mp_cells.specs.declared.records.Mtr.{Mtr}
use Rattle.mp_cells.specs.PageView.{PageView, blank_page}
use Rattle.mp_cells.specs.Trees.{PageMap}
use Rattle.mp_cells.specs.Plans.{page_or, changed_page, with_page, of_page, after_changes, plan_of, touches}

-- the pages of a list by their places in it; a blank page behind the last
abbrev pub page_at : List PageView → PageMap
page_at pages number = page_or (blank_page 0) (slice_get pages number)

-- a page with an LLSN, where it was changed
abbrev pub stamp : Bool → ℕ → PageView → PageView
stamp changed llsn page = if changed then record page { llsn = llsn } else page

-- the pages after an mtr, each by its own changes: a page that the mtr changes has its LLSN then
abbrev pub after_mtr : Mtr → PageMap → PageMap
after_mtr mtr pages n = stamp (touches n (plan_of mtr.records)) mtr.llsn (after_changes (of_page n (plan_of mtr.records)) (pages n))

-- the pages after one record of an mtr with this LLSN: its change is made, and its page has the LLSN
abbrev pub after_record : ℕ → Record → PageMap → PageMap
after_record llsn (records.Page page prev change) pages = with_page pages page (record (changed_page change (pages page)) { llsn = llsn })
after_record llsn (records.Commit id cts) pages = pages

abbrev pub after_records : ℕ → List Record → PageMap → PageMap
after_records llsn [] pages = pages
after_records llsn (item ∷ items) pages = after_records llsn items (after_record llsn item pages)

-- a record's `prev` is the LLSN that its page has when the record comes
abbrev pub HasPrev : Record → PageMap → Type 0
HasPrev (records.Page page prev change) pages = prev ≡ (pages page).llsn
HasPrev (records.Commit id cts) pages = Unit {0}

abbrev pub HavePrevs : ℕ → List Record → PageMap → Type 0
HavePrevs llsn [] pages = Unit {0}
HavePrevs llsn (item ∷ items) pages = HasPrev item pages × HavePrevs llsn items (after_record llsn item pages)
