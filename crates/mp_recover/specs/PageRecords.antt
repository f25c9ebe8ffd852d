-- The records of each page in some mtrs, when they follow on one another, and the pages with them redone.
use Rattle.std.specs.Prelude.{◌≡◌, ℕ, ◌<◌, ◌≤◌, ◌==◌, nat_lt, List, [], ◌∷◌, filter, if◌then◌else◌, IsTrue}
use Rattle.std.specs.List.{flat_map, list_any}
use Rattle.mp_cells.specs.declared.changes.Change.{Change}
use Rattle.mp_cells.specs.declared.records.Record.{Record}
use Rattle.mp_cells.specs.declared.records.Record.TheVariants as records
use Rattle.mp_cells.specs.declared.records.Mtr.{Mtr}
use Rattle.mp_cells.specs.PageView.{PageView}
use Rattle.mp_cells.specs.Trees.{PageMap}
use Rattle.mp_cells.specs.Plans.{CanApply, changed_page}
use Rattle.mp_cells.specs.Orders.{sorted_by}
use Rattle.mp_histories.specs.KeyOps.{FirstIs}
use Rattle.mp_histories.specs.Cuts.{log_place}

-- mtrs in the order in which recovery goes: by LLSN, and among equal ones by primary
abbrev pub by_log_place : List Mtr → List Mtr
by_log_place mtrs = sorted_by log_place mtrs

-- a record of one page: the LLSN of its mtr, the page's LLSN before it, and its change
pub record PageRecord : Type 0 where
  pub at : ℕ
  pub prev : ℕ
  pub change : Change

-- the records of a page among those of an mtr with this LLSN
abbrev pub records_of : ℕ → ℕ → List Record → List PageRecord
records_of page at [] = []
records_of page at (records.Page number prev change ∷ items) =
    if page == number then record { at = at; prev = prev; change = change } ∷ records_of page at items else records_of page at items
records_of page at (records.Commit id cts ∷ items) = records_of page at items

-- the records of a page in mtrs, in their order
abbrev pub page_list : ℕ → List Mtr → List PageRecord
page_list page mtrs = flat_map (λ mtr. records_of page mtr.llsn mtr.records) mtrs

-- the records that a page with this LLSN doesn't have yet
abbrev pub not_yet : ℕ → List PageRecord → List PageRecord
not_yet llsn items = filter (λ r. nat_lt llsn r.at) items

-- a page after a record: its change is made, and the page has the mtr's LLSN
abbrev pub redone : PageRecord → PageView → PageView
redone r page = record (changed_page r.change page) { llsn = r.at }

-- a page after records
abbrev pub redone_all : List PageRecord → PageView → PageView
redone_all [] page = page
redone_all (r ∷ items) page = redone_all items (redone r page)

-- each change can be applied when it comes
abbrev pub CanRedo : List PageRecord → PageView → Type 0
CanRedo [] page = Unit {0}
CanRedo (r ∷ items) page = CanApply r.change page × CanRedo items (redone r page)

-- each record's `prev` is the LLSN of the one before; the first one's is this LLSN
abbrev pub AreLinked : ℕ → List PageRecord → Type 0
AreLinked before [] = Unit {0}
AreLinked before (r ∷ items) = (r.prev ≡ before) × AreLinked r.at items

-- each record's `prev` is the LLSN of the one before; the first one's isn't above the base
abbrev pub AreLinkedFrom : ℕ → List PageRecord → Type 0
AreLinkedFrom base [] = Unit {0}
AreLinkedFrom base (r ∷ items) = (r.prev ≤ base) × AreLinked r.at items

-- the records of a page, all above the base, follow on one another and on the stored page
pub record PageInOrder (base : ℕ) (stored : PageView) (items : List PageRecord) : Type 0 where
  pub linked : AreLinkedFrom base items
  -- a stored page that has none of them is the page that the first one was made on
  pub first : not_yet stored.llsn items ≡ items → FirstIs (λ r. r.prev ≡ stored.llsn) items
  -- a stored page above the base has those up to one of them
  pub ahead : base < stored.llsn → IsTrue (list_any (λ r. r.at == stored.llsn) items)
  pub changes : CanRedo (not_yet stored.llsn items) stored

-- so do those of each page
abbrev pub InOrder : ℕ → PageMap → List Mtr → Type 0
InOrder base stored mtrs = (n : ℕ) → n < 4096 → PageInOrder base (stored n) (page_list n mtrs)

-- stored pages with all records redone that they don't have yet
abbrev pub pages_redone : PageMap → List Mtr → PageMap
pages_redone stored mtrs n = redone_all (not_yet (stored n).llsn (page_list n mtrs)) (stored n)
