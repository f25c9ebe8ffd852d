-- What a checkpoint leaves of a store: what it showed, or new pages under a new header.
use Rattle.std.specs.Prelude.{◌≡◌, ℕ, ◌+◌, ◌<◌, ◌≤◌, Bool, true, false, IsTrue, List, None, slice_index_or}
use Rattle.mp_cells.specs.PageView.{PageView, SameContent}
use Rattle.mp_cells.specs.Trees.{PageMap}
use Rattle.mp_store.specs.declared.headers.Header.{Header}
use Rattle.mp_store.specs.Layout.{page_side}
use Rattle.mp_store.specs.OpenStores.{NoLater}
use Rattle.mp_store.specs.StoreFiles.{header_in_force, page_in_force, homes_fault, is_map, is_root, store_fault}

-- the page that is stored for one whose content may be new: where it is the stored one's, the stored page, and otherwise
-- the new page with this LLSN
pub data IsSaved (llsn : ℕ) (stored page new : PageView) : Type 0 where
  stays : SameContent page stored → new ≡ stored → IsSaved llsn stored page new
  changes : (SameContent page stored → ⊥) → new ≡ record page { llsn = llsn } → IsSaved llsn stored page new

-- a store without a fault shows the header and the pages that another one shows
pub record ShowsSame (old new : List ℕ) : Type 0 where
  pub sound : store_fault new ≡ None
  pub header : header_in_force new ≡ header_in_force old
  pub pages : (n : ℕ) → page_in_force (header_in_force old).generation n new ≡ page_in_force (header_in_force old).generation n old

-- a store without a fault shows a new header, and these pages in place of those that another one shows
pub record ShowsNew (header : Header) (pages : PageMap) (old new : List ℕ) : Type 0 where
  pub sound : store_fault new ≡ None
  pub header_is : header_in_force new ≡ header
  pub saved : (n : ℕ) → n < 4096 → IsSaved header.llsn (page_in_force (header_in_force old).generation n old) (pages n) (page_in_force header.generation n new)

-- pages 0 and 1 are such as a store may have
pub record HasRoots (pages : PageMap) : Type 0 where
  pub map : IsTrue (is_map (pages 0))
  pub root : IsTrue (is_root (pages 1))

-- a store that new pages may be saved in: it has no fault, and the new header's generation is the next one
pub record MaySave (header : Header) (pages : PageMap) (file : List ℕ) : Type 0 where
  pub sound : store_fault file ≡ None
  pub next : header.generation ≡ (header_in_force file).generation + 1
  pub roots : HasRoots pages

-- a mark says whether two pages differ in more than their LLSNs
abbrev pub MarksChange : Bool → PageView → PageView → Type 0
MarksChange true page stored = SameContent page stored → ⊥
MarksChange false page stored = SameContent page stored

-- so does each mark of a list, of the pages below a number and those of a store in a generation
abbrev pub MarksBelow : ℕ → List Bool → PageMap → ℕ → List ℕ → Type 0
MarksBelow all marks pages generation file =
    (n : ℕ) → n < all → MarksChange (slice_index_or marks n false) (pages n) (page_in_force generation n file)

-- the pages below a number are saved for a header that isn't in force yet; the sides of the others are as they were
pub record SavedBelow (all : ℕ) (header : Header) (pages : PageMap) (old new : List ℕ) : Type 0 where
  pub same : ShowsSame old new
  pub homes : homes_fault header.generation 4096 new ≡ None
  pub saved : (n : ℕ) → n < all → n < 4096 → IsSaved header.llsn (page_in_force (header_in_force old).generation n old) (pages n) (page_in_force header.generation n new)
  pub others : (n : ℕ) (side : _) → all ≤ n → page_side n side new ≡ page_side n side old

-- new pages are about to be written into a store: no page has an open side of a later generation, and these marks say which
-- pages are new
pub record CanWrite (header : Header) (marks : List Bool) (pages : PageMap) (file : List ℕ) : Type 0 where
  pub may : MaySave header pages file
  pub none_later : NoLater (header_in_force file).generation file
  pub marked : MarksBelow 4096 marks pages (header_in_force file).generation file
