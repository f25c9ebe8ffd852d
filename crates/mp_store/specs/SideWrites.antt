-- What a crash may leave of a side that is being written, and what the store then shows.
use Rattle.std.specs.Prelude.{◌≡◌, ◌≢◌, ◌⊎◌, ℕ, ◌+◌, ◌≤◌, ◌==◌, ◌&&◌, ◌||◌, not, nat_lt, if◌then◌else◌, Bool, false, IsTrue, List, [], ◌∷◌, length, take, drop}
use Rattle.mp_outside.specs.Disks.{written, Torn}
use Rattle.mp_cells.specs.PageView.{PageView, blank_page}
use Rattle.mp_store.specs.declared.headers.Header.{Header}
use Rattle.mp_store.specs.declared.sides.Side.{Side}
use Rattle.mp_store.specs.Layout.{part, is_open, header_place, page_place, page_side, other}
use Rattle.mp_store.specs.PageSides.{page_generation, page_llsn, page_in, counts, idle}
use Rattle.mp_store.specs.StoreFiles.{header_in_force, header_side_in_force, page_in_force, page_side_in_force}

-- two files are the same but for the bytes from here to there
pub record SameOutside (from to : ℕ) (old new : List ℕ) : Type 0 where
  pub before : take from new ≡ take from old
  pub after : drop to new ≡ drop to old
  pub long : length new ≡ length old

-- a side is as it was, or its gate isn't open, or it is this one
abbrev pub SideIs : List ℕ → List ℕ → List ℕ → Type 0
SideIs side old new = (new ≡ old) ⊎ ((is_open new ≡ false) ⊎ (new ≡ side))

-- a file of which one side was written: all else is as it was, and the side is as it was, not open, or whole
pub record SideLeft (place : ℕ) (side old new : List ℕ) : Type 0 where
  pub elsewhere : SameOutside place (place + length side) old new
  pub side_is : SideIs side (part place (length side) old) (part place (length side) new)

-- an open side with this body
abbrev pub open_side : List ℕ → List ℕ
open_side body = 165 ∷ body

-- the file whose gate at a place is closed, where it was open
abbrev pub closed : Bool → ℕ → List ℕ → List ℕ
closed was_open place file = if was_open then written place (0 ∷ []) file else file

-- what a crash may leave while such a gate is being closed
abbrev pub Closing : Bool → ℕ → List ℕ → List ℕ → Type 0
Closing was_open place old new = (new ≡ old) ⊎ (IsTrue was_open × Torn place (place + 1) old new)

-- the place of the side of a page that isn't in force in a store of a generation
abbrev pub idle_place : ℕ → ℕ → List ℕ → ℕ
idle_place generation number file = page_place number (idle (page_side_in_force generation number file))

-- the place of the header's side that isn't in force
abbrev pub idle_header_place : List ℕ → ℕ
idle_header_place file = header_place (other (header_side_in_force file))

-- a side doesn't count in a store of a generation, or its pair of generation and LLSN is smaller than this one
abbrev pub yields : ℕ → ℕ → ℕ → List ℕ → Bool
yields store generation llsn side =
    not (counts store side) || (nat_lt (page_generation side) generation || (page_generation side == generation && nat_lt (page_llsn side) llsn))

-- the other side of a page's home than the one that is written
abbrev pub kept_side : ℕ → ℕ → List ℕ → List ℕ
kept_side generation number file = page_side number (other (idle (page_side_in_force generation number file))) file

-- the page that a home shows in a store of a generation by one of its sides alone
abbrev pub page_alone : ℕ → List ℕ → PageView
page_alone generation side = if counts generation side then page_in side else blank_page 0

-- a store of a generation in which a page may have been written: it shows the header and the other pages as before, and this page as before or, where it counts, the new one; in any other generation it shows this page as before, the new one, or what the side that wasn't written shows alone
pub record PageLeft (store number generation : ℕ) (page : PageView) (old new : List ℕ) : Type 0 where
  pub header : header_in_force new ≡ header_in_force old
  pub others : (g other : ℕ) → other ≢ number → page_in_force g other new ≡ page_in_force g other old
  pub sides : (other : ℕ) (side : Side) → other ≢ number → page_side other side new ≡ page_side other side old
  pub page_is : (page_in_force store number new ≡ page_in_force store number old) ⊎ ((generation ≤ store) × (page_in_force store number new ≡ page))
  pub later : (g : ℕ) → (page_in_force g number new ≡ page_in_force g number old) ⊎ ((page_in_force g number new ≡ page) ⊎ (page_in_force g number new ≡ page_alone g (kept_side store number old)))

-- a store whose header may have been written: it shows all pages as before in a store of each generation, and the old header or the new one
pub record HeaderLeft (header : Header) (old new : List ℕ) : Type 0 where
  pub pages : (g number : ℕ) → page_in_force g number new ≡ page_in_force g number old
  pub header_is : (header_in_force new ≡ header_in_force old) ⊎ (header_in_force new ≡ header)
