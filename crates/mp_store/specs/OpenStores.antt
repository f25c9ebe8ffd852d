-- An open store on its disk, and sides of later generations than the store's.
use Rattle.std.specs.Prelude.{◌≡◌, ℕ, ◌<◌, ◌≤◌, ◌&&◌, nat_lt, Bool, IsTrue, List, length, None}
use Rattle.mp_outside.specs.Disks.{Only}
use Rattle.mp_store.specs.declared.headers.Header.{Header}
use Rattle.mp_store.specs.declared.sides.Side.{Side}
use Rattle.mp_store.specs.Layout.{store_length, is_open, page_side}
use Rattle.mp_store.specs.PageSides.{page_generation}
use Rattle.mp_store.specs.StoreFiles.{header_in_force, page_in_force, homes_fault, store_fault}

-- a store of this header is open on a disk: the header is the one in force of what a read gives, and a crash leaves nothing else, and no part of a store is missing
pub record IsOpenOn (header : Header) (seen : List ℕ) (image : List ℕ → Type 0) : Type 0 where
  pub header_is : header ≡ header_in_force seen
  pub only : Only seen image
  pub long : store_length ≤ length seen

-- a side is open and of a later generation than this one
abbrev pub is_later : ℕ → List ℕ → Bool
is_later generation side = is_open side && nat_lt generation (page_generation side)

-- the pages below a number have no open side of a later generation than this one
abbrev pub NoLaterBelow : ℕ → ℕ → List ℕ → Type 0
NoLaterBelow all generation file =
    (number : ℕ) (side : Side) → number < all → IsTrue (is_open (page_side number side file)) → page_generation (page_side number side file) ≤ generation

-- no page of a store has one
abbrev pub NoLater : ℕ → List ℕ → Type 0
NoLater generation file = NoLaterBelow 4096 generation file

-- a store in which open sides of later generations than this one may have been closed: it shows the same header, and the same pages in each generation up to it, and it has no fault where it had none
pub record LaterLeft (generation : ℕ) (old new : List ℕ) : Type 0 where
  pub header : header_in_force new ≡ header_in_force old
  pub pages : (h number : ℕ) → h ≤ generation → page_in_force h number new ≡ page_in_force h number old
  pub homes : (h : ℕ) → h ≤ generation → homes_fault h 4096 old ≡ None → homes_fault h 4096 new ≡ None
  pub sound : (header_in_force old).generation ≤ generation → store_fault old ≡ None → store_fault new ≡ None
  pub long : length new ≡ length old
