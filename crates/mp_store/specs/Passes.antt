-- Sides of many pages written in three passes: gates are closed, bodies are filled in, gates are opened. A sync ends each pass.
use Rattle.std.specs.Prelude.{◌≡◌, ◌⊎◌, ℕ, ◌<◌, ◌≤◌, Bool, true, false, IsTrue, List, None, length, drop, slice_index_or}
use Rattle.mp_cells.specs.PageView.{PageView, IsPage}
use Rattle.mp_cells.specs.Trees.{PageMap}
use Rattle.mp_store.specs.declared.passes.Pass.{Pass}
use Rattle.mp_store.specs.declared.passes.Pass.TheVariants.{Close, Fill, Open}
use Rattle.mp_store.specs.declared.sides.Side.{Side}
use Rattle.mp_store.specs.Layout.{is_open, other, store_length, header_side, page_side}
use Rattle.mp_store.specs.PageSides.{page_body, idle}
use Rattle.mp_store.specs.SideWrites.{kept_side, yields}
use Rattle.mp_store.specs.StoreFiles.{header_in_force, page_in_force, page_side_in_force, homes_fault, store_fault}

-- a page is marked; none behind the marks is
abbrev pub is_marked : List Bool → ℕ → Bool
is_marked marks number = slice_index_or marks number false

-- the side of a page that isn't in force in a store of a generation
abbrev pub idle_side : ℕ → ℕ → List ℕ → Side
idle_side store number file = idle (page_side_in_force store number file)

-- a page with another LLSN, and the bodies of such pages for a generation
abbrev pub renewed : ℕ → PageMap → ℕ → PageView
renewed llsn pages number = record (pages number) { llsn = llsn }

abbrev pub bodies_of : ℕ → ℕ → PageMap → ℕ → List ℕ
bodies_of generation llsn pages number = page_body generation (renewed llsn pages number)

-- what a pass may leave of a side: as it was, or with its open gate changed; with a gate that isn't open; or with this body
abbrev pub PassSide : Pass → List ℕ → List ℕ → List ℕ → Type 0
PassSide Close body old new = (new ≡ old) ⊎ (IsTrue (is_open old) × (drop 1 new ≡ drop 1 old))
PassSide Fill body old new = is_open new ≡ false
PassSide Open body old new = drop 1 new ≡ body

-- what it makes of a side
abbrev pub PassDone : Pass → List ℕ → List ℕ → Type 0
PassDone Close body new = is_open new ≡ false
PassDone Fill body new = drop 1 new ≡ body
PassDone Open body new = is_open new ≡ true

-- a file of which a pass may have changed the sides of marked pages that aren't in force, and nothing else
pub record SidesPassed (pass : Pass) (store : ℕ) (marks : List Bool) (bodies : ℕ → List ℕ) (old new : List ℕ) : Type 0 where
  pub header : (side : Side) → header_side side new ≡ header_side side old
  pub kept : (n : ℕ) → page_side n (other (idle_side store n old)) new ≡ page_side n (other (idle_side store n old)) old
  pub unmarked : (n : ℕ) → is_marked marks n ≡ false → page_side n (idle_side store n old) new ≡ page_side n (idle_side store n old) old
  pub marked : (n : ℕ) → is_marked marks n ≡ true → PassSide pass (bodies n) (page_side n (idle_side store n old) old) (page_side n (idle_side store n old) new)
  pub long : length new ≡ length old

-- so it is of what a read gives, and of whatever a crash leaves
pub record AllPassed (pass : Pass) (store : ℕ) (marks : List Bool) (bodies : ℕ → List ℕ) (file seen : List ℕ) (image : List ℕ → Type 0) : Type 0 where
  pub room : store_length ≤ length file
  pub reads : SidesPassed pass store marks bodies file seen
  pub leaves : (c : List ℕ) → image c → SidesPassed pass store marks bodies file c

-- the sides of the marked pages below a number are as the pass makes them
abbrev pub PassedBelow : ℕ → Pass → ℕ → List Bool → (ℕ → List ℕ) → List ℕ → List ℕ → Type 0
PassedBelow all pass store marks bodies file seen =
    (n : ℕ) → n < all → is_marked marks n ≡ true → PassDone pass (bodies n) (page_side n (idle_side store n file) seen)

-- the marked pages below a number are such as a store may have
abbrev pub PagesBelow : ℕ → List Bool → ℕ → PageMap → Type 0
PagesBelow all marks llsn pages = (n : ℕ) → n < all → is_marked marks n ≡ true → IsPage (renewed llsn pages n)

-- a file in which pages may have been written for a later generation: it shows what it showed
pub record WrittenBeside (store : ℕ) (old new : List ℕ) : Type 0 where
  pub header : header_in_force new ≡ header_in_force old
  pub pages : (n : ℕ) → page_in_force store n new ≡ page_in_force store n old
  pub sound : (header_in_force old).generation ≡ store → store_fault old ≡ None → store_fault new ≡ None
  pub long : length new ≡ length old

-- the marked pages were written for a generation: it shows each where the other side counts less, and the sides of the others are as they were
pub record AllWritten (store generation llsn : ℕ) (marks : List Bool) (pages : PageMap) (old new : List ℕ) : Type 0 where
  pub homes : homes_fault generation 4096 old ≡ None → homes_fault generation 4096 new ≡ None
  pub shown : (n : ℕ) → is_marked marks n ≡ true → IsTrue (yields generation generation llsn (kept_side store n old)) → page_in_force generation n new ≡ renewed llsn pages n
  pub others : (n : ℕ) (side : Side) → is_marked marks n ≡ false → page_side n side new ≡ page_side n side old
