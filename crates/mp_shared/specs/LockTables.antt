-- What a node notes of the locks of its parts.
use Rattle.std.specs.Prelude.{◌≡◌, ℕ, ◌/◌, ◌<◌, ◌≤◌, Bool, false, List, slice_get, slice_index_or, Option, None, Some}
use Rattle.mp_core_pages.specs.declared.opening.TheConstants.{PAGES}
use Rattle.mp_core_pages.specs.declared.page_lock.Held.{Held}
use Rattle.mp_core_pages.specs.declared.page_lock.Held.TheVariants.{No}
use Rattle.mp_core_pages.specs.PageParts.{held_at}
use Rattle.mp_core.specs.declared.part.CorePart.{CorePart}

-- the table is there, and says of each page that its lock is held so
abbrev pub NotesLocks : Option (List Held) → (ℕ → Held) → Type 0
NotesLocks None held = ⊥
NotesLocks (Some table) held = (k : ℕ) → k < PAGES → slice_get table k ≡ Some (held k)

-- it says so of a part that is held, and there is none for another part
abbrev pub NotesPart : Option (List Held) → Option CorePart → Type 0
NotesPart table (Some p) = NotesLocks table (held_at p.pages.locks)
NotesPart table None = table ≡ None

-- the first page from one on, and below an end, whose lock is held so; or that there is none
abbrev pub IsFirstHeld : (ℕ → Held) → ℕ → ℕ → Option ℕ → Type 0
IsFirstHeld held from end (Some k) = (from ≤ k) × (k < end) × (¬ (held k ≡ No)) × ((j : ℕ) → from ≤ j → j < k → held j ≡ No)
IsFirstHeld held from end None = (j : ℕ) → from ≤ j → j < end → held j ≡ No

-- where the flag of a group of 64 pages isn't set, no lock of them is held
abbrev pub FlagsHeld : List Held → List Bool → Type 0
FlagsHeld table flags = (k : ℕ) → k < PAGES → slice_index_or flags (k / 64) false ≡ false → slice_index_or table k No ≡ No
