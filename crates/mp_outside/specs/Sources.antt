-- What reading does to the bytes that a source has left, where it tells them.
use Rattle.std.specs.Prelude.{◌≡◌, ℕ, ◌≤◌, List, length, take, drop, Option, Some, None, ⊤}
use Rattle.std.specs.Io.KnownBytes.{Consumes}
use Rattle.mp_outside.specs.Faults.{Rose}
use Rattle.mp_outside.specs.declared.errors.ReadRefusal.{ReadRefusal}
use Rattle.mp_outside.specs.declared.errors.ReadRefusal.TheVariants.{Failed, Memory}

-- these bytes are the first `most` of what was left, or all where there were fewer; the others are left
abbrev pub ReadsUpTo : ℕ → Option (List ℕ) → Option (List ℕ) → List ℕ → Type 0
ReadsUpTo most None new bytes = ⊤
ReadsUpTo most (Some input) None bytes = ⊥
ReadsUpTo most (Some input) (Some rest) bytes = (bytes ≡ take most input) × (rest ≡ drop most input)

-- at most so many bytes were taken off the front of what was left
abbrev pub TakesUpTo : ℕ → Option (List ℕ) → Option (List ℕ) → Type 0
TakesUpTo most old new = (taken : List ℕ) × (length taken ≤ most) × Consumes old new taken

-- why reading was refused: the source's count of faults rose, or there was no memory
abbrev pub ReadCause : ℕ → ℕ → ReadRefusal → Type 0
ReadCause old new Failed = Rose old new
ReadCause old new Memory = ⊤
