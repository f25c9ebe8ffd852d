-- Checks made in order, each of which finds the place of a fault or none.
use Rattle.std.specs.Prelude.{ℕ, ◌+◌, ◌==◌, if◌then◌else◌, Bool, true, false, List, [], ◌∷◌, Option, Some, None}

-- a fault at a place, unless a test holds
abbrev pub unless : Bool → ℕ → Option ℕ
unless true place = None
unless false place = Some place

-- what a check finds that is made only where a test holds
abbrev pub only_if : Bool → Option ℕ → Option ℕ
only_if true check = check
only_if false check = None

-- what the first check that finds a fault finds
abbrev pub first_of : List (Option ℕ) → Option ℕ
first_of [] = None
first_of (None ∷ checks) = first_of checks
first_of (Some place ∷ checks) = Some place

-- the place of the first byte, of bytes that lie from a place on, that isn't the wanted one
abbrev pub fixed_fault : ℕ → List ℕ → List ℕ → Option ℕ
fixed_fault place [] bytes = None
fixed_fault place (wanted ∷ rest) [] = Some place
fixed_fault place (wanted ∷ rest) (byte ∷ bytes) = if byte == wanted then fixed_fault (place + 1) rest bytes else Some place
