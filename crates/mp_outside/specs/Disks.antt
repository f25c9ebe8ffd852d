-- What the calls of a disk do to its file, and what a crash may make of it. A file is the list of its bytes; an image is what a crash now may leave.
use Rattle.std.specs.Prelude.{◌≡◌, ℕ, ◌+◌, ◌-◌, ◌≤◌, min, List, ◌++◌, length, take, drop, replicate, Result, OnErr}
use Rattle.mp_outside.specs.Faults.{Rose}

-- what a read gave from this place on: these bytes of the file, in the front of what was passed
pub record GivesBytes (file : List ℕ) (place count : ℕ) (old new : List ℕ) : Type 0 where
  pub within : count ≤ length (drop place file)
  pub front : new ≡ take count (drop place file) ++ drop count old

-- the file after a write: zeros from its end to the place, these bytes there, all else as it was
abbrev pub written : ℕ → List ℕ → List ℕ → List ℕ
written place bytes file =
    take place file ++ (replicate (place - length file) 0 ++ (bytes ++ drop (place + length bytes) file))

-- where a write at this place begins to change a file: at its end, where the place lies past it
abbrev pub first_changed : ℕ → List ℕ → ℕ
first_changed place file = min place (length file)

-- from here to there any bytes, up to any length on the way; all else as it was
pub record Torn (from to : ℕ) (old new : List ℕ) : Type 0 where
  pub before : take (min from (length old)) new ≡ take from old
  pub after : drop to new ≡ drop to old
  pub no_shorter : length old ≤ length new

-- the front of what it was, of this length at least
pub record Cut (size : ℕ) (old new : List ℕ) : Type 0 where
  pub no_shorter : min size (length old) ≤ length new
  pub front : new ≡ take (length new) old

-- each image now is what a step makes of an image before
abbrev pub Follows : (List ℕ → List ℕ → Type 0) → (List ℕ → Type 0) → (List ℕ → Type 0) → Type 0
Follows step old new = (c : List ℕ) → new c → (d : List ℕ) × old d × step d c

-- each image now was one before
abbrev pub NoNew : (List ℕ → Type 0) → (List ℕ → Type 0) → Type 0
NoNew old new = (c : List ℕ) → new c → old c

-- a crash leaves this file and nothing else
abbrev pub Only : List ℕ → (List ℕ → Type 0) → Type 0
Only file image = (c : List ℕ) → image c → c ≡ file

-- a call that only looks, or that makes safe what is there: a read gives what it gave, and no image is new
pub record Quiet (seen : List ℕ) (image : List ℕ → Type 0) (seen_after : List ℕ) (image_after : List ℕ → Type 0) : Type 0 where
  pub same : seen_after ≡ seen
  pub no_new : NoNew image image_after

-- a call's faults are counted: the count never falls, and it rises where the call fails
pub record Counts {T E : Type 0} (result : Result T E) (old new : ℕ) : Type 0 where
  pub no_fall : old ≤ new
  pub cause : OnErr result (Rose old new)
