-- What a call of the program reads of its source.
use Rattle.std.specs.Prelude.{◌≡◌, ℕ, List, [], take, Option, Some, None}
use Rattle.mp_outside.specs.declared.sources.Source as sources

-- what was done with the source: what it had left before and after, where it tells, and its counts of faults
pub record SourceUse : Type 0 where
  pub left : Option (List ℕ)
  pub still_left : Option (List ℕ)
  pub faults : ℕ
  pub faults_after : ℕ

abbrev pub read_of : {S : Type 0} → sources.Ghosts S → S → S → SourceUse
read_of s old new = record { left = s.left old; still_left = s.left new; faults = s.faults old; faults_after = s.faults new }

-- these bytes are all that was left, and nothing is left behind them
abbrev pub ReadToItsEnd : Option (List ℕ) → Option (List ℕ) → List ℕ → Type 0
ReadToItsEnd None still_left bytes = Unit {0}
ReadToItsEnd (Some input) still_left bytes = (bytes ≡ input) × (still_left ≡ Some [])

-- these bytes are all that was left, or its first 1,048,577, where it told
abbrev pub ReadUpToTheBound : Option (List ℕ) → List ℕ → Type 0
ReadUpToTheBound None bytes = Unit {0}
ReadUpToTheBound (Some input) bytes = bytes ≡ take 1048577 input
