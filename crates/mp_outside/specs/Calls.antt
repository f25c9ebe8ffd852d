-- Calls that are counted, some of which are to fail.
use Rattle.std.specs.Prelude.{ℕ, ◌==◌, ◌||◌, nat_lt, Bool, false, List, length, Contains, Result, Ok, Err}
use Rattle.mp_outside.specs.Faults.{one_more}

-- the numbers, from 1, of the calls that are to fail; how many calls were made; how many faults there were
pub record Calls : Type 0 where
  pub fail : List ℕ
  pub made : ℕ
  pub faults : ℕ

-- no call was made yet
abbrev pub no_calls : List ℕ → Calls
no_calls fail = record { fail = fail; made = 0; faults = 0 }

-- the number of the next call stands among those that are to fail
abbrev pub NextFails : Calls → Type 0
NextFails calls = Contains calls.fail (one_more calls.made)

-- after one more call that was no fault
abbrev pub passed : Calls → Calls
passed calls = record { fail = calls.fail; made = one_more calls.made; faults = calls.faults }

-- after one more call that was a fault
abbrev pub faulted : Calls → Calls
faulted calls = record { fail = calls.fail; made = one_more calls.made; faults = one_more calls.faults }

-- after one more call with this result
abbrev pub next_calls : {T E : Type 0} → Result T E → Calls → Calls
next_calls (Ok done) calls = passed calls
next_calls (Err e) calls = faulted calls

-- a write didn't fail, and took some of its piece where that isn't empty
abbrev pub took_some : {E : Type 0} → Result ℕ E → List ℕ → Bool
took_some (Ok count) piece = nat_lt 0 count || (length piece == 0)
took_some (Err e) piece = false
