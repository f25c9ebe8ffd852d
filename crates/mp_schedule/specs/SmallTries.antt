-- Small tries, for examples.
use Rattle.std.specs.Prelude.{ℕ}
use Rattle.mp_schedule.specs.declared.schedule.Try.{Try}
use Rattle.mp_schedule.specs.declared.schedule.TryState.TheVariants.{Waiting, Over}

-- a try of a session that was found waiting
abbrev pub waiting_try : ℕ → Try
waiting_try session = record { session = session; state = Waiting }

-- a try of a session that is over
abbrev pub over_try : ℕ → Try
over_try session = record { session = session; state = Over }
