use Rattle.std.proofs.Common.{◌≡◌, ◌++◌, drop}
use Rattle.mp_primary.proofs.primary.places_of.Given as goal

abbrev pub invariant-loop-session : goal.invariant-loop-session
invariant-loop-session l = l.places.items ++ drop l.session-index l.sessions ≡ l.sessions
