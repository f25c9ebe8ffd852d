-- The kept lines from here on are all: those before are skipped.
use Rattle.std.proofs.Common.{◌≡◌, ◌+◌, map, drop}
use Rattle.mp_script.specs.Words.{kept_from}
use Rattle.mp_script.proofs.reading.read_script.Given as goal

abbrev pub invariant-loop-i : goal.invariant-loop-i
invariant-loop-i l = kept_from (l.i + 1) (map (λ x. x.now) (drop l.i l.lines)) ≡ kept_from 1 (map (λ x. x.now) l.lines)
