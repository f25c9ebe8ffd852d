-- What is said so far with the lines from here on says what all say.
use Rattle.std.proofs.Common.{◌≡◌, ◌+◌, map, drop}
use Rattle.mp_script.specs.Words.{kept_from}
use Rattle.mp_script.specs.Entries.{nothing_said}
use Rattle.mp_script.specs.Faults.{said_below}
use Rattle.mp_script.specs.Drafts.{said_in, IsTallied}
use Rattle.mp_script.proofs.reading.read_below.Given as goal

abbrev pub invariant-loop-i : goal.invariant-loop-i
invariant-loop-i l = record {
  rest : said_below (said_in l.draft) (kept_from (l.above + l.i + 2) (map (λ x. x.now) (drop l.i l.lines))) ≡ said_below (nothing_said l.primaries) (kept_from (l.above + 2) (map (λ x. x.now) l.lines));
  tallied : IsTallied l.draft;
}
