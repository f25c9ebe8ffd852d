-- By computing, and case by case.
use Rattle.mp_histories.proofs.SmallCases.{not_orderly, over_earlier, not_over_open, not_over_later, not_two_open, takes_committed, not_above_view, never_back, run_on_top, no_run_below, one_open, reads_committed, not_read_early}
use Rattle.mp_histories.proofs.examples.law_version_examples.Goals as goal
use Rattle.std.proofs.Common.{sym}
use mathlib.Core.Bool.{false≢true}

pub returns-clause-apart : goal.returns-clause-apart
returns-clause-apart c = not_orderly

pub returns-clause-over_open : goal.returns-clause-over_open
returns-clause-over_open c = not_over_open

pub returns-clause-over_later : goal.returns-clause-over_later
returns-clause-over_later c = not_over_later

pub returns-clause-two_open : goal.returns-clause-two_open
returns-clause-two_open c = not_two_open

pub returns-clause-takes : goal.returns-clause-takes
returns-clause-takes c = takes_committed

pub returns-clause-too_early : goal.returns-clause-too_early
returns-clause-too_early c = not_above_view

pub returns-clause-fits : goal.returns-clause-fits
returns-clause-fits c = over_earlier

pub returns-clause-never_back : goal.returns-clause-never_back
returns-clause-never_back c = never_back

pub returns-clause-back : goal.returns-clause-back
returns-clause-back c = λ never. false≢true (sym never.0)

pub returns-clause-run : goal.returns-clause-run
returns-clause-run c = run_on_top

pub returns-clause-no_run : goal.returns-clause-no_run
returns-clause-no_run c = no_run_below

pub returns-clause-one_open : goal.returns-clause-one_open
returns-clause-one_open c = one_open

pub returns-clause-read : goal.returns-clause-read
returns-clause-read c = reads_committed

pub returns-clause-read_early : goal.returns-clause-read_early
returns-clause-read_early c = not_read_early
