-- By computing, and by the small put and its restore.
use Rattle.std.proofs.Common.{◌<◌, [], ◌∷◌, refl, arith, ◌≡◌, ℕ}
use Rattle.mp_histories.specs.SmallHistory.{small_restore}
use Rattle.mp_histories.proofs.SmallRestores.{small_runs, wrong_runs}
use Rattle.mp_histories.proofs.SmallCases.{no_link, no_lone_restore, covers_none, not_covers_open}
use Rattle.mp_histories.proofs.examples.law_history_examples.Goals as goal
use mathlib.Core.Bool.{false≢true}

pub returns-clause-runs : goal.returns-clause-runs
returns-clause-runs c = small_runs

pub returns-clause-wrong_runs : goal.returns-clause-wrong_runs
returns-clause-wrong_runs c = wrong_runs

pub returns-clause-chain : goal.returns-clause-chain
returns-clause-chain c = (record { link = record { page = 2; index = 0 }; linked = refl; there = refl }, refl)

pub returns-clause-no_chain : goal.returns-clause-no_chain
returns-clause-no_chain c = no_link

pub returns-clause-cut : goal.returns-clause-cut
returns-clause-cut c = (record { later = small_restore ∷ []; earlier = []; split_is = refl; same = λ n e. refl }, tt)

pub returns-clause-no_cut : goal.returns-clause-no_cut
returns-clause-no_cut c = no_lone_restore

pub returns-clause-no_rise : goal.returns-clause-no_rise
returns-clause-no_rise c = λ rise. let low : 6 < 5 = (rise.0 1 refl).0 in omega (arith, low)

pub returns-clause-closed : goal.returns-clause-closed
returns-clause-closed c = (λ kept n touched. absurd (false≢true kept), ((λ kept n touched. tt), tt))

pub returns-clause-not_closed : goal.returns-clause-not_closed
returns-clause-not_closed c = λ closed. false≢true (closed.0 refl 1 refl).0

pub returns-clause-covers : goal.returns-clause-covers
returns-clause-covers c = covers_none

pub returns-clause-covers_open : goal.returns-clause-covers_open
returns-clause-covers_open c = not_covers_open

pub returns-clause-prevs : goal.returns-clause-prevs
returns-clause-prevs c = ((refl, tt), ((refl, (refl, (refl, (refl, tt)))), tt))

pub returns-clause-no_prevs : goal.returns-clause-no_prevs
returns-clause-no_prevs c = λ prevs. let both : ◌≡◌ {A = ℕ} 5 0 = prevs.0.0 in omega (arith, both)
