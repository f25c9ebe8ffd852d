use Rattle.std.proofs.Common.{List, sym, subst}
use Rattle.mp_cells.specs.declared.records.Mtr.{Mtr}
use Rattle.mp_recover.specs.KeptCommits.{kept_commits}
use Rattle.mp_recover.specs.Closed.{KeptAreClosed}
use Rattle.mp_verdict.proofs.StepTold.{step_mode, step_told}
use Rattle.mp_verdict.proofs.RunTold.{run_mode, run_told}
use Rattle.mp_verdict.proofs.StepRules.{step_counts}
use Rattle.mp_verdict.proofs.RunRules.{run_counts}
use Rattle.mp_cuts.proofs.LeftImages.{count, valid, logged_is}
use Rattle.mp_outcome.proofs.KeptOutcome.{kept_closed}
use Rattle.mp_outcome.proofs.laws.law_left_outcome.Goals as goal

pub returns-clause-step : goal.returns-clause-step
returns-clause-step c = λ script work opening o w down entries downs given transcript opened image spelled f merged order t over left.
    let run = step_mode script spelled work opening o w down entries downs f given merged order transcript t in
    subst (λ (mtrs : List Mtr). KeptAreClosed run (kept_commits mtrs)) (sym (logged_is o f.fit w f.facts opened over image left))
    (kept_closed script spelled work opening o w down entries downs f run
    (step_told script spelled work opening o w down entries downs f given merged order transcript t)
    (step_counts script spelled work opening o w down entries downs f given merged order transcript t)
    (count o f.fit w f.facts opened over image left) (valid o f.fit w f.facts opened over image left) c.law_kept_closed.ensures)

pub returns-clause-run : goal.returns-clause-run
returns-clause-run c = λ script work opening o w down entries downs transcript opened image spelled f t over left.
    let run = run_mode script spelled work opening o w down entries downs f transcript t in
    subst (λ (mtrs : List Mtr). KeptAreClosed run (kept_commits mtrs)) (sym (logged_is o f.fit w f.facts opened over image left))
    (kept_closed script spelled work opening o w down entries downs f run
    (run_told script spelled work opening o w down entries downs f transcript t)
    (run_counts script spelled work opening o w down entries downs f transcript t)
    (count o f.fit w f.facts opened over image left) (valid o f.fit w f.facts opened over image left) c.law_kept_closed.ensures)
