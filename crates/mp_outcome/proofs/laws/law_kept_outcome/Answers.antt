use Rattle.mp_verdict.proofs.StepTold.{step_mode, step_told}
use Rattle.mp_verdict.proofs.RunTold.{run_mode, run_told}
use Rattle.mp_verdict.proofs.StepRules.{step_counts}
use Rattle.mp_verdict.proofs.RunRules.{run_counts}
use Rattle.mp_outcome.proofs.KeptOutcome.{kept_closed}
use Rattle.mp_outcome.proofs.laws.law_kept_outcome.Goals as goal

pub returns-clause-told : goal.returns-clause-told
returns-clause-told c = λ script work opening o w down entries downs run count spelled f told counted valid. kept_closed script spelled work opening o w down entries downs f run told counted count valid c.law_kept_closed.ensures

pub returns-clause-step : goal.returns-clause-step
returns-clause-step c = λ script work opening o w down entries downs given transcript count spelled f merged order t valid.
    kept_closed script spelled work opening o w down entries downs f (step_mode script spelled work opening o w down entries downs f given merged order transcript t)
    (step_told script spelled work opening o w down entries downs f given merged order transcript t)
    (step_counts script spelled work opening o w down entries downs f given merged order transcript t) count valid c.law_kept_closed.ensures

pub returns-clause-run : goal.returns-clause-run
returns-clause-run c = λ script work opening o w down entries downs transcript count spelled f t valid.
    kept_closed script spelled work opening o w down entries downs f (run_mode script spelled work opening o w down entries downs f transcript t)
    (run_told script spelled work opening o w down entries downs f transcript t)
    (run_counts script spelled work opening o w down entries downs f transcript t) count valid c.law_kept_closed.ensures
