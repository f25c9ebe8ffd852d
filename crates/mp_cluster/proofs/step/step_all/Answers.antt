use Rattle.std.proofs.Common.{refl}
use Rattle.std.proofs.lemmas.Result.{err_from_is_err_and}
use Rattle.mp_model.specs.declared.transcripts.Mode.TheVariants.{Step}
use Rattle.mp_cluster.proofs.RunsOverDisks.{SaysOfRun, says}
use Rattle.mp_cluster.proofs.step.step_all.Given as given
use Rattle.mp_cluster.proofs.step.step_all.Goals as goal

-- all that the run says of its answer
its : (g : given.Over) (c : goal.After-or_refuse g)
    → SaysOfRun g.D.Disk c.args.script.now Step c.args.disks.now (record { store = c.open_and_line_up.new.disks.store; logs = c.step_members-told.new.disks }) c.or_refuse.result
its g c =
    says g.D.Disk c.args.script.now c.args.disks.now c.open_and_line_up.new.disks c.in_ok-base.base c.in_ok-base.members c.in_ok-base.ensures.lined_up
    (record { store = c.open_and_line_up.new.disks.store; logs = c.step_members-told.new.disks }) refl c.step_members-told.ensures.there
    Step c.step_members-told.result c.step_members-told.ensures.told c.or_refuse.result c.or_refuse.ensures.answered c.or_refuse.ensures.stopped

pub returns-in_err-base-clause-nine : goal.returns-in_err-base-clause-nine
returns-in_err-base-clause-nine g c = c.in_err-base.ensures.refused.nine

pub returns-in_err-base-clause-store : goal.returns-in_err-base-clause-store
returns-in_err-base-clause-store g c = c.in_err-base.ensures.refused.store

pub returns-in_err-base-clause-finds : goal.returns-in_err-base-clause-finds
returns-in_err-base-clause-finds g c = λ tells.
    let returned = err_from_is_err_and c.from_residual.result c.from_residual.ensures.1 in
    rw (returned.1, returned.2) (c.in_err-base.ensures.refused.finds tells)

pub returns-in_err-base-clause-untouched : goal.returns-in_err-base-clause-untouched
returns-in_err-base-clause-untouched g c =
    let returned = err_from_is_err_and c.from_residual.result c.from_residual.ensures.1 in
    rw (returned.1, returned.2) c.in_err-base.ensures.refused.leaves

pub returns-in_err-base-clause-cause : goal.returns-in_err-base-clause-cause
returns-in_err-base-clause-cause g c =
    let returned = err_from_is_err_and c.from_residual.result c.from_residual.ensures.1 in
    rw (returned.1, returned.2) c.in_err-base.ensures.refused.cause

pub returns-clause-nine : goal.returns-clause-nine
returns-clause-nine g c = (its g c).nine

pub returns-clause-store : goal.returns-clause-store
returns-clause-store g c = (its g c).store

pub returns-clause-finds : goal.returns-clause-finds
returns-clause-finds g c = (its g c).finds

pub returns-clause-untouched : goal.returns-clause-untouched
returns-clause-untouched g c = (its g c).untouched

pub returns-clause-cause : goal.returns-clause-cause
returns-clause-cause g c = (its g c).cause

pub returns-clause-legal : goal.returns-clause-legal
returns-clause-legal g c = (its g c).legal

pub returns-clause-readable : goal.returns-clause-readable
returns-clause-readable g c = (its g c).readable

pub returns-clause-mode : goal.returns-clause-mode
returns-clause-mode g c = (its g c).mode_is

pub returns-clause-downs : goal.returns-clause-downs
returns-clause-downs g c = (its g c).downs

pub returns-clause-left : goal.returns-clause-left
returns-clause-left g c = (its g c).left
