-- Where no mtr was above the base, the logs alone are emptied.
use Rattle.std.proofs.Common.{refl}
use Rattle.mp_files.proofs.Nines.{StillDisk-refl}
use Rattle.mp_recover.proofs.Checkpointing.{still_logs, all_empty}
use Rattle.mp_recover.proofs.SavedNine.{kept_saved}
use Rattle.mp_recover.proofs.recovering.save.Goals as goal

pub returns-in-Ok-clause-nine : goal.returns-in-Ok-clause-nine
returns-in-Ok-clause-nine g c =
    still_logs g.D.Disk c.args.disks.now c.args.disks.now (record c.args.disks.now { logs = c.reset_logs.new.logs }) (StillDisk-refl g.D.Disk c.args.disks.now.store) refl refl c.in-Ok.ensures.count c.in-Ok.ensures.left

pub returns-in-Err-clause-nine : goal.returns-in-Err-clause-nine
returns-in-Err-clause-nine g c =
    still_logs g.D.Disk c.args.disks.now c.args.disks.now (record c.args.disks.now { logs = c.reset_logs.new.logs }) (StillDisk-refl g.D.Disk c.args.disks.now.store) refl refl c.in-Err.ensures.count c.in-Err.ensures.left

pub returns-in-Ok-clause-saved : goal.returns-in-Ok-clause-saved
returns-in-Ok-clause-saved g c = λ tell.
    kept_saved g.D.Disk c.args.loaded.now c.args.disks.now (record c.args.disks.now { logs = c.reset_logs.new.logs }) c.if-loaded.true refl (λ image there.
    all_empty g.D.Disk c.args.disks.now.logs.items c.reset_logs.new.logs.items image c.requires.eight c.in-Ok.ensures.count tell.logs c.in-Ok.ensures.emptied there.logs)
