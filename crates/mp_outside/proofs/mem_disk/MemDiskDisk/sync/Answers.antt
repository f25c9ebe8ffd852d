-- All is synced.
use Rattle.mp_outside.proofs.Images.{settled_only}
use Rattle.mp_outside.proofs.mem_disk.MemDiskDisk.sync.Goals as goal

pub returns-clause-safe : goal.returns-clause-safe
returns-clause-safe c = rw (← c.self.view_is, c.settle.ensures) (settled_only _ _ c.make.new.self)
