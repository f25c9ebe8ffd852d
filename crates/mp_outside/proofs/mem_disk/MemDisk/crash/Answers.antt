-- What is left is synced.
use Rattle.mp_outside.proofs.Images.{settled_only}
use Rattle.mp_outside.proofs.mem_disk.MemDisk.crash.Goals as goal

pub returns-clause-only : goal.returns-clause-only
returns-clause-only c = rw (c.settle.ensures) (settled_only _ _ _)
