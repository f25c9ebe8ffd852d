-- Each image is one from before, cut or not.
use Rattle.std.proofs.Common.{sym, arith}
use Rattle.std.proofs.lemmas.List.{take-take}
use Rattle.mp_outside.proofs.Images.{call_cuts, cut_follows}
use Rattle.mp_outside.proofs.mem_disk.MemDiskDisk.cut.Goals as goal

pub returns-in_err-make-clause-images : goal.returns-in_err-make-clause-images
returns-in_err-make-clause-images c = rw (← c.self.view_is) (call_cuts _ c.make.new.self c.args.size)

pub returns-then-size-self-clause-images : goal.returns-then-size-self-clause-images
returns-then-size-self-clause-images c =
    rw (← c.self.view_is) (cut_follows _ c.args.size _ _ c.make.new.self (omega (arith, c.self.invariant.1.low, c.self.invariant.1.high)) (sym (take-take c.args.size c.self.inside.size c.self.inside.bytes.items (omega arith))) (omega arith))

pub returns-else-size-self-clause-images : goal.returns-else-size-self-clause-images
returns-else-size-self-clause-images c = rw (← c.self.view_is) (call_cuts _ c.make.new.self c.args.size)
