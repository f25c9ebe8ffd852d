-- Each image is one from before, torn where the write went.
use Rattle.std.proofs.Common.{ℕ, arith, length-take}
use Rattle.mp_outside.proofs.Images.{call_tears, write_follows, written_tears}
use Rattle.mp_outside.proofs.mem_disk.MemDiskDisk.write_at.Goals as goal

pub returns-in_err-make-clause-images : goal.returns-in_err-make-clause-images
returns-in_err-make-clause-images c = rw (← c.self.view_is) (call_tears _ c.make.new.self _ _)

pub returns-then-place-room-clause-images : goal.returns-then-place-room-clause-images
returns-then-place-room-clause-images c = rw (← c.self.view_is) (call_tears _ c.count_fault.new.self _ _)

pub returns-clause-images : goal.returns-clause-images
returns-clause-images c =
    rw (← c.self.view_is, c.put.ensures, c.begin.ensures)
    (write_follows _ c.args.place c.args.bytes.now c.make.new.self (omega (arith, length-take {A = ℕ}, c.self.invariant.0.within, c.self.invariant.0.marks_room)) (omega (arith, c.self.invariant.1.low, c.self.invariant.1.high)) (omega (arith, length-take {A = ℕ}, c.self.invariant.1.high)))

pub returns-clause-in_part : goal.returns-clause-in_part
returns-clause-in_part c =
    rw (← c.self.view_is, c.put.ensures, c.begin.ensures) (written_tears _ c.args.bytes.now c.args.place)
