-- What is given is the front of what the file has from the place on.
use Rattle.std.proofs.Common.{◌≡◌, ◌-◌, length, take, drop, min, ◌∙◌, arith}
use Rattle.std.proofs.lemmas.Slice.{between_is}
use Rattle.mp_files.proofs.Ahead.{window_rest, given_bytes}
use Rattle.mp_files.proofs.window_disk.WindowDisk.give.Goals as goal

pub returns-clause-gives : goal.returns-clause-gives
returns-clause-gives g c = λ tells.
    let own = c.args.self.now in
    let place = c.args.place in
    let at = place - own.place in
    let rest = own.filled - at in
    let window = own.window.items in
    let file = g.D.Disk.seen own.disk in
    let left : take rest (drop at window) ≡ take rest (drop place file) = between_is window at own.filled ∙ window_rest own.place place own.filled window file c.requires.low (own.holds tells) in
    let count : c.min-count.result ≡ min (length c.args.into.now) (length (take rest (drop place file))) = rw (c.deref.ensures.value, left) at c.min-count.ensures in
    let copied : c.copy_from_slice.new.self ≡ take c.min-count.result (take rest (drop place file)) = rw (c.deref.ensures.value, left) at c.copy_from_slice.ensures.after in
    given_bytes c.min-count.result rest place file c.args.into.now c.copy_from_slice.new.self (omega (arith, count)) copied
