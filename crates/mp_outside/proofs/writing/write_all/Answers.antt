-- After a write, the first bytes written are those before and those that it took.
use Rattle.std.proofs.Common.{ℕ, take, drop, length-take, length-drop, take-add, arith}
use Rattle.std.proofs.lemmas.List.{take_rest}
use Rattle.std.proofs.KnownBytes.{Appends-trans}
use Rattle.mp_outside.proofs.writing.write_all.Goals as goal

pub pieces-preserved : goal.pieces-preserved
pieces-preserved g c =
    let bytes = c.args.bytes.now in
    let at = c.pieces.written in
    let took = rw (take_rest bytes at) at c.in_ok-count.ensures.bytes in
    let both = Appends-trans _ _ _ (take at bytes) (take c.in_ok-count.count (drop at bytes)) c.pieces.invariant.added took in
    record {
      within = omega (arith, length-take {A = ℕ}, length-drop {A = ℕ}, c.in_ok-count.ensures.within);
      added = rw take-add both;
      counted = omega (arith, c.pieces.invariant.counted, c.in_ok-count.ensures.count);
    }
