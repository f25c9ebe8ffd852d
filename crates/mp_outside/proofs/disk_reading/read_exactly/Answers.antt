-- A read fills the slice further, with what the file has there.
use Rattle.std.proofs.Common.{IsTrue, ◌∙◌, rules, arith}
use Rattle.mp_outside.proofs.Filled.{filled_more}
use Rattle.mp_outside.proofs.Quiets.{Quiet-trans}
use Rattle.mp_outside.proofs.disk_reading.read_exactly.Goals as goal

pub pieces-preserved : goal.pieces-preserved
pieces-preserved g c = record {
  within = search rules;
  tells = c.in_ok-count.ensures.tells ∙ c.pieces.invariant.tells;
  quiet = Quiet-trans c.pieces.invariant.quiet c.in_ok-count.ensures.quiet;
  filled = λ tells.
      let still : IsTrue (g.D.Disk.tells c.pieces.disk) = rw (c.pieces.invariant.tells) tells in
      let given = rw (c.pieces.invariant.quiet.same) at (c.in_ok-count.ensures.gives still) in
      filled_more _ _ _ _ _ _ _ _ c.pieces.invariant.within (c.pieces.invariant.filled tells) given;
  known = c.in_ok-count.ensures.known ∙ c.pieces.invariant.known;
  counted = omega (arith, c.pieces.invariant.counted, c.in_ok-count.ensures.counts.no_fall);
}
