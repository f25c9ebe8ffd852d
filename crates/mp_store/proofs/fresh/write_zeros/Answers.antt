-- Zeros behind zeros.
use Rattle.std.proofs.Common.{◌≡◌, ◌+◌, ◌*◌, IsTrue, refl, ap, ◌∙◌, arith}
use Rattle.std.proofs.lemmas.List.{nil_from_length}
use Rattle.mp_store.specs.FreshStores.{zeros}
use Rattle.mp_store.proofs.FreshFiles.{zeros_more}
use Rattle.mp_store.proofs.fresh.write_zeros.Goals as goal

pub loop-part-init : goal.loop-part-init
unfolding zeros
loop-part-init g c = record { tells = refl; blank = λ tells. λ empty. nil_from_length (g.D.Disk.seen c.args.disk.now) empty; counted = omega arith; exact = omega arith; calls = omega arith }

pub loop-part-preserved : goal.loop-part-preserved
loop-part-preserved g c =
    let before = c.loop-part.invariant in
    let step = c.in_ok-write_at.ensures in record {
      tells = step.tells ∙ before.tells;
      blank = λ tells. λ empty. (let still : IsTrue (g.D.Disk.tells c.loop-part.disk) = rw (before.tells) tells in
          let n = c.loop-part.part * 4224 in
          let next : n + 4224 ≡ (c.loop-part.part + 1) * 4224 = omega arith in
          step.written still (omega arith) ∙ zeros_more n 4224 _ _ refl (before.blank tells empty) ∙ ap zeros next);
      counted = omega (arith, before.counted, step.counts.no_fall);
      exact = omega (arith, before.exact, step.calls);
      calls = omega (arith, before.calls, step.calls);
    }
