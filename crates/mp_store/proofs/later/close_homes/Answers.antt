-- Home by home.
use Rattle.std.proofs.Common.{IsTrue, refl, arith, ◌∙◌}
use Rattle.mp_store.proofs.later.close_homes.Goals as goal

pub loop-number-init : goal.loop-number-init
loop-number-init g c = record { tells = refl; kept = λ tells. λ file. λ room. λ all. all; closed = λ tells. λ m. λ s. λ lt. absurd (omega arith); known = omega arith; counted = omega arith }

pub loop-number-preserved : goal.loop-number-preserved
loop-number-preserved g c =
    let before = c.loop-number.invariant in
    let step = c.in_ok-close_home.ensures in record {
      tells = step.tells ∙ before.tells;
      kept = λ tells. λ file. λ room. λ all. (let still : IsTrue (g.D.Disk.tells c.loop-number.disk) = rw (before.tells) tells in step.kept still file room (before.kept tells file room all));
      closed = λ tells. (let still : IsTrue (g.D.Disk.tells c.loop-number.disk) = rw (before.tells) tells in step.closed still (before.closed tells));
      known = omega (arith, before.known, step.known);
      counted = omega (arith, before.counted, step.count);
    }

pub returns-in_err-close_home-clause-kept : goal.returns-in_err-close_home-clause-kept
returns-in_err-close_home-clause-kept g c = λ tells. λ file. λ room. λ all.
    let before = c.loop-number.invariant in
    let still : IsTrue (g.D.Disk.tells c.loop-number.disk) = rw (before.tells) tells in
    c.in_err-close_home.ensures.kept still file room (before.kept tells file room all)
