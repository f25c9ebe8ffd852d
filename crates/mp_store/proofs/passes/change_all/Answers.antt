-- Page by page.
use Rattle.std.proofs.Common.{IsTrue, refl, sym, subst, arith, ◌∙◌}
use Rattle.mp_store.proofs.passes.change_all.Goals as goal

pub loop-number-init : goal.loop-number-init
loop-number-init g c = record {
  tells = refl;
  kept = λ tells. λ file. λ all. all;
  done = λ tells. λ file. λ all. λ n. λ lt. λ marked. absurd (omega (arith, lt));
  pages = λ n. λ lt. λ marked. absurd (omega (arith, lt));
  known = omega arith;
  counted = omega arith;
}

pub loop-number-preserved : goal.loop-number-preserved
loop-number-preserved g c =
    let before = c.loop-number.invariant in
    let step = c.in_ok-change_marked.ensures in record {
      tells = step.tells ∙ before.tells;
      kept = λ tells. λ file. λ all. step.kept (subst (λ b. IsTrue b) (sym before.tells) tells) file (before.kept tells file all);
      done = λ tells. λ file. λ all. step.done (subst (λ b. IsTrue b) (sym before.tells) tells) file (before.kept tells file all) (before.done tells file all);
      pages = step.pages before.pages;
      known = omega (arith, before.known, step.known);
      counted = omega (arith, before.counted, step.count);
    }

pub returns-in_err-change_marked-clause-kept : goal.returns-in_err-change_marked-clause-kept
returns-in_err-change_marked-clause-kept g c = λ tells. λ file. λ all.
    let before = c.loop-number.invariant in
    c.in_err-change_marked.ensures.kept (subst (λ b. IsTrue b) (sym before.tells) tells) file (before.kept tells file all)
