-- The page is clear, or is passed.
use Rattle.std.proofs.Common.{◌≡◌, ℕ, ◌-◌, List, length, sym, ap, ◌∙◌, arith}
use Rattle.mp_tree.specs.Planning.{clear_from}
use Rattle.mp_tree.proofs.ClearPages.{clear_none, clear_passed, clear_here, not_set, is_set}
use Rattle.mp_tree.proofs.clear.count_clear.Goals.{then-not-taken, else-not-taken}
use Rattle.mp_tree.proofs.clear.count_clear.Goals as goal

pub loop-page-preserved : goal.loop-page-preserved
loop-page-preserved c =
    let bits = c.args.meta.now.bits in
    let n = c.loop-page.page in
    elim c.if-not-taken.branch [
      | then-not-taken w ↦
          let step = clear_here n bits (omega arith) (not_set bits n (sym c.taken.ensures ∙ w.if-not-taken.true)) in
          rw w.count-is (record { rest = omega (arith, c.loop-page.invariant.rest, ap (λ (xs : List ℕ). length xs) step); few = omega (arith, c.loop-page.invariant.few) })
      | else-not-taken w ↦
          let step = clear_passed n bits (omega arith) (is_set bits n (sym c.taken.ensures ∙ w.if-not-taken.false)) in
          rw w.count-is (record { rest = omega (arith, c.loop-page.invariant.rest, ap (λ (xs : List ℕ). length xs) step); few = omega (arith, c.loop-page.invariant.few) })
    ]

pub returns : goal.returns
returns c =
    let bits = c.args.meta.now.bits in
    let end : c.loop-page.page ≡ 4096 = omega arith in
    let none : 4096 - c.loop-page.page ≡ 0 = omega arith in
    omega (arith, c.loop-page.invariant.rest, ap (λ (k : ℕ). length (clear_from k c.loop-page.page bits)) none, ap (λ (xs : List ℕ). length xs) (clear_none c.loop-page.page bits))
