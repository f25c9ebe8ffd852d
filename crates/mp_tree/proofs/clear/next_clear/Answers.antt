-- The page is passed.
use Rattle.std.proofs.Common.{sym, ◌∙◌, arith}
use Rattle.mp_tree.proofs.ClearPages.{clear_passed, is_set}
use Rattle.mp_tree.proofs.clear.next_clear.Goals as goal

pub loop-page-preserved : goal.loop-page-preserved
loop-page-preserved c =
    let bits = c.args.meta.now.bits in
    let n = c.loop-page.page in
    record {
      least = omega (arith, c.loop-page.invariant.least);
      between = c.loop-page.invariant.between ∙ clear_passed n bits (omega arith) (is_set bits n (sym c.taken.ensures ∙ c.if-not-taken.false));
    }
