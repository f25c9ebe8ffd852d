-- Leaf by leaf.
use Rattle.std.proofs.Common.{refl, sym, subst, ◌∙◌, arith}
use Rattle.mp_cells.specs.PageMaps.{page_at}
use Rattle.mp_cells.specs.Trees.{IsTree, tree_rows}
use Rattle.mp_recover.specs.PresentRows.{PushesLeaf}
use Rattle.mp_recover.proofs.RowsBetween.{tree_none, tree_next, tree_all}
use Rattle.mp_recover.proofs.rows.present_rows.Goals as goal

pub loop-leaf-init : goal.loop-leaf-init
loop-leaf-init c = record {
  same = refl;
  rows = λ height tree. (omega arith, c.new-rows.ensures ∙ tree_none (page_at c.args.all.now.pages.items) height tree);
}

pub returns-then-low-clause-rows : goal.returns-then-low-clause-rows
returns-then-low-clause-rows c = λ height tree.
    let so_far = c.loop-leaf.invariant.rows height tree in
    tree_all (page_at c.args.all.now.pages.items) height c.loop-leaf.low c.loop-leaf.rows.items tree so_far.0 (omega (arith, c.if-low.true)) so_far.1

pub loop-leaf-preserved : goal.loop-leaf-preserved
loop-leaf-preserved c = record {
  same = c.push_leaf.ensures.same ∙ c.loop-leaf.invariant.same;
  rows = λ height tree.
      let so_far = c.loop-leaf.invariant.rows height tree in
      let same = c.loop-leaf.invariant.same in
      let more = subst (λ all. PushesLeaf (tree_rows (page_at all.pages.items) height) c.loop-leaf.low c.in_ok-next.next c.loop-leaf.rows.items c.push_leaf.new.rows.items) same
      (c.in_ok-next.ensures.pushed height (subst (λ all. IsTree (page_at all.pages.items) height) (sym same) tree)) in
      (more.most, tree_next (page_at c.args.all.now.pages.items) height c.loop-leaf.low c.in_ok-next.next c.loop-leaf.rows.items c.push_leaf.new.rows.items tree so_far.1 more);
}
