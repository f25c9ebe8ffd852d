-- The parent is the page above the leaf, and shows how the tree grows.
use Rattle.std.proofs.Common.{◌≡◌, false, sym, ap, ◌∙◌}
use Rattle.mp_plans.specs.Growth.{has_place}
use Rattle.mp_tree.specs.declared.search.Path.{Path}
use Rattle.mp_tree.specs.Searches.{leaf_for}
use Rattle.mp_tree.specs.Planning.{shape_of}
use Rattle.mp_tree.proofs.GrowthShapes.{above_shape, root_shape}
use Rattle.mp_tree.proofs.growth.growth_for.Goals as goal

pub returns-in-Some-clause-growth : goal.returns-in-Some-clause-growth
returns-in-Some-clause-growth c = λ pages height tree is.
    let none : has_place c.args.key (leaf_for pages height c.args.key) ≡ false = ap (λ (p : Path). has_place c.args.key p.leaf.page) (sym is) ∙ sym c.has_place.ensures ∙ c.if-has_place.false in
    ap shape_of c.growth_under.ensures ∙ above_shape pages height c.args.key c.in-Some.parent tree (sym c.in-Some.is ∙ ap (λ (p : Path). p.parent) is) none

pub returns-in-None-clause-growth : goal.returns-in-None-clause-growth
returns-in-None-clause-growth c = λ pages height tree is.
    let none : has_place c.args.key (leaf_for pages height c.args.key) ≡ false = ap (λ (p : Path). has_place c.args.key p.leaf.page) (sym is) ∙ sym c.has_place.ensures ∙ c.if-has_place.false in
    root_shape pages height c.args.key (sym c.in-None.is ∙ ap (λ (p : Path). p.parent) is) none
