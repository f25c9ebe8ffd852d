-- The growth is of that case.
use Rattle.std.proofs.Common.{◌≡◌, ◌++◌, sym, subst}
use Rattle.mp_cells.specs.Trees.{PageMap}
use Rattle.mp_plans.specs.Growth.{growth_changes}
use Rattle.mp_tree.specs.declared.growth.Growth.{Growth}
use Rattle.mp_tree.specs.Planning.{shape_of, HasPages}
use Rattle.mp_tree.proofs.changes.put_growth.Goals as goal

pub returns-in-Inner-clause-plan : goal.returns-in-Inner-clause-plan
returns-in-Inner-clause-plan c = subst (λ (growth : Growth). (given : PageMap) → given c.args.leaf.now.number ≡ c.args.leaf.now.page → HasPages given growth → c.put_with_parent.new.plan ≡ c.args.plan.now ++ growth_changes (shape_of growth) c.args.leaf.now.number given c.args.new.now.first c.args.new.now.second c.args.new.now.third) (sym c.in-Inner.is) c.put_with_parent.ensures.plan

pub returns-in-Higher-clause-plan : goal.returns-in-Higher-clause-plan
returns-in-Higher-clause-plan c = subst (λ (growth : Growth). (given : PageMap) → given c.args.leaf.now.number ≡ c.args.leaf.now.page → HasPages given growth → c.put_with_root.new.plan ≡ c.args.plan.now ++ growth_changes (shape_of growth) c.args.leaf.now.number given c.args.new.now.first c.args.new.now.second c.args.new.now.third) (sym c.in-Higher.is) c.put_with_root.ensures.plan
