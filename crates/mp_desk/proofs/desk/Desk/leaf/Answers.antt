use Rattle.std.proofs.Common.{◌≡◌, ℕ, ◌+◌, refl, sym, ap, subst, ◌∙◌, arith}
use Rattle.mp_cells.specs.declared.kinds.Kind.TheVariants.{Leaf}
use Rattle.mp_cells.specs.PageView.{PageView, IsPage}
use Rattle.mp_tree.specs.declared.search.Look.TheVariants as looks
use Rattle.mp_tree.specs.Searches.{Looks}
use Rattle.mp_desk.proofs.Moving.{looks_go}
use Rattle.mp_desk.proofs.AtDesk.{brings_none, brings_both, brings_upto, wait_later}
use Rattle.mp_desk.proofs.Walking.{Walked, shown_tree, walk_begins, walk_kept, walk_below, walk_ends, walk_leaf, walk_not_lost, walk_not_deep}
use Rattle.mp_desk.proofs.desk.Desk.leaf.Goals as goal

pub loop-level-init : goal.loop-level-init
loop-level-init g c = record {
  desk = c.requires.desk;
  brings = brings_none c.args.p c.args.self.now c.args.node.now;
  rest = (refl, refl);
  walked = walk_begins c.args.self.now.pool c.args.key (omega arith);
}

pub fetch-requires-clause-desk : goal.fetch-requires-clause-desk
fetch-requires-clause-desk g c = c.loop-level.invariant.desk

pub fetch-requires-clause-page : goal.fetch-requires-clause-page
fetch-requires-clause-page g c = c.loop-level.invariant.walked.range

pub fetch-requires-clause-room : goal.fetch-requires-clause-room
fetch-requires-clause-room g c = let few = c.loop-level.invariant.brings.few in let room = c.requires.room in omega (arith, few, room)

pub returns-in-Err-clause-brings : goal.returns-in-Err-clause-brings
returns-in-Err-clause-brings g c =
    brings_upto c.args.p (c.loop-level._level + 1) 3 c.args.self.now c.fetch.new.self c.args.node.now c.fetch.new.node (omega arith)
    (brings_both c.args.p c.loop-level._level 1 c.args.self.now c.loop-level.self c.fetch.new.self c.args.node.now c.loop-level.node c.fetch.new.node c.loop-level.invariant.brings c.fetch.ensures.brings)

pub returns-in-Err-clause-rest : goal.returns-in-Err-clause-rest
returns-in-Err-clause-rest g c = (c.fetch.ensures.rest.0 ∙ c.loop-level.invariant.rest.0, c.fetch.ensures.rest.1 ∙ c.loop-level.invariant.rest.1)

pub returns-in-Err-clause-cause : goal.returns-in-Err-clause-cause
returns-in-Err-clause-cause g c =
    wait_later c.args.p c.args.node.now c.loop-level.node c.fetch.new.node c.in-Err.wait (looks_go c.args.p c.args.node.now c.loop-level.node c.loop-level.invariant.brings.looked) c.in-Err.ensures.cause

pub look-requires-clause-page : goal.look-requires-clause-page
look-requires-clause-page g c = c.loop-level.invariant.walked.range

pub returns-in-Leaf-clause-brings : goal.returns-in-Leaf-clause-brings
returns-in-Leaf-clause-brings g c =
    brings_upto c.args.p (c.loop-level._level + 1) 3 c.args.self.now c.fetch.new.self c.args.node.now c.fetch.new.node (omega arith)
    (brings_both c.args.p c.loop-level._level 1 c.args.self.now c.loop-level.self c.fetch.new.self c.args.node.now c.loop-level.node c.fetch.new.node c.loop-level.invariant.brings c.fetch.ensures.brings)

pub returns-in-Leaf-clause-rest : goal.returns-in-Leaf-clause-rest
returns-in-Leaf-clause-rest g c = (c.fetch.ensures.rest.0 ∙ c.loop-level.invariant.rest.0, c.fetch.ensures.rest.1 ∙ c.loop-level.invariant.rest.1)

pub returns-in-Leaf-clause-range : goal.returns-in-Leaf-clause-range
returns-in-Leaf-clause-range g c = c.loop-level.invariant.walked.range

pub returns-in-Leaf-clause-leaf : goal.returns-in-Leaf-clause-leaf
returns-in-Leaf-clause-leaf g c =
    let walked = walk_kept c.loop-level.self c.fetch.new.self c.fetch.ensures.brings.desk c.args.key c.loop-level._level c.loop-level.number c.loop-level.invariant.walked in
    let page : IsPage c.look.ensures.0.page = subst IsPage c.look.ensures.2 c.look_at.ensures.page in
    let kind : c.look.ensures.0.page.kind ≡ Leaf = ap (λ (y : PageView). y.kind) (sym c.look.ensures.2) ∙ c.in-Leaf.ensures.looks in
    record {
      leaf = c.look.ensures.0;
      buffer = c.look.ensures.1;
      its_leaf = walk_leaf c.fetch.new.self.pool c.args.key c.loop-level._level c.loop-level.number walked c.look.ensures.0 c.look.ensures.1 page kind (shown_tree c.args.shared.now c.fetch.new.self c.args.p c.fetch.new.node c.fetch.ensures.desk) (omega arith);
      lock = c.in_default.ensures.here.1;
    }

pub returns-in-Leaf-clause-way : goal.returns-in-Leaf-clause-way
returns-in-Leaf-clause-way g c =
    let walked = walk_kept c.loop-level.self c.fetch.new.self c.fetch.ensures.brings.desk c.args.key c.loop-level._level c.loop-level.number c.loop-level.invariant.walked in
    let page : IsPage c.look.ensures.0.page = subst IsPage c.look.ensures.2 c.look_at.ensures.page in
    let kind : c.look.ensures.0.page.kind ≡ Leaf = ap (λ (y : PageView). y.kind) (sym c.look.ensures.2) ∙ c.in-Leaf.ensures.looks in
    walk_ends c.fetch.new.self.pool c.args.key c.loop-level._level c.loop-level.number walked c.look.ensures.0 c.look.ensures.1 page kind

pub unreachable-requires : goal.unreachable-requires
unreachable-requires g c =
    let walked = walk_kept c.loop-level.self c.fetch.new.self c.fetch.ensures.brings.desk c.args.key c.loop-level._level c.loop-level.number c.loop-level.invariant.walked in
    let lost : Looks c.args.key c.look.ensures.0.page looks.Lost = subst (λ (y : PageView). Looks c.args.key y looks.Lost) c.look.ensures.2 c.in-Lost.ensures.looks in
    walk_not_lost c.fetch.new.self.pool c.args.key c.loop-level._level c.loop-level.number walked c.look.ensures.0 c.look.ensures.1 (shown_tree c.args.shared.now c.fetch.new.self c.args.p c.fetch.new.node c.fetch.ensures.desk) lost

pub loop-level-preserved : goal.loop-level-preserved
loop-level-preserved g c =
    let walked = walk_kept c.loop-level.self c.fetch.new.self c.fetch.ensures.brings.desk c.args.key c.loop-level._level c.loop-level.number c.loop-level.invariant.walked in
    let below : Looks c.args.key c.look.ensures.0.page (looks.Below c.in-Below.child) = subst (λ (y : PageView). Looks c.args.key y (looks.Below c.in-Below.child)) c.look.ensures.2 c.in-Below.ensures.looks in
    record {
      desk = c.fetch.ensures.desk;
      brings = brings_both c.args.p c.loop-level._level 1 c.args.self.now c.loop-level.self c.fetch.new.self c.args.node.now c.loop-level.node c.fetch.new.node c.loop-level.invariant.brings c.fetch.ensures.brings;
      rest = (c.fetch.ensures.rest.0 ∙ c.loop-level.invariant.rest.0, c.fetch.ensures.rest.1 ∙ c.loop-level.invariant.rest.1);
      walked = walk_below c.fetch.new.self.pool c.args.key c.loop-level._level c.loop-level.number walked c.look.ensures.0 c.look.ensures.1 c.in-Below.child below;
    }

pub unreachable-requires-2 : goal.unreachable-requires-2
unreachable-requires-2 g c =
    let three : c.loop-level._level ≡ 3 = omega arith in
    walk_not_deep c.loop-level.self.pool c.args.key c.loop-level.number (subst (λ (d : ℕ). Walked c.loop-level.self.pool c.args.key d c.loop-level.number) three c.loop-level.invariant.walked) (shown_tree c.args.shared.now c.loop-level.self c.args.p c.loop-level.node c.loop-level.invariant.desk)
