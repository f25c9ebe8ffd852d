use Rattle.std.proofs.Common.{◌≡◌, refl, sym, ◌∙◌, inl}
use Rattle.mp_core_pages.specs.declared.page_lock.Held.TheVariants.{No}
use Rattle.mp_shared.specs.PageSteps.{held_in}
use Rattle.mp_lock_fusion.proofs.Locking.{a_node, may_lock, is_lock, own_is, came_first, saw_writer, may_lock_then, came_then, saw_change}
use Rattle.mp_lock_fusion.proofs.page_locks.lock_shared.Goals as goal

pub shared_with-requires-clause-node : goal.shared_with-requires-clause-node
shared_with-requires-clause-node g c = a_node c.args.node.now c.args.p c.args.page c.requires.page c.holds.ensures.reached c.requires.part

pub lock_word-requires-clause-step : goal.lock_word-requires-clause-step
lock_word-requires-clause-step g c = may_lock c.args.node.now c.args.p c.args.page c.requires.page c.holds.ensures.reached c.requires.part 0 c.shared_with.result (inl c.shared_with.ensures.takes)

pub returns-in_default-clause-locked : goal.returns-in_default-clause-locked
returns-in_default-clause-locked g c = came_first c.args.node.now c.args.p c.args.page c.requires.page c.holds.ensures.reached c.requires.part c.shared_with.result c.shared_with.ensures.takes (sym c.holds.ensures.held ∙ c.in-No.is) _ c.in_default.ensures.locked

pub has_other_writer-requires-clause-node : goal.has_other_writer-requires-clause-node
has_other_writer-requires-clause-node g c = a_node c.args.node.now c.args.p c.args.page c.requires.page c.holds.ensures.reached c.requires.part

pub has_other_writer-requires-clause-lock : goal.has_other_writer-requires-clause-lock
has_other_writer-requires-clause-lock g c = is_lock c.args.node.now c.args.p c.args.page c.requires.page c.holds.ensures.reached c.requires.part 0 c.shared_with.result c.in-Err.first _ c.in-Err.ensures.step.1

pub returns-then-has_other_writer-clause-refused : goal.returns-then-has_other_writer-clause-refused
returns-then-has_other_writer-clause-refused g c =
    let none : held_in c.args.node.now c.args.p c.args.page ≡ No = sym c.holds.ensures.held ∙ c.in-No.is in
    let says = c.refused.ensures in
    (says.0, says.1, saw_writer c.args.node.now c.args.p c.args.page c.requires.page c.holds.ensures.reached c.requires.part c.shared_with.result c.in-Err.first c.refused.result.seen _ c.in-Err.ensures.step.1 says.2 none (c.if-has_other_writer.ensures.found refl) c.in-Err.ensures.refused)

pub shared_with-requires-2-clause-node : goal.shared_with-requires-2-clause-node
shared_with-requires-2-clause-node g c = a_node c.args.node.now c.args.p c.args.page c.requires.page c.holds.ensures.reached c.requires.part

pub shared_with-requires-2-clause-lacks : goal.shared_with-requires-2-clause-lacks
shared_with-requires-2-clause-lacks g c =
    let none : held_in c.args.node.now c.args.p c.args.page ≡ No = sym c.holds.ensures.held ∙ c.in-No.is in
    c.if-has_other_writer.ensures.may_read refl (own_is c.args.node.now c.args.p c.args.page c.requires.page c.holds.ensures.reached c.requires.part 0 c.shared_with.result c.in-Err.first _ c.in-Err.ensures.step.1 ∙ none)

pub lock_word-requires-2-clause-step : goal.lock_word-requires-2-clause-step
lock_word-requires-2-clause-step g c = may_lock_then c.args.node.now c.args.p c.args.page c.requires.page c.holds.ensures.reached c.requires.part _ c.in-Err.ensures.refused c.in-Err.first c.shared_with-2.result c.shared_with-2.ensures.takes

pub returns-in_default-lock_word-clause-locked : goal.returns-in_default-lock_word-clause-locked
returns-in_default-lock_word-clause-locked g c = came_then c.args.node.now c.args.p c.args.page c.requires.page c.holds.ensures.reached c.requires.part _ c.in-Err.ensures.refused c.in-Err.first c.shared_with-2.result c.shared_with-2.ensures.takes (sym c.holds.ensures.held ∙ c.in-No.is) _ c.in_default-lock_word.ensures.locked

pub returns-clause-refused : goal.returns-clause-refused
returns-clause-refused g c =
    let none : held_in c.args.node.now c.args.p c.args.page ≡ No = sym c.holds.ensures.held ∙ c.in-No.is in
    let says = c.refused-2.ensures in
    let last = c.in-Err-lock_word.ensures in
    (says.0, says.1, saw_change c.args.node.now c.args.p c.args.page c.requires.page c.holds.ensures.reached c.requires.part _ c.in-Err.ensures.refused c.shared_with.result c.shared_with-2.result c.in-Err.first c.in-Err-lock_word.last c.refused-2.result.seen _ c.in-Err.ensures.step.1 last.step.1 says.2 last.step.0 none last.refused)
