use Rattle.std.proofs.Common.{sym, ◌∙◌, subst, inl, inr}
use Rattle.mp_core_pages.specs.LockWords.{TakesExclusive}
use Rattle.mp_shared.specs.PageSteps.{held_in}
use Rattle.mp_lock_fusion.proofs.Locking.{ExpectsOwn, own_bit, a_node, may_lock, takes_alone, came_to_write, could_not_write}
use Rattle.mp_lock_fusion.proofs.page_locks.lock_exclusive.Goals as goal
use Rattle.mp_lock_fusion.proofs.page_locks.lock_exclusive.Goals.{in-Read, in-No}

pub shared_with-old-requires-clause-node : goal.shared_with-old-requires-clause-node
shared_with-old-requires-clause-node g c = a_node c.args.node.now c.args.p c.args.page c.requires.page c.holds.ensures.reached c.requires.part

pub exclusive-requires : goal.exclusive-requires
exclusive-requires g c = record { node = a_node c.args.node.now c.args.p c.args.page c.requires.page c.holds.ensures.reached c.requires.part }

pub lock_word-requires-clause-step : goal.lock_word-requires-clause-step
lock_word-requires-clause-step g c =
    let own : ExpectsOwn c.args.p (held_in c.args.node.now c.args.p c.args.page) c.match-holds.old = elim c.match-holds.branch [ in-Read w ↦ inr (sym c.holds.ensures.held ∙ w.in-Read.is, own_bit c.args.p c.match-holds.old (w.old-is ∙ w.shared_with-old.ensures.takes.1)) | in-No w ↦ inl (sym c.holds.ensures.held ∙ w.in-No.is, w.old-is) ] in
    may_lock c.args.node.now c.args.p c.args.page c.requires.page c.holds.ensures.reached c.requires.part c.match-holds.old c.exclusive.result
    (inr (subst (TakesExclusive c.args.p c.match-holds.old) (sym c.exclusive.ensures.takes) (takes_alone c.args.node.now c.args.p c.args.page c.requires.page c.holds.ensures.reached c.requires.part c.match-holds.old own)))

pub returns-in-Ok-clause-locked : goal.returns-in-Ok-clause-locked
returns-in-Ok-clause-locked g c =
    let own : ExpectsOwn c.args.p (held_in c.args.node.now c.args.p c.args.page) c.match-holds.old = elim c.match-holds.branch [ in-Read w ↦ inr (sym c.holds.ensures.held ∙ w.in-Read.is, own_bit c.args.p c.match-holds.old (w.old-is ∙ w.shared_with-old.ensures.takes.1)) | in-No w ↦ inl (sym c.holds.ensures.held ∙ w.in-No.is, w.old-is) ] in
    came_to_write c.args.node.now c.args.p c.args.page c.requires.page c.holds.ensures.reached c.requires.part c.match-holds.old own c.exclusive.result c.exclusive.ensures.takes _ c.in-Ok.ensures.locked

pub returns-in-Err-clause-refused : goal.returns-in-Err-clause-refused
returns-in-Err-clause-refused g c =
    let own : ExpectsOwn c.args.p (held_in c.args.node.now c.args.p c.args.page) c.match-holds.old = elim c.match-holds.branch [ in-Read w ↦ inr (sym c.holds.ensures.held ∙ w.in-Read.is, own_bit c.args.p c.match-holds.old (w.old-is ∙ w.shared_with-old.ensures.takes.1)) | in-No w ↦ inl (sym c.holds.ensures.held ∙ w.in-No.is, w.old-is) ] in
    let says = c.refused.ensures in
    (says.0, says.1, could_not_write c.args.node.now c.args.p c.args.page c.requires.page c.holds.ensures.reached c.requires.part c.match-holds.old own c.exclusive.result c.in-Err.seen c.refused.result.seen _ c.in-Err.ensures.step.1 says.2 c.in-Err.ensures.step.0 c.in-Err.ensures.refused)
