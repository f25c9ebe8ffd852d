use Rattle.std.proofs.Common.{◌≡◌, Some, slice_get, ap, ◌∙◌, arith}
use Rattle.mp_desk.proofs.PlanRecords.{some_at}
use Rattle.mp_desk.proofs.ChangingPages.{if_some_is, undo_in, no_undo_in, undo_step}
use Rattle.mp_desk.proofs.making.undo_page_of.Goals as goal

pub returns-in-MakeUndo : goal.returns-in-MakeUndo
returns-in-MakeUndo c =
    let at = some_at c.args.plan.now c.loop-i.i (omega (arith, c.loop-i-test.true, c.len-i-end.ensures.count)) in
    let page = if_some_is (λ step. step.0 ≡ c.page.result) (slice_get c.args.plan.now c.loop-i.i) at.0 at.1 c.page.ensures in
    let change = if_some_is (λ step. step.1 ≡ c.change.result.now) (slice_get c.args.plan.now c.loop-i.i) at.0 at.1 c.change.ensures in
    undo_in c.args.plan.now c.loop-i.i c.page.result (at.1 ∙ ap Some (undo_step at.0 c.page.result page (change ∙ c.in-MakeUndo.is)))

pub returns : goal.returns
returns c = no_undo_in c.args.plan.now c.loop-i.i (omega (arith, c.loop-i-test.false, c.len-i-end.ensures.count)) c.loop-i.invariant
