use Rattle.std.proofs.Common.{◌≡◌, ℕ, suc, ◌<◌, length, Some, slice_get, IsOk, sym, ap, subst, ◌∙◌, arith, add-one}
use Rattle.std.specs.Option.{IfSome}
use Rattle.std.proofs.lemmas.Bool.{false≢true}
use Rattle.mp_cells.specs.PageView.{PageView}
use Rattle.mp_cells.specs.declared.changes.Change.{Change}
use Rattle.mp_cells.specs.Plans.{Plan}
use Rattle.mp_desk.proofs.PlanRecords.{some_at}
use Rattle.mp_desk.proofs.ChangingPages.{ChangedSoFar, if_some_is, changed_more, page_within, page_buffered, change_cells, was_changed, same_page}
use Rattle.mp_desk.proofs.making.change_pages.Goals as goal

-- the step of the plan that this turn of the loop makes
step_at : (plan : Plan) (i count page : ℕ) (change : Change) → i < count → count ≡ length plan → IfSome (slice_get plan i) (λ step. step.0 ≡ page) → IfSome (slice_get plan i) (λ step. step.1 ≡ change)
    → (step : ℕ × Change) × (slice_get plan i ≡ Some step) × (step.0 ≡ page) × (step.1 ≡ change)
step_at plan i count page change less is page_is change_is =
    let at = some_at plan i (omega (arith, less, is)) in
    (at.0, at.1, if_some_is (λ step. step.0 ≡ page) (slice_get plan i) at.0 at.1 page_is, if_some_is (λ step. step.1 ≡ change) (slice_get plan i) at.0 at.1 change_is)

pub look-requires-clause-page : goal.look-requires-clause-page
look-requires-clause-page c =
    let s = step_at c.args.plan.now c.loop-i.i c.len-i-end.result c.page-page.result c.change-change.result.now c.loop-i-test.true c.len-i-end.ensures.count c.page-page.ensures c.change-change.ensures in
    page_within c.args.llsn c.args.pool.now c.args.plan.now c.loop-i.i c.loop-i.pool c.loop-i.records c.loop-i.invariant s.0 s.1 c.page-page.result c.change-change.result.now s.2 s.3

pub look-requires-clause-buffered : goal.look-requires-clause-buffered
look-requires-clause-buffered c =
    let s = step_at c.args.plan.now c.loop-i.i c.len-i-end.result c.page-page.result c.change-change.result.now c.loop-i-test.true c.len-i-end.ensures.count c.page-page.ensures c.change-change.ensures in
    page_buffered c.args.llsn c.args.pool.now c.args.plan.now c.loop-i.i c.loop-i.pool c.loop-i.records c.loop-i.invariant s.0 s.1 c.page-page.result c.change-change.result.now s.2 s.3

pub change-requires-clause-page : goal.change-requires-clause-page
change-requires-clause-page c =
    let s = step_at c.args.plan.now c.loop-i.i c.len-i-end.result c.page-page.result c.change-change.result.now c.loop-i-test.true c.len-i-end.ensures.count c.page-page.ensures c.change-change.ensures in
    page_within c.args.llsn c.args.pool.now c.args.plan.now c.loop-i.i c.loop-i.pool c.loop-i.records c.loop-i.invariant s.0 s.1 c.page-page.result c.change-change.result.now s.2 s.3

pub change-requires-clause-cells : goal.change-requires-clause-cells
change-requires-clause-cells c =
    let s = step_at c.args.plan.now c.loop-i.i c.len-i-end.result c.page-page.result c.change-change.result.now c.loop-i-test.true c.len-i-end.ensures.count c.page-page.ensures c.change-change.ensures in
    change_cells c.args.llsn c.args.pool.now c.args.plan.now c.loop-i.i c.loop-i.pool c.loop-i.records c.loop-i.invariant s.0 s.1 c.page-page.result c.change-change.result.now s.2 s.3

pub unreachable-requires : goal.unreachable-requires
unreachable-requires c =
    let s = step_at c.args.plan.now c.loop-i.i c.len-i-end.result c.page-page.result c.change-change.result.now c.loop-i-test.true c.len-i-end.ensures.count c.page-page.ensures c.change-change.ensures in
    let was = was_changed c.args.llsn c.args.pool.now c.args.plan.now c.loop-i.i c.loop-i.pool c.loop-i.records c.loop-i.invariant s.0 s.1 c.page-page.result c.change-change.result.now s.2 s.3 c.change.new.self c.change.result c.change.ensures in
    false≢true (subst IsOk c.in-Err.is was.0)

pub loop-i-preserved : goal.loop-i-preserved
loop-i-preserved c =
    let s = step_at c.args.plan.now c.loop-i.i c.len-i-end.result c.page-page.result c.change-change.result.now c.loop-i-test.true c.len-i-end.ensures.count c.page-page.ensures c.change-change.ensures in
    let was = was_changed c.args.llsn c.args.pool.now c.args.plan.now c.loop-i.i c.loop-i.pool c.loop-i.records c.loop-i.invariant s.0 s.1 c.page-page.result c.change-change.result.now s.2 s.3 c.change.new.self c.change.result c.change.ensures in
    let look = c.look.ensures in
    let prev = c.llsn-prev.ensures.value ∙ ap (λ (y : PageView). y.llsn) look.2
    ∙ same_page c.args.llsn c.args.pool.now c.args.plan.now c.loop-i.i c.loop-i.pool c.loop-i.records c.loop-i.invariant s.0 s.1 c.page-page.result c.change-change.result.now s.2 s.3 look.0 look.1 in
    let more = changed_more c.args.llsn c.args.pool.now c.args.plan.now c.loop-i.i c.loop-i.pool c.loop-i.records c.loop-i.invariant s.0 s.1 c.page-page.result c.llsn-prev.result c.change-change.result.now c.change.new.self s.2 s.3 prev was.1 in
    subst (λ n. ChangedSoFar c.args.llsn c.args.pool.now c.args.plan.now n c.change.new.self c.put.new.self) (sym (add-one c.loop-i.i))
    (subst (ChangedSoFar c.args.llsn c.args.pool.now c.args.plan.now (suc c.loop-i.i) c.change.new.self) (sym c.put.ensures) more)
