-- One log more.
use Rattle.std.proofs.Common.{◌∙◌, sym, arith}
use Rattle.mp_files.specs.Nine.{At, RoseAt}
use Rattle.mp_checkpoint.specs.Emptying.{DidEmpty}
use Rattle.mp_checkpoint.proofs.Logs.{none_emptied, one_emptied, all_emptied, all_may, some_may, empty_refused, done, refused}
use Rattle.mp_checkpoint.proofs.emptying.reset_logs.Goals as goal

pub loop-place-init : goal.loop-place-init
loop-place-init g c = none_emptied g.D.Disk c.args.logs.now.items

pub loop-place-preserved : goal.loop-place-preserved
loop-place-preserved g c =
    let disk = g.D.Disk in
    let mid = c.loop-place.logs.items in
    let new = c.reset_at.new.logs.items in
    one_emptied disk c.loop-place.place c.args.logs.now.items mid new c.loop-place.invariant c.reset_at.ensures.count c.reset_at.ensures.others
    (done c.reset_at.result (At (DidEmpty disk) mid new c.loop-place.place) (sym c.is_err.ensures.value ∙ c.if-is_err.false) c.reset_at.ensures.did)

pub returns-then-is_err-clause-left : goal.returns-then-is_err-clause-left
returns-then-is_err-clause-left g c =
    some_may g.D.Disk c.loop-place.place c.args.logs.now.items c.loop-place.logs.items c.reset_at.new.logs.items c.loop-place.invariant c.reset_at.ensures.others c.reset_at.ensures.may

pub returns-then-is_err-clause-cause : goal.returns-then-is_err-clause-cause
returns-then-is_err-clause-cause g c =
    let disk = g.D.Disk in
    let mid = c.loop-place.logs.items in
    let new = c.reset_at.new.logs.items in
    empty_refused disk c.loop-place.place c.args.logs.now.items mid new c.loop-place.invariant
    (refused c.reset_at.result (RoseAt disk c.loop-place.place mid new) (sym c.is_err.ensures.value ∙ c.if-is_err.true) c.reset_at.ensures.cause)

pub returns-clause-left : goal.returns-clause-left
returns-clause-left g c =
    all_may g.D.Disk _ _ (all_emptied g.D.Disk c.loop-place.place _ _ c.requires (omega (arith, c.loop-place-test.false)) c.loop-place.invariant)

pub returns-clause-emptied : goal.returns-clause-emptied
returns-clause-emptied g c = all_emptied g.D.Disk c.loop-place.place _ _ c.requires (omega (arith, c.loop-place-test.false)) c.loop-place.invariant
