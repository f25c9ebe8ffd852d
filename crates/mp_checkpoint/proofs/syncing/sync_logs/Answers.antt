-- One log more.
use Rattle.std.proofs.Common.{◌∙◌, sym, arith}
use Rattle.mp_files.specs.Nine.{At, RoseAt}
use Rattle.mp_checkpoint.specs.Emptying.{IsSynced}
use Rattle.mp_checkpoint.proofs.Logs.{none_synced, one_synced, more_kept, sync_refused, done, refused}
use Rattle.mp_checkpoint.proofs.syncing.sync_logs.Goals as goal

pub loop-place-init : goal.loop-place-init
loop-place-init g c = none_synced g.D.Disk c.args.logs.now.items

pub loop-place-preserved : goal.loop-place-preserved
loop-place-preserved g c =
    let disk = g.D.Disk in
    let mid = c.loop-place.logs.items in
    let new = c.sync_at.new.logs.items in
    one_synced disk c.loop-place.place c.args.logs.now.items mid new c.loop-place.invariant c.sync_at.ensures.count (omega (arith, c.loop-place.invariant.kept.count, c.requires, c.loop-place-test.true)) c.sync_at.ensures.others c.sync_at.ensures.kept
    (done c.sync_at.result (At (λ before after. IsSynced disk after) mid new c.loop-place.place) (sym c.is_err.ensures.value ∙ c.if-is_err.false) c.sync_at.ensures.synced)

pub returns-then-is_err-clause-kept : goal.returns-then-is_err-clause-kept
returns-then-is_err-clause-kept g c =
    more_kept g.D.Disk c.loop-place.place c.args.logs.now.items c.loop-place.logs.items c.sync_at.new.logs.items c.loop-place.invariant.kept c.sync_at.ensures.count c.sync_at.ensures.others c.sync_at.ensures.kept

pub returns-then-is_err-clause-cause : goal.returns-then-is_err-clause-cause
returns-then-is_err-clause-cause g c =
    let disk = g.D.Disk in
    let mid = c.loop-place.logs.items in
    let new = c.sync_at.new.logs.items in
    sync_refused disk c.loop-place.place c.args.logs.now.items mid new c.loop-place.invariant
    (refused c.sync_at.result (RoseAt disk c.loop-place.place mid new) (sym c.is_err.ensures.value ∙ c.if-is_err.true) c.sync_at.ensures.cause)
