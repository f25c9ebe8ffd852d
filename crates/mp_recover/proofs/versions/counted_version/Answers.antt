-- One step more, until a version counts or has none below it.
use Rattle.std.proofs.Common.{refl, sym, ◌∙◌, arith}
use Rattle.mp_cells.specs.PageMaps.{page_at}
use Rattle.mp_cells.specs.Writes.{undo_at}
use Rattle.mp_recover.specs.Settling.{trx_ids, most_steps}
use Rattle.mp_recover.proofs.SettledPages.{steps_fixed, steps_are, fixed_counted, fixed_last, left_none}
use Rattle.mp_recover.proofs.versions.counted_version.Goals as goal

pub loop-step-init : goal.loop-step-init
loop-step-init c = (c.requires.row, (most_steps, omega (arith, steps_are), refl))

pub returns-then-is_counted-clause-version : goal.returns-then-is_counted-clause-version
returns-then-is_counted-clause-version c =
    let ids = trx_ids c.args.ids.now.items in
    let undo = undo_at (page_at c.args.pages.now.items) in
    let left = c.loop-step.invariant.1 in
    sym (steps_fixed left.0 ids undo c.loop-step.version (fixed_counted ids undo c.loop-step.version (sym c.is_counted.ensures ∙ c.if-is_counted.true))) ∙ left.2

pub returns-then-is_counted-clause-kept : goal.returns-then-is_counted-clause-kept
returns-then-is_counted-clause-kept c = c.loop-step.invariant.0

pub version_below-requires-clause-row : goal.version_below-requires-clause-row
version_below-requires-clause-row c = c.loop-step.invariant.0

pub returns-in-None-clause-version : goal.returns-in-None-clause-version
returns-in-None-clause-version c =
    let ids = trx_ids c.args.ids.now.items in
    let undo = undo_at (page_at c.args.pages.now.items) in
    let left = c.loop-step.invariant.1 in
    sym (steps_fixed left.0 ids undo c.loop-step.version (fixed_last ids undo c.loop-step.version (sym c.version_below.ensures.below ∙ c.in-None.is))) ∙ left.2

pub returns-in-None-clause-kept : goal.returns-in-None-clause-kept
returns-in-None-clause-kept c = c.loop-step.invariant.0

pub returns-clause-version : goal.returns-clause-version
returns-clause-version c =
    let left = c.loop-step.invariant.1 in
    left_none (trx_ids c.args.ids.now.items) (undo_at (page_at c.args.pages.now.items)) c.loop-step._step left.0 c.loop-step.version _ (omega (arith, c.loop-step-test.false)) left.1 left.2

pub returns-clause-kept : goal.returns-clause-kept
returns-clause-kept c = c.loop-step.invariant.0
