-- First the store, then the logs.
use Rattle.mp_cells.specs.PageMaps.{page_at}
use Rattle.std.proofs.Common.{refl}
use Rattle.mp_recover.proofs.Checkpointing.{still_store, still_logs, store_left, logs_left, all_empty}
use Rattle.mp_recover.proofs.checkpoints.checkpoint.Goals as goal

pub returns-in-Err-clause-nine : goal.returns-in-Err-clause-nine
returns-in-Err-clause-nine g c = still_store g.D.Disk c.args.disks.now _ c.in-Err.ensures.still refl

pub returns-in-Err-clause-left : goal.returns-in-Err-clause-left
returns-in-Err-clause-left g c = λ tell may image there.
    store_left g.D.Disk c.args.header.now (page_at c.args.pages.now.items) c.args.disks.now _ image refl there (c.in-Err.ensures.left tell.store may image.store there.store)

pub returns-in-Err-reset_logs-clause-nine : goal.returns-in-Err-reset_logs-clause-nine
returns-in-Err-reset_logs-clause-nine g c =
    still_logs g.D.Disk c.args.disks.now (record c.args.disks.now { store = c.save_pages.new.disk }) _ c.in-Ok.ensures.still refl refl c.in-Err-reset_logs.ensures.count c.in-Err-reset_logs.ensures.left

pub returns-in-Err-reset_logs-clause-left : goal.returns-in-Err-reset_logs-clause-left
returns-in-Err-reset_logs-clause-left g c = λ tell may image there.
    logs_left g.D.Disk c.args.header.now (page_at c.args.pages.now.items) c.args.disks.now (record c.args.disks.now { store = c.save_pages.new.disk }) _ image refl c.in-Err-reset_logs.ensures.count c.in-Err-reset_logs.ensures.left there
    (c.in-Ok.ensures.saved tell.store may image.store there.store)

pub returns-in-Ok-reset_logs-clause-nine : goal.returns-in-Ok-reset_logs-clause-nine
returns-in-Ok-reset_logs-clause-nine g c =
    still_logs g.D.Disk c.args.disks.now (record c.args.disks.now { store = c.save_pages.new.disk }) _ c.in-Ok.ensures.still refl refl c.in-Ok-reset_logs.ensures.count c.in-Ok-reset_logs.ensures.left

pub returns-in-Ok-reset_logs-clause-left : goal.returns-in-Ok-reset_logs-clause-left
returns-in-Ok-reset_logs-clause-left g c = λ tell may image there.
    logs_left g.D.Disk c.args.header.now (page_at c.args.pages.now.items) c.args.disks.now (record c.args.disks.now { store = c.save_pages.new.disk }) _ image refl c.in-Ok-reset_logs.ensures.count c.in-Ok-reset_logs.ensures.left there
    (c.in-Ok.ensures.saved tell.store may image.store there.store)

pub returns-in-Ok-reset_logs-clause-done : goal.returns-in-Ok-reset_logs-clause-done
returns-in-Ok-reset_logs-clause-done g c = λ tell may image there. record {
  store = c.in-Ok.ensures.saved tell.store may image.store there.store;
  empty = all_empty g.D.Disk c.args.disks.now.logs.items _ image c.requires.logs c.in-Ok-reset_logs.ensures.count tell.logs c.in-Ok-reset_logs.ensures.emptied there.logs;
}

pub returns-in-Ok-reset_logs-clause-emptied : goal.returns-in-Ok-reset_logs-clause-emptied
returns-in-Ok-reset_logs-clause-emptied g c = λ tell image there.
    all_empty g.D.Disk c.args.disks.now.logs.items _ image c.requires.logs c.in-Ok-reset_logs.ensures.count tell.logs c.in-Ok-reset_logs.ensures.emptied there.logs
