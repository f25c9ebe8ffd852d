-- Step by step: the store, the logs, and then what they hold above the base.
use Rattle.std.proofs.Common.{Ok, Err, refl}
use Rattle.mp_cells.specs.PageMaps.{page_at}
use Rattle.mp_files.specs.declared.disks.Disks.{Disks}
use Rattle.mp_files.specs.Nine.{as_read, KeptNine}
use Rattle.mp_files.proofs.Nines.{KeptNine-trans, KeptNine-logs}
use Rattle.mp_recover.specs.declared.loading.Stored.{Stored}
use Rattle.mp_recover.specs.Recovering.{HasNoFault}
use Rattle.mp_recover.proofs.LoadingNine.{kept_tells, logs_before, redone_before, found_before, mtrs_before, logs_refuse, redo_refuses, is_loaded}
use Rattle.mp_recover.proofs.RecoveredNine.{merge_cause_after, redo_cause_after}
use Rattle.mp_recover.proofs.loading.load.Goals as goal

pub returns-in-Err-read_logs-clause-kept : goal.returns-in-Err-read_logs-clause-kept
returns-in-Err-read_logs-clause-kept g c =
    let one = c.read_stored.new.disks in
    let two : Disks g.row.D.Denot = record { store = one.store; logs = c.read_logs.new.logs } in
    KeptNine-trans g.D.Disk c.args.disks.now one two c.in-Ok.ensures.kept (KeptNine-logs g.D.Disk one two c.in-Err-read_logs.ensures.kept refl)

pub returns-in-Err-read_logs-clause-finds : goal.returns-in-Err-read_logs-clause-finds
returns-in-Err-read_logs-clause-finds g c = λ tell.
    let old = c.args.disks.now in
    let one = c.read_stored.new.disks in
    let kept = c.in-Ok.ensures.kept in
    logs_refuse (as_read g.D.Disk old) c.in-Err-read_logs.refusal (c.in-Ok.ensures.finds tell).sound
    (logs_before g.D.Disk old one kept (Err c.in-Err-read_logs.refusal) (c.in-Err-read_logs.ensures.finds (kept_tells g.D.Disk old one kept tell).logs))

pub returns-in-Err-read_logs-clause-cause : goal.returns-in-Err-read_logs-clause-cause
returns-in-Err-read_logs-clause-cause g c =
    let one = c.read_stored.new.disks in
    let two : Disks g.row.D.Denot = record { store = one.store; logs = c.read_logs.new.logs } in
    merge_cause_after g.D.Disk c.args.disks.now one two c.in-Ok.ensures.kept c.in-Err-read_logs.refusal c.in-Err-read_logs.ensures.cause

pub returns-in-Err-redo_logs-clause-kept : goal.returns-in-Err-redo_logs-clause-kept
returns-in-Err-redo_logs-clause-kept g c =
    let one = c.read_stored.new.disks in
    let two : Disks g.row.D.Denot = record { store = one.store; logs = c.read_logs.new.logs } in
    KeptNine-trans g.D.Disk c.args.disks.now two c.redo_logs.new.disks
    (KeptNine-trans g.D.Disk c.args.disks.now one two c.in-Ok.ensures.kept (KeptNine-logs g.D.Disk one two c.in-Ok-read_logs.ensures.kept refl))
    (KeptNine-logs g.D.Disk two c.redo_logs.new.disks c.in-Err-redo_logs.ensures.kept c.in-Err-redo_logs.ensures.store)

pub returns-in-Err-redo_logs-clause-finds : goal.returns-in-Err-redo_logs-clause-finds
returns-in-Err-redo_logs-clause-finds g c = λ tell.
    let d = g.D.Disk in
    let old = c.args.disks.now in
    let one = c.read_stored.new.disks in
    let two : Disks g.row.D.Denot = record { store = one.store; logs = c.read_logs.new.logs } in
    let first = c.in-Ok.ensures.kept in
    let kept : KeptNine d old two = KeptNine-trans d old one two first (KeptNine-logs d one two c.in-Ok-read_logs.ensures.kept refl) in
    let is = c.in-Ok.ensures.finds tell in
    let sound : HasNoFault (as_read d old) = record {
      store = is.sound;
      logs = logs_before d old one first (Ok c.in-Ok-read_logs.field-0) (c.in-Ok-read_logs.ensures.finds (kept_tells d old one first tell).logs);
    } in
    redo_refuses (as_read d old) (page_at c.redo_logs.new.pages.items) c.in-Err-redo_logs.refusal sound
    (redone_before d old two kept c.in-Ok.stored (page_at c.redo_logs.new.pages.items) (Err c.in-Err-redo_logs.refusal) is (c.in-Err-redo_logs.ensures.redone (kept_tells d old two kept tell).logs))

pub returns-in-Err-redo_logs-clause-cause : goal.returns-in-Err-redo_logs-clause-cause
returns-in-Err-redo_logs-clause-cause g c =
    let d = g.D.Disk in
    let one = c.read_stored.new.disks in
    let two : Disks g.row.D.Denot = record { store = one.store; logs = c.read_logs.new.logs } in
    redo_cause_after d c.args.disks.now two c.redo_logs.new.disks
    (KeptNine-trans d c.args.disks.now one two c.in-Ok.ensures.kept (KeptNine-logs d one two c.in-Ok-read_logs.ensures.kept refl)) c.in-Err-redo_logs.refusal c.in-Err-redo_logs.ensures.cause

pub returns-in-Err-roll_back-clause-kept : goal.returns-in-Err-roll_back-clause-kept
returns-in-Err-roll_back-clause-kept g c =
    let one = c.read_stored.new.disks in
    let two : Disks g.row.D.Denot = record { store = one.store; logs = c.read_logs.new.logs } in
    KeptNine-trans g.D.Disk c.args.disks.now two c.redo_logs.new.disks
    (KeptNine-trans g.D.Disk c.args.disks.now one two c.in-Ok.ensures.kept (KeptNine-logs g.D.Disk one two c.in-Ok-read_logs.ensures.kept refl))
    (KeptNine-logs g.D.Disk two c.redo_logs.new.disks c.in-Ok-redo_logs.ensures.kept c.in-Ok-redo_logs.ensures.store)

pub returns-in-Ok-roll_back-clause-kept : goal.returns-in-Ok-roll_back-clause-kept
returns-in-Ok-roll_back-clause-kept g c =
    let one = c.read_stored.new.disks in
    let two : Disks g.row.D.Denot = record { store = one.store; logs = c.read_logs.new.logs } in
    KeptNine-trans g.D.Disk c.args.disks.now two c.redo_logs.new.disks
    (KeptNine-trans g.D.Disk c.args.disks.now one two c.in-Ok.ensures.kept (KeptNine-logs g.D.Disk one two c.in-Ok-read_logs.ensures.kept refl))
    (KeptNine-logs g.D.Disk two c.redo_logs.new.disks c.in-Ok-redo_logs.ensures.kept c.in-Ok-redo_logs.ensures.store)

pub returns-in-Ok-roll_back-clause-finds : goal.returns-in-Ok-roll_back-clause-finds
returns-in-Ok-roll_back-clause-finds g c = λ tell.
    let d = g.D.Disk in
    let old = c.args.disks.now in
    let one = c.read_stored.new.disks in
    let two : Disks g.row.D.Denot = record { store = one.store; logs = c.read_logs.new.logs } in
    let first = c.in-Ok.ensures.kept in
    let kept : KeptNine d old two = KeptNine-trans d old one two first (KeptNine-logs d one two c.in-Ok-read_logs.ensures.kept refl) in
    let is = c.in-Ok.ensures.finds tell in
    let sound : HasNoFault (as_read d old) = record {
      store = is.sound;
      logs = logs_before d old one first (Ok c.in-Ok-read_logs.field-0) (c.in-Ok-read_logs.ensures.finds (kept_tells d old one first tell).logs);
    } in
    let after : Stored = record { header = c.in-Ok.stored.header; pages = c.redo_logs.new.pages } in
    let found = c.in-Ok-redo_logs.found in
    let tells = (kept_tells d old two kept tell).logs in
    is_loaded (as_read d old) after (page_at c.redo_logs.new.pages.items) found c.in-Ok-roll_back.loaded sound is.header_is
    (redone_before d old two kept c.in-Ok.stored (page_at c.redo_logs.new.pages.items) (Ok found) is (c.in-Ok-redo_logs.ensures.redone tells))
    (found_before d old two kept c.in-Ok.stored found is (c.in-Ok-redo_logs.ensures.found tells))
    (mtrs_before d old two kept (c.in-Ok-redo_logs.ensures.mtrs tells))
    c.in-Ok-roll_back.ensures
