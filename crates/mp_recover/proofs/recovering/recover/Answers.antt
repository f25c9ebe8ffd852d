-- What was loaded, and then what was saved.
use Rattle.std.proofs.Common.{ap, ◌∙◌}
use Rattle.mp_files.specs.Nine.{as_read}
use Rattle.mp_files.proofs.Nines.{KeptNine-still}
use Rattle.mp_model.specs.Listed.{Listed}
use Rattle.mp_model.specs.declared.key_value.KeyValue.{KeyValue}
use Rattle.mp_recover.proofs.LoadingNine.{kept_tells, save_refuses}
use Rattle.mp_recover.proofs.RecoveredImages.{loaded_rows}
use Rattle.mp_recover.proofs.RecoveredNine.{still_after, leaves_after, cause_after, answers_for, images_recovered}
use Rattle.mp_recover.proofs.recovering.recover.Goals as goal

pub returns-in-Err-clause-nine : goal.returns-in-Err-clause-nine
returns-in-Err-clause-nine g c = KeptNine-still g.D.Disk c.args.disks.now c.load.new.disks c.in-Err.ensures.kept

pub returns-in-Ok-save-clause-nine : goal.returns-in-Ok-save-clause-nine
returns-in-Ok-save-clause-nine g c = still_after g.D.Disk c.args.disks.now c.load.new.disks c.save.new.disks c.in-Ok.ensures.kept c.in-Ok-save.ensures.nine

pub returns-in-Ok-save-clause-finds : goal.returns-in-Ok-save-clause-finds
returns-in-Ok-save-clause-finds g c = λ tell.
    let d = g.D.Disk in
    let old = c.args.disks.now in
    answers_for (as_read d old) c.in-Ok.loaded c.answer.result (c.in-Ok.ensures.finds tell) (c.in-Ok-save.ensures.refuses (kept_tells d old c.load.new.disks c.in-Ok.ensures.kept tell))
    c.answer.ensures.base c.answer.ensures.kept c.answer.ensures.undone

pub returns-in-Ok-save-clause-rows : goal.returns-in-Ok-save-clause-rows
returns-in-Ok-save-clause-rows g c = λ tell sound.
    ap (λ (rows : Listed KeyValue). rows.items) c.answer.ensures.rows ∙ loaded_rows (as_read g.D.Disk c.args.disks.now) sound c.in-Ok.loaded (c.in-Ok.ensures.finds tell)

pub returns-in-Ok-save-clause-recovered : goal.returns-in-Ok-save-clause-recovered
returns-in-Ok-save-clause-recovered g c = λ tell sound.
    let d = g.D.Disk in
    let old = c.args.disks.now in
    let kept = c.in-Ok.ensures.kept in
    images_recovered d old c.load.new.disks c.save.new.disks c.in-Ok.loaded kept sound (c.in-Ok.ensures.finds tell) c.in-Ok.ensures.fits (c.in-Ok.ensures.safe tell)
    (c.in-Ok-save.ensures.saved (kept_tells d old c.load.new.disks kept tell))

pub returns-in-Err-save-clause-nine : goal.returns-in-Err-save-clause-nine
returns-in-Err-save-clause-nine g c = still_after g.D.Disk c.args.disks.now c.load.new.disks c.save.new.disks c.in-Ok.ensures.kept c.in-Err-save.ensures.nine

pub returns-in-Err-save-clause-finds : goal.returns-in-Err-save-clause-finds
returns-in-Err-save-clause-finds g c = λ tell.
    let d = g.D.Disk in
    let old = c.args.disks.now in
    let mid = c.load.new.disks in
    let kept = c.in-Ok.ensures.kept in
    save_refuses (as_read d old) c.in-Ok.loaded (d.seen mid.store) c.in-Err-save.refusal (c.in-Ok.ensures.finds tell) kept.store.quiet.same (c.in-Err-save.ensures.refuses (kept_tells d old mid kept tell))

pub returns-in-Err-save-clause-untouched : goal.returns-in-Err-save-clause-untouched
returns-in-Err-save-clause-untouched g c =
    leaves_after g.D.Disk c.args.disks.now c.load.new.disks c.save.new.disks c.in-Ok.ensures.kept c.in-Err-save.refusal c.in-Err-save.ensures.untouched

pub returns-in-Err-save-clause-cause : goal.returns-in-Err-save-clause-cause
returns-in-Err-save-clause-cause g c =
    cause_after g.D.Disk c.args.disks.now c.load.new.disks c.save.new.disks c.in-Ok.ensures.kept c.in-Err-save.refusal c.in-Err-save.ensures.cause
