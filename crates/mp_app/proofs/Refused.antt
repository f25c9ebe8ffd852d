-- A refusal of the store is what `dump` says, one of the logs what `logs` says, one of recovery what `recover` says, and a disk's fault what `init` says.
use Rattle.std.proofs.Common.{◌≡◌, ◌∙◌, ℕ, List, IsTrue, inl, inr, Err, sym}
use Rattle.mp_outside.specs.declared.disks.Disk.{Ghosts}
use Rattle.mp_files.specs.declared.disks.Disks.{Disks}
use Rattle.mp_files.specs.Nine.{AllTell, as_read}
use Rattle.mp_model.specs.Listed.{Listed}
use Rattle.mp_store.specs.StoreFiles.{store_fault}
use Rattle.mp_store.specs.Answers.{StoreFinds, StoreCause}
use Rattle.mp_store.specs.declared.refusals.StoreRefusal.{StoreRefusal}
use Rattle.mp_store.specs.declared.refusals.StoreRefusal.TheVariants.{NotStore, Disk, Memory}
use Rattle.mp_recover.specs.declared.recovering.Recovered.{Recovered}
use Rattle.mp_recover.specs.declared.refusals.RecoverRefusal.{RecoverRefusal}
use Rattle.mp_recover.specs.declared.refusals.RecoverRefusal.TheVariants as recover
use Rattle.mp_recover.specs.Checkpoints.{LeavesAll, RecoverCause}
use Rattle.mp_recover.specs.Images.{SoundImage, rows_of_image}
use Rattle.mp_recover.specs.Recovering.{AnswersFor, RefusesBy}
use Rattle.mp_commands.specs.declared.faults.DiskFault.{DiskFault}
use Rattle.mp_commands.specs.declared.faults.DiskFault.TheVariants as faults
use Rattle.mp_commands.specs.declared.refusals.LogsRefusal.{LogsRefusal}
use Rattle.mp_commands.specs.declared.refusals.LogsRefusal.TheVariants.{Log, LogDisk, Memory as NoLogsMemory}
use Rattle.mp_commands.specs.Fresh.{Explains}
use Rattle.mp_commands.specs.LogTexts.{FindsLogs}
use Rattle.mp_app.specs.declared.output.Output.{Output}
use Rattle.mp_app.specs.declared.status.Status.TheVariants.{Done, Disk as DiskStatus, Memory as MemoryStatus}
use Rattle.mp_app.specs.Outcomes.{InitSays, Recovers, RecoverSays, DumpSays, LogsSays}
use Rattle.mp_app.specs.Printed.{text_of, PrintsStoreRefusal, PrintsDiskFault, PrintsLogsRefusal, PrintsRecoverRefusal, PrintsRecovered}

module _ {D : Type 0} (g : Ghosts D) where
  pub dump_refused : (old new : D) (refusal : StoreRefusal) (output : Output) → (IsTrue (g.tells old) → StoreFinds {T = Listed ℕ} (store_fault (g.seen old)) (Err refusal))
      → StoreCause {T = Listed ℕ} (g.faults old) (g.faults new) (Err refusal) → PrintsStoreRefusal refusal output → DumpSays g old new output.status (text_of output.printed)
  dump_refused old new (NotStore place) output finds cause (inl says) = rw (says.0) (record { place = place; first = finds; printed = says.1 })
  dump_refused old new (NotStore place) output finds cause (inr says) = rw (says.0) (says.1)
  dump_refused old new Disk output finds cause says = rw (says.0) (cause, says.1)
  dump_refused old new Memory output finds cause says = rw (says.0) (says.1)

  pub init_failed : (old new : Disks D) (fault : DiskFault) (output : Output) → Explains g fault old new → PrintsDiskFault fault output → InitSays g old new output.status (text_of output.printed)
  init_failed old new fault output rose (inl says) = rw (says.0) (record { fault = fault; rose = rose; printed = says.1 })
  init_failed old new fault output rose (inr says) = rw (says.0) (says.1)

  pub logs_refused : (old new : List D) (refusal : LogsRefusal) (output : Output) → FindsLogs g {T = Listed ℕ} (Err refusal) old new → PrintsLogsRefusal refusal output
      → LogsSays g old new output.status (text_of output.printed)
  logs_refused old new (Log primary place) output finds (inl says) = rw (says.0) (record { fault = record { primary = primary; place = place }; first = finds; printed = says.1 })
  logs_refused old new (Log primary place) output finds (inr says) = rw (says.0) (says.1)
  logs_refused old new (LogDisk primary) output finds (inl says) = rw (says.0) (record { primary = primary; failed = finds; printed = says.1 })
  logs_refused old new (LogDisk primary) output finds (inr says) = rw (says.0) (says.1)
  logs_refused old new NoLogsMemory output finds says = rw (says.0) (says.1)

  pub recover_refused : (old new : Disks D) (refusal : RecoverRefusal) (output : Output) → (AllTell g old → RefusesBy (as_read g old) refusal) → LeavesAll g old new refusal
      → RecoverCause g old new refusal → PrintsRecoverRefusal refusal output → RecoverSays g old new output.status (text_of output.printed)
  recover_refused old new (recover.Store place) output first left cause (inl says) = rw (says.0) (record { refusal = recover.Store place; content = tt; first = first; kept = left; printed = says.1 })
  recover_refused old new (recover.Store place) output first left cause (inr says) = rw (says.0) (record { stands = inl left; printed = says.1 })
  recover_refused old new recover.StoreDisk output first left cause says = rw (says.0) (record { fault = faults.Store; rose = cause; printed = says.1 })
  recover_refused old new (recover.Log primary place) output first left cause (inl says) = rw (says.0) (record { refusal = recover.Log primary place; content = tt; first = first; kept = left; printed = says.1 })
  recover_refused old new (recover.Log primary place) output first left cause (inr says) = rw (says.0) (record { stands = inl left; printed = says.1 })
  recover_refused old new (recover.LogDisk primary) output first left cause (inl says) = rw (says.0) (record { fault = faults.Log primary; rose = cause; printed = says.1 })
  recover_refused old new (recover.LogDisk primary) output first left cause (inr says) = rw (says.0) (record { stands = inr (inr (faults.Log primary, cause)); printed = says.1 })
  recover_refused old new (recover.Gap page wanted found) output first left cause (inl says) = rw (says.0) (record { refusal = recover.Gap page wanted found; content = tt; first = first; kept = left; printed = says.1 })
  recover_refused old new (recover.Gap page wanted found) output first left cause (inr says) = rw (says.0) (record { stands = inl left; printed = says.1 })
  recover_refused old new (recover.NotApplicable page llsn) output first left cause (inl says) = rw (says.0) (record { refusal = recover.NotApplicable page llsn; content = tt; first = first; kept = left; printed = says.1 })
  recover_refused old new (recover.NotApplicable page llsn) output first left cause (inr says) = rw (says.0) (record { stands = inl left; printed = says.1 })
  recover_refused old new (recover.Spent last) output first left cause (inl says) = rw (says.0) (record { refusal = recover.Spent last; content = tt; first = first; kept = left; printed = says.1 })
  recover_refused old new (recover.Spent last) output first left cause (inr says) = rw (says.0) (record { stands = inl left; printed = says.1 })
  recover_refused old new recover.Memory output first left cause says = rw (says.0) (record { stands = inl left; printed = says.1 })

  pub recover_done : (old new : Disks D) (made : Recovered) (output : Output) → (AllTell g old → AnswersFor (as_read g old) made)
      → (AllTell g old → SoundImage (as_read g old) → made.rows.items ≡ rows_of_image (as_read g old)) → Recovers g old new → PrintsRecovered made output → RecoverSays g old new output.status (text_of output.printed)
  recover_done old new made output answers rows recovers (inl says) = rw (says.0) (record { made = made; answers = answers; rows = rows; recovers = recovers; printed = says.1 })
  recover_done old new made output answers rows recovers (inr says) = rw (says.0) (record { stands = inr (inl recovers); printed = says.1 })

no_disk : DiskStatus ≡ Done → {P : Type 0} → P
no_disk e = absurd (cc)

no_memory : MemoryStatus ≡ Done → {P : Type 0} → P
no_memory e = absurd (cc)

-- what a disk's fault is printed as isn't that the command is done
pub failed_not_done : (fault : DiskFault) (output : Output) → PrintsDiskFault fault output → output.status ≡ Done → {P : Type 0} → P
failed_not_done fault output (inl says) done = no_disk (sym says.0 ∙ done)
failed_not_done fault output (inr says) done = no_memory (sym says.0 ∙ done)
