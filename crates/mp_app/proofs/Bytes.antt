-- What the bytes come to, by what their script or their refusal came to; and what a script comes to, by what its run did.
use Rattle.std.proofs.Common.{◌≡◌, ◌∙◌, ℕ, List, [], ◌∷◌, Option, Some, None, inl, inr, refl, sym}
use Rattle.mp_model.specs.declared.transcripts.Down.{Down}
use Rattle.mp_model.specs.declared.transcripts.Mode.{Mode}
use Rattle.mp_model.specs.declared.transcripts.Transcript.{Transcript}
use Rattle.mp_outside.specs.declared.disks.Disk.{Ghosts}
use Rattle.mp_files.specs.declared.disks.Disks.{Disks}
use Rattle.mp_files.specs.Nine.{AllTell, Every, as_read}
use Rattle.mp_files.proofs.Nines.{KeptNine-refl}
use Rattle.mp_report.specs.Readable.{IsReadable}
use Rattle.mp_script.specs.declared.statements.Script.{Script}
use Rattle.mp_script.specs.Faults.{FaultAt, script_fault}
use Rattle.mp_script.specs.Spelling.{IsSpelled, Spells}
use Rattle.mp_commands.specs.declared.faults.DiskFault.TheVariants as faults
use Rattle.mp_opening.specs.declared.refusals.ClusterRefusal.{ClusterRefusal}
use Rattle.mp_opening.specs.declared.refusals.ClusterRefusal.TheVariants as cluster
use Rattle.mp_opening.specs.Openings.{MayBegin, RefusesRun, RunCause}
use Rattle.mp_cluster.specs.Runs.{DownsHaveFailed, IsLegalRun, IsLeftOfRun, RunLeaves, transactions_of}
use Rattle.mp_app.specs.declared.output.Output.{Output}
use Rattle.mp_app.specs.declared.status.Status.{Status}
use Rattle.mp_app.specs.declared.status.Status.TheVariants.{Done, Usage, Script as BadScript, Store, Stopped, Source, Sink, Disk, Memory}
use Rattle.mp_app.specs.Answered.{BytesSay, RefusesBytes, ScriptSays}
use Rattle.mp_app.specs.Outcomes.{run_text}
use Rattle.mp_app.specs.Printed.{text_of, Prints, PrintsFault, status_of_downs, PrintsRun, PrintsRunRefusal}
use Rattle.mp_app.specs.Texts.{no_memory_text}

pub spelled_by : (bytes : List ℕ) (script : Script) → Spells bytes script → IsSpelled script
spelled_by bytes script spelled = (bytes, spelled)

module _ {D : Type 0} (g : Ghosts D) (in_mode : Mode) where
  pub says_script : (bytes : List ℕ) (script : Script) (old new : Disks D) (status : Status) (text : List ℕ) → Spells bytes script → ScriptSays g in_mode None script old new status text
      → BytesSay g in_mode bytes old new status text
  says_script bytes script old new Done text spelled says = (script, spelled, says)
  says_script bytes script old new Usage text spelled says = absurd says
  says_script bytes script old new BadScript text spelled says = absurd says
  says_script bytes script old new Store text spelled says = (script, spelled, says)
  says_script bytes script old new Stopped text spelled says = (script, spelled, says)
  says_script bytes script old new Source text spelled says = absurd says
  says_script bytes script old new Sink text spelled says = absurd says
  says_script bytes script old new Disk text spelled says = (script, spelled, says)
  says_script bytes script old new Memory text spelled says = says

  says_fault : (bytes : List ℕ) (found : FaultAt) (disks : Disks D) (output : Output) → PrintsFault found output → script_fault bytes ≡ Some found
      → BytesSay g in_mode bytes disks disks output.status (text_of output.printed)
  says_fault bytes found disks output (inl says) first = rw says.0 (record { found = found; first = first; printed = says.1 }, KeptNine-refl g disks)
  says_fault bytes found disks output (inr says) first = rw says.0 says.1

  says_memory : (bytes : List ℕ) (disks : Disks D) (output : Output) → Prints Memory no_memory_text output → BytesSay g in_mode bytes disks disks output.status (text_of output.printed)
  says_memory bytes disks output prints = rw prints.0 prints.1

  pub says_refused : (bytes : List ℕ) (disks : Disks D) (output : Output) → RefusesBytes bytes output → BytesSay g in_mode bytes disks disks output.status (text_of output.printed)
  says_refused bytes disks output (inl fault) = says_fault bytes fault.0 disks output fault.2 fault.1
  says_refused bytes disks output (inr none) = says_memory bytes disks output none

  -- a transcript is printed as one that may be, by its `down` lines
  said_by_downs : (number : Option ℕ) (script : Script) (old new : Disks D) (transcript : Transcript) (text : List ℕ) → (AllTell g old → MayBegin (as_read g old) (transactions_of script))
      → IsLegalRun g old script transcript → IsReadable transcript → transcript.mode ≡ in_mode → DownsHaveFailed g old new transcript
      → (AllTell g old → Every g new (IsLeftOfRun (as_read g old) script transcript)) → text ≡ run_text number script transcript
      → (downs : List Down) → transcript.downs.items ≡ downs → ScriptSays g in_mode number script old new (status_of_downs downs) text
  said_by_downs number script old new transcript text begins legal readable its_mode failed left printed [] is =
      (begins, record { transcript = transcript; run = record { mode = its_mode; downs = is; failed = failed; legal = legal; readable = readable; left = left }; printed = printed })
  said_by_downs number script old new transcript text begins legal readable its_mode failed left printed (down ∷ downs) is =
      (begins, record { transcript = transcript; run = record { mode = its_mode; downs = λ none. differ (sym is ∙ none); failed = failed; legal = legal; readable = readable; left = left }; printed = printed })
    where
      differ : down ∷ downs ≡ [] → ⊥
      differ e = cc

  pub run_done : (number : Option ℕ) (script : Script) (old new : Disks D) (transcript : Transcript) (output : Output) → (AllTell g old → MayBegin (as_read g old) (transactions_of script))
      → IsLegalRun g old script transcript → IsReadable transcript → transcript.mode ≡ in_mode → DownsHaveFailed g old new transcript
      → (AllTell g old → Every g new (IsLeftOfRun (as_read g old) script transcript)) → PrintsRun (run_text number script transcript) transcript output
      → ScriptSays g in_mode number script old new output.status (text_of output.printed)
  run_done number script old new transcript output begins legal readable its_mode failed left (inl says) =
      rw says.0 (said_by_downs number script old new transcript (text_of output.printed) begins legal readable its_mode failed left says.1 transcript.downs.items refl)
  run_done number script old new transcript output begins legal readable its_mode failed left (inr says) = rw says.0 says.1

  -- and a refusal of a run as what it is
  pub run_refused : (number : Option ℕ) (script : Script) (old new : Disks D) (refusal : ClusterRefusal) (output : Output) → (AllTell g old → RefusesRun (as_read g old) (transactions_of script) refusal)
      → RunLeaves g old new refusal → RunCause g old new refusal → PrintsRunRefusal refusal output → ScriptSays g in_mode number script old new output.status (text_of output.printed)
  run_refused number script old new (cluster.Store place) output first left cause (inl says) = rw says.0 (cluster.Store place, tt, first, left, says.1)
  run_refused number script old new (cluster.Store place) output first left cause (inr says) = rw says.0 says.1
  run_refused number script old new cluster.StoreDisk output first left cause says = rw says.0 (record { names = record { fault = faults.Store; rose = cause; printed = says.1 }; kept = left })
  run_refused number script old new (cluster.Log primary place) output first left cause (inl says) = rw says.0 (cluster.Log primary place, tt, first, left, says.1)
  run_refused number script old new (cluster.Log primary place) output first left cause (inr says) = rw says.0 says.1
  run_refused number script old new (cluster.LogDisk primary) output first left cause (inl says) = rw says.0 (record { names = record { fault = faults.Log primary; rose = cause; printed = says.1 }; kept = left })
  run_refused number script old new (cluster.LogDisk primary) output first left cause (inr says) = rw says.0 says.1
  run_refused number script old new (cluster.NeedsRecover primary llsn) output first left cause (inl says) = rw says.0 (cluster.NeedsRecover primary llsn, tt, first, left, says.1)
  run_refused number script old new (cluster.NeedsRecover primary llsn) output first left cause (inr says) = rw says.0 says.1
  run_refused number script old new cluster.NotClean output first left cause says = rw says.0 (cluster.NotClean, tt, first, left, says.1)
  run_refused number script old new (cluster.Spent what base add) output first left cause (inl says) = rw says.0 (cluster.Spent what base add, tt, first, left, says.1)
  run_refused number script old new (cluster.Spent what base add) output first left cause (inr says) = rw says.0 says.1
  run_refused number script old new cluster.Memory output first left cause says = rw says.0 says.1
