-- What each status means: when it comes, and which text goes with it.
use Rattle.std.specs.Prelude.{◌≡◌, ◌≢◌, ◌⊎◌, ℕ, List, [], Option, Some, None, IsTrue, length}
use Rattle.std.specs.Io.KnownBytes.{Appends}
use Rattle.mp_model.specs.declared.transcripts.Down.{Down}
use Rattle.mp_model.specs.declared.transcripts.Mode.{Mode}
use Rattle.mp_model.specs.declared.transcripts.Mode.TheVariants as mode
use Rattle.mp_model.specs.declared.transcripts.Transcript.{Transcript}
use Rattle.mp_outside.specs.Faults.{Rose}
use Rattle.mp_outside.specs.Sinks.{AppendsFront}
use Rattle.mp_outside.specs.declared.disks.Disk.{Ghosts}
use Rattle.mp_files.specs.declared.disks.Disks.{Disks}
use Rattle.mp_files.specs.Nine.{EachTells, AllTell, Every, as_read, seen_at, KeptNine, DiskRose, LogRose}
use Rattle.mp_report.specs.Transcripts.{transcript_text}
use Rattle.mp_report.specs.Readable.{IsReadable}
use Rattle.mp_script.specs.declared.statements.Script.{Script}
use Rattle.mp_opening.specs.declared.refusals.ClusterRefusal.{ClusterRefusal}
use Rattle.mp_opening.specs.declared.refusals.ClusterRefusal.TheVariants as cluster
use Rattle.mp_opening.specs.Openings.{MayBegin, RefusesRun}
use Rattle.mp_cluster.specs.Runs.{DownsHaveFailed, IsLegalRun, IsLeftOfRun, transactions_of}
use Rattle.mp_script.specs.Faults.{FaultAt, script_fault}
use Rattle.mp_script.specs.Spelling.{Spells}
use Rattle.mp_script.specs.Text.{script_text}
use Rattle.mp_generate.specs.Generated.{IsGenerated}
use Rattle.mp_summary.specs.Summaries.{summary_text}
use Rattle.mp_app.specs.declared.status.Status.{Status}
use Rattle.mp_app.specs.declared.status.Status.TheVariants.{Done, Usage, Script as BadScript, Store, Stopped, Source, Disk, Memory}
use Rattle.mp_commands.specs.Dumps.{dump_text}
use Rattle.mp_commands.specs.Fresh.{Made, Explains}
use Rattle.mp_commands.specs.LogTexts.{LogFault, logs_text, fault_below, IsFirstFault, IsFirstFailed}
use Rattle.mp_commands.specs.declared.faults.DiskFault.{DiskFault}
use Rattle.mp_commands.specs.declared.faults.DiskFault.TheVariants as faults
use Rattle.mp_recover.specs.declared.recovering.Recovered.{Recovered}
use Rattle.mp_recover.specs.declared.refusals.RecoverRefusal.{RecoverRefusal}
use Rattle.mp_recover.specs.declared.refusals.RecoverRefusal.TheVariants as recover
use Rattle.mp_recover.specs.Images.{SoundImage, rows_of_image}
use Rattle.mp_recover.specs.Recovering.{AnswersFor, RefusesBy, IsRecovered}
use Rattle.mp_store.specs.StoreFiles.{store_fault}
use Rattle.mp_app.specs.declared.commands.Command.{Command}
use Rattle.mp_app.specs.declared.commands.Command.TheVariants.{Session, Plain}
use Rattle.mp_app.specs.declared.commands.PlainCommand.TheVariants.{Init, Recover, Dump, Logs, Gen}
use Rattle.mp_app.specs.declared.commands.SessionCommand.TheVariants.{Step, Run}
use Rattle.mp_app.specs.Calls.{SourceUse, ReadToItsEnd, ReadUpToTheBound}
use Rattle.mp_app.specs.Commands.{Names, NoCommand}
use Rattle.mp_app.specs.Recoveries.{recovered_text}
use Rattle.mp_app.specs.Texts.{usage_text, script_fault_text, run_refused_text, source_fault_text, store_refused_text, store_failed_text, log_failed_text, log_refused_text, disk_failed_text, recovery_refused_text, ready_text, no_memory_text}

-- no primary went down in a run, or some did
abbrev pub NoneIsDown : List Down → Type 0
NoneIsDown downs = downs ≡ []

abbrev pub SomeIsDown : List Down → Type 0
SomeIsDown downs = downs ≢ []

-- a status with which the disks are as they were, whatever the command
abbrev pub LeavesDisks : Status → Type 0
LeavesDisks Usage = Unit {0}
LeavesDisks BadScript = Unit {0}
LeavesDisks Store = Unit {0}
LeavesDisks Source = Unit {0}
LeavesDisks _ = ⊥

-- the source was read to its end, and the bytes read spell the script
pub record ReadsScript (source : SourceUse) (script : Script) : Type 0 where
  pub bytes : List ℕ
  pub read : ReadToItsEnd source.left source.still_left bytes
  pub spelled : Spells bytes script

-- a run's script is the one that was read, or that of a number
abbrev pub IsItsScript : Option ℕ → SourceUse → Script → Type 0
IsItsScript None source script = ReadsScript source script
IsItsScript (Some number) source script = IsGenerated number script

-- what is printed of a run is its transcript, or the summary where a number is its script's
abbrev pub run_text : Option ℕ → Script → Transcript → List ℕ
run_text None script transcript = transcript_text transcript
run_text (Some number) script transcript = summary_text number script transcript

-- the bytes have this first fault
pub record HasFault (bytes text : List ℕ) : Type 0 where
  pub found : FaultAt
  pub first : script_fault bytes ≡ Some found
  pub printed : text ≡ script_fault_text found

-- the bytes read, which are all or the first 1,048,577, are refused as a script
pub record RefusesItsScript (source : SourceUse) (text : List ℕ) : Type 0 where
  pub bytes : List ℕ
  pub read : ReadUpToTheBound source.left bytes
  pub refused : HasFault bytes text

-- only a script that is read can be refused, and only its source can fail
abbrev pub RefusesAScript : Option ℕ → SourceUse → List ℕ → Type 0
RefusesAScript None source text = RefusesItsScript source text
RefusesAScript (Some number) source text = ⊥

abbrev pub FailsToRead : Option ℕ → SourceUse → List ℕ → Type 0
FailsToRead None source text = Rose source.faults source.faults_after × (text ≡ source_fault_text)
FailsToRead (Some number) source text = ⊥

-- a refusal of a run for what the disks hold, and not for a disk that failed or for want of memory
abbrev pub IsOfHeld : ClusterRefusal → Type 0
IsOfHeld cluster.StoreDisk = ⊥
IsOfHeld (cluster.LogDisk primary) = ⊥
IsOfHeld cluster.Memory = ⊥
IsOfHeld refusal = Unit {0}

-- a refusal of recovery for what the disks hold, and not for a disk that failed or for want of memory
abbrev pub IsOfContent : RecoverRefusal → Type 0
IsOfContent recover.StoreDisk = ⊥
IsOfContent (recover.LogDisk primary) = ⊥
IsOfContent recover.Memory = ⊥
IsOfContent refusal = Unit {0}

-- the text is that of the number's script, and spells it
pub record ShowsGenerated (number : ℕ) (text : List ℕ) : Type 0 where
  pub script : Script
  pub generated : IsGenerated number script
  pub spelled : Spells text script
  pub printed : text ≡ script_text script

-- when `gen` ends with a status, and its text
abbrev pub GenSays : ℕ → Status → List ℕ → Type 0
GenSays number Done text = ShowsGenerated number text
GenSays number Memory text = text ≡ no_memory_text
GenSays number _ text = ⊥

module _ {D : Type 0} (g : Ghosts D) where
  -- the text is that of the store, which is of the grammar; of a disk that doesn't tell its bytes nothing is said
  abbrev pub ShowsStore : D → List ℕ → Type 0
  ShowsStore store text = IsTrue (g.tells store) → (store_fault (g.seen store) ≡ None) × (text ≡ dump_text (g.seen store))

  -- the store is off the grammar first at the place that is printed
  pub record RefusesStore (store : D) (text : List ℕ) : Type 0 where
    pub place : ℕ
    pub first : IsTrue (g.tells store) → store_fault (g.seen store) ≡ Some place
    pub printed : text ≡ store_refused_text place

  -- when `dump` ends with a status, and its text
  abbrev pub DumpSays : D → D → Status → List ℕ → Type 0
  DumpSays old new Done text = ShowsStore old text
  DumpSays old new Store text = RefusesStore old text
  DumpSays old new Disk text = Rose (g.faults old) (g.faults new) × (text ≡ store_failed_text)
  DumpSays old new Memory text = text ≡ no_memory_text
  DumpSays old new _ text = ⊥

  -- a disk failed, and it is the one that is printed
  pub record NamesDisk (old new : Disks D) (text : List ℕ) : Type 0 where
    pub fault : DiskFault
    pub rose : Explains g fault old new
    pub printed : text ≡ disk_failed_text fault

  -- when `init` ends with a status, and its text
  abbrev pub InitSays : Disks D → Disks D → Status → List ℕ → Type 0
  InitSays old new Done text = Made g old new × (text ≡ ready_text)
  InitSays old new Disk text = NamesDisk old new text
  InitSays old new Memory text = text ≡ no_memory_text
  InitSays old new _ text = ⊥

  -- disks that were sound are recovered, whatever a crash now leaves of them; of disks that don't tell their bytes
  -- nothing is said
  abbrev pub Recovers : Disks D → Disks D → Type 0
  Recovers old new = AllTell g old → SoundImage (as_read g old) → Every g new (IsRecovered (as_read g old))

  -- the text is that of a recovery: its counts are those of what the disks held, and where they were sound, its rows are
  -- the stored ones with the kept commits folded in
  pub record ShowsRecovered (old new : Disks D) (text : List ℕ) : Type 0 where
    pub made : Recovered
    pub answers : AllTell g old → AnswersFor (as_read g old) made
    pub rows : AllTell g old → SoundImage (as_read g old) → made.rows.items ≡ rows_of_image (as_read g old)
    pub recovers : Recovers old new
    pub printed : text ≡ recovered_text made

  -- what the disks hold is refused for what is printed, which comes first, and they are left as they were
  pub record RefusesContent (old new : Disks D) (text : List ℕ) : Type 0 where
    pub refusal : RecoverRefusal
    pub content : IsOfContent refusal
    pub first : AllTell g old → RefusesBy (as_read g old) refusal
    pub kept : KeptNine g old new
    pub printed : text ≡ recovery_refused_text refusal

  -- the count of faults of a disk rose
  abbrev pub FaultsRose : DiskFault → Disks D → Disks D → Type 0
  FaultsRose faults.Store old new = DiskRose g old.store new.store
  FaultsRose (faults.Log primary) old new = LogRose g primary old new

  -- a disk failed, whatever was written before, and it is the one that is printed
  pub record NamesFailed (old new : Disks D) (text : List ℕ) : Type 0 where
    pub fault : DiskFault
    pub rose : FaultsRose fault old new
    pub printed : text ≡ disk_failed_text fault

  -- there was no memory, and the disks are as they were, or recovered, or the count of faults of one rose
  pub record WantsMemory (old new : Disks D) (text : List ℕ) : Type 0 where
    pub stands : KeptNine g old new ⊎ (Recovers old new ⊎ ((fault : DiskFault) × FaultsRose fault old new))
    pub printed : text ≡ no_memory_text

  -- when `recover` ends with a status, and its text
  abbrev pub RecoverSays : Disks D → Disks D → Status → List ℕ → Type 0
  RecoverSays old new Done text = ShowsRecovered old new text
  RecoverSays old new Store text = RefusesContent old new text
  RecoverSays old new Disk text = NamesFailed old new text
  RecoverSays old new Memory text = WantsMemory old new text
  RecoverSays old new _ text = ⊥

  -- the text is that of the logs, which are of the grammar; of logs that don't tell their bytes nothing is said
  abbrev pub ShowsLogs : List D → List ℕ → Type 0
  ShowsLogs logs text = EachTells g logs
      → (fault_below (seen_at g logs) (length logs) ≡ None) × (text ≡ logs_text (seen_at g logs) (length logs))

  -- the log that is printed is the first off the grammar, first at the place that is printed
  pub record RefusesLog (logs : List D) (text : List ℕ) : Type 0 where
    pub fault : LogFault
    pub first : IsFirstFault g fault logs
    pub printed : text ≡ log_refused_text fault.primary fault.place

  -- the disk of the log that is printed failed, and no log before it is off the grammar
  pub record NamesLog (old new : List D) (text : List ℕ) : Type 0 where
    pub primary : ℕ
    pub failed : IsFirstFailed g primary old new
    pub printed : text ≡ log_failed_text primary

  -- when `logs` ends with a status, and its text
  abbrev pub LogsSays : List D → List D → Status → List ℕ → Type 0
  LogsSays old new Done text = ShowsLogs old text
  LogsSays old new Store text = RefusesLog old text
  LogsSays old new Disk text = NamesLog old new text
  LogsSays old new Memory text = text ≡ no_memory_text
  LogsSays old new _ text = ⊥

  -- THE TRANSCRIPT OF A RUN is readable, of a mode, and legal for the script over what the disks held; its `down` lines are
  -- so, and the logs of those that they name failed; and what a crash may now leave is sound, and closed for the transcript
  pub record IsRunOf (in_mode : Mode) (AreSo : List Down → Type 0) (old new : Disks D) (script : Script) (transcript : Transcript) : Type 0 where
    pub mode : transcript.mode ≡ in_mode
    pub downs : AreSo transcript.downs.items
    pub failed : DownsHaveFailed g old new transcript
    pub legal : IsLegalRun g old script transcript
    pub readable : IsReadable transcript
    pub left : AllTell g old → Every g new (IsLeftOfRun (as_read g old) script transcript)

  -- the text is that of such a run
  pub record PrintsLegal (number : Option ℕ) (in_mode : Mode) (AreSo : List Down → Type 0) (old new : Disks D) (script : Script) (text : List ℕ) : Type 0 where
    pub transcript : Transcript
    pub run : IsRunOf in_mode AreSo old new script transcript
    pub printed : text ≡ run_text number script transcript

  -- the script that was read to the source's end, or that of the number, may begin over what the disks held, and it is
  -- answered in the mode
  pub record AnswersItsScript (in_mode : Mode) (number : Option ℕ) (AreSo : List Down → Type 0) (source : SourceUse) (old new : Disks D) (text : List ℕ) : Type 0 where
    pub script : Script
    pub its : IsItsScript number source script
    pub began : AllTell g old → MayBegin (as_read g old) (transactions_of script)
    pub answered : PrintsLegal number in_mode AreSo old new script text

  -- what the disks hold is refused for a script's run for what is printed, which comes first, and they are left as they were
  pub record RefusesTheRun (number : Option ℕ) (source : SourceUse) (old new : Disks D) (text : List ℕ) : Type 0 where
    pub script : Script
    pub its : IsItsScript number source script
    pub refusal : ClusterRefusal
    pub content : IsOfHeld refusal
    pub first : AllTell g old → RefusesRun (as_read g old) (transactions_of script) refusal
    pub kept : KeptNine g old new
    pub printed : text ≡ run_refused_text refusal

  -- a disk failed while the nine were opened, and it is the one that is printed; they are left as they were
  pub record FailsToOpen (old new : Disks D) (text : List ℕ) : Type 0 where
    pub names : NamesFailed old new text
    pub kept : KeptNine g old new

  -- when `step` or `run`, with a number or without, ends with a status, and its text; with no other status it ends
  abbrev pub SessionSays : Mode → Option ℕ → SourceUse → Disks D → Disks D → Status → List ℕ → Type 0
  SessionSays in_mode number source old new Done text = AnswersItsScript in_mode number NoneIsDown source old new text
  SessionSays in_mode number source old new Stopped text = AnswersItsScript in_mode number SomeIsDown source old new text
  SessionSays in_mode number source old new BadScript text = RefusesAScript number source text × KeptNine g old new
  SessionSays in_mode number source old new Store text = RefusesTheRun number source old new text
  SessionSays in_mode number source old new Source text = FailsToRead number source text × KeptNine g old new
  SessionSays in_mode number source old new Disk text = FailsToOpen old new text
  SessionSays in_mode number source old new Memory text = text ≡ no_memory_text
  SessionSays in_mode number source old new _ text = ⊥

  -- when a command ends with a status, and its text
  abbrev pub CommandSays : Command → SourceUse → Disks D → Disks D → Status → List ℕ → Type 0
  CommandSays (Session (Step number)) source old new = SessionSays mode.Step number source old new
  CommandSays (Session (Run number)) source old new = SessionSays mode.Run number source old new
  CommandSays (Plain Init) source old new = InitSays old new
  CommandSays (Plain Recover) source old new = RecoverSays old new
  CommandSays (Plain Dump) source old new = DumpSays old.store new.store
  CommandSays (Plain Logs) source old new = LogsSays old.logs.items new.logs.items
  CommandSays (Plain (Gen number)) source old new = GenSays number

  -- words that name no command end with the usage text, others as their command says
  abbrev pub Says : List (List ℕ) → SourceUse → Disks D → Disks D → Status → List ℕ → Type 0
  Says words source old new status text = (NoCommand words × (status ≡ Usage) × (text ≡ usage_text))
      ⊎ ((command : Command) × Names words command × CommandSays command source old new status text)

-- the text that goes with this status was written whole
pub record Writes (says : Status → List ℕ → Type 0) (status : Status) (before after : Option (List ℕ)) : Type 0 where
  pub text : List ℕ
  pub said : says status text
  pub written : Appends before after text

-- a front of some status's text was written
pub record WritesFront (says : Status → List ℕ → Type 0) (before after : Option (List ℕ)) : Type 0 where
  pub status : Status
  pub text : List ℕ
  pub said : says status text
  pub written : AppendsFront before after text
