-- What a command says is what the call says whose words name it.
use Rattle.std.proofs.Common.{◌≡◌, ◌≢◌, ◌∙◌, ℕ, List, Option, None, inl, inr, Err, sym, subst}
use Rattle.mp_model.specs.declared.transcripts.Mode.{Mode}
use Rattle.mp_model.specs.declared.transcripts.Mode.TheVariants as mode
use Rattle.mp_outside.specs.Faults.{Rose}
use Rattle.mp_outside.specs.declared.disks.Disk.{Ghosts}
use Rattle.mp_files.specs.declared.disks.Disks.{Disks}
use Rattle.mp_files.specs.Nine.{KeptNine}
use Rattle.mp_files.proofs.Nines.{KeptNine-refl}
use Rattle.mp_commands.specs.Fresh.{Made}
use Rattle.mp_app.specs.declared.commands.Command.{Command}
use Rattle.mp_app.specs.declared.commands.Command.TheVariants.{Session, Plain}
use Rattle.mp_app.specs.declared.commands.PlainCommand.{PlainCommand}
use Rattle.mp_app.specs.declared.commands.PlainCommand.TheVariants.{Init, Recover, Dump, Logs, Gen}
use Rattle.mp_app.specs.declared.commands.SessionCommand.{SessionCommand}
use Rattle.mp_app.specs.declared.commands.SessionCommand.TheVariants.{Step, Run}
use Rattle.mp_app.specs.declared.commands.WordsRefusal.{WordsRefusal}
use Rattle.mp_app.specs.declared.commands.WordsRefusal.TheVariants.{Usage, Memory}
use Rattle.mp_app.specs.declared.output.Output.{Output}
use Rattle.mp_app.specs.declared.status.Status.{Status}
use Rattle.mp_app.specs.declared.status.Status.TheVariants.{Done, Usage as UsageStatus, Script as BadScript, Store, Stopped, Source, Sink, Disk, Memory as NoMemory}
use Rattle.mp_app.specs.Calls.{SourceUse}
use Rattle.mp_app.specs.Commands.{command_in, Names, ReadsWords}
use Rattle.mp_app.specs.Outcomes.{LeavesDisks, SessionSays, InitSays, Recovers, RecoverSays, CommandSays, Says, Writes, WritesFront}
use Rattle.mp_app.specs.Printed.{text_of, Prints, PrintsWordsRefusal}
use Rattle.mp_app.specs.Texts.{source_fault_text, no_memory_text}

no_done : {s : Status} → s ≡ Done → s ≡ Sink → ⊥
no_done {s} done sink = differ (sym done ∙ sink)
  where
    differ : Done ≡ Sink → ⊥
    differ e = cc

-- a call that is done has a sink that didn't fail
pub done_no_sink : (status : Status) → status ≡ Done → status ≡ Sink → ⊥
done_no_sink status done sink = no_done done sink

-- so has one whose status leaves the disks
pub leaves_no_sink : (status : Status) → LeavesDisks status → status ≡ Sink → ⊥
leaves_no_sink status leaves sink = subst LeavesDisks sink leaves

module _ {D : Type 0} (g : Ghosts D) where
  -- what is said of a command that runs a script is so of its mode
  pub said_in : (in_mode : Mode) (number : Option ℕ) (source : SourceUse) (old new : Disks D) (status : Status) (text : List ℕ)
      → CommandSays g (Session (command_in in_mode number)) source old new status text → SessionSays g in_mode number source old new status text
  said_in mode.Step number source old new status text says = says
  said_in mode.Run number source old new status text says = says

  session_kept : (in_mode : Mode) (number : Option ℕ) (source : SourceUse) (old new : Disks D) (status : Status) (text : List ℕ)
      → SessionSays g in_mode number source old new status text → LeavesDisks status → KeptNine g old new
  session_kept in_mode number source old new Done text says leaves = absurd leaves
  session_kept in_mode number source old new UsageStatus text says leaves = absurd says
  session_kept in_mode number source old new BadScript text says leaves = says.1
  session_kept in_mode number source old new Store text says leaves = says.kept
  session_kept in_mode number source old new Stopped text says leaves = absurd leaves
  session_kept in_mode number source old new Source text says leaves = says.1
  session_kept in_mode number source old new Sink text says leaves = absurd leaves
  session_kept in_mode number source old new Disk text says leaves = absurd leaves
  session_kept in_mode number source old new NoMemory text says leaves = absurd leaves

  -- where the script, its source or what the disks hold is refused for a run, the disks are as they were
  pub run_kept : (command : SessionCommand) (source : SourceUse) (old new : Disks D) (status : Status) (text : List ℕ)
      → CommandSays g (Session command) source old new status text → LeavesDisks status → KeptNine g old new
  run_kept (Step number) source = session_kept mode.Step number source
  run_kept (Run number) source = session_kept mode.Run number source

  -- the source failed, and the disks were left alone
  pub says_source_failed : (in_mode : Mode) (source : SourceUse) (disks : Disks D) (output : Output) → Rose source.faults source.faults_after
      → Prints Source source_fault_text output → SessionSays g in_mode None source disks disks output.status (text_of output.printed)
  says_source_failed in_mode source disks output rose prints = rw prints.0 ((rose, prints.1), KeptNine-refl g disks)

  pub front_said : (words : List (List ℕ)) (source : SourceUse) (old new : Disks D) (command : Command) (before after : Option (List ℕ))
      → Names words command → WritesFront (CommandSays g command source old new) before after → WritesFront (Says g words source old new) before after
  front_said words source old new command before after names front = record { status = front.status; text = front.text; said = inr (command, names, front.said); written = front.written }

  pub whole_said : (words : List (List ℕ)) (source : SourceUse) (old new : Disks D) (command : Command) (status : Status) (before after : Option (List ℕ))
      → Names words command → Writes (CommandSays g command source old new) status before after → Writes (Says g words source old new) status before after
  whole_said words source old new command status before after names whole = record { text = whole.text; said = inr (command, names, whole.said); written = whole.written }

  memory_said : (command : Command) (source : SourceUse) (disks : Disks D) (text : List ℕ) → text ≡ no_memory_text → CommandSays g command source disks disks NoMemory text
  memory_said (Session (Step number)) source disks text is = is
  memory_said (Session (Run number)) source disks text is = is
  memory_said (Plain Init) source disks text is = is
  memory_said (Plain Recover) source disks text is = record { stands = inl (KeptNine-refl g disks); printed = is }
  memory_said (Plain Dump) source disks text is = is
  memory_said (Plain Logs) source disks text is = is
  memory_said (Plain (Gen number)) source disks text is = is

  pub refusal_said : (words : List (List ℕ)) (source : SourceUse) (disks : Disks D) (refusal : WordsRefusal) (output : Output)
      → ReadsWords words (Err refusal) → PrintsWordsRefusal refusal output → Says g words source disks disks output.status (text_of output.printed)
  refusal_said words source disks Usage output none says = inl (none, says.0, says.1)
  refusal_said words source disks Memory output read says = rw (says.0) (inr (read.0, read.1, memory_said read.0 source disks (text_of output.printed) says.1))

  -- no command ends with the sink's status before its text is written
  sink_said : (command : Command) (source : SourceUse) (old new : Disks D) (text : List ℕ) → CommandSays g command source old new Sink text → ⊥
  sink_said (Session (Step number)) source old new text says = says
  sink_said (Session (Run number)) source old new text says = says
  sink_said (Plain Init) source old new text says = says
  sink_said (Plain Recover) source old new text says = says
  sink_said (Plain Dump) source old new text says = says
  sink_said (Plain Logs) source old new text says = says
  sink_said (Plain (Gen number)) source old new text says = says

  pub never_sink : (command : Command) (source : SourceUse) (old new : Disks D) (status : Status) (text : List ℕ)
      → CommandSays g command source old new status text → status ≡ Sink → ⊥
  never_sink command source old new status text says is = sink_said command source old new text (subst (λ s. CommandSays g command source old new s text) is says)

  -- where `init` is done, the disks were made anew
  pub made_said : (command : PlainCommand) (source : SourceUse) (old new : Disks D) (status : Status) (text : List ℕ)
      → CommandSays g (Plain command) source old new status text → command ≡ Init → status ≡ Done → Made g old new
  made_said command source old new status text says init done =
      let at_done : InitSays g old new Done text = subst (λ s. InitSays g old new s text) done (subst (λ (k : PlainCommand). CommandSays g (Plain k) source old new status text) init says) in
      at_done.0

  -- where `recover` is done, the disks are recovered
  pub recovered_said : (command : PlainCommand) (source : SourceUse) (old new : Disks D) (status : Status) (text : List ℕ)
      → CommandSays g (Plain command) source old new status text → command ≡ Recover → status ≡ Done → Recovers g old new
  recovered_said command source old new status text says recover done =
      let at_done : RecoverSays g old new Done text = subst (λ s. RecoverSays g old new s text) done (subst (λ (k : PlainCommand). CommandSays g (Plain k) source old new status text) recover says) in
      at_done.recovers

  -- where the content of disks is refused, they are as they were: `init` refuses none, and `recover` says so
  init_kept : (old new : Disks D) (status : Status) (text : List ℕ) → InitSays g old new status text → LeavesDisks status → KeptNine g old new
  init_kept old new Done text says leaves = absurd leaves
  init_kept old new UsageStatus text says leaves = absurd says
  init_kept old new BadScript text says leaves = absurd says
  init_kept old new Store text says leaves = absurd says
  init_kept old new Stopped text says leaves = absurd leaves
  init_kept old new Source text says leaves = absurd says
  init_kept old new Sink text says leaves = absurd leaves
  init_kept old new Disk text says leaves = absurd leaves
  init_kept old new NoMemory text says leaves = absurd leaves

  recover_kept : (old new : Disks D) (status : Status) (text : List ℕ) → RecoverSays g old new status text → LeavesDisks status → KeptNine g old new
  recover_kept old new Done text says leaves = absurd leaves
  recover_kept old new UsageStatus text says leaves = absurd says
  recover_kept old new BadScript text says leaves = absurd says
  recover_kept old new Store text says leaves = says.kept
  recover_kept old new Stopped text says leaves = absurd leaves
  recover_kept old new Source text says leaves = absurd says
  recover_kept old new Sink text says leaves = absurd leaves
  recover_kept old new Disk text says leaves = absurd leaves
  recover_kept old new NoMemory text says leaves = absurd leaves

  pub kept_said : (command : PlainCommand) (source : SourceUse) (old new : Disks D) (status : Status) (text : List ℕ)
      → CommandSays g (Plain command) source old new status text → (command ≢ Init → command ≢ Recover → KeptNine g old new) → LeavesDisks status → KeptNine g old new
  kept_said Init source old new status text says others leaves = init_kept old new status text says leaves
  kept_said Recover source old new status text says others leaves = recover_kept old new status text says leaves
  kept_said Dump source old new status text says others leaves = others (λ is. absurd cc) (λ is. absurd cc)
  kept_said Logs source old new status text says others leaves = others (λ is. absurd cc) (λ is. absurd cc)
  kept_said (Gen number) source old new status text says others leaves = others (λ is. absurd cc) (λ is. absurd cc)

-- words that weren't read end with another status than that the command is done
pub refusal_not_done : (refusal : WordsRefusal) (output : Output) → PrintsWordsRefusal refusal output → output.status ≡ Done → {P : Type 0} → P
refusal_not_done Usage output says done = absurd (differ (sym says.0 ∙ done))
  where
    differ : UsageStatus ≡ Done → ⊥
    differ e = cc
refusal_not_done Memory output says done = absurd (differ (sym says.0 ∙ done))
  where
    differ : NoMemory ≡ Done → ⊥
    differ e = cc
