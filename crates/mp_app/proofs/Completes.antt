-- Where nothing failed and what the command reads is of its grammar, what is said is that it is done, or that there was no memory.
use Rattle.std.proofs.Common.{◌≡◌, ◌≢◌, ◌∙◌, ◌≤◌, ◌⊎◌, ℕ, List, [], ◌∷◌, length, Option, Some, None, inl, inr, refl, sym, ap, subst, arith}
use Rattle.std.proofs.lemmas.List.{take_all}
use Rattle.std.specs.List.{AllByRecursion}
use Rattle.mp_model.specs.declared.transcripts.Down.{Down}
use Rattle.mp_model.specs.declared.transcripts.Mode.{Mode}
use Rattle.mp_model.specs.declared.transcripts.Mode.TheVariants as mode
use Rattle.mp_outside.specs.declared.disks.Disk.{Ghosts}
use Rattle.mp_files.specs.declared.disks.Disks.{Disks}
use Rattle.mp_files.specs.Nine.{LogRose, seen_at, as_read}
use Rattle.mp_commands.specs.LogTexts.{LogFault, fault_below, TellBelow}
use Rattle.mp_commands.proofs.LogsBelow.{fault_stays, all_below}
use Rattle.mp_commands.specs.Fresh.{Explains}
use Rattle.mp_commands.specs.declared.faults.DiskFault.{DiskFault}
use Rattle.mp_commands.specs.declared.faults.DiskFault.TheVariants.{Store as StoreFailed, Log as LogFailed}
use Rattle.mp_recover.specs.declared.refusals.RecoverRefusal.{RecoverRefusal}
use Rattle.mp_recover.specs.declared.refusals.RecoverRefusal.TheVariants as recover
use Rattle.mp_recover.specs.Recovering.{RefusesBy}
use Rattle.mp_script.proofs.ScriptLaws.{spelled-no_fault, spelled-once}
use Rattle.mp_script.specs.declared.statements.Script.{Script}
use Rattle.mp_script.specs.BeginNames.{begin_names}
use Rattle.mp_script.specs.Spelling.{Spells}
use Rattle.mp_opening.specs.Openings.{MayBegin}
use Rattle.mp_cluster.specs.Runs.{transactions_of}
use Rattle.mp_app.specs.declared.commands.Command.{Command}
use Rattle.mp_app.specs.declared.commands.Command.TheVariants.{Session, Plain}
use Rattle.mp_app.specs.declared.commands.PlainCommand.TheVariants.{Init, Recover, Dump, Logs, Gen}
use Rattle.mp_app.specs.declared.commands.SessionCommand.TheVariants.{Step, Run}
use Rattle.mp_app.specs.declared.status.Status.{Status}
use Rattle.mp_app.specs.declared.status.Status.TheVariants.{Done, Usage, Script as BadScript, Store, Stopped, Source, Sink, Disk, Memory}
use Rattle.mp_app.specs.Calls.{SourceUse, ReadToItsEnd, ReadUpToTheBound}
use Rattle.mp_app.specs.Commands.{Names}
use Rattle.mp_app.specs.Complete.{SourceMayRun, NumberMayRun, NothingRose, MayRecover, IsInOrder}
use Rattle.mp_app.specs.Outcomes.{ReadsScript, RefusesItsScript, SessionSays, DumpSays, InitSays, GenSays, IsOfContent, FaultsRose, RecoverSays, LogsSays, CommandSays, Says}
use Rattle.mp_app.proofs.NamedOnce.{named_once}
use Rattle.mp_app.proofs.RunsBegin.{none_some, never_refused}

-- done, or no memory
abbrev IsAnswered : Status → Type 0
IsAnswered status = (status ≡ Done) ⊎ (status ≡ Memory)

-- what was read up to the bound of bytes that spell a script are these bytes
whole_read : (left : Option (List ℕ)) (told : List ℕ) (script : Script) (bytes : List ℕ) → left ≡ Some told → Spells told script → ReadUpToTheBound left bytes → bytes ≡ told
whole_read left told script bytes is spelled read = subst (λ l. ReadUpToTheBound l bytes) is read ∙ take_all 1048577 told (omega (arith, spelled.size))

-- so they aren't refused
not_refused : (source : SourceUse) (text told : List ℕ) (script : Script) → source.left ≡ Some told → Spells told script → RefusesItsScript source text → ⊥
not_refused source text told script is spelled refuses =
    let whole = whole_read source.left told script refuses.bytes is spelled refuses.read in
    none_some (spelled-no_fault refuses.bytes script (subst (λ bytes. Spells bytes script) (sym whole) spelled)) refuses.refused.first

-- and the script that is read has the transactions of the one that they spell
same_begins : (source : SourceUse) (told : List ℕ) (script read : Script) → source.left ≡ Some told → Spells told script → ReadsScript source read → transactions_of script ≡ transactions_of read
same_begins source told script read is spelled reads =
    let whole = subst (λ l. ReadToItsEnd l source.still_left reads.bytes) is reads.read in
    let same = spelled-once told script read spelled (subst (λ bytes. Spells bytes read) whole.0 reads.spelled) in
    ap (λ lines. length (begin_names lines)) (sym same.lines)

-- a number's script is printed, or there was no memory
gen_answered : (number : ℕ) (status : Status) (text : List ℕ) → GenSays number status text → IsAnswered status
gen_answered number Done text says = inl refl
gen_answered number Usage text says = absurd says
gen_answered number BadScript text says = absurd says
gen_answered number Store text says = absurd says
gen_answered number Stopped text says = absurd says
gen_answered number Source text says = absurd says
gen_answered number Sink text says = absurd says
gen_answered number Disk text says = absurd says
gen_answered number Memory text says = inr refl

module _ {D : Type 0} (g : Ghosts D) (source : SourceUse) (sink sink_after : ℕ) (old new : Disks D) (nothing : NothingRose g source sink sink_after old new) where
  no_faults_rose : (fault : DiskFault) → FaultsRose g fault old new → ⊥
  no_faults_rose StoreFailed rose = nothing.no_store rose
  no_faults_rose (LogFailed primary) rose = nothing.no_log primary rose

  -- and no primary went down
  nobody_down : (downs : List Down) → AllByRecursion (λ down. LogRose g down.by old new) downs → downs ≢ [] → ⊥
  nobody_down [] failed some = some refl
  nobody_down (down ∷ downs) failed some = nothing.no_log down.by failed.0

  source_answered : (in_mode : Mode) → SourceMayRun g source.left old → (status : Status) (text : List ℕ) → SessionSays g in_mode None source old new status text → IsAnswered status
  source_answered in_mode may Done text says = inl refl
  source_answered in_mode may Usage text says = absurd says
  source_answered in_mode may BadScript text says = absurd (not_refused source text may.bytes may.script may.told may.spelled says.0)
  source_answered in_mode may Store text says =
      let begins = subst (MayBegin (as_read g old)) (same_begins source may.bytes may.script says.script may.told may.spelled says.its) may.begins in
      absurd (never_refused (as_read g old) (transactions_of says.script) begins says.refusal says.content (says.first may.disks_told))
  source_answered in_mode may Stopped text says =
      let answered = says.answered in
      absurd (nobody_down answered.transcript.downs.items answered.run.failed answered.run.downs)
  source_answered in_mode may Source text says = absurd (nothing.no_source says.0.0)
  source_answered in_mode may Sink text says = absurd says
  source_answered in_mode may Disk text says = absurd (no_faults_rose says.names.fault says.names.rose)
  source_answered in_mode may Memory text says = inr refl

  number_answered : (in_mode : Mode) (number : ℕ) → NumberMayRun g number old → (status : Status) (text : List ℕ) → SessionSays g in_mode (Some number) source old new status text → IsAnswered status
  number_answered in_mode number may Done text says = inl refl
  number_answered in_mode number may Usage text says = absurd says
  number_answered in_mode number may BadScript text says = absurd says.0
  number_answered in_mode number may Store text says =
      absurd (never_refused (as_read g old) (transactions_of says.script) (may.begins says.script says.its) says.refusal says.content (says.first may.disks_told))
  number_answered in_mode number may Stopped text says =
      let answered = says.answered in
      absurd (nobody_down answered.transcript.downs.items answered.run.failed answered.run.downs)
  number_answered in_mode number may Source text says = absurd says.0
  number_answered in_mode number may Sink text says = absurd says
  number_answered in_mode number may Disk text says = absurd (no_faults_rose says.names.fault says.names.rose)
  number_answered in_mode number may Memory text says = inr refl

  dump_answered : IsInOrder g (Plain Dump) source old → (status : Status) (text : List ℕ) → DumpSays g old.store new.store status text → IsAnswered status
  dump_answered order Done text says = inl refl
  dump_answered order Usage text says = absurd says
  dump_answered order BadScript text says = absurd says
  dump_answered order Store text says = absurd (none_some order.1 (says.first order.0))
  dump_answered order Stopped text says = absurd says
  dump_answered order Source text says = absurd says
  dump_answered order Sink text says = absurd says
  dump_answered order Disk text says = absurd (nothing.no_store says.0)
  dump_answered order Memory text says = inr refl

  no_disk_rose : (fault : DiskFault) → Explains g fault old new → ⊥
  no_disk_rose StoreFailed rose = nothing.no_store rose
  no_disk_rose (LogFailed primary) rose = nothing.no_log primary rose.0

  init_answered : (status : Status) (text : List ℕ) → InitSays g old new status text → IsAnswered status
  init_answered Done text says = inl refl
  init_answered Usage text says = absurd says
  init_answered BadScript text says = absurd says
  init_answered Store text says = absurd says
  init_answered Stopped text says = absurd says
  init_answered Source text says = absurd says
  init_answered Sink text says = absurd says
  init_answered Disk text says = absurd (no_disk_rose says.fault says.rose)
  init_answered Memory text says = inr refl

  -- a fault of the first logs is one of all
  no_later_fault : (files : ℕ → List ℕ) (few many : ℕ) (fault : LogFault) → few ≤ many → fault_below files many ≡ None → fault_below files few ≡ Some fault → ⊥
  no_later_fault files few many fault le none some = none_some none (fault_stays files few many fault some le)

  logs_answered : IsInOrder g (Plain Logs) source old → (status : Status) (text : List ℕ) → LogsSays g old.logs.items new.logs.items status text → IsAnswered status
  logs_answered order Done text says = inl refl
  logs_answered order Usage text says = absurd says
  logs_answered order BadScript text says = absurd says
  logs_answered order Store text says =
      let first = says.first in
      let tells : TellBelow g says.fault.primary old.logs.items = all_below g says.fault.primary old.logs.items order.0 in
      absurd (no_later_fault (seen_at g old.logs.items) says.fault.primary (length old.logs.items) says.fault (omega (arith, first.its, first.there)) order.1 (first.first tells))
  logs_answered order Stopped text says = absurd says
  logs_answered order Source text says = absurd says
  logs_answered order Sink text says = absurd says
  logs_answered order Disk text says = absurd (nothing.no_log says.primary says.failed.rose)
  logs_answered order Memory text says = inr refl

  -- nothing that these disks hold is refused
  no_refusal : MayRecover g old → (refusal : RecoverRefusal) → IsOfContent refusal → RefusesBy (as_read g old) refusal → ⊥
  no_refusal may (recover.Store place) content refuses = none_some may.no_fault.store refuses
  no_refusal may recover.StoreDisk content refuses = content
  no_refusal may (recover.Log primary place) content refuses =
      let off = refuses.1.0 in
      none_some (may.no_fault.logs off.0 off.1) off.3
  no_refusal may (recover.LogDisk primary) content refuses = content
  no_refusal may (recover.Gap page wanted found) content refuses = none_some may.redone refuses.1
  no_refusal may (recover.NotApplicable page llsn) content refuses = none_some may.redone refuses.1
  no_refusal may (recover.Spent last) content refuses = may.not_spent refuses.2
  no_refusal may recover.Memory content refuses = content

  recover_answered : MayRecover g old → (status : Status) (text : List ℕ) → RecoverSays g old new status text → IsAnswered status
  recover_answered may Done text says = inl refl
  recover_answered may Usage text says = absurd says
  recover_answered may BadScript text says = absurd says
  recover_answered may Store text says = absurd (no_refusal may says.refusal says.content (says.first may.told))
  recover_answered may Stopped text says = absurd says
  recover_answered may Source text says = absurd says
  recover_answered may Sink text says = absurd says
  recover_answered may Disk text says = absurd (no_faults_rose says.fault says.rose)
  recover_answered may Memory text says = inr refl

  command_answered : (command : Command) → IsInOrder g command source old → (status : Status) (text : List ℕ) → CommandSays g command source old new status text → IsAnswered status
  command_answered (Session (Step None)) order = source_answered mode.Step order
  command_answered (Session (Step (Some number))) order = number_answered mode.Step number order
  command_answered (Session (Run None)) order = source_answered mode.Run order
  command_answered (Session (Run (Some number))) order = number_answered mode.Run number order
  command_answered (Plain Init) order = init_answered
  command_answered (Plain Recover) order = recover_answered order
  command_answered (Plain Dump) order = dump_answered order
  command_answered (Plain Logs) order = logs_answered order
  command_answered (Plain (Gen number)) order = gen_answered number

  -- what is said where the words name the command
  pub completes : (words : List (List ℕ)) (command : Command) → Names words command → IsInOrder g command source old → (status : Status) (text : List ℕ) → Says g words source old new status text → IsAnswered status
  completes words command names order status text (inl none) = absurd (none.0 command names)
  completes words command names order status text (inr said) =
      command_answered command order status text (subst (λ (k : Command). CommandSays g k source old new status text) (named_once words said.0 command said.1 names) said.2)
