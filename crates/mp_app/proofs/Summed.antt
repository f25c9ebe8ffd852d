-- Where a number's script was run and no primary went down, the one summary that it may have was written.
use Rattle.std.proofs.Common.{◌≡◌, ◌∙◌, ◌+◌, ◌≤◌, ℕ, List, [], Option, Some, inl, inr, sym, subst, arith}
use Rattle.std.specs.Io.KnownBytes.{Appends}
use Rattle.mp_model.specs.declared.histories.Opening.{Opening}
use Rattle.mp_model.specs.declared.transcripts.Mode.{Mode}
use Rattle.mp_model.specs.declared.transcripts.Transcript.{Transcript}
use Rattle.mp_outside.specs.declared.disks.Disk.{Ghosts}
use Rattle.mp_files.specs.declared.disks.Disks.{Disks}
use Rattle.mp_files.specs.Nine.{AllTell, as_read}
use Rattle.mp_script.specs.declared.statements.Script.{Script}
use Rattle.mp_script.specs.Legal.{Legal}
use Rattle.mp_generate.specs.Generated.{IsGenerated}
use Rattle.mp_summary.specs.Summaries.{summary_line, summary_text}
use Rattle.mp_cluster.specs.Runs.{IsOpeningOf}
use Rattle.mp_app.specs.declared.commands.Command.{Command}
use Rattle.mp_app.specs.declared.commands.Command.TheVariants.{Session}
use Rattle.mp_app.specs.declared.status.Status.{Status}
use Rattle.mp_app.specs.declared.status.Status.TheVariants.{Done}
use Rattle.mp_app.specs.Calls.{SourceUse}
use Rattle.mp_app.specs.Commands.{command_in, Names}
use Rattle.mp_app.specs.Outcomes.{CommandSays, Says, SessionSays, Writes}
use Rattle.mp_app.proofs.NamedOnce.{named_once}
use Rattle.mp_app.proofs.SaidByCommands.{said_in}

-- what `mp_summary::law_one_summary` ensures
abbrev OneSummary : Type 0
OneSummary = (number : ℕ) (script : Script) (opening : Opening) (transcript : Transcript) → IsGenerated number script → Legal script opening transcript
    → transcript.downs.items ≡ [] → opening.taken + 3760 ≤ 4096 → summary_text number script transcript ≡ summary_line number 3008 752 512

module _ {D : Type 0} (g : Ghosts D) (one : OneSummary) (source : SourceUse) (old new : Disks D) (in_mode : Mode) (number : ℕ) (opening : Opening)
    (tell : AllTell g old) (opens : IsOpeningOf (as_read g old) opening) (room : opening.taken + 3760 ≤ 4096) where
  summed : (text : List ℕ) → SessionSays g in_mode (Some number) source old new Done text → text ≡ summary_line number 3008 752 512
  summed text says =
      let answered = says.answered in
      let legal = answered.run.legal in
      let same = (legal.opened tell).taken ∙ sym opens.taken in
      answered.printed ∙ one number says.script legal.opening answered.transcript says.its legal.legal answered.run.downs (omega (arith, same, room))

  summed_by : (words : List (List ℕ)) (text : List ℕ) → Names words (Session (command_in in_mode (Some number))) → Says g words source old new Done text → text ≡ summary_line number 3008 752 512
  summed_by words text names (inl none) = absurd (none.0 (Session (command_in in_mode (Some number))) names)
  summed_by words text names (inr said) =
      let command = Session (command_in in_mode (Some number)) in
      summed text (said_in g in_mode (Some number) source old new Done text
      (subst (λ (k : Command). CommandSays g k source old new Done text) (named_once words said.0 command said.1 names) said.2))

  pub one_written : (words : List (List ℕ)) (status : Status) (before after : Option (List ℕ)) → Names words (Session (command_in in_mode (Some number))) → status ≡ Done
      → Writes (Says g words source old new) status before after → Appends before after (summary_line number 3008 752 512)
  one_written words status before after names done wrote =
      subst (λ t. Appends before after t) (summed_by words wrote.text names (subst (λ s. Says g words source old new s wrote.text) done wrote.said)) wrote.written
