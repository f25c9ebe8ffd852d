-- What the bytes that were read come to is what the call says, and so is what a number's script does.
use Rattle.std.proofs.Common.{ℕ, ◌≤◌, List, [], length, Option, Some, None, refl, ap, ◌∙◌, length-take, arith}
use Rattle.std.proofs.lemmas.List.{take_all, drop_all}
use Rattle.mp_model.specs.declared.transcripts.Mode.{Mode}
use Rattle.mp_outside.specs.Sources.{ReadsUpTo, TakesUpTo}
use Rattle.mp_outside.specs.declared.disks.Disk.{Ghosts}
use Rattle.mp_files.specs.declared.disks.Disks.{Disks}
use Rattle.mp_app.specs.declared.status.Status.{Status}
use Rattle.mp_app.specs.declared.status.Status.TheVariants.{Done, Usage, Script as BadScript, Store, Stopped, Source, Sink, Disk, Memory}
use Rattle.mp_app.specs.Calls.{SourceUse, ReadToItsEnd, ReadUpToTheBound}
use Rattle.mp_script.specs.declared.statements.Script.{Script}
use Rattle.mp_script.specs.Spelling.{Spells}
use Rattle.mp_app.specs.declared.output.Output.{Output}
use Rattle.mp_app.specs.Answered.{BytesSay, ScriptSays}
use Rattle.mp_app.specs.Outcomes.{ReadsScript, IsItsScript, SessionSays}
use Rattle.mp_app.specs.Printed.{text_of, Prints}
use Rattle.mp_app.specs.Texts.{no_memory_text}

-- fewer bytes than were asked for are all
pub all_read : (left still_left : Option (List ℕ)) (bytes : List ℕ) → ReadsUpTo 1048577 left still_left bytes → length bytes ≤ 1048576 → ReadToItsEnd left still_left bytes
all_read None still_left bytes reads few = tt
all_read (Some input) None bytes reads few = absurd reads
all_read (Some input) (Some rest) bytes reads few =
    let size : length input ≤ 1048577 = omega (arith, ap length reads.0, length-take 1048577 input) in
    (reads.0 ∙ take_all 1048577 input size, ap Some (reads.1 ∙ drop_all 1048577 input size))

-- what was read is what was left, up to the bound
pub bound_read : (left still_left : Option (List ℕ)) (bytes : List ℕ) → ReadsUpTo 1048577 left still_left bytes → ReadUpToTheBound left bytes
bound_read None still_left bytes reads = tt
bound_read (Some input) None bytes reads = absurd reads
bound_read (Some input) (Some rest) bytes reads = reads.0

-- what isn't read is left
pub nothing_taken : (left : Option (List ℕ)) → TakesUpTo 1048577 left left
nothing_taken None = ([], omega arith, tt)
nothing_taken (Some input) = ([], omega arith, refl)

module _ {D : Type 0} (g : Ghosts D) (in_mode : Mode) where
  -- what a script comes to is said of the command whose script it is
  pub says_of_script : (source : SourceUse) (number : Option ℕ) (script : Script) (old new : Disks D) (status : Status) (text : List ℕ) → IsItsScript number source script
      → ScriptSays g in_mode number script old new status text → SessionSays g in_mode number source old new status text
  says_of_script source number script old new Done text its says = record { script = script; its = its; began = says.0; answered = says.1 }
  says_of_script source number script old new Usage text its says = absurd says
  says_of_script source number script old new BadScript text its says = absurd says
  says_of_script source number script old new Store text its says = record {
    script = script;
    its = its;
    refusal = says.0;
    content = says.1;
    first = says.2;
    kept = says.3;
    printed = says.4;
  }
  says_of_script source number script old new Stopped text its says = record { script = script; its = its; began = says.0; answered = says.1 }
  says_of_script source number script old new Source text its says = absurd says
  says_of_script source number script old new Sink text its says = absurd says
  says_of_script source number script old new Disk text its says = says
  says_of_script source number script old new Memory text its says = says

  -- the bytes were read to the source's end
  its_bytes : (source : SourceUse) (bytes : List ℕ) (script : Script) → ReadsUpTo 1048577 source.left source.still_left bytes → Spells bytes script → ReadsScript source script
  its_bytes source bytes script reads spelled = record { bytes = bytes; read = all_read source.left source.still_left bytes reads spelled.size; spelled = spelled }

  -- the status and the text go with the source
  pub says_from_bytes : (source : SourceUse) (bytes : List ℕ) (old new : Disks D) (status : Status) (text : List ℕ) → ReadsUpTo 1048577 source.left source.still_left bytes
      → BytesSay g in_mode bytes old new status text → SessionSays g in_mode None source old new status text
  says_from_bytes source bytes old new Done text reads says = says_of_script source None says.0 old new Done text (its_bytes source bytes says.0 reads says.1) says.2
  says_from_bytes source bytes old new Usage text reads says = absurd says.2
  says_from_bytes source bytes old new BadScript text reads says = (record { bytes = bytes; read = bound_read source.left source.still_left bytes reads; refused = says.0 }, says.1)
  says_from_bytes source bytes old new Store text reads says = says_of_script source None says.0 old new Store text (its_bytes source bytes says.0 reads says.1) says.2
  says_from_bytes source bytes old new Stopped text reads says = says_of_script source None says.0 old new Stopped text (its_bytes source bytes says.0 reads says.1) says.2
  says_from_bytes source bytes old new Source text reads says = absurd says.2
  says_from_bytes source bytes old new Sink text reads says = absurd says.2
  says_from_bytes source bytes old new Disk text reads says = says.2
  says_from_bytes source bytes old new Memory text reads says = says

  -- there was no memory
  pub says_no_memory : (source : SourceUse) (number : Option ℕ) (disks : Disks D) (output : Output) → Prints Memory no_memory_text output
      → SessionSays g in_mode number source disks disks output.status (text_of output.printed)
  says_no_memory source number disks output prints = rw prints.0 prints.1
