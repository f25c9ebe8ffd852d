-- What bytes that were read come to: what is said inside the call.
use Rattle.std.specs.Prelude.{◌≡◌, ◌⊎◌, ℕ, List, Option, Some, None}
use Rattle.mp_model.specs.declared.transcripts.Mode.{Mode}
use Rattle.mp_outside.specs.declared.disks.Disk.{Ghosts}
use Rattle.mp_files.specs.declared.disks.Disks.{Disks}
use Rattle.mp_files.specs.Nine.{AllTell, KeptNine, as_read}
use Rattle.mp_script.specs.declared.statements.Script.{Script}
use Rattle.mp_script.specs.Faults.{FaultAt, script_fault}
use Rattle.mp_script.specs.Spelling.{Spells}
use Rattle.mp_opening.specs.declared.refusals.ClusterRefusal.{ClusterRefusal}
use Rattle.mp_opening.specs.Openings.{MayBegin, RefusesRun}
use Rattle.mp_cluster.specs.Runs.{transactions_of}
use Rattle.mp_app.specs.declared.output.Output.{Output}
use Rattle.mp_app.specs.declared.status.Status.{Status}
use Rattle.mp_app.specs.declared.status.Status.TheVariants.{Done, Script as BadScript, Store, Stopped, Disk, Memory}
use Rattle.mp_app.specs.Outcomes.{NoneIsDown, SomeIsDown, PrintsLegal, HasFault, IsOfHeld, FailsToOpen}
use Rattle.mp_app.specs.Printed.{Prints, PrintsFault}
use Rattle.mp_app.specs.Texts.{run_refused_text, no_memory_text}

-- bytes are refused as a script: their first fault is printed, or there was no memory
abbrev pub RefusesBytes : List ℕ → Output → Type 0
RefusesBytes bytes output = ((found : FaultAt) × (script_fault bytes ≡ Some found) × PrintsFault found output) ⊎ Prints Memory no_memory_text output

module _ {D : Type 0} (g : Ghosts D) where
  -- what a script, that was read or is a number's, comes to over nine disks in a mode
  abbrev pub ScriptSays : Mode → Option ℕ → Script → Disks D → Disks D → Status → List ℕ → Type 0
  ScriptSays in_mode number script old new Done text = (AllTell g old → MayBegin (as_read g old) (transactions_of script)) × PrintsLegal g number in_mode NoneIsDown old new script text
  ScriptSays in_mode number script old new Stopped text = (AllTell g old → MayBegin (as_read g old) (transactions_of script)) × PrintsLegal g number in_mode SomeIsDown old new script text
  ScriptSays in_mode number script old new Store text = (refusal : ClusterRefusal) × IsOfHeld refusal × (AllTell g old → RefusesRun (as_read g old) (transactions_of script) refusal)
      × KeptNine g old new × (text ≡ run_refused_text refusal)
  ScriptSays in_mode number script old new Disk text = FailsToOpen g old new text
  ScriptSays in_mode number script old new Memory text = text ≡ no_memory_text
  ScriptSays in_mode number script old new _ text = ⊥

  -- and what the bytes that were read come to
  abbrev pub BytesSay : Mode → List ℕ → Disks D → Disks D → Status → List ℕ → Type 0
  BytesSay in_mode bytes old new BadScript text = HasFault bytes text × KeptNine g old new
  BytesSay in_mode bytes old new Memory text = text ≡ no_memory_text
  BytesSay in_mode bytes old new status text = (script : Script) × Spells bytes script × ScriptSays in_mode None script old new status text
