-- What the functions behind the call print: a status with its text.
use Rattle.std.specs.Prelude.{◌≡◌, ◌⊎◌, ℕ, List, [], ◌∷◌}
use Rattle.mp_model.specs.declared.transcripts.Down.{Down}
use Rattle.mp_model.specs.declared.transcripts.Transcript.{Transcript}
use Rattle.mp_script.specs.Faults.{FaultAt}
use Rattle.mp_commands.specs.declared.faults.DiskFault.{DiskFault}
use Rattle.mp_commands.specs.declared.refusals.LogsRefusal.{LogsRefusal}
use Rattle.mp_commands.specs.declared.refusals.LogsRefusal.TheVariants.{Log, LogDisk, Memory as NoLogsMemory}
use Rattle.mp_opening.specs.declared.refusals.ClusterRefusal.{ClusterRefusal}
use Rattle.mp_opening.specs.declared.refusals.ClusterRefusal.TheVariants as cluster
use Rattle.mp_recover.specs.declared.recovering.Recovered.{Recovered}
use Rattle.mp_recover.specs.declared.refusals.RecoverRefusal.{RecoverRefusal}
use Rattle.mp_recover.specs.declared.refusals.RecoverRefusal.TheVariants as recover
use Rattle.mp_store.specs.declared.refusals.StoreRefusal.{StoreRefusal}
use Rattle.mp_store.specs.declared.refusals.StoreRefusal.TheVariants.{NotStore, Disk as DiskRefused, Memory as MemoryRefused}
use Rattle.mp_app.specs.declared.commands.WordsRefusal.{WordsRefusal}
use Rattle.mp_app.specs.declared.commands.WordsRefusal.TheVariants.{Usage as NotRead, Memory as NoMemory}
use Rattle.mp_app.specs.declared.output.Output.{Output}
use Rattle.mp_app.specs.declared.status.Status.{Status}
use Rattle.mp_app.specs.declared.status.Status.TheVariants.{Done, Usage, Script, Store, Stopped, Disk, Memory}
use Rattle.mp_app.specs.Recoveries.{recovered_text}
use Rattle.mp_app.specs.Texts.{usage_text, script_fault_text, store_refused_text, store_failed_text, log_failed_text, log_refused_text, disk_failed_text, recovery_refused_text, run_refused_text, unclean_text, no_memory_text}
use Rattle.mp_app.specs.declared.output.Printed.{Printed as PrintedText}
use Rattle.mp_app.specs.declared.output.Printed.TheVariants.{Fixed, Made}

-- the bytes of a text that is to be printed
abbrev pub text_of : PrintedText → List ℕ
text_of (Fixed text) = text.now
text_of (Made text) = text.items

-- the output has this status and this text
abbrev pub Prints : Status → List ℕ → Output → Type 0
Prints status text output = (output.status ≡ status) × (text_of output.printed ≡ text)

-- it has them, or there was no memory for the text
abbrev pub PrintsOrNoMemory : Status → List ℕ → Output → Type 0
PrintsOrNoMemory status text output = Prints status text output ⊎ Prints Memory no_memory_text output

-- the script's first fault
abbrev pub PrintsFault : FaultAt → Output → Type 0
PrintsFault found = PrintsOrNoMemory Script (script_fault_text found)

-- what a refusal of the store is printed as
abbrev pub PrintsStoreRefusal : StoreRefusal → Output → Type 0
PrintsStoreRefusal (NotStore place) = PrintsOrNoMemory Store (store_refused_text place)
PrintsStoreRefusal DiskRefused = Prints Disk store_failed_text
PrintsStoreRefusal MemoryRefused = Prints Memory no_memory_text

-- the disk of a primary's log failed
abbrev pub PrintsLogFailed : ℕ → Output → Type 0
PrintsLogFailed primary = PrintsOrNoMemory Disk (log_failed_text primary)

-- what a disk that failed is printed as
abbrev pub PrintsDiskFault : DiskFault → Output → Type 0
PrintsDiskFault fault = PrintsOrNoMemory Disk (disk_failed_text fault)

-- what a refusal of the logs is printed as
abbrev pub PrintsLogsRefusal : LogsRefusal → Output → Type 0
PrintsLogsRefusal (Log primary place) = PrintsOrNoMemory Store (log_refused_text primary place)
PrintsLogsRefusal (LogDisk primary) = PrintsLogFailed primary
PrintsLogsRefusal NoLogsMemory = Prints Memory no_memory_text

-- what a refusal of recovery is printed as
abbrev pub PrintsRecoverRefusal : RecoverRefusal → Output → Type 0
PrintsRecoverRefusal recover.StoreDisk = Prints Disk store_failed_text
PrintsRecoverRefusal (recover.LogDisk primary) = PrintsLogFailed primary
PrintsRecoverRefusal recover.Memory = Prints Memory no_memory_text
PrintsRecoverRefusal refusal = PrintsOrNoMemory Store (recovery_refused_text refusal)

-- what a recovery made is printed as
abbrev pub PrintsRecovered : Recovered → Output → Type 0
PrintsRecovered made = PrintsOrNoMemory Done (recovered_text made)

-- what words that weren't read are answered
abbrev pub PrintsWordsRefusal : WordsRefusal → Output → Type 0
PrintsWordsRefusal NotRead = Prints Usage usage_text
PrintsWordsRefusal NoMemory = Prints Memory no_memory_text

-- the status of a run, by the `down` lines of its transcript
abbrev pub status_of_downs : List Down → Status
status_of_downs [] = Done
status_of_downs (down ∷ downs) = Stopped

-- what a run is printed as
abbrev pub PrintsRun : List ℕ → Transcript → Output → Type 0
PrintsRun text transcript = PrintsOrNoMemory (status_of_downs transcript.downs.items) text

-- what a refusal of a run is printed as
abbrev pub PrintsRunRefusal : ClusterRefusal → Output → Type 0
PrintsRunRefusal cluster.StoreDisk = Prints Disk store_failed_text
PrintsRunRefusal (cluster.LogDisk primary) = PrintsLogFailed primary
PrintsRunRefusal cluster.NotClean = Prints Store unclean_text
PrintsRunRefusal cluster.Memory = Prints Memory no_memory_text
PrintsRunRefusal refusal = PrintsOrNoMemory Store (run_refused_text refusal)
