-- The texts of the program that are no transcript, each ended by the byte 10.
use Rattle.std.specs.Prelude.{ℕ, List, [], ◌∷◌, ◌++◌, codes, decimal}
use Rattle.mp_commands.specs.declared.faults.DiskFault.{DiskFault}
use Rattle.mp_commands.specs.declared.faults.DiskFault.TheVariants.{Store as StoreFailed, Log as LogFailed}
use Rattle.mp_recover.specs.declared.refusals.RecoverRefusal.{RecoverRefusal}
use Rattle.mp_recover.specs.declared.refusals.RecoverRefusal.TheVariants as recover
use Rattle.mp_opening.specs.declared.refusals.ClusterRefusal.{ClusterRefusal}
use Rattle.mp_opening.specs.declared.refusals.ClusterRefusal.TheVariants as cluster
use Rattle.mp_opening.specs.declared.refusals.SpentNumber.{SpentNumber}
use Rattle.mp_opening.specs.declared.refusals.SpentNumber.TheVariants.{Generations, Versions, Timestamps, Llsn}
use Rattle.mp_script.specs.Faults.{FaultAt}

abbrev pub usage_text : List ℕ
usage_text = codes "usage: mp init, step, run, recover, dump, logs or gen N\n"

abbrev pub script_fault_text : FaultAt → List ℕ
script_fault_text found = codes "refused script fault " ++ decimal found.fault ++ codes " line " ++ decimal found.line ++ 10 ∷ []

abbrev pub source_fault_text : List ℕ
source_fault_text = codes "fault source\n"

abbrev pub store_refused_text : ℕ → List ℕ
store_refused_text place = codes "refused store place " ++ decimal place ++ 10 ∷ []

abbrev pub store_failed_text : List ℕ
store_failed_text = codes "fault disk store\n"

abbrev pub log_failed_text : ℕ → List ℕ
log_failed_text primary = codes "fault disk log " ++ decimal primary ++ 10 ∷ []

abbrev pub disk_failed_text : DiskFault → List ℕ
disk_failed_text StoreFailed = store_failed_text
disk_failed_text (LogFailed primary) = log_failed_text primary

abbrev pub log_refused_text : ℕ → ℕ → List ℕ
log_refused_text primary place = codes "refused log " ++ decimal primary ++ codes " place " ++ decimal place ++ 10 ∷ []

-- the next record of a page was made on another LLSN than the page has
abbrev pub gap_text : ℕ → ℕ → ℕ → List ℕ
gap_text page wanted found = codes "refused gap page " ++ decimal page ++ codes " wanted " ++ decimal wanted ++ codes " found " ++ decimal found ++ 10 ∷ []

-- the change of the next record of a page, of an mtr with this LLSN, doesn't fit the page
abbrev pub unfit_change_text : ℕ → ℕ → List ℕ
unfit_change_text page llsn = codes "refused change page " ++ decimal page ++ codes " llsn " ++ decimal llsn ++ 10 ∷ []

-- a log holds mtrs above the base, of which this is the least LLSN
abbrev pub needs_recover_text : ℕ → ℕ → List ℕ
needs_recover_text primary llsn = codes "refused recover primary " ++ decimal primary ++ codes " llsn " ++ decimal llsn ++ 10 ∷ []

-- the stored pages aren't a clean tree
abbrev pub unclean_text : List ℕ
unclean_text = codes "refused unclean store\n"

-- the words for numbers that have a last one
abbrev pub spent_word : SpentNumber → List ℕ
spent_word Generations = codes "generations"
spent_word Versions = codes "versions"
spent_word Timestamps = codes "timestamps"
spent_word Llsn = codes "llsn"

-- the store has reached a number of these that so many more would bring past its format
abbrev pub spent_text : SpentNumber → ℕ → ℕ → List ℕ
spent_text what base add = codes "refused spent " ++ spent_word what ++ codes " base " ++ decimal base ++ codes " add " ++ decimal add ++ 10 ∷ []

abbrev pub ready_text : List ℕ
ready_text = codes "ready\n"

abbrev pub no_memory_text : List ℕ
no_memory_text = codes "no memory\n"

-- what a refusal of recovery is printed as
abbrev pub recovery_refused_text : RecoverRefusal → List ℕ
recovery_refused_text (recover.Store place) = store_refused_text place
recovery_refused_text recover.StoreDisk = store_failed_text
recovery_refused_text (recover.Log primary place) = log_refused_text primary place
recovery_refused_text (recover.LogDisk primary) = log_failed_text primary
recovery_refused_text (recover.Gap page wanted found) = gap_text page wanted found
recovery_refused_text (recover.NotApplicable page llsn) = unfit_change_text page llsn
recovery_refused_text (recover.Spent base) = spent_text Generations base 1
recovery_refused_text recover.Memory = no_memory_text

-- what a refusal of a run is printed as
abbrev pub run_refused_text : ClusterRefusal → List ℕ
run_refused_text (cluster.Store place) = store_refused_text place
run_refused_text cluster.StoreDisk = store_failed_text
run_refused_text (cluster.Log primary place) = log_refused_text primary place
run_refused_text (cluster.LogDisk primary) = log_failed_text primary
run_refused_text (cluster.NeedsRecover primary llsn) = needs_recover_text primary llsn
run_refused_text cluster.NotClean = unclean_text
run_refused_text (cluster.Spent what base add) = spent_text what base add
run_refused_text cluster.Memory = no_memory_text
