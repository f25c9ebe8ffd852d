-- What running a script over nine disks answers.
use Rattle.std.specs.Prelude.{◌≡◌, ℕ, length, Result, Ok, Err}
use Rattle.std.specs.List.{AllByRecursion}
use Rattle.mp_model.specs.declared.histories.Opening.{Opening}
use Rattle.mp_model.specs.declared.transcripts.Transcript.{Transcript}
use Rattle.mp_script.specs.declared.statements.Script.{Script}
use Rattle.mp_script.specs.BeginNames.{begin_names}
use Rattle.mp_script.specs.Execution.{execution_of}
use Rattle.mp_script.specs.Legal.{Legal}
use Rattle.mp_cells.specs.PageView.{bits_set}
use Rattle.mp_cells.specs.Trees.{rows_in}
use Rattle.mp_outside.specs.declared.disks.Disk.{Ghosts}
use Rattle.mp_files.specs.declared.disks.Disks.{Disks}
use Rattle.mp_files.specs.Nine.{Image, AllTell, KeptNine, LogRose, as_read}
use Rattle.mp_store.specs.StoreFiles.{header_in_force}
use Rattle.mp_store.specs.CleanStores.{stored_pages}
use Rattle.mp_recover.specs.Closed.{KeptAreClosed}
use Rattle.mp_recover.specs.Images.{logged_above, SoundImage, IsOpenedStore}
use Rattle.mp_recover.specs.KeptCommits.{present, kept_commits}
use Rattle.mp_opening.specs.declared.refusals.ClusterRefusal.{ClusterRefusal}
use Rattle.mp_opening.specs.declared.refusals.ClusterRefusal.TheVariants as cluster
use Rattle.mp_opening.specs.Openings.{MayBegin, RefusesRun}

-- how many transactions a script has
abbrev pub transactions_of : Script → ℕ
transactions_of script = length (begin_names script.lines.items)

-- what a run begins from, as nine files have it: the greatest timestamp, the count of taken pages, and the rows
pub record IsOpeningOf (image : Image) (opening : Opening) : Type 0 where
  pub base : opening.base ≡ (header_in_force image.store).base
  pub taken : opening.taken ≡ bits_set (stored_pages image.store 0).bits
  pub rows : opening.rows.items ≡ present (rows_in (stored_pages image.store))

-- WHAT A CRASH MAY LEAVE behind an answered run: the store as it was opened, and sound logs; and the commits that recovery
-- keeps of them are closed for the run that the transcript tells
pub record IsLeftOfRun (opened : Image) (script : Script) (transcript : Transcript) (image : Image) : Type 0 where
  pub store : IsOpenedStore opened.store image
  pub sound : SoundImage image
  pub closed : (opening : Opening) → IsOpeningOf opened opening → KeptAreClosed (execution_of script opening transcript) (kept_commits (logged_above image))

-- a run is answered only where it may begin, and else refused for the first cause
abbrev pub RunFinds : Image → ℕ → Result Transcript ClusterRefusal → Type 0
RunFinds image begins (Ok transcript) = MayBegin image begins
RunFinds image begins (Err refusal) = RefusesRun image begins refusal

module _ {D : Type 0} (g : Ghosts D) where
  -- THE TRANSCRIPT IS LEGAL for the script over what the disks held, where they tell it, and else over some opening
  pub record IsLegalRun (disks : Disks D) (script : Script) (transcript : Transcript) : Type 0 where
    pub opening : Opening
    pub opened : AllTell g disks → IsOpeningOf (as_read g disks) opening
    pub legal : Legal script opening transcript

  -- each primary that is down went down with one whose log's count of faults rose
  abbrev pub DownsHaveFailed : Disks D → Disks D → Transcript → Type 0
  DownsHaveFailed old new transcript = AllByRecursion (λ down. LogRose g down.by old new) transcript.downs.items

  -- a refusal leaves all nine as they were, but for want of memory, which may come at any time
  abbrev pub RunLeaves : Disks D → Disks D → ClusterRefusal → Type 0
  RunLeaves old new cluster.Memory = Unit {0}
  RunLeaves old new refusal = KeptNine g old new
