-- A run between its opening and its transcript: how it was lined up, or refused, which disks are still there, why it stopped, what is
-- told of it, and what it leaves.
use Rattle.std.specs.Prelude.{◌≡◌, ℕ, ◌≤◌, List, [], length, map, vec_capacity, IsTrue}
use Rattle.std.specs.List.{AllByRecursion}
use Rattle.mp_model.specs.declared.histories.Opening.{Opening}
use Rattle.mp_model.specs.declared.transcripts.Mode.{Mode}
use Rattle.mp_model.specs.declared.transcripts.Transcript.{Transcript}
use Rattle.mp_report.specs.Readable.{IsReadable}
use Rattle.mp_script.specs.declared.statements.Script.{Script}
use Rattle.mp_script.specs.Execution.{execution_of}
use Rattle.mp_script.specs.Legal.{Legal}
use Rattle.mp_core_trx.specs.declared.opening.Base.{Base}
use Rattle.mp_core.specs.declared.opening.CoreOpening.{CoreOpening}
use Rattle.mp_outside.specs.declared.disks.Disk.{Ghosts}
use Rattle.mp_outside.specs.Disks.{Only}
use Rattle.mp_files.specs.declared.disks.Disks.{Disks}
use Rattle.mp_files.specs.Nine.{Image, At, AllTell, AreImages, EachTells, KeptDisk, StillDisk, StillNine, RoseOf, as_read}
use Rattle.mp_recover.specs.Closed.{KeptAreClosed}
use Rattle.mp_recover.specs.Images.{logged_above, SoundImage}
use Rattle.mp_recover.specs.KeptCommits.{kept_commits}
use Rattle.mp_verdict.specs.Finished.{BeginsWith}
use Rattle.mp_cuts.specs.LeftBehind.{IsOpenedOver}
use Rattle.mp_members.specs.declared.members.Members.{Members}
use Rattle.mp_members.specs.Running.{downs_in, logs_of, Runs}
use Rattle.mp_opening.specs.declared.refusals.ClusterRefusal.{ClusterRefusal}
use Rattle.mp_opening.specs.declared.refusals.ClusterRefusal.TheVariants as cluster
use Rattle.mp_opening.specs.Openings.{IsLogFromAt, MayBegin, RefusesRun, RunCause}
use Rattle.mp_lineup.specs.LiningUp.{work_over}
use Rattle.mp_cluster.specs.Runs.{transactions_of, IsOpeningOf, RunLeaves}
use Rattle.mp_cluster.specs.StepTranscripts.{first_opening}

-- a run stops for want of memory, and for nothing else
abbrev pub StopsFor : ClusterRefusal → Type 0
StopsFor refusal = refusal ≡ cluster.Memory

-- an image is sound, and the commits that recovery keeps of it are closed for what a transcript tells over the table's opening
pub record IsClosedFor (script : Script) (o : CoreOpening) (transcript : Transcript) (image : Image) : Type 0 where
  pub sound : SoundImage image
  pub closed : (opening : Opening) → BeginsWith o opening → KeptAreClosed (execution_of script opening transcript) (kept_commits (logged_above image))

module _ {D : Type 0} (g : Ghosts D) where
  -- as many disks, each of them the same
  pub record AreStillThere (old new : List D) : Type 0 where
    pub count : length new ≡ length old
    pub each : (place : ℕ) → At (StillDisk g) old new place

  -- each primary that is down went down with one whose log's count of faults rose
  abbrev pub DownsRose : List D → List D → Transcript → Type 0
  DownsRose old new transcript = AllByRecursion (λ down. RoseOf g down.by old new) transcript.downs.items

  -- WHAT A CRASH LEAVES of the logs of an answered run, where their disks tell, beside any store over which the table was opened
  abbrev pub LeavesClosed : Script → CoreOpening → List D → Transcript → Type 0
  LeavesClosed script o disks transcript = EachTells g disks → (image : Image) → IsOpenedOver image.store o → AreImages g disks image.logs
      → IsClosedFor script o transcript image

  -- there are eight logs, and those of the numbers that no primary has hold nothing above the base
  pub record HasIdleLogs (base : Base) (m : Members D) : Type 0 where
    pub count : length (logs_of m) ≡ 8
    pub idle : (place : ℕ) → length m.primaries.items ≤ place → IsLogFromAt g base.llsn (logs_of m) place

  -- MEMBERS WERE LINED UP for a script over a base: none is down, and nothing is answered
  pub record AreLinedUp (script : Script) (base : Base) (m : Members D) : Type 0 where
    pub runs : Runs g (work_over script base) m []
    pub primaries : m.shared.opening.trx.primaries ≡ script.primaries
    pub up : (n : ℕ) → downs_in m n ≡ 0
    pub logs : HasIdleLogs base m

  -- SO THEY WERE OVER NINE DISKS, of which the store's is as it was: the table was opened with what the store held, the logs are
  -- those of the logs' disks, whose list is empty, with room for them, and the run may begin
  pub record LinesUpOver (script : Script) (old new : Disks D) (base : Base) (m : Members D) : Type 0 where
    pub lined_up : AreLinedUp script base m
    pub store : KeptDisk g old.store new.store
    pub synced : IsTrue (g.tells old.store) → Only (g.seen new.store) (g.image new.store)
    pub none : new.logs.items ≡ []
    pub room : length (logs_of m) ≤ vec_capacity new.logs
    pub there : AreStillThere old.logs.items (map (λ log. log.disk) (logs_of m))
    pub may : AllTell g old → MayBegin (as_read g old) (transactions_of script)
    pub opening : AllTell g old → IsOpeningOf (as_read g old) (first_opening m.shared.opening)
    pub over : AllTell g old → IsOpenedOver (g.seen old.store) m.shared.opening

  -- a run of so many transactions was refused before it began, over disks that are still there, the store's as it was: what was found,
  -- what is left, and which disk is blamed
  pub record IsRefusedOver (begins : ℕ) (old new : Disks D) (refusal : ClusterRefusal) : Type 0 where
    pub nine : StillNine g old new
    pub store : KeptDisk g old.store new.store
    pub finds : AllTell g old → RefusesRun (as_read g old) begins refusal
    pub leaves : RunLeaves g old new refusal
    pub cause : RunCause g old new refusal

  -- WHAT IS TOLD of a run that went from its table's opening to its end, in this mode, over these disks of its logs: a transcript that
  -- is legal for the script, and readable; who is down went down with one whose log failed; and what a crash leaves is closed for it
  pub record IsToldRun (script : Script) (o : CoreOpening) (mode : Mode) (old new : List D) (transcript : Transcript) : Type 0 where
    pub legal : Legal script (first_opening o) transcript
    pub readable : IsReadable transcript
    pub mode_is : transcript.mode ≡ mode
    pub downs : DownsRose old new transcript
    pub left : LeavesClosed script o new transcript
