-- What a run over disks that were opened says of the disks from before.
use Rattle.std.proofs.Common.{◌≡◌, ℕ, ◌≤◌, List, [], length, vec_capacity, Result, Ok, Err, IfOk, IfErr, IsTrue, sym, ap, subst, ◌∙◌, arith}
use Rattle.std.proofs.lemmas.Option.{slice_get_within}
use Rattle.mp_model.specs.declared.histories.Opening.{Opening}
use Rattle.mp_model.specs.declared.transcripts.Mode.{Mode}
use Rattle.mp_model.specs.declared.transcripts.Transcript.{Transcript}
use Rattle.mp_report.specs.Readable.{IsReadable}
use Rattle.mp_script.specs.declared.statements.Script.{Script}
use Rattle.mp_script.specs.BeginNames.{begin_names}
use Rattle.mp_script.specs.Spelling.{IsSpelled}
use Rattle.mp_cells.specs.PageView.{bits_set}
use Rattle.mp_cells.specs.PageMaps.{page_at}
use Rattle.mp_cells.specs.Trees.{PageMap, rows_in}
use Rattle.mp_core_trx.specs.declared.opening.Base.{Base}
use Rattle.mp_core.specs.declared.opening.CoreOpening.{CoreOpening}
use Rattle.mp_core.specs.Invariant.{NumbersFit}
use Rattle.mp_outside.specs.Disks.{Only}
use Rattle.mp_outside.specs.declared.disks.Disk.{Ghosts}
use Rattle.mp_files.specs.declared.disks.Disks.{Disks}
use Rattle.mp_files.specs.Nine.{Image, AllTell, EachTells, Every, KeptDisk, KeptNine, StillNine, as_read}
use Rattle.mp_files.proofs.Nines.{KeptDisk-still, KeptNine-still}
use Rattle.mp_files.proofs.Places.{at_place}
use Rattle.mp_log.specs.Tails.{LogView}
use Rattle.mp_store.specs.StoreFiles.{header_in_force}
use Rattle.mp_store.specs.CleanStores.{stored_pages}
use Rattle.mp_recover.specs.KeptCommits.{present}
use Rattle.mp_cuts.specs.LeftBehind.{IsOpenedOver}
use Rattle.mp_verdict.specs.Finished.{BeginsWith}
use Rattle.mp_shared.specs.Nodes.{opening_of}
use Rattle.mp_members.specs.declared.members.Members.{Members}
use Rattle.mp_members.specs.Running.{downs_in, logs_of, Runs}
use Rattle.mp_opening.specs.declared.opening.Opened.{Opened}
use Rattle.mp_opening.specs.declared.refusals.ClusterRefusal.{ClusterRefusal}
use Rattle.mp_opening.specs.declared.refusals.ClusterRefusal.TheVariants as cluster
use Rattle.mp_opening.specs.Openings.{IsLogFromAt, MayBegin, OpensAs, RefusesRun, HandsOut, RunCause}
use Rattle.mp_lineup.specs.LiningUp.{MayLineUp, work_over}
use Rattle.mp_cluster.specs.Runs.{transactions_of, DownsHaveFailed, IsOpeningOf, IsLegalRun, IsLeftOfRun, RunFinds, RunLeaves}
use Rattle.mp_cluster.specs.StepRuns.{AreStillThere, IsRefusedOver, IsToldRun, LeavesClosed, LinesUpOver, StopsFor}
use Rattle.mp_cluster.specs.StepTranscripts.{first_opening}
use Rattle.mp_cluster.proofs.DownDisks.{all_before}
use Rattle.mp_cluster.proofs.PresentRows.{present_rows}
use Rattle.mp_cluster.proofs.SameDisks.{disks_in, StillThere-trans, opened_there}

module _ {D : Type 0} (g : Ghosts D) where
  -- a refusal that left all nine as they were
  kept_leaves : (old new : Disks D) (refusal : ClusterRefusal) → KeptNine g old new → RunLeaves g old new refusal
  kept_leaves old new (cluster.Store place) kept = kept
  kept_leaves old new cluster.StoreDisk kept = kept
  kept_leaves old new (cluster.Log primary place) kept = kept
  kept_leaves old new (cluster.LogDisk primary) kept = kept
  kept_leaves old new (cluster.NeedsRecover primary llsn) kept = kept
  kept_leaves old new cluster.NotClean kept = kept
  kept_leaves old new (cluster.Spent what base add) kept = kept
  kept_leaves old new cluster.Memory kept = tt

  -- what stops a run leaves nothing to say, is no finding, and blames no disk
  stop_leaves : (old new : Disks D) (refusal : ClusterRefusal) → StopsFor refusal → RunLeaves g old new refusal
  stop_leaves old new refusal stop = subst (RunLeaves g old new) (sym stop) tt

  stop_finds : (image : Image) (begins : ℕ) (refusal : ClusterRefusal) → StopsFor refusal → RefusesRun image begins refusal
  stop_finds image begins refusal stop = subst (RefusesRun image begins) (sym stop) tt

  stop_cause : (old new : Disks D) (refusal : ClusterRefusal) → StopsFor refusal → RunCause g old new refusal
  stop_cause old new refusal stop = subst (RunCause g old new) (sym stop) tt

  -- nine disks, of which the store's is as it was
  nine_still : (old new : Disks D) → KeptDisk g old.store new.store → AreStillThere g old.logs.items new.logs.items → StillNine g old new
  nine_still old new kept there = record { count = there.count; store = KeptDisk-still g old.store new.store kept; each = there.each }

  -- they were refused as they were opened
  pub refused_over : (script : Script) (old new : Disks D) (begins : ℕ) (refusal : ClusterRefusal) → begins ≡ transactions_of script
      → (AllTell g old → RefusesRun (as_read g old) begins refusal) → KeptNine g old new → RunCause g old new refusal → IsRefusedOver g (transactions_of script) old new refusal
  refused_over script old new begins refusal begins_are finds kept cause = record {
    nine = KeptNine-still g old new kept;
    store = kept.store;
    finds = λ tells. subst (λ (n : ℕ). RefusesRun (as_read g old) n refusal) begins_are (finds tells);
    leaves = kept_leaves old new refusal kept;
    cause = cause;
  }

-- nine disks that were opened for a script
module _ {D : Type 0} (g : Ghosts D) (script : Script) (old mid : Disks D) (opened : Opened D) (begins : ℕ) (begins_are : begins ≡ transactions_of script) (eight : length old.logs.items ≡ 8)
    (found : AllTell g old → OpensAs (as_read g old) begins (Ok opened)) (hands : HandsOut g old mid opened) where
  opened_still : AreStillThere g old.logs.items (disks_in opened.logs.items)
  opened_still = opened_there g old.logs.items opened.logs.items (hands.count ∙ sym eight) hands.kept

  -- so members may be lined up
  pub may_line_up : IsSpelled script
      → ((primaries : ℕ) → 1 ≤ primaries → primaries ≤ 8 → NumbersFit (opening_of opened.base primaries begins opened.pages.items)) → MayLineUp g script opened
  may_line_up spelled fit = record {
    count = hands.count;
    logs = hands.logs;
    fit = subst (λ (n : ℕ). NumbersFit (opening_of opened.base script.primaries n opened.pages.items)) begins_are
        (fit script.primaries spelled.1.spelled.primaries_low spelled.1.spelled.primaries_high);
  }

  -- what the table is opened with
  abbrev its_table : CoreOpening
  its_table = opening_of opened.base script.primaries (length (begin_names script.lines.items)) opened.pages.items

  -- it is what the disks hold
  opening_is : AllTell g old → IsOpeningOf (as_read g old) (first_opening its_table)
  opening_is tells =
      let is = found tells in
      record {
        base = ap (λ (b : Base). b.ts) is.1;
        taken = ap (λ (pages : PageMap). bits_set (pages 0).bits) is.2;
        rows = present_rows (rows_in (page_at opened.pages.items)) ∙ ap (λ (pages : PageMap). present (rows_in pages)) is.2;
      }

  opened_over : AllTell g old → IsOpenedOver (g.seen old.store) its_table
  opened_over tells = let is = found tells in record { clean = is.0.clean.store; pages = is.2; base = ap (λ (b : Base). b.llsn) is.1 }

  -- where there was no memory for them, the logs' disks are back
  pub not_lined_up : (new : Disks D) → new.store ≡ mid.store → new.logs.items ≡ disks_in opened.logs.items → IsRefusedOver g (transactions_of script) old new cluster.Memory
  not_lined_up new same back =
      let kept : KeptDisk g old.store new.store = subst (λ (store : D). KeptDisk g old.store store) (sym same) hands.store in
      record {
        nine = nine_still g old new kept (subst (AreStillThere g old.logs.items) (sym back) opened_still);
        store = kept;
        finds = λ tells. tt;
        leaves = tt;
        cause = tt;
      }

  -- where they were lined up, they are over these disks
  pub lines_up_over : (m : Members D) → Runs g (work_over script opened.base) m [] → m.shared.opening ≡ its_table → logs_of m ≡ opened.logs.items → ((n : ℕ) → downs_in m n ≡ 0)
      → (new : Disks D) → new.store ≡ mid.store → new.logs ≡ mid.logs → LinesUpOver g script old new opened.base m
  lines_up_over m runs table logs up new same same_logs = record {
    lined_up = record {
      runs = runs;
      primaries = ap (λ (o : CoreOpening). o.trx.primaries) table;
      up = up;
      logs = record {
        count = logs_count;
        idle = λ place past. subst (λ (ls : List (LogView D)). IsLogFromAt g opened.base.llsn ls place) (sym logs) (hands.logs place);
      };
    };
    store = subst (λ (store : D). KeptDisk g old.store store) (sym same) hands.store;
    synced = λ tells. subst (λ (store : D). Only (g.seen store) (g.image store)) (sym same) (hands.synced tells);
    none = ap (λ ls. ls.items) same_logs ∙ hands.none;
    room = subst (λ ls. length (logs_of m) ≤ vec_capacity ls) (sym same_logs) (let room = hands.room in omega (arith, room, logs_count));
    there = subst (λ (ls : List (LogView D)). AreStillThere g old.logs.items (disks_in ls)) (sym logs) opened_still;
    may = λ tells. subst (MayBegin (as_read g old)) begins_are (found tells).0;
    opening = λ tells. subst (λ (o : CoreOpening). IsOpeningOf (as_read g old) (first_opening o)) (sym table) (opening_is tells);
    over = λ tells. subst (IsOpenedOver (g.seen old.store)) (sym table) (opened_over tells);
  }
    where
      logs_count : length (logs_of m) ≡ 8
      logs_count = ap (λ (ls : List (LogView D)). length ls) logs ∙ hands.count

-- WHAT A RUN SAYS of its answer, in this mode
pub record SaysOfRun {D : Type 0} (g : Ghosts D) (script : Script) (mode : Mode) (old new : Disks D) (answer : Result Transcript ClusterRefusal) : Type 0 where
  pub nine : StillNine g old new
  pub store : KeptDisk g old.store new.store
  pub finds : AllTell g old → RunFinds (as_read g old) (transactions_of script) answer
  pub untouched : IfErr answer (RunLeaves g old new)
  pub cause : IfErr answer (RunCause g old new)
  pub legal : IfOk answer (IsLegalRun g old script)
  pub readable : IfOk answer IsReadable
  pub mode_is : IfOk answer (λ transcript. transcript.mode ≡ mode)
  pub downs : IfOk answer (DownsHaveFailed g old new)
  pub left : AllTell g old → IfOk answer (λ transcript. Every g new (IsLeftOfRun (as_read g old) script transcript))

-- a run whose members were lined up over nine disks
module _ {D : Type 0} (g : Ghosts D) (script : Script) (old mid : Disks D) (base : Base) (m : Members D) (up : LinesUpOver g script old mid base m)
    (new : Disks D) (same : new.store ≡ mid.store) (there : AreStillThere g (disks_in (logs_of m)) new.logs.items) where
  kept : KeptDisk g old.store new.store
  kept = subst (λ (store : D). KeptDisk g old.store store) (sym same) up.store

  still : StillNine g old new
  still = nine_still g old new kept (StillThere-trans g old.logs.items (disks_in (logs_of m)) new.logs.items up.there there)

  begins_as : AllTell g old → (opening : Opening) → IsOpeningOf (as_read g old) opening → BeginsWith m.shared.opening opening
  begins_as tells opening its =
      let first = up.opening tells in
      record { base = its.base ∙ sym first.base; taken = its.taken ∙ sym first.taken; rows = its.rows ∙ sym first.rows }

  -- disks that stand tell as before
  still_tell : EachTells g old.logs.items → EachTells g new.logs.items
  still_tell tells place disk at =
      let within = slice_get_within new.logs.items place disk at in
      let count = still.count in
      let was = at_place old.logs.items place (omega (arith, within, count)) in
      subst IsTrue (sym (still.each place was.0 disk was.1 at).tells) (tells place was.0 was.1)

  -- what a crash leaves is the store that was opened, and what it leaves of the logs
  run_left : AllTell g old → (transcript : Transcript) → LeavesClosed g script m.shared.opening new.logs.items transcript → Every g new (IsLeftOfRun (as_read g old) script transcript)
  run_left tells transcript leaves image is =
      let store : image.store ≡ g.seen old.store = up.synced tells.store image.store (subst (λ (d : D). g.image d image.store) same is.store) ∙ up.store.quiet.same in
      let over : IsOpenedOver image.store m.shared.opening = subst (λ (file : List ℕ). IsOpenedOver file m.shared.opening) (sym store) (up.over tells) in
      let closed = leaves (still_tell tells.logs) image over is.logs in
      record {
        store = record { header = ap header_in_force store; pages = λ n lt. (0, ap (λ (file : List ℕ). stored_pages file n) store) };
        sound = closed.sound;
        closed = λ opening its. closed.closed opening (begins_as tells opening its);
      }

  pub says : {E : Type 0} (mode : Mode) (told : Result Transcript E) → IfOk told (IsToldRun g script m.shared.opening mode (disks_in (logs_of m)) new.logs.items)
      → (answer : Result Transcript ClusterRefusal) → IfOk answer (λ transcript. told ≡ Ok transcript) → IfErr answer StopsFor → SaysOfRun g script mode old new answer
  says mode told is (Err refusal) answered stops = record {
    nine = still;
    store = kept;
    finds = λ tells. stop_finds g (as_read g old) (transactions_of script) refusal stops;
    untouched = stop_leaves g old new refusal stops;
    cause = stop_cause g old new refusal stops;
    legal = tt;
    readable = tt;
    mode_is = tt;
    downs = tt;
    left = λ tells. tt;
  }
  says {E} mode told is (Ok transcript) answered stops =
      let its : IsToldRun g script m.shared.opening mode (disks_in (logs_of m)) new.logs.items transcript =
      subst (λ (r : Result Transcript E). IfOk r (IsToldRun g script m.shared.opening mode (disks_in (logs_of m)) new.logs.items)) answered is in
      record {
        nine = still;
        store = kept;
        finds = up.may;
        untouched = tt;
        cause = tt;
        legal = record { opening = first_opening m.shared.opening; opened = up.opening; legal = its.legal };
        readable = its.readable;
        mode_is = its.mode_is;
        downs = all_before g transcript.downs.items old.logs.items (disks_in (logs_of m)) new.logs.items up.there its.downs;
        left = λ tells. run_left tells transcript its.left;
      }
