-- Members that went from where they were lined up to their end, in mode Step or in mode Run: what is told of them is legal and readable,
-- who is down went down with one whose log's disk failed, and what a crash leaves of their disks is closed.
use Rattle.std.proofs.Common.{◌≡◌, ℕ, ◌+◌, ◌≤◌, List, [], map, length, slice_get, Some, sym, ap, subst, ◌∙◌, arith}
use Rattle.std.specs.List.{AllByRecursion}
use Rattle.std.proofs.lemmas.List.{length-map}
use Rattle.std.proofs.lemmas.Option.{slice_get_within}
use Rattle.mp_model.specs.declared.histories.Opening.{Opening}
use Rattle.mp_model.specs.declared.replies.Answer.{Answer}
use Rattle.mp_model.specs.declared.transcripts.Down.{Down}
use Rattle.mp_model.specs.declared.transcripts.Mode.{Mode}
use Rattle.mp_model.specs.declared.transcripts.Mode.TheVariants as modes
use Rattle.mp_model.specs.declared.transcripts.Transcript.{Transcript}
use Rattle.mp_outside.specs.declared.disks.Disk.{Ghosts}
use Rattle.mp_script.specs.declared.statements.Script.{Script}
use Rattle.mp_script.specs.DownLines.{down_lines}
use Rattle.mp_script.specs.Legal.{Legal}
use Rattle.mp_script.specs.Spelling.{IsSpelled}
use Rattle.mp_core_trx.specs.declared.opening.Base.{Base}
use Rattle.mp_core.specs.declared.opening.CoreOpening.{CoreOpening}
use Rattle.mp_files.specs.Nine.{RoseOf}
use Rattle.mp_files.proofs.Places.{at_place}
use Rattle.mp_primary.specs.Primaries.{PrimaryView}
use Rattle.mp_report.specs.Readable.{IsReadable}
use Rattle.mp_shared.specs.Nodes.{Run}
use Rattle.mp_supports.specs.Kept.{answers_in}
use Rattle.mp_verdict.specs.Finished.{BeginsWith}
use Rattle.mp_verdict.specs.Orders.{NodeEntry, entries_given}
use Rattle.mp_members.specs.declared.members.Members.{Members}
use Rattle.mp_members.specs.Running.{downs_in, logs_of, AreMembers, Runs, RunsApart, AreThrough, AreSameMembers}
use Rattle.mp_driver.specs.Driving.{RunsToItsEnd}
use Rattle.mp_threads.specs.Threads.{EndsApart}
use Rattle.mp_lineup.specs.LiningUp.{AreListed, work_over}
use Rattle.mp_cluster.specs.RunTranscripts.{IsRunOver}
use Rattle.mp_cluster.specs.StepRuns.{AreLinedUp, DownsRose, IsToldRun, LeavesClosed}
use Rattle.mp_cluster.specs.StepTranscripts.{first_opening, IsStepOver}
use Rattle.mp_cluster.proofs.AnsweredRuns.{ClosesLeft, ClosesApart, opened_first}
use Rattle.mp_cluster.proofs.DownDisks.{lines_rose}
use Rattle.mp_cluster.proofs.EndedMembers.{answers_listed, ClosesEach, members_legal, members_readable, members_closed, apart_legal, apart_readable, apart_closed}
use Rattle.mp_cluster.proofs.LeftLogs.{leaves_closed}
use Rattle.mp_cluster.proofs.SameDisks.{disks_in, same_idle}

-- members that were lined up may also run on threads of their own
pub first_apart : {D : Type 0} (g : Ghosts D) (script : Script) (base : Base) (m : Members D) → AreLinedUp g script base m → RunsApart g (work_over script base) m []
first_apart g script base m up = record { members = up.runs.members; views = λ n node. tt }

module _ {D : Type 0} (g : Ghosts D) (script : Script) (base : Base) (old new : Members D) (up : AreLinedUp g script base old) (same : AreSameMembers g old new) where
  -- they have kept their numbers
  pub same_numbers : (place : ℕ) (pr : PrimaryView D) → slice_get new.primaries.items place ≡ Some pr → pr.number ≡ place + 1
  same_numbers place pr at =
      let within = slice_get_within new.primaries.items place pr at in
      let count = same.count in
      let was = at_place old.primaries.items place (omega (arith, within, count)) in
      (same.each place was.0 pr was.1 at).number ∙ (up.runs.members.each place was.0 was.1).number

  its_opening : new.shared.opening ≡ old.shared.opening
  its_opening = ap (λ (r : Run). r.opening) same.shared

  its_primaries : new.shared.opening.trx.primaries ≡ script.primaries
  its_primaries = ap (λ (o : CoreOpening). o.trx.primaries) its_opening ∙ up.primaries

  module _ (given : List NodeEntry) (members : AreMembers g (work_over script base) new given) where
    lines_are : (downs : List Down) → downs ≡ down_lines (downs_in new) 1 (length new.primaries.items) → downs ≡ down_lines (downs_in new) 1 new.shared.opening.trx.primaries
    lines_are downs downs_are = downs_are ∙ ap (down_lines (downs_in new) 1) members.count

    -- what is told of them, where the transcript is legal over whatever they began from, and closed for what is left
    told_as : (mode : Mode) (transcript : Transcript) (disks : List D) → disks ≡ disks_in (logs_of new)
        → ((opening : Opening) → BeginsWith new.shared.opening opening → Legal script opening transcript) → IsReadable transcript → transcript.mode ≡ mode
        → transcript.downs.items ≡ down_lines (downs_in new) 1 new.shared.opening.trx.primaries → ClosesEach g script base new given members transcript
        → IsToldRun g script old.shared.opening mode (disks_in (logs_of old)) disks transcript
    told_as mode transcript disks back legal readable mode_is downs_are closes = record {
      legal = subst (λ (o : CoreOpening). Legal script (first_opening o) transcript) its_opening (legal (first_opening new.shared.opening) (opened_first new.shared.opening));
      readable = readable;
      mode_is = mode_is;
      downs = subst (λ (now : List D). DownsRose g (disks_in (logs_of old)) now transcript) (sym back)
          (subst (AllByRecursion (λ (line : Down). RoseOf g line.by (disks_in (logs_of old)) (disks_in (logs_of new)))) (sym downs_are)
          (lines_rose g (work_over script base) old new given members same up.up));
      left = subst (λ (now : List D). LeavesClosed g script old.shared.opening now transcript) (sym back)
          (subst (λ (o : CoreOpening). LeavesClosed g script o (disks_in (logs_of new)) transcript) its_opening
          (leaves_closed g script base new given members (same_idle g base old new same up.logs) transcript closes));
    }

-- ---- in mode Step

module _ {D : Type 0} (g : Ghosts D) (script : Script) (spelled : IsSpelled script) (base : Base) (old new : Members D) (up : AreLinedUp g script base old) (same : AreSameMembers g old new) (ended : RunsToItsEnd g old new)
    (order : List ℕ) (lists : List (List Answer)) (order_is : order ≡ new.order.items) (lists_are : lists ≡ map (λ pr. pr.book.answers.items) new.primaries.items) where
  abbrev step_given : List NodeEntry
  step_given = (ended (work_over script base) [] up.runs).0

  step_runs : Runs g (work_over script base) new step_given
  step_runs = (ended (work_over script base) [] up.runs).1

  step_end : AreThrough new
  step_end = (ended (work_over script base) [] up.runs).2

  are_listed : AreListed step_given order lists
  are_listed =
      subst (λ (os : List ℕ). AreListed step_given os lists) (sym order_is)
      (subst (AreListed step_given new.order.items) (sym lists_are) (answers_listed g (work_over script base) new step_given step_runs))

  pub step_listed : (given : List NodeEntry) × AreListed given order lists
  step_listed = (step_given, are_listed)

  module _ (downs : List Down) (downs_are : downs ≡ down_lines (downs_in new) 1 (length new.primaries.items)) (transcript : Transcript)
      (told : (given : List NodeEntry) → AreListed given order lists → IsStepOver base.ts (answers_in (entries_given given)) downs transcript) (disks : List D) (back : disks ≡ disks_in (logs_of new)) where
    is_step : IsStepOver base.ts (answers_in (entries_given step_given)) (down_lines (downs_in new) 1 new.shared.opening.trx.primaries) transcript
    is_step = subst (λ (ds : List Down). IsStepOver base.ts (answers_in (entries_given step_given)) ds transcript) (lines_are g script base old new up same step_given step_runs.members downs downs_are) (told step_given are_listed)

    step_primaries : new.shared.opening.trx.primaries ≡ script.primaries
    step_primaries = its_primaries g script base old new up same

    pub step_told : ClosesLeft → IsToldRun g script old.shared.opening modes.Step (disks_in (logs_of old)) disks transcript
    step_told closes = told_as g script base old new up same step_given step_runs.members modes.Step transcript disks back
        (λ opening begins. members_legal g script base new step_given step_runs spelled step_end step_primaries opening begins transcript is_step)
        (members_readable g script base new step_given step_runs spelled step_end step_primaries (first_opening new.shared.opening) (opened_first new.shared.opening) transcript is_step)
        is_step.mode is_step.downs
        (λ opening begins. members_closed g script base new step_given step_runs spelled step_end step_primaries opening begins transcript is_step closes)

-- ---- in mode Run

module _ {D : Type 0} (g : Ghosts D) (script : Script) (spelled : IsSpelled script) (base : Base) (old new : Members D) (up : AreLinedUp g script base old) (same : AreSameMembers g old new)
    (lists : List (List Answer)) (lists_are : lists ≡ map (λ pr. pr.book.answers.items) new.primaries.items) where
  -- there are at most eight
  pub few_lists : length lists ≤ 8
  few_lists =
      let long = ap (λ (ls : List (List Answer)). length ls) lists_are ∙ length-map new.primaries.items (λ (pr : PrimaryView D). pr.book.answers.items) in
      let count = same.count in
      let many = up.runs.members.count in
      let primaries = up.primaries in
      let high = spelled.1.spelled.primaries_high in
      omega (arith, long, count, many, primaries, high)

  module _ (ended : EndsApart g old new) where
    abbrev run_given : List NodeEntry
    run_given = (ended (work_over script base) (first_apart g script base old up)).0

    run_apart : RunsApart g (work_over script base) new run_given
    run_apart = (ended (work_over script base) (first_apart g script base old up)).1

    run_end : AreThrough new
    run_end = (ended (work_over script base) (first_apart g script base old up)).2

    module _ (downs : List Down) (downs_are : downs ≡ down_lines (downs_in new) 1 (length new.primaries.items)) (transcript : Transcript)
        (told : IsRunOver base.ts lists downs transcript) (disks : List D) (back : disks ≡ disks_in (logs_of new)) where
      is_run : IsRunOver base.ts (map (λ pr. pr.book.answers.items) new.primaries.items) (down_lines (downs_in new) 1 new.shared.opening.trx.primaries) transcript
      is_run = subst (λ (ls : List (List Answer)). IsRunOver base.ts ls (down_lines (downs_in new) 1 new.shared.opening.trx.primaries) transcript) lists_are
          (subst (λ (ds : List Down). IsRunOver base.ts lists ds transcript) (lines_are g script base old new up same run_given run_apart.members downs downs_are) told)

      run_primaries : new.shared.opening.trx.primaries ≡ script.primaries
      run_primaries = its_primaries g script base old new up same

      pub apart_told : ClosesApart → IsToldRun g script old.shared.opening modes.Run (disks_in (logs_of old)) disks transcript
      apart_told closes = told_as g script base old new up same run_given run_apart.members modes.Run transcript disks back
          (λ opening begins. apart_legal g script base new run_given run_apart spelled run_end run_primaries opening begins transcript is_run)
          (apart_readable g script base new run_given run_apart spelled run_end run_primaries (first_opening new.shared.opening) (opened_first new.shared.opening) transcript is_run)
          is_run.mode is_run.downs
          (λ opening begins. apart_closed g script base new run_given run_apart spelled run_end run_primaries opening begins transcript is_run closes)
