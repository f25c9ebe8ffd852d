-- Members that are through have answered all, over a world that can be reached.
use Rattle.std.proofs.Common.{◌≡◌, ℕ, ◌+◌, ◌-◌, ◌<◌, ◌≤◌, true, List, [], ◌∷◌, length, map, Some, refl, sym, ap, subst, ◌∙◌, arith}
use Rattle.std.specs.List.{AllByRecursion}
use Rattle.std.proofs.lemmas.List.{length-map}
use Rattle.std.proofs.lemmas.Option.{slice_get_within}
use Rattle.mp_machine.specs.View.{part_in, ViewAgrees}
use Rattle.mp_model.specs.declared.histories.Opening.{Opening}
use Rattle.mp_model.specs.declared.replies.Answer.{Answer}
use Rattle.mp_model.specs.declared.transcripts.Transcript.{Transcript}
use Rattle.mp_outside.specs.declared.disks.Disk.{Ghosts}
use Rattle.mp_script.specs.declared.statements.Script.{Script}
use Rattle.mp_script.specs.Below.{EachBelow, answered, stated}
use Rattle.mp_script.specs.DownLines.{down_lines}
use Rattle.mp_script.specs.Execution.{execution_of, is_session_on}
use Rattle.mp_script.specs.Legal.{Legal}
use Rattle.mp_script.specs.Spelling.{IsSpelled}
use Rattle.mp_script.proofs.Declared.{on_declared}
use Rattle.mp_script.proofs.Lists.{all_map}
use Rattle.mp_script.proofs.SpelledLines.{session_within, spelled_in_order}
use Rattle.mp_core_trx.specs.declared.opening.Base.{Base}
use Rattle.mp_core_trx.specs.Events.{IsNode}
use Rattle.mp_core.specs.declared.opening.CoreOpening.{CoreOpening}
use Rattle.mp_core.specs.declared.part.CorePart.{CorePart}
use Rattle.mp_core.specs.Invariant.{NumbersFit}
use Rattle.mp_core.specs.World.{CoreWorld, core_part}
use Rattle.mp_facts.specs.Facts.{Facts}
use Rattle.mp_book.specs.Answered.{IsPlaced}
use Rattle.mp_report.specs.Readable.{IsReadable}
use Rattle.mp_shared.specs.Nodes.{Run}
use Rattle.mp_supports.specs.Work.{Work}
use Rattle.mp_supports.specs.Kept.{answers_in, Kept}
use Rattle.mp_verdict.specs.Finished.{BeginsWith}
use Rattle.mp_verdict.specs.Orders.{NodeEntry, entries_given, given_by, StepOrder}
use Rattle.mp_desk.proofs.ReachedFacts.{KnownWorld, known_world}
use Rattle.mp_primary.proofs.AllAnswered.{all_answered}
use Rattle.mp_primary.specs.Primaries.{PrimaryView, IsBetweenTurns, PrimaryAgrees}
use Rattle.mp_primary.specs.Answering.{have_no_line}
use Rattle.mp_members.specs.declared.members.Members.{Members}
use Rattle.mp_members.specs.Running.{downs_in, AreThrough, IsMember, AreMembers, Runs, RunsApart}
use Rattle.mp_members.proofs.DownAt.{down_there}
use Rattle.mp_members.proofs.DownMembers.{member_of, down_by_another}
use Rattle.mp_lineup.specs.LiningUp.{AreListed, work_over}
use Rattle.mp_files.specs.Nine.{Image}
use Rattle.mp_recover.specs.Closed.{KeptAreClosed}
use Rattle.mp_recover.specs.Images.{logged_above, SoundImage}
use Rattle.mp_recover.specs.KeptCommits.{kept_commits}
use Rattle.mp_cuts.specs.LeftBehind.{IsOpenedOver, IsLeftBehind}
use Rattle.mp_cuts.proofs.LeftImages.{sound}
use Rattle.mp_cluster.specs.RunTranscripts.{IsRunOver}
use Rattle.mp_cluster.specs.StepTranscripts.{IsStepOver}
use Rattle.mp_cluster.proofs.AnsweredRuns as answered_runs
use Rattle.mp_cluster.proofs.AnsweredRuns.{ClosesLeft, ClosesApart, AnswersAll, AreListsOf, answered_legal, answered_readable, answered_closed}
use Rattle.mp_cluster.proofs.PlacesOfLists.{from_mapped}

-- a session that is on a primary of a spelled script is one of 64
session_below : (script : Script) → IsSpelled script → (session n : ℕ) → is_session_on script.sessions.items session n ≡ true → session < 65
session_below script spelled session n on =
    let bounds = session_within script.sessions.items session (spelled_in_order script spelled).declared (on_declared script.sessions.items session n on) in
    let high = bounds.1 in
    omega (arith, high)

within_all : (P : ℕ → Type 0) (given : List NodeEntry) → AllByRecursion (λ x. P x.node) given → AllByRecursion P (map (λ x. x.node) given)
within_all P [] all = tt
within_all P (x ∷ given) all = (all.0, within_all P given all.1)

module _ {D : Type 0} where
  -- a primary that has no statement left has answered all statements of its sessions
  stated_all : (pr : PrimaryView D) → IsBetweenTurns pr → have_no_line pr.book.sessions.items ≡ true → (session : ℕ) → session < 65 → is_session_on pr.work.sessions session pr.number ≡ true
      → answered session pr.book.answers.items ≡ stated session pr.work.lines
  stated_all pr is none session below on = all_answered pr.work.lines pr.work.sessions pr.number pr.book is.book none session below on

module _ {D : Type 0} (g : Ghosts D) (work : Work) (m : Members D) (given : List NodeEntry) (members : AreMembers g work m given) where
  its_opening : m.node.run.opening ≡ m.shared.opening
  its_opening = ap (λ (r : Run). r.opening) members.run

  -- a member agrees with the part that the node has of it
  pub agrees_at : (n : ℕ) → IsNode m.shared.opening.trx n → (pr : PrimaryView D) → IsMember g work m given n pr → (q : CorePart) × (part_in m.node.parts n ≡ Some q) × PrimaryAgrees g pr (given_by n given) q
  agrees_at n node pr is =
      let q = members.holds n (subst (λ (o : CoreOpening). IsNode o.trx n) (sym its_opening) node) in
      (q.0, q.1, is.agrees q.0 (ap (part_in m.node.parts) is.number ∙ q.1))

  -- so a world that agrees with the node has its part
  kept_at : (w : CoreWorld) → ViewAgrees (core_part w) m.node.parts → (n : ℕ) → IsNode m.shared.opening.trx n → Kept work (core_part w n) (downs_in m n) (given_by n given)
  kept_at w agrees n node =
      let low = node.0 in
      let x = member_of g work m given members n node in
      let q = agrees_at n node x.0 x.2 in
      subst (λ (p : CorePart). Kept work p (downs_in m n) (given_by n given)) (sym (agrees n q.0 q.1))
      (subst (λ (d : ℕ). Kept work q.0 d (given_by n given)) (sym (down_there m.primaries.items (n - 1) n x.0 (omega (arith, low)) x.1))
      (subst (λ (k : Work). Kept k q.0 (x.0).down (given_by n given)) x.2.work_is q.2.kept))

  placed_at : (n : ℕ) → IsNode m.shared.opening.trx n → EachBelow (IsPlaced work.lines work.sessions n) [] (answers_in (given_by n given))
  placed_at n node =
      let x = member_of g work m given members n node in
      subst (EachBelow (IsPlaced work.lines work.sessions n) []) (sym (agrees_at n node x.0 x.2).2.answers)
      (subst (λ (k : ℕ). EachBelow (IsPlaced work.lines work.sessions k) [] (x.0).book.answers.items) x.2.number
      (subst (λ (k : Work). EachBelow (IsPlaced k.lines k.sessions (x.0).number) [] (x.0).book.answers.items) x.2.work_is x.2.stands.primary.book.placed))

  stated_at : AreThrough m → (n session : ℕ) → IsNode m.shared.opening.trx n → session < 65 → is_session_on work.sessions session n ≡ true → answered session (answers_in (given_by n given)) ≡ stated session work.lines
  stated_at through n session node below on =
      let x = member_of g work m given members n node in
      let here : is_session_on (x.0).work.sessions session (x.0).number ≡ true =
      subst (λ (k : ℕ). is_session_on (x.0).work.sessions session k ≡ true) (sym x.2.number)
      (subst (λ (k : Work). is_session_on k.sessions session n ≡ true) (sym x.2.work_is) on) in
      ap (answered session) (agrees_at n node x.0 x.2).2.answers
      ∙ stated_all x.0 x.2.stands.primary (through (n - 1) x.0 x.1).answered session below here
      ∙ ap (λ (k : Work). stated session k.lines) x.2.work_is

  -- the lists of the primaries' answers have those that were given
  pub lists_of : AreListsOf m.shared.opening.trx.primaries given (map (λ pr. pr.book.answers.items) m.primaries.items)
  lists_of = record {
    count = length-map m.primaries.items (λ (pr : PrimaryView D). pr.book.answers.items) ∙ members.count;
    lists_are = λ place answers at.
        let x = from_mapped (λ (pr : PrimaryView D). pr.book.answers.items) m.primaries.items place answers at in
        let within = slice_get_within m.primaries.items place x.0 x.1 in
        let count = members.count in
        let node : IsNode m.shared.opening.trx (place + 1) = (omega arith, omega (arith, within, count)) in
        x.2 ∙ sym (agrees_at (place + 1) node x.0 (members.each place x.0 x.1)).2.answers;
  }

  pub known : KnownWorld m.node
  known = known_world m.node members.reached

-- and in mode Step they are listed in the order in which they were given
pub answers_listed : {D : Type 0} (g : Ghosts D) (work : Work) (m : Members D) (given : List NodeEntry) → Runs g work m given → AreListed given m.order.items (map (λ pr. pr.book.answers.items) m.primaries.items)
answers_listed {D} g work m given runs = record {
  order_is = runs.order;
  answered = runs.members.answered;
  within = subst (AllByRecursion (λ n. (1 ≤ n) × (n ≤ length lists))) (sym runs.order)
      (within_all (λ n. (1 ≤ n) × (n ≤ length lists)) given (all_map (λ (x : NodeEntry). IsNode m.shared.opening.trx x.node) (λ (x : NodeEntry). (1 ≤ x.node) × (x.node ≤ length lists)) given
      (λ x node. let low = node.0 in let high = node.1 in let many = its_lists.count in (low, omega (arith, high, many))) runs.members.of_nodes));
  lists_are = its_lists.lists_are;
}
  where
    lists : List (List Answer)
    lists = map (λ pr. pr.book.answers.items) m.primaries.items

    its_lists : AreListsOf m.shared.opening.trx.primaries given (map (λ pr. pr.book.answers.items) m.primaries.items)
    its_lists = lists_of g work m given runs.members

module _ {D : Type 0} (g : Ghosts D) (script : Script) (base : Base) (m : Members D) (given : List NodeEntry) (members : AreMembers g (work_over script base) m given) where
  abbrev pub its_world : CoreWorld
  its_world = (known g (work_over script base) m given members).world

  pub its_facts : Facts m.shared.opening its_world
  its_facts = subst (λ (o : CoreOpening). Facts o its_world) (its_opening g (work_over script base) m given members) (known g (work_over script base) m given members).facts

  pub its_base : base ≡ m.shared.opening.trx.base
  its_base = sym members.base

  its_fit : NumbersFit m.shared.opening
  its_fit = subst NumbersFit (its_opening g (work_over script base) m given members) members.reached.fair

  -- what a crash may leave of their logs is sound
  pub members_sound : (opened : List ℕ) → IsOpenedOver opened m.shared.opening → (image : Image) → IsLeftBehind m.shared.opening its_world opened image → SoundImage image
  members_sound opened over image left = sound m.shared.opening its_fit its_world its_facts opened over image left

  -- the commits that are kept of it are closed for a transcript, whatever the run began from
  abbrev pub ClosesEach : Transcript → Type 0
  ClosesEach transcript = (opening : Opening) → BeginsWith m.shared.opening opening → (opened : List ℕ) → IsOpenedOver opened m.shared.opening → (image : Image)
      → IsLeftBehind m.shared.opening its_world opened image → KeptAreClosed (execution_of script opening transcript) (kept_commits (logged_above image))

  pub answers_all : IsSpelled script → AreThrough m → m.shared.opening.trx.primaries ≡ script.primaries → AnswersAll (work_over script base) script m.shared.opening its_world (downs_in m) given
  answers_all spelled through primaries = record {
    fit = its_fit;
    facts = its_facts;
    work_of = record { lines = refl; sessions = refl; base = its_base; primaries = sym primaries; begins = members.begins };
    kept = kept_at g (work_over script base) m given members its_world (known g (work_over script base) m given members).agrees;
    in_order = placed_at g (work_over script base) m given members;
    none_left = λ n session node on. stated_at g (work_over script base) m given members through n session node (session_below script spelled session n on) on;
    cause = down_by_another g (work_over script base) m given members;
    answered_all = members.answered;
    of_nodes = members.of_nodes;
  }

-- ---- in mode Step

module _ {D : Type 0} (g : Ghosts D) (script : Script) (base : Base) (m : Members D) (given : List NodeEntry) (runs : Runs g (work_over script base) m given) (spelled : IsSpelled script) (through : AreThrough m)
    (primaries : m.shared.opening.trx.primaries ≡ script.primaries) (opening : Opening) (begins : BeginsWith m.shared.opening opening)
    (transcript : Transcript) (t : IsStepOver base.ts (answers_in (entries_given given)) (down_lines (downs_in m) 1 m.shared.opening.trx.primaries) transcript) where
  abbrev step_world : CoreWorld
  step_world = its_world g script base m given runs.members

  step_all_answered : AnswersAll (work_over script base) script m.shared.opening step_world (downs_in m) given
  step_all_answered = answers_all g script base m given runs.members spelled through primaries

  given_order : StepOrder base.ts given
  given_order = record { rising = runs.rising; views = runs.views }

  pub members_legal : Legal script opening transcript
  members_legal = answered_legal (work_over script base) script m.shared.opening step_world (downs_in m) given spelled step_all_answered opening begins given_order transcript t

  pub members_readable : IsReadable transcript
  members_readable = answered_readable (work_over script base) script m.shared.opening step_world (downs_in m) given spelled step_all_answered opening begins given_order transcript t

  pub members_closed : ClosesLeft → (opened : List ℕ) → IsOpenedOver opened m.shared.opening → (image : Image) → IsLeftBehind m.shared.opening step_world opened image
      → KeptAreClosed (execution_of script opening transcript) (kept_commits (logged_above image))
  members_closed closes opened over image left = answered_closed (work_over script base) script m.shared.opening step_world (downs_in m) given spelled step_all_answered opening begins given_order transcript t closes opened over image left

-- ---- in mode Run

module _ {D : Type 0} (g : Ghosts D) (script : Script) (base : Base) (m : Members D) (given : List NodeEntry) (runs : RunsApart g (work_over script base) m given) (spelled : IsSpelled script) (through : AreThrough m)
    (primaries : m.shared.opening.trx.primaries ≡ script.primaries) (opening : Opening) (begins : BeginsWith m.shared.opening opening)
    (transcript : Transcript) (t : IsRunOver base.ts (map (λ pr. pr.book.answers.items) m.primaries.items) (down_lines (downs_in m) 1 m.shared.opening.trx.primaries) transcript) where
  abbrev run_world : CoreWorld
  run_world = its_world g script base m given runs.members

  run_all_answered : AnswersAll (work_over script base) script m.shared.opening run_world (downs_in m) given
  run_all_answered = answers_all g script base m given runs.members spelled through primaries

  abbrev run_lists : List (List Answer)
  run_lists = map (λ pr. pr.book.answers.items) m.primaries.items

  its_lists : AreListsOf m.shared.opening.trx.primaries given run_lists
  its_lists = lists_of g (work_over script base) m given runs.members

  pub apart_legal : Legal script opening transcript
  apart_legal = answered_runs.apart_legal (work_over script base) script m.shared.opening run_world (downs_in m) given spelled run_all_answered opening begins runs.views run_lists its_lists transcript t

  pub apart_readable : IsReadable transcript
  apart_readable = answered_runs.apart_readable (work_over script base) script m.shared.opening run_world (downs_in m) given spelled run_all_answered opening begins runs.views run_lists its_lists transcript t

  pub apart_closed : ClosesApart → (opened : List ℕ) → IsOpenedOver opened m.shared.opening → (image : Image) → IsLeftBehind m.shared.opening run_world opened image
      → KeptAreClosed (execution_of script opening transcript) (kept_commits (logged_above image))
  apart_closed closes opened over image left = answered_runs.apart_closed (work_over script base) script m.shared.opening run_world (downs_in m) given spelled run_all_answered opening begins runs.views run_lists its_lists transcript t closes opened over image left
