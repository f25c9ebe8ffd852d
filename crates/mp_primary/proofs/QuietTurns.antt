-- A turn in which nothing was done.
use Rattle.std.proofs.Common.{◌≡◌, ◌≢◌, ℕ, Bool, true, false, List, [], ◌∷◌, length, slice_get, Option, None, Some, IfSome, refl, sym, ap, subst, ◌∙◌, inl, arith, length-append}
use Rattle.std.proofs.lemmas.List.{append-nil}
use Rattle.mp_model.specs.declared.replies.Answer.{Answer}
use Rattle.mp_model.specs.declared.waiting.Turn.{Turn}
use Rattle.mp_model.specs.declared.waiting.Turn.TheVariants as turns
use Rattle.mp_script.specs.declared.statements.Line.{Line}
use Rattle.mp_book.specs.declared.session.Session.{Session}
use Rattle.mp_book.specs.declared.stage.Stage.{Stage}
use Rattle.mp_book.specs.declared.stage.Task.TheVariants.{Statement, Nothing}
use Rattle.mp_book.specs.Stages.{next_line, task_by, task_of}
use Rattle.mp_book.specs.Through.{have_no_task, is_no_task}
use Rattle.mp_outside.specs.declared.disks.Disk.{Ghosts}
use Rattle.mp_shared.specs.Nodes.{Run, NodeView}
use Rattle.mp_supports.specs.Kept.{Entry}
use Rattle.mp_primary.specs.Primaries.{PrimaryView, PrimaryAgreesIn, PrimaryAgrees, StandsWith}
use Rattle.mp_primary.specs.Turns.{IsSessionOf, MayTakeTurn, no_task_in, has_nothing_left, HasNoStatement, Adds, AddsNext, IfWaiting, WaitsFor, NamesWait, GoesOnBy}
use Rattle.mp_primary.specs.Tries.{TriesTurn}
use Rattle.mp_desk.proofs.Moving.{goes_none}
use Rattle.mp_primary.proofs.IfWaits.{same_if_waits}

one_session : (o : Option Session) (s after : Session) → o ≡ Some s → o ≡ Some after → after ≡ s
one_session o s after a b = let both : Some after ≡ Some s = sym b ∙ a in cc

stopped_not_done : (by : ℕ) → turns.Stopped by ≡ turns.Done → ⊥
stopped_not_done by e = cc

done_not_stopped : (by : ℕ) → turns.Done ≡ turns.Stopped by → ⊥
done_not_stopped by e = cc

answered_not_done : turns.Answered ≡ turns.Done → ⊥
answered_not_done e = cc

answered_not_stopped : (by : ℕ) → turns.Answered ≡ turns.Stopped by → ⊥
answered_not_stopped by e = cc

stopped_by : (by other : ℕ) → turns.Stopped by ≡ turns.Stopped other → by ≡ other
stopped_by by other e = cc

true_not_false : (b : Bool) → b ≡ true → b ≡ false → ⊥
true_not_false b is isnt = let both : true ≡ false = sym is ∙ isnt in cc

stated_is_something : (line : Line) → Statement line ≡ Nothing → ⊥
stated_is_something line e = cc

none_stated : (o : Option Line) (stage : Stage) → task_by o stage ≡ Nothing → o ≡ None
none_stated None stage e = refl
none_stated (Some line) stage e = absurd (stated_is_something line e)

module _ {D : Type 0} (g : Ghosts D) where
  no_answer : (pr : PrimaryView D) (a : Answer) → Adds pr pr a → ⊥
  no_answer pr a e =
      let longer = length-append pr.book.answers.items (a ∷ []) in
      let same = ap length e in
      omega (arith, longer, same)

  pub same_waits : (pr : PrimaryView D) (number : ℕ) (s after : Session) → IsSessionOf pr number s → IsSessionOf pr number after → after.waits.items ≡ s.waits.items
  same_waits pr number s after a b = ap (λ (x : Session). x.waits.items) (one_session (slice_get pr.book.sessions.items number) s after a b)

  module _ (run : Run) (pr : PrimaryView D) (n : NodeView) (stands : StandsWith g run pr n) (session : Option ℕ) (may : IfSome session (MayTakeTurn pr)) where
    -- the primary goes on as it was
    goes_nowhere : (turn : Turn) → AddsNext pr pr session [] turn → (entries : List Entry) → PrimaryAgreesIn g pr entries n → GoesOnBy g pr pr n n session entries turn
    goes_nowhere turn adds entries agrees = record {
      more = [];
      agrees = λ q has. subst (λ (l : List Entry). PrimaryAgrees g pr l q) (sym (append-nil entries)) (agrees q has);
      adds = adds;
      later = tt;
    }

    pub quiet : (turn : Turn) → AddsNext pr pr session [] turn → IfSome session (λ number. NamesWait pr pr number turn) → IfSome session (λ number. IfWaiting turn (WaitsFor pr number n n)) → IfWaiting turn (λ cause. pr.down ≡ 0)
        → (turn ≡ turns.Done → (pr.down ≡ 0) × (has_nothing_left pr session ≡ true)) × (pr.down ≡ 0 → has_nothing_left pr session ≡ true → turn ≡ turns.Done)
        → ((by : ℕ) → turn ≡ turns.Stopped by → (pr.down ≡ by) × (by ≢ 0) × HasNoStatement pr session) × (pr.down ≢ 0 → HasNoStatement pr session → turn ≡ turns.Stopped pr.down)
        → TriesTurn g run pr pr n n session turn
    quiet turn adds named cause up done stopped = record {
      stands = stands;
      number = refl;
      work = refl;
      went = goes_none pr.number n;
      goes_on = goes_nowhere turn adds;
      others = λ other ne. refl;
      named = named;
      cause = cause;
      up = up;
      answers = same_if_waits turn pr.book.answers;
      down = inl refl;
      faults = omega arith;
      tells = refl;
      may_go_on = may;
      begins = λ a view more. absurd (no_answer pr a more);
      draws = λ a cts more. absurd (no_answer pr a more);
      skips = λ a more. absurd (no_answer pr a more);
      stops = λ a more. absurd (no_answer pr a more);
      done = done;
      stopped = stopped;
    }

    -- nothing is waited for
    named_same : (turn : Turn) → ((number : ℕ) → ((s after : Session) → IsSessionOf pr number s → IsSessionOf pr number after → after.waits.items ≡ s.waits.items) → NamesWait pr pr number turn) → (o : Option ℕ) → IfSome o (λ number. NamesWait pr pr number turn)
    named_same turn keeps None = tt
    named_same turn keeps (Some number) = keeps number (same_waits pr number)

    no_cause : (turn : Turn) → ((number : ℕ) → IfWaiting turn (WaitsFor pr number n n)) → (o : Option ℕ) → IfSome o (λ number. IfWaiting turn (WaitsFor pr number n n))
    no_cause turn has None = tt
    no_cause turn has (Some number) = has number

    -- down, with nothing to answer
    pub stopped_turn : (number : ℕ) → number ≡ pr.down → number ≢ 0 → HasNoStatement pr session → TriesTurn g run pr pr n n session (turns.Stopped number)
    stopped_turn number is down none = quiet (turns.Stopped number) refl (named_same (turns.Stopped number) (λ k same. same) session) (no_cause (turns.Stopped number) (λ k. tt) session) tt
        ((λ e. absurd (stopped_not_done number e)), (λ up. absurd (down (is ∙ up))))
        ((λ by e. (sym is ∙ stopped_by number by e, (λ zero. down (stopped_by number by e ∙ zero)), none)), (λ still nothing. ap turns.Stopped is))

    -- up, with nothing left
    pub done_turn : pr.down ≡ 0 → has_nothing_left pr session ≡ true → TriesTurn g run pr pr n n session turns.Done
    done_turn up nothing = quiet turns.Done refl (named_same turns.Done (λ number same. same) session) (no_cause turns.Done (λ number. tt) session) tt
        ((λ e. (up, nothing)), (λ still left. refl))
        ((λ by e. absurd (done_not_stopped by e)), (λ down. absurd (down up)))

  -- up, with something left, in a turn of no session
  pub resting_turn : (run : Run) (pr : PrimaryView D) (n : NodeView) → StandsWith g run pr n → pr.down ≡ 0 → have_no_task pr.book.sessions.items ≡ false → TriesTurn g run pr pr n n None turns.Answered
  resting_turn run pr n stands up some = quiet run pr n stands None tt turns.Answered refl tt tt tt
      ((λ e. absurd (answered_not_done e)), (λ still left. absurd (true_not_false (have_no_task pr.book.sessions.items) left some)))
      ((λ by e. absurd (answered_not_stopped by e)), (λ down. absurd (down up)))

  -- a session that has nothing to do
  pub no_statement : (pr : PrimaryView D) (number : ℕ) (s : Session) → IsSessionOf pr number s → task_of s ≡ Nothing → HasNoStatement pr (Some number)
  no_statement pr number s found nothing = λ other there.
      ap next_line (one_session (slice_get pr.book.sessions.items number) s other found there) ∙ none_stated (next_line s) s.stage nothing

  pub nothing_left : (pr : PrimaryView D) (number : ℕ) (s : Session) → IsSessionOf pr number s → task_of s ≡ Nothing → has_nothing_left pr (Some number) ≡ true
  nothing_left pr number s found nothing = ap no_task_in found ∙ ap is_no_task nothing
