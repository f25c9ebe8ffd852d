-- A turn before which a session was changed, but neither its next statement nor its transaction, is a turn.
use Rattle.std.proofs.Common.{◌≡◌, ◌≢◌, ℕ, ◌==◌, ◌&&◌, not, Bool, true, false, List, [], ◌∷◌, ◌++◌, length, drop, slice_get, slice_set, Option, None, Some, IfSome, refl, sym, ap, subst, ◌∙◌, inl, inr, arith, eq-eqb, ⊎_elim}
use mathlib.Core.Bool.{false≢true}
use Rattle.std.proofs.lemmas.List.{append-nil}
use Rattle.std.proofs.lemmas.Option.{slice_get_within}
use Rattle.mp_model.specs.declared.ids.TrxId.{TrxId}
use Rattle.mp_model.specs.declared.ids.TrxName.{TrxName}
use Rattle.mp_model.specs.declared.replies.Answer.{Answer}
use Rattle.mp_model.specs.declared.waiting.Cause.{Cause}
use Rattle.mp_model.specs.declared.waiting.Cause.TheVariants.{Word, Writer, Prep}
use Rattle.mp_model.specs.declared.waiting.NotYet.{NotYet}
use Rattle.mp_model.specs.declared.waiting.Turn.{Turn}
use Rattle.mp_model.specs.declared.waiting.Turn.TheVariants as turns
use Rattle.mp_script.specs.declared.statements.Line.{Line}
use Rattle.mp_script.specs.Transactions.{trx_in_lines}
use Rattle.mp_cells.specs.declared.rows.Row.{Row}
use Rattle.mp_cells.specs.Trees.{row_at}
use Rattle.mp_core_trx.specs.declared.part.Begun.{Begun}
use Rattle.mp_core.specs.declared.part.CorePart.{CorePart}
use Rattle.mp_book.specs.declared.book.Book.{Book}
use Rattle.mp_book.specs.declared.session.Session.{Session}
use Rattle.mp_book.specs.Stages.{next_line, task_of, trx_of_stage, with_name}
use Rattle.mp_book.specs.Through.{is_no_task}
use Rattle.mp_book.specs.Books.{IsBook, IsNext}
use Rattle.mp_outside.specs.declared.disks.Disk.{Ghosts}
use Rattle.mp_shared.specs.Nodes.{Run, NodeView}
use Rattle.mp_buffer_fusion.proofs.Kept.{set_here, set_else}
use Rattle.mp_supports.specs.Work.{Work}
use Rattle.mp_supports.specs.Supports.{SupportsWaits}
use Rattle.mp_supports.specs.Kept.{Entry}
use Rattle.mp_supports.specs.Agreement.{IsOpenAs, RefusalSupported, Opens, Bounds, rows_left, rows_left_by}
use Rattle.mp_supports.proofs.Extending.{core_extends_refl}
use Rattle.mp_supports.proofs.Keeping.{if_some_map}
use Rattle.mp_supports.proofs.Places.{at_place}
use Rattle.mp_supports.proofs.BoundSteps.{bounds_answered}
use Rattle.mp_primary.specs.Primaries.{PrimaryView, AreSessions, AreWaitsSupported, PrimaryAgreesIn, PrimaryAgrees, StandsWith}
use Rattle.mp_primary.specs.Holders.{may_hold_in, fits_book, MetStranger}
use Rattle.mp_primary.specs.Turns.{IsSessionOf, AddsNext, HasWaits, has_nothing_left, no_task_in, HasNoStatement, NamesWait, IfWaiting, WaitsFor}
use Rattle.mp_primary.specs.Turns.{WaitsStill, WentDownIn, TakesTurn}
use Rattle.mp_primary.specs.Tries.{TriesTurn}
use Rattle.mp_primary.proofs.IfWaits.{on_if_waits, waits_map}
use Rattle.mp_primary.proofs.OpenSessions.{one_of, sessions_set, waits_set, opens_set}

-- The book has another session at the number, with the same next statement, waits and transaction
pub record StandsAsBefore (work : Work) (old book : Book) (number : ℕ) (s after : Session) : Type 0 where
  pub found : slice_get old.sessions.items number ≡ Some s
  pub sessions : book.sessions.items ≡ slice_set old.sessions.items number after
  pub answers : book.answers.items ≡ old.answers.items
  pub next : next_line after ≡ next_line s
  pub task : is_no_task (task_of after) ≡ is_no_task (task_of s)
  pub waits : after.waits.items ≡ s.waits.items
  pub trx : trx_of_stage after.stage ≡ trx_of_stage s.stage
  pub name : trx_in_lines work.lines after.number after.next ≡ trx_in_lines work.lines s.number s.next
  pub restored : after.restored ≡ s.restored
  pub formers : after.formers.items ≡ s.formers.items
  pub refused : (q : CorePart) → RefusalSupported work q 0 s.stage (next_line s) → RefusalSupported work q 0 after.stage (next_line after)

module _ {D : Type 0} (g : Ghosts D) (old : PrimaryView D) (book : Book) (number : ℕ) (s after : Session) (is : StandsAsBefore old.work old.book book number s after) where
  abbrev mid : PrimaryView D
  mid = record old { book = book }

  pub here : slice_get book.sessions.items number ≡ Some after
  here = ap (λ (l : List Session). slice_get l number) is.sessions ∙ set_here old.book.sessions.items number after (slice_get_within old.book.sessions.items number s is.found)

  elsewhere : (other : ℕ) → other ≢ number → slice_get book.sessions.items other ≡ slice_get old.book.sessions.items other
  elsewhere other ne = ap (λ (l : List Session). slice_get l other) is.sessions ∙ set_else old.book.sessions.items number other after ne

  left_same : drop after.restored after.formers.items ≡ drop s.restored s.formers.items
  left_same = ap (λ (k : ℕ). drop k after.formers.items) is.restored ∙ ap (λ (l : List Row). drop s.restored l) is.formers

  rows_same : rows_left after ≡ rows_left s
  rows_same = go (trx_of_stage s.stage) refl
    where
      go : (o : Option Begun) → trx_of_stage s.stage ≡ o → rows_left after ≡ rows_left s
      go None none = ap (λ (o : Option Begun). rows_left_by o after) (is.trx ∙ none) ∙ sym (ap (λ (o : Option Begun). rows_left_by o s) none)
      go (Some trx) some = ap (λ (o : Option Begun). rows_left_by o after) (is.trx ∙ some) ∙ ap (λ (l : List Row). length l) left_same ∙ sym (ap (λ (o : Option Begun). rows_left_by o s) some)

  module _ (q : CorePart) where
    open_same : (trx : Begun) → IsOpenAs old.work q 0 s trx → IsOpenAs old.work q 0 after trx
    open_same trx h = record {
      begun = h.begun;
      named = h.named ∙ ap (λ (n : TrxName). Some n) (sym is.name);
      active = h.active;
      formers = λ key. h.formers key ∙ sym (ap (λ (l : List Row). row_at key l) left_same);
      whole = λ none. h.whole (sym is.restored ∙ none);
    }

    waits_same : IfSome (next_line s) (λ line. SupportsWaits old.work q line s.waits.items) → IfSome (next_line after) (λ line. SupportsWaits old.work q line after.waits.items)
    waits_same h = subst (λ (o : Option Line). IfSome o (λ line. SupportsWaits old.work q line after.waits.items)) (sym is.next)
        (subst (λ (l : List TrxName). IfSome (next_line s) (λ line. SupportsWaits old.work q line l)) (sym is.waits) h)

    agrees_same : (entries : List Entry) → PrimaryAgrees g old entries q → PrimaryAgrees g mid entries q
    agrees_same entries was = record {
      kept = was.kept;
      answers = was.answers ∙ sym is.answers;
      opens = λ up.
          let opens = was.opens up in
          let there = at_place old.book.sessions.items number s is.found in
          subst (Opens old.work q 0) (sym is.sessions)
          (opens_set old.work q old.book.sessions.items number s after is.found is.trx
          (subst (λ (o : Option Begun). IfSome o (IsOpenAs old.work q 0 after)) (sym is.trx) (if_some_map (IsOpenAs old.work q 0 s) (IsOpenAs old.work q 0 after) (trx_of_stage s.stage) open_same (opens.each s there)))
          (waits_same (opens.waits s there)) (is.refused q (opens.refused s there)) opens);
      sessions = subst (AreSessions q) (sym is.sessions) (sessions_set old.work q old.book.sessions.items number s after is.found is.trx was.sessions);
      waits = subst (AreWaitsSupported old.work q) (sym is.sessions) (waits_set old.work q old.book.sessions.items number s after is.found (waits_same (was.waits s (at_place old.book.sessions.items number s is.found))) was.waits);
      mirrors = was.mirrors;
      media = was.media;
      bounds = subst (λ (l : List Session). Bounds old.work q book.answers.items l) (sym is.sessions)
          (subst (λ (l : List Answer). Bounds old.work q l (slice_set old.book.sessions.items number after)) (append-nil old.book.answers.items ∙ sym is.answers)
          (bounds_answered old.work q q (core_extends_refl q) old.book.answers.items old.book.sessions.items number s after is.found was.bounds [] refl (omega arith) (let same = rows_same in omega (arith, same))));
      exact = was.exact;
      begun = was.begun;
    }

  pub same_in : (n : NodeView) (entries : List Entry) → PrimaryAgreesIn g old entries n → PrimaryAgreesIn g mid entries n
  same_in n entries agrees = λ q has. agrees_same q entries (agrees q has)

  pub same_stands : (run : Run) (n : NodeView) → IsBook old.work.lines old.work.sessions old.number book → StandsWith g run old n → StandsWith g run mid n
  same_stands run n is_book stands = record {
    primary = record { book = is_book; names = stands.primary.names; places = stands.primary.places; own = stands.primary.own; up = stands.primary.up };
    desk = stands.desk;
    agrees = (stands.agrees.0, same_in n stands.agrees.0 stands.agrees.1);
  }

  pub next_on : (line : Line) → IsNext old.book number s line → IsNext book number after line
  next_on line next = record { found = here; next = is.next ∙ next.next }

  next_back : (x : Session) (line : Line) → IsNext book number x line → IsNext old.book number s line
  next_back x line next = record { found = is.found; next = sym is.next ∙ ap (λ (v : Session). next_line v) (one_of (slice_get book.sessions.items number) x after next.found here) ∙ next.next }

  module _ (run : Run) (new : PrimaryView D) (before node_now : NodeView) where
    adds_back : (turn : Turn) (more : List Entry) → AddsNext mid new (Some number) more turn → AddsNext old new (Some number) more turn
    adds_back turns.Answered more (inl h) = inl (record {
      session = s;
      line = h.line;
      next = next_back h.session h.line h.next;
      answer = h.answer;
      of_session = h.of_session;
      index = h.index;
      waits = subst (λ (l : List TrxName). HasWaits l h.answer) (ap (λ (v : Session). v.waits.items) (one_of (slice_get book.sessions.items number) after h.session here h.next.found) ∙ is.waits) h.waits;
      entry = h.entry;
      has = h.has;
      one = h.one;
    })
    adds_back turns.Answered more (inr h) = inr (record {
      none = h.none;
      session = s;
      found = is.found;
      through = sym is.next ∙ ap (λ (v : Session). next_line v) (one_of (slice_get book.sessions.items number) h.session after h.found here) ∙ h.through;
      ended = h.ended;
    })
    adds_back (turns.Waiting cause) more h = h
    adds_back turns.Done more h = h
    adds_back (turns.Stopped by) more h = h

    waits_back : (x : Session) → IsSessionOf old number x → after.waits.items ≡ x.waits.items
    waits_back x there = is.waits ∙ ap (λ (v : Session). v.waits.items) (one_of (slice_get old.book.sessions.items number) x s there is.found)

    named_back : (turn : Turn) → NamesWait mid new number turn → NamesWait old new number turn
    named_back turns.Answered h = h
    named_back (turns.Waiting (Writer name)) h = λ x y a b. h after y here b ∙ ap (λ (l : List TrxName). with_name name l) (waits_back x a)
    named_back (turns.Waiting (Word wait)) h = λ x y a b. h after y here b ∙ waits_back x a
    named_back (turns.Waiting (Prep name)) h = λ x y a b. h after y here b ∙ waits_back x a
    named_back turns.Done h = λ x y a b. h after y here b ∙ waits_back x a
    named_back (turns.Stopped by) h = λ x y a b. h after y here b ∙ waits_back x a

    -- the book tells the same of other sessions
    fits_same : (id : TrxId) (key : ℕ) (name : TrxName) → fits_book old number id key name ≡ fits_book mid number id key name
    fits_same id key name = go (name.session == number) refl
      where
        go : (b : Bool) → (name.session == number) ≡ b → fits_book old number id key name ≡ fits_book mid number id key name
        go true e = ap (λ (b : Bool). not b && may_hold_in (slice_get old.book.sessions.items name.session) id key) e ∙ sym (ap (λ (b : Bool). not b && may_hold_in (slice_get book.sessions.items name.session) id key) e)
        go false e = ap (λ (o : Option Session). not (name.session == number) && may_hold_in o id key) (sym (elsewhere name.session (λ same. false≢true (sym e ∙ eq-eqb name.session number same))))

    stranger_back : (wait : NotYet) → MetStranger mid number node_now wait → MetStranger old number node_now wait
    stranger_back wait h = record {
      session = s;
      line = h.line;
      next = next_back h.session h.line h.next;
      target = h.target;
      its_target = h.its_target;
      holder = h.holder;
      name = h.name;
      named = h.named;
      blocked = h.blocked;
      stranger = fits_same h.holder h.target.key h.name ∙ h.stranger;
      waits_for = h.waits_for;
    }

    cause_back : (turn : Turn) → IfWaiting turn (WaitsFor mid number before node_now) → IfWaiting turn (WaitsFor old number before node_now)
    cause_back turns.Answered h = tt
    cause_back (turns.Waiting (Writer name)) h = λ q there. let x = h q there in (s, x.1, x.2, next_back x.0 x.1 x.3, x.4, x.5)
    cause_back (turns.Waiting (Word wait)) (inl h) = inl h
    cause_back (turns.Waiting (Word wait)) (inr (inl h)) = inr (inl h)
    cause_back (turns.Waiting (Word wait)) (inr (inr h)) = inr (inr (stranger_back wait h))
    cause_back (turns.Waiting (Prep name)) h = λ q there. let x = h q there in (s, x.1, next_back x.0 x.1 x.2, x.3)
    cause_back turns.Done h = tt
    cause_back (turns.Stopped by) h = tt

    left_same_too : has_nothing_left mid (Some number) ≡ has_nothing_left old (Some number)
    left_same_too = ap no_task_in here ∙ is.task ∙ sym (ap no_task_in is.found)

    none_over : HasNoStatement old (Some number) → HasNoStatement mid (Some number)
    none_over none = λ x there. ap (λ (v : Session). next_line v) (one_of (slice_get book.sessions.items number) after x here there) ∙ is.next ∙ none s is.found

    none_back : HasNoStatement mid (Some number) → HasNoStatement old (Some number)
    none_back none = λ x there. ap (λ (v : Session). next_line v) (one_of (slice_get old.book.sessions.items number) s x is.found there) ∙ sym is.next ∙ none after here

    pub same_turn : book.answers ≡ old.book.answers → (turn : Turn) → TriesTurn g run mid new before node_now (Some number) turn → TriesTurn g run old new before node_now (Some number) turn
    same_turn same_answers turn h = record {
      stands = h.stands;
      number = h.number;
      work = h.work;
      went = h.went;
      goes_on = λ entries agrees. let x = h.goes_on entries (same_in before entries agrees) in record { more = x.more; agrees = x.agrees; adds = adds_back turn x.more x.adds; later = x.later };
      others = λ other ne. h.others other ne ∙ elsewhere other (λ same. ne (ap (λ (k : ℕ). Some k) (sym same)));
      named = named_back turn h.named;
      cause = cause_back turn h.cause;
      up = h.up;
      answers = on_if_waits turn new.book.answers book.answers old.book.answers same_answers h.answers;
      down = h.down;
      faults = h.faults;
      tells = h.tells;
      may_go_on = h.may_go_on;
      begins = λ a view more. h.begins a view (more ∙ ap (λ (l : List Answer). l ++ a ∷ []) (sym is.answers));
      draws = λ a cts more. h.draws a cts (more ∙ ap (λ (l : List Answer). l ++ a ∷ []) (sym is.answers));
      skips = λ a more. h.skips a (more ∙ ap (λ (l : List Answer). l ++ a ∷ []) (sym is.answers));
      stops = λ a more. h.stops a (more ∙ ap (λ (l : List Answer). l ++ a ∷ []) (sym is.answers));
      done = ((λ e. let x = h.done.0 e in (x.0, sym left_same_too ∙ x.1)), (λ up nothing. h.done.1 up (left_same_too ∙ nothing)));
      stopped = ((λ by e. let x = h.stopped.0 by e in (x.0, x.1, none_back x.2)), (λ down none. h.stopped.1 down (none_over none)));
    }

  -- whom a wait needs, and what it found of them, is told of the one as of the other
  module _ (run : Run) (new : PrimaryView D) (before node_now : NodeView) where
    still_back : (cause : Cause) → WaitsStill mid number before node_now cause → WaitsStill old number before node_now cause
    still_back cause h = record {
      at = h.at;
      waits = cause_back run new before h.at (turns.Waiting cause) h.waits;
      found = record { went = h.found.went; each = h.found.each };
    }

    fell_back : WentDownIn g mid new before node_now (Some number) → WentDownIn g old new before node_now (Some number)
    fell_back (inl here) = inl here
    fell_back (inr h) =
        let w = h.2 in
        let same : h.0 ≡ number = its_number h.0 h.1 in
        inr (
          number,
          refl,
          record {
            cause = w.cause;
            at = w.at;
            waits = cause_back run new before w.at (turns.Waiting w.cause) (subst (λ (k : ℕ). WaitsFor mid k before w.at w.cause) same w.waits);
            found = record { of = w.found.of; another = w.found.another; needed = w.found.needed; loaded = w.found.loaded; some = w.found.some; apart = w.found.apart };
          },
        )
      where
        its_number : (k : ℕ) → Some number ≡ Some k → k ≡ number
        its_number k e = cc

    pub same_taken : (turn : Turn) → TakesTurn g run mid new before node_now (Some number) turn → TakesTurn g run old new before node_now (Some number) turn
    same_taken turn h = record {
      stands = h.stands;
      number = h.number;
      work = h.work;
      went = h.went;
      goes_on = λ entries agrees. let x = h.goes_on entries (same_in before entries agrees) in record { more = x.more; agrees = x.agrees; adds = adds_back run new before node_now turn x.more x.adds; later = x.later };
      others = λ other ne. h.others other ne ∙ elsewhere other (λ same. ne (ap (λ (k : ℕ). Some k) (sym same)));
      named = named_back run new before node_now turn h.named;
      cause = waits_map turn (WaitsStill mid number before node_now) (WaitsStill old number before node_now) still_back h.cause;
      down = ⊎_elim (λ same. inl same) (λ fell. inr (fell.0, fell_back fell.1)) h.down;
      told = h.told;
      faults = h.faults;
      tells = h.tells;
      may_go_on = h.may_go_on;
      begins = λ a view more. h.begins a view (more ∙ ap (λ (l : List Answer). l ++ a ∷ []) (sym is.answers));
      draws = λ a cts more. h.draws a cts (more ∙ ap (λ (l : List Answer). l ++ a ∷ []) (sym is.answers));
      skips = λ a more. h.skips a (more ∙ ap (λ (l : List Answer). l ++ a ∷ []) (sym is.answers));
      stops = λ a more. h.stops a (more ∙ ap (λ (l : List Answer). l ++ a ∷ []) (sym is.answers));
      done = ((λ e. let x = h.done.0 e in (x.0, sym (left_same_too run new before node_now) ∙ x.1)), (λ up nothing. h.done.1 up (left_same_too run new before node_now ∙ nothing)));
      stopped = ((λ by e. let x = h.stopped.0 by e in (x.0, x.1, none_back run new before node_now x.2)), (λ down none. h.stopped.1 down (none_over run new before node_now none)));
    }
