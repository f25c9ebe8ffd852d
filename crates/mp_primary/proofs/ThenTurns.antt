-- A turn that a session took from another stage on, behind steps that left its part quiet, is a turn of what was before these.
use Rattle.std.proofs.Common.{◌≡◌, ◌≢◌, ℕ, ◌+◌, ◌<◌, ◌≤◌, ◌==◌, ◌&&◌, ◌⊎◌, not, Bool, true, false, List, [], ◌∷◌, ◌++◌, length, slice_get, Option, None, Some, refl, sym, ap, subst, ◌∙◌, inl, inr, arith, eq-eqb}
use mathlib.Core.Bool.{false≢true}
use mathlib.Core.Logic.{dite}
use native.Mathlib.Decide.{ℕ_discrete}
use Rattle.std.proofs.lemmas.Option.{slice_get_within}
use Rattle.std.specs.List.{AllByRecursion}
use Rattle.mp_machine.specs.Lists.{IsIn}
use Rattle.mp_machine.specs.View.{part_in}
use Rattle.mp_model.specs.Listed.{Listed}
use Rattle.mp_model.specs.declared.ids.TrxId.{TrxId}
use Rattle.mp_model.specs.declared.ids.TrxName.{TrxName}
use Rattle.mp_model.specs.declared.replies.Answer.{Answer}
use Rattle.mp_model.specs.declared.waiting.NotYet.{NotYet}
use Rattle.mp_model.specs.declared.waiting.Cause.TheVariants.{Word, Writer, Prep}
use Rattle.mp_model.specs.declared.waiting.Turn.{Turn}
use Rattle.mp_model.specs.declared.waiting.Turn.TheVariants as turns
use Rattle.mp_script.specs.declared.statements.Line.{Line}
use Rattle.mp_cells.specs.declared.records.Mtr.{Mtr}
use Rattle.mp_core_trx.specs.declared.part.Begun.{Begun}
use Rattle.mp_core_pages.specs.declared.part.Placed.{Placed}
use Rattle.mp_core.specs.declared.part.CorePart.{CorePart}
use Rattle.mp_core.specs.CoreExtends.{CoreExtends}
use Rattle.mp_book.specs.declared.book.Book.{Book}
use Rattle.mp_book.specs.declared.session.Session.{Session}
use Rattle.mp_book.specs.declared.stage.Stage.{Stage}
use Rattle.mp_book.specs.Stages.{next_line, task_by, with_name}
use Rattle.mp_book.specs.Through.{is_no_task}
use Rattle.mp_book.specs.Books.{IsNext, SetsSession}
use Rattle.mp_outside.specs.declared.disks.Disk.{Ghosts}
use Rattle.mp_outside.specs.Faults.{Rose}
use Rattle.mp_shared.specs.Nodes.{Run, NodeView, HoldsAll}
use Rattle.mp_shared.specs.Slots.{next_slot, used_by, slot_after}
use Rattle.mp_shared.proofs.Holding.{held_part}
use Rattle.mp_trx_fusion.specs.Calls.{Knows, tso_of}
use Rattle.mp_buffer_fusion.proofs.Kept.{set_here, set_else}
use Rattle.mp_supports.specs.Kept.{Entry}
use Rattle.mp_supports.proofs.Keeping.{if_some_map}
use Rattle.mp_supports.proofs.Extending.{placed_in}
use Rattle.mp_desk.specs.declared.desk.Desk.{Desk}
use Rattle.mp_desk.specs.declared.media.Media.{Media}
use Rattle.mp_desk.specs.Desks.{Moves, MetWait}
use Rattle.mp_desk.specs.Statements.{StaysQuiet}
use Rattle.mp_desk.proofs.AtDesk.{newest_grows}
use Rattle.mp_desk.proofs.Moving.{moves_as, goes_both}
use Rattle.mp_desk.proofs.TrxStepped.{DrewTheSame, knows_less_before, tso_same, holds_all}
use Rattle.mp_primary.specs.Primaries.{PrimaryView, PrimaryAgreesIn}
use Rattle.mp_primary.specs.Holders.{may_hold_in, fits_book, MetStranger}
use Rattle.mp_primary.specs.Turns.{IsSessionOf, Adds, AddsNext, HasWaits, IsLeftAfter, ComesTo, has_nothing_left, no_task_in, HasNoStatement, NamesWait, IfWaiting, WaitsFor}
use Rattle.mp_primary.specs.Tries.{TriesTurn}
use Rattle.mp_primary.proofs.IfWaits.{on_if_waits}
use Rattle.mp_primary.proofs.OpenSessions.{one_of}

module _ {D : Type 0} (g : Ghosts D) (run : Run) (old : PrimaryView D) (before between : NodeView) (number : ℕ) (s : Session) (line : Line) (comes : ComesTo g run old before number s line) (moves : Moves StaysQuiet old.number before between)
    (stage : Stage) (book : Book) (sets : SetsSession old.book book number (record s { stage = stage })) where
  abbrev later : Session
  later = record s { stage = stage }

  found : slice_get old.book.sessions.items number ≡ Some s
  found = comes.next.found

  here : slice_get book.sessions.items number ≡ Some later
  here = ap (λ (l : List Session). slice_get l number) sets.sessions ∙ set_here old.book.sessions.items number later (slice_get_within old.book.sessions.items number s found)

  elsewhere : (other : ℕ) → other ≢ number → slice_get book.sessions.items other ≡ slice_get old.book.sessions.items other
  elsewhere other ne = ap (λ (l : List Session). slice_get l other) sets.sessions ∙ set_else old.book.sessions.items number other later ne

  goes : Moves CoreExtends old.number before between
  goes = moves_as old.number StaysQuiet CoreExtends (λ q r h. h.extends) before between moves

  drew : Moves DrewTheSame old.number before between
  drew = moves_as old.number StaysQuiet DrewTheSame (λ q r h. h.drew) before between moves

  -- the slots that were used are those
  slot_before : next_slot between old.number ≡ None → next_slot before old.number ≡ None
  slot_before none =
      let has = held_part before old.number comes.stands.desk.part in
      let now = moves.mine has.0 has.1 in
      ap (λ (o : Option CorePart). slot_after (used_by o)) has.1
      ∙ ap (λ (l : List Begun). slot_after (Some (length l))) (sym now.2.begun)
      ∙ sym (ap (λ (o : Option CorePart). slot_after (used_by o)) now.1)
      ∙ none

  next_back : (x : Session) (l : Line) → IsNext book number x l → IsNext old.book number s l
  next_back x l next = record { found = found; next = ap (λ (v : Session). next_line v) (one_of (slice_get book.sessions.items number) x later next.found here) ∙ next.next }

  -- who was made after all that stands between was made after all that stood before
  left_back : (e : Entry) → IsLeftAfter between e → IsLeftAfter before e
  left_back e = if_some_map (λ m. (k : ℕ) (q : CorePart) (x : Placed Mtr) → part_in between.parts k ≡ Some q → IsIn x q.pages.made → x.at < m.at)
      (λ m. (k : ℕ) (q : CorePart) (x : Placed Mtr) → part_in before.parts k ≡ Some q → IsIn x q.pages.made → x.at < m.at) e.trace.mtr
      (λ m h k q x has there.
      dite (ℕ_discrete k old.number)
      (λ same.
      let now = moves.mine q (ap (part_in before.parts) (sym same) ∙ has) in
      h k now.0 x (ap (part_in between.parts) same ∙ now.1) (placed_in q now.0 now.2.extends x there))
      (λ other. h k q x (moves.others k other ∙ has) there))

  all_back : (more : List Entry) → AllByRecursion (IsLeftAfter between) more → AllByRecursion (IsLeftAfter before) more
  all_back [] h = tt
  all_back (e ∷ more) h = (left_back e h.0, all_back more h.1)

  module _ (desk : Desk) (media : Media D) where
    abbrev mid : PrimaryView D
    mid = record old { book = book; desk = desk; media = media }

    -- the book tells the same of other sessions
    fits_same : (id : TrxId) (key : ℕ) (name : TrxName) → fits_book old number id key name ≡ fits_book mid number id key name
    fits_same id key name = go (name.session == number) refl
      where
        go : (b : Bool) → (name.session == number) ≡ b → fits_book old number id key name ≡ fits_book mid number id key name
        go true e = ap (λ (b : Bool). not b && may_hold_in (slice_get old.book.sessions.items name.session) id key) e ∙ sym (ap (λ (b : Bool). not b && may_hold_in (slice_get book.sessions.items name.session) id key) e)
        go false e = ap (λ (o : Option Session). not (name.session == number) && may_hold_in o id key) (sym (elsewhere name.session (λ same. false≢true (sym e ∙ eq-eqb name.session number same))))

    module _ (new : PrimaryView D) (after : NodeView) where
      adds_back : (turn : Turn) (more : List Entry) → AddsNext mid new (Some number) more turn → AddsNext old new (Some number) more turn
      adds_back turns.Answered more (inl h) = inl (record {
        session = s;
        line = h.line;
        next = next_back h.session h.line h.next;
        answer = h.answer;
        of_session = h.of_session;
        index = h.index;
        waits = subst (λ (l : List TrxName). HasWaits l h.answer) (ap (λ (v : Session). v.waits.items) (one_of (slice_get book.sessions.items number) later h.session here h.next.found)) h.waits;
        entry = h.entry;
        has = h.has;
        one = h.one;
      })
      adds_back turns.Answered more (inr h) = inr (record {
        none = h.none;
        session = s;
        found = found;
        through = ap (λ (v : Session). next_line v) (one_of (slice_get book.sessions.items number) h.session later h.found here) ∙ h.through;
        ended = h.ended;
      })
      adds_back (turns.Waiting cause) more h = h
      adds_back turns.Done more h = h
      adds_back (turns.Stopped by) more h = h

      waits_back : (x : Session) → IsSessionOf old number x → s.waits.items ≡ x.waits.items
      waits_back x there = ap (λ (v : Session). v.waits.items) (one_of (slice_get old.book.sessions.items number) x s there found)

      named_back : (turn : Turn) → NamesWait mid new number turn → NamesWait old new number turn
      named_back turns.Answered h = h
      named_back (turns.Waiting (Writer name)) h = λ x y a b. h later y here b ∙ ap (λ (l : List TrxName). with_name name l) (waits_back x a)
      named_back (turns.Waiting (Word wait)) h = λ x y a b. h later y here b ∙ waits_back x a
      named_back (turns.Waiting (Prep name)) h = λ x y a b. h later y here b ∙ waits_back x a
      named_back turns.Done h = λ x y a b. h later y here b ∙ waits_back x a
      named_back (turns.Stopped by) h = λ x y a b. h later y here b ∙ waits_back x a

      met_back : (wait : NotYet) → MetWait old.number between after wait → MetWait old.number before after wait
      met_back wait h = record { from = h.from; to = h.to; came = goes_both old.number before between h.from goes h.came; met = h.met; went = h.went }

      stranger_back : (wait : NotYet) → MetStranger mid number after wait → MetStranger old number after wait
      stranger_back wait h = record {
        session = s;
        line = h.line;
        next = next_back h.session h.line h.next;
        target = h.target;
        its_target = h.its_target;
        holder = h.holder;
        name = h.name;
        named = h.named;
        blocked = h.blocked;
        stranger = fits_same h.holder h.target.key h.name ∙ h.stranger;
        waits_for = h.waits_for;
      }

      cause_back : (turn : Turn) → IfWaiting turn (WaitsFor mid number between after) → IfWaiting turn (WaitsFor old number before after)
      cause_back turns.Answered h = tt
      cause_back (turns.Waiting (Writer name)) h = λ q there. let x = h q there in (s, x.1, x.2, next_back x.0 x.1 x.3, x.4, x.5)
      cause_back (turns.Waiting (Word wait)) (inl h) = inl (met_back wait h)
      cause_back (turns.Waiting (Word wait)) (inr (inl h)) = inr (inl (h.0, slot_before h.1))
      cause_back (turns.Waiting (Word wait)) (inr (inr h)) = inr (inr (stranger_back wait h))
      cause_back (turns.Waiting (Prep name)) h = λ q there. let x = h q there in (s, x.1, next_back x.0 x.1 x.2, x.3)
      cause_back turns.Done h = tt
      cause_back (turns.Stopped by) h = tt

      left_same : has_nothing_left mid (Some number) ≡ has_nothing_left old (Some number)
      left_same =
          ap no_task_in here ∙ ap (λ (o : Option Line). is_no_task (task_by o stage)) comes.next.next
          ∙ sym (ap no_task_in found ∙ ap (λ (o : Option Line). is_no_task (task_by o s.stage)) comes.next.next)

      none_over : HasNoStatement old (Some number) → HasNoStatement mid (Some number)
      none_over none = λ x there. ap (λ (v : Session). next_line v) (one_of (slice_get book.sessions.items number) later x here there) ∙ none s found

      none_back : HasNoStatement mid (Some number) → HasNoStatement old (Some number)
      none_back none = λ x there. ap (λ (v : Session). next_line v) (one_of (slice_get old.book.sessions.items number) s x found there) ∙ none later here

      adds_over : (a : Answer) → Adds old new a → Adds mid new a
      adds_over a more = more ∙ ap (λ (l : List Answer). l ++ a ∷ []) (sym (ap (λ (x : Listed Answer). x.items) sets.answers))

      down_back : g.faults old.media.log.disk ≤ g.faults media.log.disk → (new.down ≡ old.down) ⊎ ((old.down ≡ 0) × (new.down ≡ old.number) × Rose (g.faults media.log.disk) (g.faults new.media.log.disk))
          → (new.down ≡ old.down) ⊎ ((old.down ≡ 0) × (new.down ≡ old.number) × Rose (g.faults old.media.log.disk) (g.faults new.media.log.disk))
      down_back faults (inl same) = inl same
      down_back faults (inr h) = inr (h.0, h.1, (let rose = h.2 in omega (arith, faults, rose)))

      knows_back : (view : ℕ) → Knows between old.number view → Knows before old.number view
      knows_back view h q has =
          let now = moves.mine q has in
          let more = newest_grows q.trx (now.0).trx now.2.extends.trx in
          let most = h now.0 now.1 in
          omega (arith, more, most)

      exact_back : (drawn more : ℕ) → (HoldsAll between → drawn ≡ tso_of between + more) → HoldsAll before → drawn ≡ tso_of before + more
      exact_back drawn more h all =
          h (holds_all old.number before between comes.stands.desk.part drew all) ∙ ap (λ (n : ℕ). n + more) (tso_same old.number before between comes.stands.desk.part drew)

      view_back : (view : ℕ) → (HoldsAll between → view ≡ tso_of between) → HoldsAll before → view ≡ tso_of before
      view_back view h all = h (holds_all old.number before between comes.stands.desk.part drew all) ∙ tso_same old.number before between comes.stands.desk.part drew

      turn_of_mid : ((entries : List Entry) → PrimaryAgreesIn g old entries before → PrimaryAgreesIn g mid entries between) → g.faults old.media.log.disk ≤ g.faults media.log.disk → g.tells media.log.disk ≡ g.tells old.media.log.disk
          → (turn : Turn) → TriesTurn g run mid new between after (Some number) turn → TriesTurn g run old new before after (Some number) turn
      turn_of_mid agrees faults tells turn h = record {
        stands = h.stands;
        number = h.number;
        work = h.work;
        went = goes_both old.number before between after goes h.went;
        goes_on = λ entries agreed. let x = h.goes_on entries (agrees entries agreed) in record { more = x.more; agrees = x.agrees; adds = adds_back turn x.more x.adds; later = all_back x.more x.later };
        others = λ other ne. h.others other ne ∙ elsewhere other (λ same. ne (ap (λ (k : ℕ). Some k) (sym same)));
        named = named_back turn h.named;
        cause = cause_back turn h.cause;
        up = h.up;
        answers = on_if_waits turn new.book.answers book.answers old.book.answers sets.answers h.answers;
        down = down_back faults h.down;
        faults = let more = h.faults in omega (arith, faults, more);
        tells = h.tells ∙ tells;
        may_go_on = h.may_go_on;
        begins = λ a view more so. let x = h.begins a view (adds_over a more) so in (knows_back view x.0, view_back view x.1);
        draws = λ a cts more so. let x = h.draws a cts (adds_over a more) so in (knows_less_before old.number cts before between goes x.0, exact_back cts 1 x.1);
        skips = λ a more. h.skips a (adds_over a more);
        stops = λ a more. h.stops a (adds_over a more);
        done = ((λ e. let x = h.done.0 e in (x.0, sym left_same ∙ x.1)), (λ up nothing. h.done.1 up (left_same ∙ nothing)));
        stopped = ((λ by e. let x = h.stopped.0 by e in (x.0, x.1, none_back x.2)), (λ down none. h.stopped.1 down (none_over none)));
      }

  -- the same of what a primary became
  pub then_turn : (mid : PrimaryView D) → mid ≡ record old { book = book; desk = mid.desk; media = mid.media } → ((entries : List Entry) → PrimaryAgreesIn g old entries before → PrimaryAgreesIn g mid entries between)
      → g.faults old.media.log.disk ≤ g.faults mid.media.log.disk → g.tells mid.media.log.disk ≡ g.tells old.media.log.disk
      → (new : PrimaryView D) (after : NodeView) (turn : Turn) → TriesTurn g run mid new between after (Some number) turn → TriesTurn g run old new before after (Some number) turn
  then_turn mid rest agrees faults tells new after turn h =
      turn_of_mid mid.desk mid.media new after
      (λ entries agreed. subst (λ (v : PrimaryView D). PrimaryAgreesIn g v entries between) rest (agrees entries agreed)) faults tells turn
      (subst (λ (v : PrimaryView D). TriesTurn g run v new between after (Some number) turn) rest h)
