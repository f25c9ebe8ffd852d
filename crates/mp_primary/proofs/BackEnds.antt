-- The ends of a rollback, as the functions see the primary inside.
use Rattle.std.proofs.Common.{◌≡◌, ℕ, ◌<◌, false, List, slice_get, slice_set, Option, None, Some, IfSome, sym, ap, subst, ◌∙◌, inl, arith}
use Rattle.std.proofs.lemmas.List.{set-set}
use Rattle.std.proofs.lemmas.Option.{slice_get_within}
use Rattle.mp_model.specs.Listed.{Listed}
use Rattle.mp_model.specs.declared.replies.Answer.{Answer}
use Rattle.mp_model.specs.declared.replies.Reply.{Reply}
use Rattle.mp_model.specs.declared.replies.WriteVerb.{WriteVerb}
use Rattle.mp_model.specs.declared.waiting.Turn.TheVariants as turns
use Rattle.mp_script.specs.declared.statements.Line.{Line}
use Rattle.mp_script.specs.declared.statements.SessionOn.{SessionOn}
use Rattle.mp_script.specs.Transactions.{Target}
use Rattle.std.specs.Prelude.{MatchOption}
use Rattle.mp_core_trx.specs.declared.event.TrxEvent.TheVariants.{StoreEnd}
use Rattle.mp_core_trx.specs.declared.part.Begun.{Begun}
use Rattle.mp_core_trx.specs.Events.{with_end}
use Rattle.mp_core.specs.declared.event.CoreEvent.TheVariants.{Trx}
use Rattle.mp_book.specs.declared.book.Book.{Book}
use Rattle.mp_book.specs.declared.session.Session.{Session}
use Rattle.mp_book.specs.declared.stage.Stage.{Stage}
use Rattle.mp_book.specs.declared.stage.Stage.TheVariants.{Closed, Open, Refused, Leaving, Skipping, Outside}
use Rattle.mp_book.specs.declared.stage.Task.TheVariants.{Unprinted}
use Rattle.mp_book.specs.Stages.{next_line, task_of, task_by, task_left, trx_of_stage}
use Rattle.mp_book.specs.Answered.{execution_above, NoneShowsDown, WaitsStand}
use Rattle.mp_book.specs.Through.{is_no_task}
use Rattle.mp_book.specs.Books.{IsBook, IsNext, HasRoom, IsAnswered, MayAnswer, SetsSession, stage_after, IsGoingBack}
use Rattle.mp_book.proofs.Changes.{book_set, others_same}
use Rattle.mp_outside.specs.declared.disks.Disk.{Ghosts}
use Rattle.mp_shared.specs.Nodes.{Run, NodeView, MayTake, Reached}
use Rattle.mp_trx_fusion.specs.Calls.{with_trx}
use Rattle.mp_buffer_fusion.proofs.Kept.{set_here}
use Rattle.mp_primary.specs.Primaries.{PrimaryView, StandsWith}
use Rattle.mp_primary.specs.Turns.{IsSessionOf, IsInTurns, MayTakeTurn, ComesTo, has_nothing_left, no_task_in, IsTakenBack}
use Rattle.mp_primary.specs.Tries.{TriesTurn}
use Rattle.mp_primary.specs.GoingOn.{GoesBackOf, CountsBack, IsAllBack, MayReplyBack, IsReplyBack, ForgetsWaits, ClosesSession}
use Rattle.mp_primary.proofs.FreedSlots.{Freeing, may_free, freeing, freed_stands, freed_agrees}
use Rattle.mp_primary.proofs.BackTurns.{none_down, stood_at, may_reply, may_answer, answered_back, unprinted_turn}
use Rattle.mp_primary.proofs.StillInTurns.{refused_in, leaving_in}

-- a statement that writes does so with a verb
pub writes_by : (o : Option Target) (r : Option WriteVerb) (verb : WriteVerb) → MatchOption o (r ≡ None) (λ target. r ≡ Some target.verb) → r ≡ Some verb → (key : ℕ) × (o ≡ Some (record { verb = verb; key = key }))
writes_by None r verb is some = absurd cc
writes_by (Some target) r verb is some =
    let same : target.verb ≡ verb = cc in
    (target.key, ap (λ (v : WriteVerb). Some (record { verb = v; key = target.key })) same)

-- a session whose rows are put back in a turn is in turns
reply_in : (stage : Stage) (line : Line) (reply : Reply) → IsReplyBack stage line reply → IsInTurns stage
reply_in Closed line reply h = absurd h
reply_in (Open trx) line reply h = absurd h
reply_in (Refused trx refusal) line reply h = refused_in trx refusal
reply_in (Leaving trx) line reply h = leaving_in trx
reply_in Skipping line reply h = absurd h
reply_in (Outside trx) line reply h = absurd h

-- a session that is closed, and then waits for nobody
pub closes : (old mid new : Book) (number : ℕ) (s : Session) → SetsSession old mid number (record s { stage = Closed }) → ForgetsWaits mid new number (record s { stage = Closed }) → ClosesSession old new number s
closes old mid new number s sets forgets = record {
  after = forgets.after;
  sets = record {
    answers = forgets.sets.answers ∙ sets.answers;
    sessions = forgets.sets.sessions ∙ ap (λ (l : List Session). slice_set l number forgets.after) sets.sessions ∙ set-set old.sessions.items number (record s { stage = Closed }) forgets.after;
  };
  rest = forgets.rest;
  waits = forgets.none;
}

pub leaving_task : (s : Session) (trx : Begun) → s.stage ≡ Leaving trx → next_line s ≡ None → task_of s ≡ Unprinted
leaving_task s trx stage none = ap (λ (o : Option Line). task_by o s.stage) none ∙ ap task_left stage

-- a session that has no statement and forgets its waits stands
module _ (lines : List Line) (sessions : List SessionOn) (primary : ℕ) (mid new : Book) (number : ℕ) (s : Session) (found : slice_get mid.sessions.items number ≡ Some s) (none : next_line s ≡ None) (forgets : ForgetsWaits mid new number s) (is_book : IsBook lines sessions primary mid) where
  rest_too : forgets.after ≡ record s { formers = forgets.after.formers; waits = forgets.after.waits }
  rest_too = forgets.rest ∙ ap (λ f. record s { formers = f; waits = forgets.after.waits }) (sym (ap (λ (x : Session). x.formers) forgets.rest))

  pub forgets_book : IsBook lines sessions primary new
  forgets_book =
      book_set lines sessions primary mid new number forgets.after is_book forgets.sets
      (others_same lines sessions primary mid.answers.items number s (is_book.each number s found) forgets.after rest_too (ap (λ (x : Session). x.formers.items) forgets.rest)
      (subst (λ (o : Option Line). IfSome o (λ line. WaitsStand (execution_above lines sessions mid.answers.items) primary line.stmt forgets.after.waits.items)) (sym (ap (λ (x : Session). next_line x) forgets.rest ∙ none)) tt))

module _ {D : Type 0} (inside old : PrimaryView D) (view : inside ≡ old) (number : ℕ) (s : Session) (found : IsSessionOf old number s) (mid : Book) (set : (x : Session) → slice_get inside.book.sessions.items number ≡ Some x → SetsSession inside.book mid number (record x { stage = Closed })) where
  found_here : slice_get inside.book.sessions.items number ≡ Some s
  found_here = subst (λ (v : PrimaryView D). slice_get v.book.sessions.items number ≡ Some s) (sym view) found

  pub closed_there : slice_get mid.sessions.items number ≡ Some (record s { stage = Closed })
  closed_there = ap (λ (l : List Session). slice_get l number) (set s found_here).sessions ∙ set_here inside.book.sessions.items number (record s { stage = Closed }) (slice_get_within inside.book.sessions.items number s found_here)

  module _ (new : Book) (forgot : (x : Session) → slice_get mid.sessions.items number ≡ Some x → ForgetsWaits mid new number x) where
    pub closes_inside : ClosesSession old.book new number s
    closes_inside = subst (λ (v : PrimaryView D). ClosesSession v.book new number s) view (closes inside.book mid new number s (set s found_here) (forgot (record s { stage = Closed }) closed_there))

    pub book_inside : (lines : List Line) (sessions : List SessionOn) (primary : ℕ) → next_line s ≡ None → (IsBook lines sessions primary inside.book → IsBook lines sessions primary mid) → IsBook lines sessions primary old.book → IsBook lines sessions primary new
    book_inside lines sessions primary none kept is_book =
        forgets_book lines sessions primary mid new number (record s { stage = Closed }) closed_there none (forgot (record s { stage = Closed }) closed_there) (kept (subst (λ (v : PrimaryView D). IsBook lines sessions primary v.book) (sym view) is_book))

module _ {D : Type 0} where
  -- an unprinted end is left to a session that has no statement and leaves its transaction
  pub busy_by : (pr : PrimaryView D) (number : ℕ) (s : Session) → IsSessionOf pr number s → task_of s ≡ Unprinted → has_nothing_left pr (Some number) ≡ false
  busy_by pr number s found task = ap no_task_in found ∙ ap is_no_task task

  -- the session whose rows were counted
  pub counted_there : (old new : PrimaryView D) (number : ℕ) (s : Session) → IsSessionOf old number s → (counts : (count : ℕ) × CountsBack old new number count) → IsSessionOf new number (record s { restored = counts.0 })
  counted_there old new number s found counts =
      let sets = counts.1 s found in
      ap (λ (l : List Session). slice_get l number) sets.sessions ∙ set_here old.book.sessions.items number (record s { restored = counts.0 }) (slice_get_within old.book.sessions.items number s found)

  -- it may take a turn where it might
  pub counted_may : (old new : PrimaryView D) (number : ℕ) (s : Session) → IsSessionOf old number s → (counts : (count : ℕ) × CountsBack old new number count) → IsInTurns s.stage → MayTakeTurn new number
  counted_may old new number s found counts inside = record { session = record s { restored = counts.0 }; found = counted_there old new number s found counts; inside = inside }

  -- it has the room that it had
  pub counted_room : (old new : PrimaryView D) (number : ℕ) (s : Session) → IsSessionOf old number s → (counts : (count : ℕ) × CountsBack old new number count) → HasRoom old.book number → HasRoom new.book number
  counted_room old new number s found counts room =
      let sets = counts.1 s found in
      let there = counted_there old new number s found counts in
      record {
        answer = let spare = ap (λ (l : Listed Answer). l.spare) sets.answers in let some = room.answer in omega (arith, spare, some);
        in_session = λ x at. subst (λ (v : Session). (0 < v.formers.spare) × (0 < v.waits.spare)) (some_is (record s { restored = counts.0 }) x (sym there ∙ at)) (room.in_session s found);
      }
    where
      some_is : (x y : Session) → Some x ≡ Some y → x ≡ y
      some_is x y e = cc

module _ {D : Type 0} (g : Ghosts D) (run : Run) (pr : PrimaryView D) (n : NodeView) (number : ℕ) (stands : StandsWith g run pr n) (up : pr.down ≡ 0) where
  pub leaving_back : (s : Session) (trx : Begun) → IsSessionOf pr number s → s.stage ≡ Leaving trx → GoesBackOf pr number s trx
  leaving_back s trx found at = record {
    found = found;
    back = subst IsGoingBack (sym at) tt;
    trx_is = ap trx_of_stage at;
    once = (stood_at g run pr n number stands up s found (Leaving trx) at).0.once;
  }

module _ {D : Type 0} (g : Ghosts D) (run : Run) (inside old : PrimaryView D) (view : inside ≡ old) (n : NodeView) (number : ℕ) (up : old.down ≡ 0) (s : Session) (trx : Begun) (is : trx_of_stage s.stage ≡ Some trx) where
  up_in : inside.down ≡ 0
  up_in = ap (λ (v : PrimaryView D). v.down) view ∙ up

  module _ (stands : StandsWith g run old n) (found : IsSessionOf old number s) (all : IsAllBack old number) where
    stands_in : StandsWith g run inside n
    stands_in = subst (λ (v : PrimaryView D). StandsWith g run v n) (sym view) stands

    found_in : IsSessionOf inside number s
    found_in = subst (λ (v : PrimaryView D). IsSessionOf v number s) (sym view) found

    pub may_end_inside : MayTake (Trx (StoreEnd inside.number trx.id None)) n
    may_end_inside = may_free g run inside n number s trx stands_in up_in found_in is (all s found)

    module _ (after : NodeView) (becomes : after ≡ with_trx n inside.number (with_end trx.id None) 1) (reached : Reached after) where
      freed : Freeing g run inside n after number s trx
      freed = freeing g run inside n number s trx stands_in up_in found_in is (all s found) after becomes reached

      -- the answer
      pub answered_inside : (line : Line) → IsNext old.book number s line → HasRoom old.book number → (reply : Reply) → IsReplyBack s.stage line reply → (book : Book)
          → IsAnswered inside.book book number s line reply (stage_after s.stage line.stmt reply) s.formers.items s.restored → IsBook inside.work.lines inside.work.sessions inside.number book
          → TriesTurn g run old (record inside { book = book }) n after (Some number) turns.Answered
      answered_inside line next room reply replies book answered books =
          let comes : ComesTo g run old n number s line = record { stands = stands; next = next; inside = reply_in s.stage line reply replies; room = room } in
          subst (λ (v : PrimaryView D). TriesTurn g run v (record inside { book = book }) n after (Some number) turns.Answered) view
          (answered_back g run inside n after number s line (subst (λ (v : PrimaryView D). ComesTo g run v n number s line) (sym view) comes) trx up_in freed reply replies book answered books)

      -- or none
      pub unprinted_inside : next_line s ≡ None → has_nothing_left old (Some number) ≡ false → (new : PrimaryView D) → new ≡ record old { book = new.book } → ClosesSession old.book new.book number s
          → IsBook old.work.lines old.work.sessions old.number new.book → TriesTurn g run old new n after (Some number) turns.Answered
      unprinted_inside none busy new rest closed is_book =
          subst (λ (v : PrimaryView D). TriesTurn g run old v n after (Some number) turns.Answered) (sym rest)
          (subst (λ (v : PrimaryView D). TriesTurn g run v (record v { book = new.book }) n after (Some number) turns.Answered) view
          (unprinted_turn g run inside n after number s found_in none up_in (subst (λ (v : PrimaryView D). has_nothing_left v (Some number) ≡ false) (sym view) busy) new.book closed_in
          (freed_stands g run inside n after number s trx stands_in up_in freed closed_in.after over (inl closed_in.waits) new.book answers closed_in.sets.sessions book_in)
          freed.goes
          (freed_agrees g run inside n after number s trx stands_in up_in freed closed_in.after over (inl closed_in.waits) new.book answers closed_in.sets.sessions book_in)))
        where
          closed_in : ClosesSession inside.book new.book number s
          closed_in = subst (λ (v : PrimaryView D). ClosesSession v.book new.book number s) (sym view) closed

          book_in : IsBook inside.work.lines inside.work.sessions inside.number new.book
          book_in = subst (λ (v : PrimaryView D). IsBook v.work.lines v.work.sessions v.number new.book) (sym view) is_book

          over : trx_of_stage closed_in.after.stage ≡ None
          over = ap (λ (v : Session). trx_of_stage v.stage) closed_in.rest

          answers : new.book.answers.items ≡ inside.book.answers.items
          answers = ap (λ (l : Listed Answer). l.items) closed_in.sets.answers

-- ---- what the answer asks

module _ {D : Type 0} (g : Ghosts D) (run : Run) (inside old : PrimaryView D) (view : inside ≡ old) (n : NodeView) (number : ℕ) (up : old.down ≡ 0) (s : Session) (line : Line) (comes : ComesTo g run old n number s line) where
  pub next_inside : IsNext inside.book number s line
  next_inside = subst (λ (v : PrimaryView D). IsNext v.book number s line) (sym view) comes.next

  pub none_down_inside : NoneShowsDown inside.book.answers.items
  none_down_inside = subst (λ (v : PrimaryView D). NoneShowsDown v.book.answers.items) (sym view) (none_down g run old n number comes.stands up)

  pub is_book_inside : IsBook inside.work.lines inside.work.sessions inside.number inside.book
  is_book_inside = subst (λ (v : PrimaryView D). IsBook v.work.lines v.work.sessions v.number v.book) (sym view) comes.stands.primary.book

  module _ (taken : IsTakenBack s.stage) where
    pub reply_asked : (x : Session) × (l : Line) × IsNext inside.book number x l × MayReplyBack x.stage l.stmt
    reply_asked = (s, line, next_inside, may_reply g run old n number comes.stands up s line comes.next taken)

    pub answer_asked : IsAllBack old number → (reply : Reply) → IsReplyBack s.stage line reply → (x : Session) × (l : Line) × IsNext inside.book number x l × MayAnswer x l reply (stage_after x.stage l.stmt reply) x.formers.items x.restored × Unit {0}
    answer_asked all reply replies = (s, line, next_inside, may_answer g run old n number comes.stands up s line comes.next reply (all s comes.next.found) replies, tt)
