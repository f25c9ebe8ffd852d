-- A turn in which rows are put back first: it waits, stops, or ends.
use Rattle.std.proofs.Common.{◌≡◌, ◌≢◌, ℕ, ◌<◌, ◌⊎◌, true, false, List, slice_get, get_or, Option, None, Some, IfSome, refl, sym, ap, subst, ◌∙◌, inl, inr, ⊎_elim, arith}
use Rattle.std.proofs.lemmas.Option.{slice_get_within, slice_get-get_or}
use Rattle.mp_machine.specs.View.{part_in}
use Rattle.mp_core.specs.declared.part.CorePart.{CorePart}
use Rattle.mp_model.specs.declared.replies.Reply.TheVariants.{Stopped}
use Rattle.mp_model.specs.declared.waiting.Cause.TheVariants.{Word}
use Rattle.mp_model.specs.declared.waiting.NotYet.{NotYet}
use Rattle.mp_model.specs.declared.waiting.Turn.TheVariants as turns
use Rattle.mp_script.specs.declared.statements.Line.{Line}
use Rattle.mp_core_trx.specs.declared.part.Begun.{Begun}
use Rattle.mp_book.specs.declared.session.Session.{Session}
use Rattle.mp_book.specs.declared.book.Book.{Book}
use Rattle.mp_book.specs.declared.stage.Stage.{Stage}
use Rattle.mp_book.specs.declared.stage.Stage.TheVariants.{Closed, Open, Refused, Leaving, Skipping, Outside}
use Rattle.mp_book.specs.declared.stage.Task.TheVariants.{Unprinted}
use Rattle.mp_book.specs.Answered.{NoneShowsDown}
use Rattle.mp_script.specs.declared.statements.SessionOn.{SessionOn}
use Rattle.mp_script.specs.declared.statements.Stmt.TheVariants.{Rollback}
use Rattle.mp_script.specs.WentDown.{is_stopped}
use Rattle.mp_book.specs.Stages.{next_line, task_by, task_left, task_of, trx_of_stage, with_former}
use Rattle.mp_book.specs.Through.{is_no_task}
use Rattle.mp_book.specs.Books.{IsBook, IsNext, IsAnswered, MayAnswer, SetsSession, stage_after}
use Rattle.mp_outside.specs.declared.disks.Disk.{Ghosts}
use Rattle.mp_shared.specs.Nodes.{Run, NodeView}
use Rattle.mp_buffer_fusion.proofs.Kept.{set_here}
use Rattle.mp_supports.specs.Supports.{no_trace}
use Rattle.mp_supports.specs.Kept.{Did}
use Rattle.mp_supports.specs.Agreement.{RefusalSupported}
use Rattle.mp_supports.proofs.Classes.{did_looked}
use Rattle.mp_desk.specs.declared.halts.BackHalt.{BackHalt}
use Rattle.mp_desk.specs.declared.halts.BackHalt.TheVariants as backs
use Rattle.mp_desk.specs.Desks.{MetWait}
use Rattle.mp_desk.proofs.BackSteps.{rose_later}
use Rattle.mp_desk.proofs.Moving.{looked_none, moves_none, goes_none}
use Rattle.mp_primary.specs.Primaries.{PrimaryView, StandsWith}
use Rattle.mp_primary.specs.Turns.{IsSessionOf, IsInTurns, MayTakeTurn, ComesTo, IsTakenBack, has_nothing_left, no_task_in, HasNoStatement}
use Rattle.mp_primary.specs.Tries.{TriesTurn}
use Rattle.mp_primary.specs.GoingOn.{CountsBack, ClosesSession, LeavesRows, GoesOnQuietly}
use Rattle.mp_primary.proofs.StillInTurns.{closed_in, open_in, refused_in, leaving_in, skipping_in}
use Rattle.mp_primary.proofs.BackEnds.{busy_by, counted_there, counted_may, counted_room}
use Rattle.mp_primary.proofs.OpenSessions.{one_of}
use Rattle.mp_primary.proofs.PlainTurns.{stopped_inside, to_stop}
use Rattle.mp_primary.proofs.QuietTurns.{stopped_turn}
use Rattle.mp_primary.proofs.QuietlyOn.{then_turn, waiting_turn}
use Rattle.mp_primary.proofs.BackTurns.{stood_at, unprinted_turn}
use Rattle.mp_primary.proofs.Restaged.{restaged_stands, restaged_agrees, restaged_quietly}

answered_not_done : turns.Answered ≡ turns.Done → ⊥
answered_not_done e = cc

module _ {D : Type 0} (g : Ghosts D) (run : Run) (old mid : PrimaryView D) (n n1 : NodeView) (number : ℕ) (s : Session) (line : Line) (comes : ComesTo g run old n number s line)
    (quiet : GoesOnQuietly g run old mid n n1 number) (counts : (count : ℕ) × CountsBack old mid number count) where
  -- the session, its rows counted
  abbrev pub counted : Session
  counted = record s { restored = counts.0 }

  pub comes_counted : ComesTo g run mid n1 number counted line
  comes_counted = record {
    stands = quiet.stands;
    next = record { found = counted_there old mid number s comes.next.found counts; next = comes.next.next };
    inside = comes.inside;
    room = counted_room old mid number s comes.next.found counts comes.room;
  }

  busy : has_nothing_left old (Some number) ≡ false
  busy = ap no_task_in comes.next.found ∙ ap (λ (o : Option Line). is_no_task (task_by o s.stage)) comes.next.next

  pub then_answered : (new : PrimaryView D) (after : NodeView) → TriesTurn g run mid new n1 after (Some number) turns.Answered → TriesTurn g run old new n after (Some number) turns.Answered
  then_answered new after h = then_turn g run old mid n n1 number s comes.next.found quiet comes.stands.desk.part new after turns.Answered h busy answered_not_done tt

  pub then_waits : (wait : NotYet) → (mid.down ≡ 0) × MetWait old.number n n1 wait → TriesTurn g run old mid n n1 (Some number) (turns.Waiting (Word wait))
  then_waits wait met = waiting_turn g run old mid n n1 number s comes.next.found quiet comes.stands.desk.part met.0 busy wait met.1 (counted_may old mid number s comes.next.found counts comes.inside)

  -- what the answer of a primary that went down asks
  module _ (inside : PrimaryView D) (view : inside ≡ mid) (by : ℕ) where
    pub stop_asked : (x : Session) × (l : Line) × IsNext inside.book number x l × MayAnswer x l (Stopped by) (stage_after x.stage l.stmt (Stopped by)) x.formers.items x.restored × Unit {0}
    stop_asked = (counted, line, subst (λ (v : PrimaryView D). IsNext v.book number counted line) (sym view) comes_counted.next, (None, refl, refl, refl), tt)

    pub stop_room : 0 < inside.book.answers.spare
    stop_room = subst (λ (v : PrimaryView D). 0 < v.book.answers.spare) (sym view) comes_counted.room.answer

    -- it is answered so
    pub stops : inside.down ≡ by → mid.down ≢ 0 → (book : Book) → ((x : Session) (l : Line) → IsNext inside.book number x l → IsAnswered inside.book book number x l (Stopped by) (stage_after x.stage l.stmt (Stopped by)) (with_former x.formers.items None) x.restored)
        → ((lines : List Line) (sessions : List SessionOn) (primary : ℕ) → IsBook lines sessions primary inside.book → (is_stopped (Stopped by) ≡ true) ⊎ NoneShowsDown inside.book.answers.items → IsBook lines sessions primary book)
        → TriesTurn g run old (record inside { book = book }) n n1 (Some number) turns.Answered
    stops is some book answered books = then_answered (record inside { book = book }) n1 (stopped_inside g inside mid view run book n1 number counted line (to_stop g run mid n1 number counted line comes_counted) by is some answered books)

-- a session whose rows are put back in a turn has a transaction
pub no_trx_taken : (stage : Stage) → IsTakenBack stage → trx_of_stage stage ≡ None → ⊥
no_trx_taken Closed taken none = taken.0
no_trx_taken (Open trx) taken none = taken.0
no_trx_taken (Refused trx refusal) taken none = absurd cc
no_trx_taken (Leaving trx) taken none = absurd cc
no_trx_taken Skipping taken none = taken.0
no_trx_taken (Outside trx) taken none = taken.1 trx refl

stopped_not_done : (by : ℕ) → turns.Stopped by ≡ turns.Done → ⊥
stopped_not_done by e = cc

unprinted_none : (o : Option Line) (stage : Stage) → task_by o stage ≡ Unprinted → o ≡ None
unprinted_none None stage e = refl
unprinted_none (Some line) stage e = absurd cc

-- where none of its statements is left
module _ {D : Type 0} (g : Ghosts D) (run : Run) (old mid : PrimaryView D) (n n1 : NodeView) (number : ℕ) (s : Session) (stands : StandsWith g run old n) (found : IsSessionOf old number s) (task : task_of s ≡ Unprinted) (quiet : GoesOnQuietly g run old mid n n1 number) where
  busy_leaving : has_nothing_left old (Some number) ≡ false
  busy_leaving = busy_by old number s found task

  none_left : HasNoStatement mid (Some number)
  none_left = λ x at.
      let t = quiet.same s found in
      let same : x ≡ t.0 = one_of (slice_get mid.book.sessions.items number) t.0 x t.1 at in
      ap (λ (v : Session). next_line v) same ∙ t.2 ∙ unprinted_none (next_line s) s.stage task

  pub leaving_waits : (wait : NotYet) → (mid.down ≡ 0) × MetWait old.number n n1 wait → MayTakeTurn mid number → TriesTurn g run old mid n n1 (Some number) (turns.Waiting (Word wait))
  leaving_waits wait met may = waiting_turn g run old mid n n1 number s found quiet stands.desk.part met.0 busy_leaving wait met.1 may

  pub leaving_stops : (by : ℕ) → by ≡ mid.down → mid.down ≢ 0 → MayTakeTurn mid number → TriesTurn g run old mid n n1 (Some number) (turns.Stopped by)
  leaving_stops by is down may = then_turn g run old mid n n1 number s found quiet stands.desk.part mid n1 (turns.Stopped by) (stopped_turn g run mid n1 quiet.stands (Some number) may by is (λ z. down (sym is ∙ z)) none_left) busy_leaving (stopped_not_done by) tt

  pub leaving_ends : (new : PrimaryView D) (after : NodeView) → TriesTurn g run mid new n1 after (Some number) turns.Answered → TriesTurn g run old new n after (Some number) turns.Answered
  leaving_ends new after h = then_turn g run old mid n n1 number s found quiet stands.desk.part new after turns.Answered h busy_leaving answered_not_done tt

-- a session as it is read
module _ {D : Type 0} (inside old : PrimaryView D) (view : inside ≡ old) (number : ℕ) (s : Session) (found : IsSessionOf old number s) (x : Session) (is : x ≡ get_or inside.book.sessions.items number x) where
  found_in : slice_get inside.book.sessions.items number ≡ Some s
  found_in = subst (λ (v : PrimaryView D). slice_get v.book.sessions.items number ≡ Some s) (sym view) found

  pub read_session : x ≡ s
  read_session = one_of (slice_get inside.book.sessions.items number) s x found_in (slice_get-get_or inside.book.sessions.items number x (slice_get_within inside.book.sessions.items number s found_in) ∙ ap (λ (v : Session). Some v) (sym is))

  pub read_trx : (o : Option Begun) → o ≡ trx_of_stage x.stage → trx_of_stage s.stage ≡ o
  read_trx o its = sym (its ∙ ap (λ (v : Session). trx_of_stage v.stage) read_session)

-- ---- of what is left unprinted

pub unprinted_over : {D : Type 0} (pr : PrimaryView D) (number : ℕ) (s : Session) → IsSessionOf pr number s → task_of s ≡ Unprinted → HasNoStatement pr (Some number)
unprinted_over pr number s found task x at = ap (λ (v : Session). next_line v) (one_of (slice_get pr.book.sessions.items number) s x found at) ∙ unprinted_none (next_line s) s.stage task

pub unprinted_line : (s : Session) → task_of s ≡ Unprinted → next_line s ≡ None
unprinted_line s task = unprinted_none (next_line s) s.stage task

unprinted_left : (s : Session) → task_of s ≡ Unprinted → task_left s.stage ≡ Unprinted
unprinted_left s task = sym (ap (λ (o : Option Line). task_by o s.stage) (unprinted_none (next_line s) s.stage task)) ∙ task

left_in : (stage : Stage) → task_left stage ≡ Unprinted → IsInTurns stage
left_in Closed left = closed_in
left_in (Open b) left = open_in b
left_in (Refused b refusal) left = refused_in b refusal
left_in (Leaving b) left = leaving_in b
left_in Skipping left = skipping_in
left_in (Outside b) left = absurd cc

-- a session whose transaction is to be rolled back unprinted may take a turn
pub unprinted_may : {D : Type 0} (pr : PrimaryView D) (number : ℕ) (s : Session) → IsSessionOf pr number s → task_of s ≡ Unprinted → MayTakeTurn pr number
unprinted_may pr number s found task = record { session = s; found = found; inside = left_in s.stage (unprinted_left s task) }

left_skipping : (stage : Stage) → task_left stage ≡ Unprinted → trx_of_stage stage ≡ None → stage ≡ Skipping
left_skipping Closed left none = absurd cc
left_skipping (Open trx) left none = absurd cc
left_skipping (Refused trx refusal) left none = absurd cc
left_skipping (Leaving trx) left none = absurd cc
left_skipping Skipping left none = refl
left_skipping (Outside trx) left none = absurd cc

pub skipping_left : (s : Session) → task_of s ≡ Unprinted → trx_of_stage s.stage ≡ None → s.stage ≡ Skipping
skipping_left s task none = left_skipping s.stage (unprinted_left s task) none

module _ {D : Type 0} (g : Ghosts D) (run : Run) (pr : PrimaryView D) (n : NodeView) (number : ℕ) (stands : StandsWith g run pr n) (up : pr.down ≡ 0) (s : Session) (found : IsSessionOf pr number s) (task : task_of s ≡ Unprinted) where
  -- it goes on, or is left already
  pub open_or_leaving : (trx : Begun) → trx_of_stage s.stage ≡ Some trx → (s.stage ≡ Open trx) ⊎ (s.stage ≡ Leaving trx)
  open_or_leaving trx has = go s.stage refl (unprinted_left s task) has
    where
      go : (stage : Stage) → s.stage ≡ stage → task_left stage ≡ Unprinted → trx_of_stage stage ≡ Some trx → (stage ≡ Open trx) ⊎ (stage ≡ Leaving trx)
      go Closed at left has = absurd cc
      go (Open b) at left has = inl (ap (λ (o : Option Begun). open_of o) has)
        where
          open_of : Option Begun → Stage
          open_of None = Skipping
          open_of (Some b) = Open b
      go (Refused b refusal) at left has =
          let stood = (stood_at g run pr n number stands up s found (Refused b refusal) at).1 in
          let both : Some stood.0 ≡ None = sym stood.1 ∙ unprinted_none (next_line s) s.stage task in absurd cc
      go (Leaving b) at left has = inr (let same : b ≡ trx = cc in ap (λ (x : Begun). Leaving x) same)
      go Skipping at left has = absurd cc
      go (Outside b) at left has = absurd cc

  -- what was skipped ends
  pub skipped_ends : s.stage ≡ Skipping → (new : PrimaryView D) → new ≡ record pr { book = new.book } → ClosesSession pr.book new.book number s → IsBook pr.work.lines pr.work.sessions pr.number new.book → TriesTurn g run pr new n n (Some number) turns.Answered
  skipped_ends skipping new rest closes is_book =
      let same : trx_of_stage closes.after.stage ≡ trx_of_stage s.stage = ap (λ (v : Session). trx_of_stage v.stage) closes.rest ∙ sym (ap trx_of_stage skipping) in
      let stage_is : closes.after.stage ≡ Closed = ap (λ (v : Session). v.stage) closes.rest in
      let rest_is : closes.after ≡ record s { stage = closes.after.stage; waits = closes.after.waits } = closes.rest ∙ ap (λ (t : Stage). record s { stage = t; waits = closes.after.waits }) (sym stage_is) in
      let refused : (q : CorePart) → part_in n.parts pr.number ≡ Some q → RefusalSupported pr.work q 0 closes.after.stage (next_line closes.after) = λ q has. subst (λ (t : Stage). RefusalSupported pr.work q 0 t (next_line closes.after)) (sym stage_is) tt in
      subst (λ (v : PrimaryView D). TriesTurn g run pr v n n (Some number) turns.Answered) (sym rest)
      (unprinted_turn g run pr n n number s found (unprinted_none (next_line s) s.stage task) up (busy_by pr number s found task) new.book closes
      (restaged_stands g run pr n number s stands found new.book closes.after closes.sets rest_is same (inl closes.waits) refused is_book)
      (goes_none pr.number n)
      (restaged_agrees g run pr n number s stands found new.book closes.after closes.sets rest_is same (inl closes.waits) refused is_book))

-- a session leaves its transaction
module _ {D : Type 0} (g : Ghosts D) (run : Run) (pr : PrimaryView D) (n : NodeView) (number : ℕ) (stands : StandsWith g run pr n) (s : Session) (found : IsSessionOf pr number s) (book : Book) where
  -- it is at a stage that needs no support
  pub staged_quietly : (stage : Stage) → ((q : CorePart) → RefusalSupported pr.work q 0 stage (next_line s)) → trx_of_stage stage ≡ trx_of_stage s.stage → SetsSession pr.book book number (record s { stage = stage })
      → IsBook pr.work.lines pr.work.sessions pr.number book → GoesOnQuietly g run pr (record pr { book = book }) n n number
  staged_quietly stage refused same sets is_book = restaged_quietly g run pr n number s stands found book (record s { stage = stage }) sets refl same (inr (refl, refl)) (λ q has. refused q) is_book refl

-- nothing changed
pub still_quietly : {D : Type 0} (g : Ghosts D) (run : Run) (pr : PrimaryView D) (n : NodeView) (number : ℕ) → StandsWith g run pr n → GoesOnQuietly g run pr pr n n number
still_quietly g run pr n number stands = record {
  stands = stands;
  number = refl;
  work = refl;
  did = moves_none pr.number (λ q r. Did q r no_trace) (λ q. did_looked q q (looked_none q)) n;
  goes_on = λ entries agreed. agreed;
  answers = refl;
  others = λ other ne. refl;
  same = λ s found. (s, found, refl, refl);
  down = inl refl;
  faults = omega arith;
  tells = refl;
}

-- rows are left also as the turn's beginning sees it
pub leaves_from : {D : Type 0} (g : Ghosts D) (run : Run) (old mid new : PrimaryView D) (n n1 : NodeView) (number : ℕ) → GoesOnQuietly g run old mid n n number → (halt : BackHalt) → LeavesRows g mid new n n1 halt → LeavesRows g old new n n1 halt
leaves_from g run old mid new n n1 number quiet (backs.Word wait) left = (left.0, subst (λ (k : ℕ). MetWait k n n1 wait) quiet.number left.1)
leaves_from g run old mid new n n1 number quiet backs.Failed left =
    (left.0 ∙ quiet.number, left.1, rose_later (g.faults old.media.log.disk) (g.faults mid.media.log.disk) (g.faults new.media.log.disk) quiet.faults left.2)

open_not_leaving : (b trx : Begun) → Open b ≡ Leaving trx → ⊥
open_not_leaving b trx e = cc

-- a session of which no statement is left begins to leave its transaction
module _ {D : Type 0} (g : Ghosts D) (inside old : PrimaryView D) (view : inside ≡ old) (number : ℕ) (s : Session) (found : IsSessionOf old number s) (trx : Begun) (which : (s.stage ≡ Open trx) ⊎ (s.stage ≡ Leaving trx)) (none : next_line s ≡ None) where
  stands_there : slice_get inside.book.sessions.items number ≡ Some s
  stands_there = subst (λ (v : PrimaryView D). slice_get v.book.sessions.items number ≡ Some s) (sym view) found

  its_trx : trx_of_stage s.stage ≡ Some trx
  its_trx = ⊎_elim (λ (e : s.stage ≡ Open trx). ap trx_of_stage e) (λ (e : s.stage ≡ Leaving trx). ap trx_of_stage e) which

  pub leave_asked : (b : Begun) → s.stage ≡ Open b → (x : Session) × (slice_get inside.book.sessions.items number ≡ Some x) × (x.stage ≡ Open trx) × IfSome (next_line x) (λ line. line.stmt ≡ Rollback)
  leave_asked b is = (s, stands_there, ⊎_elim (λ e. e) (λ (e : s.stage ≡ Leaving trx). absurd (open_not_leaving b trx (sym is ∙ e))) which, subst (λ (o : Option Line). IfSome o (λ line. line.stmt ≡ Rollback)) (sym none) tt)

  -- where it isn't open, it is left already
  pub leaving_already : ((b : Begun) → s.stage ≡ Open b → ⊥) → (x : Session) → IsSessionOf old number x → (x.stage ≡ Leaving trx) × (next_line x ≡ None)
  leaving_already not x at =
      let same : x ≡ s = one_of (slice_get old.book.sessions.items number) s x found at in
      (ap (λ (v : Session). v.stage) same ∙ ⊎_elim (λ (e : s.stage ≡ Open trx). absurd (not trx e)) (λ e. e) which, ap (λ (v : Session). next_line v) same ∙ none)

  module _ (book : Book) (set : (x : Session) → slice_get inside.book.sessions.items number ≡ Some x → SetsSession inside.book book number (record x { stage = Leaving trx })) where
    pub leaving_there : (x : Session) → slice_get book.sessions.items number ≡ Some x → (x.stage ≡ Leaving trx) × (next_line x ≡ None)
    leaving_there x at =
        let here = ap (λ (l : List Session). slice_get l number) (set s stands_there).sessions ∙ set_here inside.book.sessions.items number (record s { stage = Leaving trx }) (slice_get_within inside.book.sessions.items number s stands_there) in
        let same : x ≡ record s { stage = Leaving trx } = one_of (slice_get book.sessions.items number) (record s { stage = Leaving trx }) x here at in
        (ap (λ (v : Session). v.stage) same, ap (λ (v : Session). next_line v) same ∙ none)

    pub leaving_quietly : (run : Run) (n : NodeView) → StandsWith g run old n → (IsBook inside.work.lines inside.work.sessions inside.number inside.book → IsBook inside.work.lines inside.work.sessions inside.number book)
        → GoesOnQuietly g run old (record inside { book = book }) n n number
    leaving_quietly run n stands kept =
        let stands_in = subst (λ (v : PrimaryView D). StandsWith g run v n) (sym view) stands in
        subst (λ (v : PrimaryView D). GoesOnQuietly g run v (record inside { book = book }) n n number) view
        (staged_quietly g run inside n number stands_in s stands_there book (Leaving trx) (λ q. tt) (sym its_trx) (set s stands_there) (kept stands_in.primary.book))
