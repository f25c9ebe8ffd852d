-- The turn of a write that was made: it is answered, or, where the log's disk failed, stopped with it.
use Rattle.std.proofs.Common.{◌≡◌, ℕ, suc, ◌+◌, ◌<◌, ◌⊎◌, true, false, List, ◌∷◌, length, slice_get, slice_set, Option, None, Some, MatchOption, is_some, if◌then◌else◌, refl, sym, ap, subst, ◌∙◌, inl, inr, arith}
use Rattle.std.specs.Option.{option_map}
use Rattle.mp_machine.specs.View.{part_in}
use Rattle.mp_model.specs.declared.replies.Answer.{Answer}
use Rattle.mp_model.specs.declared.replies.Reply.TheVariants.{Began, Wrote}
use Rattle.mp_model.specs.declared.replies.WriteVerb.{WriteVerb}
use Rattle.mp_model.specs.declared.waiting.Turn.TheVariants as turns
use Rattle.mp_script.specs.declared.statements.Line.{Line}
use Rattle.mp_script.specs.declared.statements.SessionOn.{SessionOn}
use Rattle.mp_script.specs.WentDown.{is_stopped}
use Rattle.mp_script.specs.Execution.{line_at, stmt_in}
use Rattle.mp_script.specs.Transactions.{Target, target_of, begins}
use Rattle.mp_cells.specs.declared.records.Mtr.{Mtr}
use Rattle.mp_cells.specs.declared.rows.Row.{Row}
use Rattle.mp_cells.specs.Trees.{row_at}
use Rattle.mp_core_trx.specs.declared.part.Begun.{Begun}
use Rattle.mp_core_trx.specs.declared.part.TrxPart.{TrxPart}
use Rattle.mp_core_pages.specs.declared.part.Placed.{Placed}
use Rattle.mp_core.specs.declared.part.CorePart.{CorePart}
use Rattle.mp_core.specs.CoreExtends.{CoreExtends}
use Rattle.mp_book.specs.declared.book.Book.{Book}
use Rattle.mp_book.specs.declared.session.Session.{Session}
use Rattle.mp_book.specs.declared.stage.Stage.{Stage}
use Rattle.mp_book.specs.declared.stage.Stage.TheVariants.{Open}
use Rattle.mp_book.specs.Stages.{trx_of_stage, with_former}
use Rattle.mp_book.specs.Answered.{NoneShowsDown}
use Rattle.mp_book.specs.Books.{IsBook, IsNext, IsAnswered, MayAnswer, KeepsFormer, GoesOn}
use Rattle.mp_outside.specs.declared.disks.Disk.{Ghosts}
use Rattle.mp_shared.specs.Nodes.{Run, NodeView}
use Rattle.mp_shared.proofs.Holding.{held_part}
use Rattle.mp_supports.specs.Supports.{Trace, wrote_trace, IsTrxOf, SupportsReply}
use Rattle.mp_supports.specs.Kept.{Entry, Did}
use Rattle.mp_supports.specs.Agreement.{is_of_write, Opens, Bounds, StandAtNumbers}
use Rattle.mp_supports.proofs.BoundSteps.{bounds_put}
use Rattle.mp_supports.proofs.Extending.{core_extends_trans}
use Rattle.mp_supports.proofs.OpenSteps.{opens_put}
use Rattle.mp_supports.proofs.SupportsMore.{reply_more}
use Rattle.mp_desk.specs.Desks.{Moves}
use Rattle.mp_desk.specs.LetGo.{HasLetGo}
use Rattle.mp_desk.specs.Statements.{MakesThen}
use Rattle.mp_desk.proofs.Moving.{moves_as}
use Rattle.mp_primary.specs.Primaries.{PrimaryView, PrimaryAgrees}
use Rattle.mp_primary.specs.Turns.{IsSessionOf}
use Rattle.mp_primary.specs.Tries.{TriesTurn}
use Rattle.mp_primary.specs.AtWork.{HasClearedDesk, LeavesAtMostOne, MayStopWith}
use Rattle.mp_primary.specs.WriteTurns.{mtr_of_put, former_to_keep, HasPutRow}
use Rattle.mp_primary.proofs.AnsweredTurns.{found_here}
use Rattle.mp_primary.proofs.OpenReaders.{is_trx_of, open_no_begin, none_back}
use Rattle.mp_primary.proofs.Stops.{of_write}
use Rattle.mp_primary.proofs.TurnEnds.{moved, line_is, HasSides, answered_up, none_down_before}
use Rattle.mp_primary.proofs.WaitsGoOn.{trx_of_more}

-- the first row of a key is kept, and is the version that was replaced
pub first_keeps : (formers : List Row) (key : ℕ) (former : Row) (first : Option Row) → former.key ≡ key → first ≡ former_to_keep formers key former → KeepsFormer formers key first × ((first ≡ None) ⊎ (first ≡ Some former))
first_keeps formers key former first its is = go (row_at key formers) refl
  where
    ends : (o : Option Row) → first ≡ o → KeepsFormer formers key o → (o ≡ None) ⊎ (o ≡ Some former) → KeepsFormer formers key first × ((first ≡ None) ⊎ (first ≡ Some former))
    ends o same keeps from = (subst (KeepsFormer formers key) (sym same) keeps, subst (λ (x : Option Row). (x ≡ None) ⊎ (x ≡ Some former)) (sym same) from)

    go : (o : Option Row) → row_at key formers ≡ o → KeepsFormer formers key first × ((first ≡ None) ⊎ (first ≡ Some former))
    go None none = ends (Some former) (is ∙ ap (λ (x : Option Row). if is_some x then None else Some former) none) (its, none) (inr refl)
    go (Some row) some = ends None (is ∙ ap (λ (x : Option Row). if is_some x then None else Some former) some) (ap (λ (x : Option Row). is_some x) some) (inl refl)

-- One mtr was made, and no transaction changed
record MadeThis (x : Placed Mtr) (q r : CorePart) : Type 0 where
  pub extends : CoreExtends q r
  pub begun : r.trx.begun ≡ q.trx.begun
  pub rows : r.trx.rows ≡ q.trx.rows
  pub drew : r.trx.drew ≡ q.trx.drew
  pub made : r.pages.made ≡ x ∷ q.pages.made

made_this : (x : Placed Mtr) (q r : CorePart) → MakesThen x q r → MadeThis x q r
made_this x q r h = record {
  extends = core_extends_trans q h.between r h.quiet.extends h.made.extends;
  begun = ap (λ (t : TrxPart). t.begun) h.made.trx ∙ h.quiet.begun;
  rows = ap (λ (t : TrxPart). t.rows) h.made.trx ∙ h.quiet.rows;
  drew = ap (λ (t : TrxPart). t.drew) h.made.trx ∙ h.quiet.drew;
  made = h.made.made ∙ ap (λ (l : List (Placed Mtr)). x ∷ l) h.quiet.made;
}

let_go_this : (x : Placed Mtr) (q r s : CorePart) → MadeThis x q r → HasLetGo r s → MadeThis x q s
let_go_this x q r s h gone = record {
  extends = core_extends_trans q r s h.extends gone.extends;
  begun = ap (λ (t : TrxPart). t.begun) gone.trx ∙ h.begun;
  rows = ap (λ (t : TrxPart). t.rows) gone.trx ∙ h.rows;
  drew = ap (λ (t : TrxPart). t.drew) gone.trx ∙ h.drew;
  made = gone.made ∙ h.made;
}

module _ {D : Type 0} (g : Ghosts D) (run : Run) (old now : PrimaryView D) (before between : NodeView) (number : ℕ) (trx : Begun) (verb : WriteVerb) (key : ℕ) (former : Row) (put : HasPutRow g run old now before between number trx verb key former) where
  abbrev its_session : Session
  its_session = put.tries.session

  abbrev its_line : Line
  its_line = put.tries.line

  abbrev its_trace : Trace
  its_trace = wrote_trace put.pages (mtr_of_put trx put.placed)

  pub own_session : IsSessionOf now number put.tries.session
  own_session = ap (λ (v : PrimaryView D). slice_get v.book.sessions.items number) put.work.rest ∙ put.tries.comes.next.found

  has : (q : CorePart) × (part_in before.parts old.number ≡ Some q)
  has = let h = held_part before old.number put.tries.comes.stands.desk.part in (h.0, h.1)

  there : (r : CorePart) × (part_in between.parts old.number ≡ Some r)
  there = let h = held_part between old.number put.work.desk.part in (h.0, h.1)

  its_trx : (r : CorePart) → CoreExtends has.0 r → IsTrxOf old.work r put.tries.line trx.id trx.view
  its_trx r e =
      let t = put.tries in
      trx_of_more has.0 r e old.work t.line trx.id trx.view
      (is_trx_of g run old before number t.session t.line t.comes put.work.up trx t.stage has.0 has.1 (open_no_begin g run old before number t.session t.line t.comes put.work.up trx t.stage))

  its_target : is_some (target_of put.tries.line.stmt) ≡ true
  its_target = ap (λ (o : Option Target). is_some o) put.tries.writes

  extends_between : CoreExtends has.0 there.0
  extends_between = (made_this put.placed has.0 there.0 (moved (MakesThen put.placed) old.number before between put.made has.0 there.0 has.1 there.1)).extends

  supported : SupportsReply old.work there.0 0 its_trace put.tries.line (Wrote verb)
  supported = (trx.id, trx.view, its_trx there.0 extends_between, (key, mtr_of_put trx put.placed, put.tries.writes, refl, put.over there.0 there.1))

  -- ---- stopped

  pub may_stop : (first : Option Row) → MayStopWith old put.tries.line first before between its_trace
  may_stop first = record {
    stopped = λ r is. (
      inr (trx.id, trx.view, key, verb, mtr_of_put trx put.placed, its_trx r (made_this put.placed has.0 r (moved (MakesThen put.placed) old.number before between put.made has.0 r has.1 is)).extends, put.tries.writes, refl, put.over r is),
      put.fresh r is,
    );
    left = moves_as old.number (MakesThen put.placed) (LeavesAtMostOne put.tries.line first) (λ q r h.
        let m = made_this put.placed q r h in
        record { begun = m.begun; rows = m.rows; few = inr (its_target, (let count = ap (λ (l : List (Placed Mtr)). length l) m.made in omega (arith, count))) }) before between put.made;
    later = λ k q x is inside. put.later.above_made k q x is inside;
  }

  -- ---- answered

  module _ (n : NodeView) (gone : Moves HasLetGo old.number between n) (mid : PrimaryView D) (cleared : HasClearedDesk g run old mid before n its_trace) (first : Option Row) (keeps : KeepsFormer put.tries.session.formers.items key first) (from : (first ≡ None) ⊎ (first ≡ Some former))
      (book : Book) (books : IsBook old.work.lines old.work.sessions old.number book) (is : IsAnswered old.book book number put.tries.session put.tries.line (Wrote verb) put.tries.session.stage (with_former put.tries.session.formers.items first) put.tries.session.restored) where
    supported_then : (r : CorePart) → part_in n.parts old.number ≡ Some r → SupportsReply old.work r 0 its_trace put.tries.line (Wrote verb)
    supported_then r now = reply_more there.0 r (moved HasLetGo old.number between n gone there.0 r there.1 now).extends old.work 0 0 its_trace put.tries.line (Wrote verb) (inl refl) supported

    numbered : StandAtNumbers old.book.sessions.items
    numbered k x at = (put.tries.comes.stands.primary.book.each k x at).number_is

    restored_none : put.tries.session.restored ≡ 0
    restored_none = let t = put.tries in none_back g run old before number t.session t.line t.comes put.work.up trx t.stage

    goes_open : GoesOn put.tries.session is.after (Open trx) (with_former put.tries.session.formers.items first) 0
    goes_open = subst (λ (st : Stage). GoesOn put.tries.session is.after st (with_former put.tries.session.formers.items first) 0) put.tries.stage
        (subst (GoesOn put.tries.session is.after put.tries.session.stage (with_former put.tries.session.formers.items first)) restored_none is.goes)

    goes_same : GoesOn put.tries.session is.after (Open trx) (with_former put.tries.session.formers.items first) put.tries.session.restored
    goes_same = subst (λ (st : Stage). GoesOn put.tries.session is.after st (with_former put.tries.session.formers.items first) put.tries.session.restored) put.tries.stage is.goes

    no_begin : begins (stmt_in old.work.lines put.tries.session.number (put.tries.session.next + 1)) ≡ false
    no_begin =
        let t = put.tries in
        let at = found_here old.work.lines old.work.sessions old.number number old.book t.session t.line t.comes.stands.primary.book t.comes.next in
        let own : t.session.number ≡ number = numbered number t.session t.comes.next.found in
        let one : t.session.next + 1 ≡ suc t.session.next = omega arith in
        let here : line_at old.work.lines t.session.number (t.session.next + 1) ≡ Some t.line = ap (λ (k : ℕ). line_at old.work.lines k (t.session.next + 1)) own ∙ ap (line_at old.work.lines number) one ∙ at.found in
        ap (λ (o : Option Line). begins (option_map (λ (l : Line). l.stmt) o)) here ∙ open_no_begin g run old before number t.session t.line t.comes put.work.up trx t.stage

    writes : is_of_write old.work.lines is.answer ≡ true
    writes = let t = put.tries in of_write old.work.lines is.answer t.line (line_is g run old before n number t.session t.line t.comes is.answer is.session is.index) its_target

    sides : (entries : List Entry) (q r : CorePart) → part_in before.parts old.number ≡ Some q → part_in n.parts old.number ≡ Some r → PrimaryAgrees g old entries q → Did q r its_trace → HasSides old.work r book
    sides entries q r at now was did =
        let m = let_go_this put.placed q there.0 r (made_this put.placed q there.0 (moved (MakesThen put.placed) old.number before between put.made q there.0 at there.1)) (moved HasLetGo old.number between n gone there.0 r there.1 now) in
        let over = put.over there.0 there.1 in
        record {
          opens = subst (Opens old.work r 0) (sym is.sessions)
              (opens_put old.work q r 0 m.extends old.book.sessions.items number put.tries.session is.after put.tries.comes.next.found numbered (was.opens put.work.up) put.placed trx over.row former first m.begun m.rows m.made
              put.not_restored over.put over.writer put.kept put.tries.stage restored_none no_begin (subst (λ (k : ℕ). KeepsFormer put.tries.session.formers.items k first) (sym over.its_key) keeps) from goes_open);
          bounds = subst (λ (l : List Session). Bounds old.work r book.answers.items l) (sym is.sessions)
              (subst (λ (l : List Answer). Bounds old.work r l (slice_set old.book.sessions.items number is.after)) (sym is.answers)
              (bounds_put old.work q r m.extends old.book.answers.items old.book.sessions.items number put.tries.session is.after put.tries.comes.next.found was.bounds put.placed trx first is.answer m.made m.drew (ap trx_of_stage put.tries.stage) goes_same writes));
        }

    pub written_turn : TriesTurn g run old (record mid { book = book }) before n (Some number) turns.Answered
    written_turn = answered_up g run old before n number put.tries.session put.tries.line put.tries.comes old.book book mid books its_trace cleared (Wrote verb) put.tries.session.stage (with_former put.tries.session.formers.items first) put.tries.session.restored is
        (record {
          supported = supported_then;
          calm = refl;
          sides = sides;
          left = λ k q x at inside. put.later.above_made k q x at inside;
          begins = λ view e. absurd (not_began view e);
          draws = λ cts e. absurd (none_some cts e);
        }) put.tries.comes.inside
      where
        not_began : (view : ℕ) → Wrote verb ≡ Began view → ⊥
        not_began view e = cc

        none_some : (cts : ℕ) → ◌≡◌ {A = Option ℕ} None (Some cts) → ⊥
        none_some cts e = cc

-- the same of what a method sees inside, once the desk is cleared
module _ {D : Type 0} (g : Ghosts D) (run : Run) (old now : PrimaryView D) (before between : NodeView) (number : ℕ) (trx : Begun) (verb : WriteVerb) (key : ℕ) (former : Row) (put : HasPutRow g run old now before between number trx verb key former)
    (n : NodeView) (gone : Moves HasLetGo now.number between n) (inside cleared_view : PrimaryView D) (view : inside ≡ cleared_view) (cleared : HasClearedDesk g run old cleared_view before n (wrote_trace put.pages (mtr_of_put trx put.placed)))
    (first : Option Row) (keeps : KeepsFormer put.tries.session.formers.items key first) (from : (first ≡ None) ⊎ (first ≡ Some former)) where
  cleared_inside : HasClearedDesk g run old inside before n (wrote_trace put.pages (mtr_of_put trx put.placed))
  cleared_inside = subst (λ (v : PrimaryView D). HasClearedDesk g run old v before n (wrote_trace put.pages (mtr_of_put trx put.placed))) (sym view) cleared

  book_same : inside.book ≡ old.book
  book_same = ap (λ (v : PrimaryView D). v.book) cleared_inside.work.rest

  gone_old : Moves HasLetGo old.number between n
  gone_old = subst (λ (k : ℕ). Moves HasLetGo k between n) (ap (λ (v : PrimaryView D). v.number) put.work.rest) gone

  pub write_next : IsNext inside.book number put.tries.session put.tries.line
  write_next = record { found = ap (λ (b : Book). slice_get b.sessions.items number) book_same ∙ put.tries.comes.next.found; next = put.tries.comes.next.next }

  pub write_may : MayAnswer put.tries.session put.tries.line (Wrote verb) put.tries.session.stage (with_former put.tries.session.formers.items first) put.tries.session.restored
  write_may = (key, first, (trx, put.tries.stage), put.tries.writes, keeps, refl, refl, refl)

  pub write_spare : MatchOption first (Unit {0}) (λ row. 0 < put.tries.session.formers.spare)
  write_spare = go first
    where
      go : (o : Option Row) → MatchOption o (Unit {0}) (λ row. 0 < put.tries.session.formers.spare)
      go None = tt
      go (Some row) = (put.tries.comes.room.in_session put.tries.session put.tries.comes.next.found).0

  pub write_room : 0 < inside.book.answers.spare
  write_room = subst (λ (b : Book). 0 < b.answers.spare) (sym book_same) put.tries.comes.room.answer

  pub write_turn : (book : Book) → ((s : Session) (line : Line) → IsNext inside.book number s line → IsAnswered inside.book book number s line (Wrote verb) s.stage (with_former s.formers.items first) s.restored)
      → ((lines : List Line) (sessions : List SessionOn) (primary : ℕ) → IsBook lines sessions primary inside.book → (is_stopped (Wrote verb) ≡ true) ⊎ NoneShowsDown inside.book.answers.items → IsBook lines sessions primary book)
      → TriesTurn g run old (record inside { book = book }) before n (Some number) turns.Answered
  write_turn book answered books =
      written_turn g run old now before between number trx verb key former put n gone_old inside cleared_inside first keeps from book
      (books old.work.lines old.work.sessions old.number (subst (λ (b : Book). IsBook old.work.lines old.work.sessions old.number b) (sym book_same) put.tries.comes.stands.primary.book)
      (inr (subst (λ (b : Book). NoneShowsDown b.answers.items) (sym book_same) (none_down_before g run old before before number put.tries.session put.tries.line put.tries.comes put.work.up))))
      (subst (λ (b : Book). IsAnswered b book number put.tries.session put.tries.line (Wrote verb) put.tries.session.stage (with_former put.tries.session.formers.items first) put.tries.session.restored) book_same (answered put.tries.session put.tries.line write_next))
