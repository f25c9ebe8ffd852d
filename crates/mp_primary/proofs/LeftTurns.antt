-- A turn of an open transaction: its statement is no `begin`; and where it is its `rollback`, the transaction is left first.
use Rattle.std.proofs.Common.{◌≡◌, ℕ, ◌<◌, true, List, slice_get, Option, Some, IfSome, sym, ap, subst, ◌∙◌}
use Rattle.mp_model.specs.declared.list.Items.{Items}
use Rattle.mp_model.specs.declared.replies.Answer.{Answer}
use Rattle.mp_model.specs.declared.waiting.Turn.{Turn}
use Rattle.mp_script.specs.declared.statements.Line.{Line}
use Rattle.mp_script.specs.declared.statements.SessionOn.{SessionOn}
use Rattle.mp_script.specs.declared.statements.Stmt.{Stmt}
use Rattle.mp_script.specs.declared.statements.Stmt.TheVariants.{Begin}
use Rattle.mp_script.specs.Spelling.{MayStand}
use Rattle.mp_core_trx.specs.declared.part.Begun.{Begun}
use Rattle.mp_book.specs.declared.book.Book.{Book}
use Rattle.mp_book.specs.declared.session.Session.{Session}
use Rattle.mp_book.specs.declared.stage.Stage.TheVariants.{Open, Leaving, Outside}
use Rattle.mp_book.specs.Answered.{execution_above, NoneShowsDown}
use Rattle.mp_book.specs.Books.{IsBook, SetsSession, StageStands}
use Rattle.mp_outside.specs.declared.disks.Disk.{Ghosts}
use Rattle.mp_shared.specs.Nodes.{Run, NodeView}
use Rattle.mp_shared.proofs.Holding.{held_part}
use Rattle.mp_primary.specs.Primaries.{PrimaryView, StandsWith}
use Rattle.mp_primary.specs.Turns.{ComesTo, TriesAt, IsTakenBack}
use Rattle.mp_primary.specs.Tries.{TriesTurn}
use Rattle.mp_primary.proofs.OpenSessions.{one_of}
use Rattle.mp_primary.proofs.AnsweredTurns.{calm}
use Rattle.mp_primary.proofs.SameSessions.{StandsAsBefore, here, next_on, same_stands, same_turn}
use Rattle.mp_primary.proofs.RoomedTurns.{left}
use Rattle.mp_primary.proofs.StillInTurns.{leaving_in}

leaving_not_outside : (trx : Begun) (other : Option Begun) → Leaving trx ≡ Outside other → ⊥
leaving_not_outside trx other e = cc

module _ {D : Type 0} (g : Ghosts D) (run : Run) where
  -- of a primary that is up no answer shows it down
  pub calm_book : (pr : PrimaryView D) (n : NodeView) → StandsWith g run pr n → pr.down ≡ 0 → NoneShowsDown pr.book.answers.items
  calm_book pr n stands up =
      let h = held_part n pr.number stands.desk.part in
      let was = stands.agrees.1 h.0 h.1 in
      subst NoneShowsDown was.answers (calm stands.agrees.0 (was.kept.up up))

  -- no transaction is begun in an open one
  pub no_begin : (pr : PrimaryView D) (n : NodeView) (number : ℕ) (trx : Begun) (stmt : Stmt) → TriesAt g run pr n number trx stmt → stmt ≡ Begin → ⊥
  no_begin pr n number trx stmt tries begins =
      let s = tries.session in
      let book = tries.comes.stands.primary.book in
      let stands = (book.each number s tries.comes.next.found).stage (calm_book pr n tries.comes.stands tries.up) in
      let opened : StageStands (execution_above pr.work.lines pr.work.sessions pr.book.answers.items) pr.number number s (Open trx) = subst (StageStands (execution_above pr.work.lines pr.work.sessions pr.book.answers.items) pr.number number s) tries.stage stands in
      let fits : MayStand true tries.line.stmt = subst (λ (o : Option Line). IfSome o (λ l. MayStand true l.stmt)) tries.comes.next.next opened.0.next_fits in
      subst (MayStand true) (tries.stmt_is ∙ begins) fits

  module _ (old : PrimaryView D) (n : NodeView) (number : ℕ) (trx : Begun) (stmt : Stmt) (tries : TriesAt g run old n number trx stmt) (book : Book) where
    abbrev after : Session
    after = record (tries.session) { stage = Leaving trx }

    module _ (set : SetsSession old.book book number after) (is_book : IsBook old.work.lines old.work.sessions old.number book) where
      as_before : StandsAsBefore old.work old.book book number tries.session after
      as_before = left old.work old.book book number tries.session tries.line trx tries.comes.next.found tries.comes.next.next tries.stage set

      left_comes : ComesTo g run (record old { book = book }) n number after tries.line
      left_comes = record {
        stands = same_stands g old book number tries.session after as_before run n is_book tries.comes.stands;
        next = next_on g old book number tries.session after as_before tries.line tries.comes.next;
        inside = leaving_in trx;
        room = record {
          answer = subst (λ (a : Items Answer). 0 < a.spare) (sym set.answers) tries.comes.room.answer;
          in_session = λ x there.
              let same = one_of (slice_get book.sessions.items number) after x (here g old book number tries.session after as_before) there in
              subst (λ (v : Session). (0 < v.formers.spare) × (0 < v.waits.spare)) (sym same) (tries.comes.room.in_session tries.session tries.comes.next.found);
        };
      }

-- the same, of what a method sees inside
module _ {D : Type 0} (g : Ghosts D) (run : Run) (inside old : PrimaryView D) (view : inside ≡ old) (n : NodeView) (number : ℕ) (trx : Begun) (stmt : Stmt) (tries : TriesAt g run old n number trx stmt) (book : Book)
    (sets : (s : Session) → slice_get inside.book.sessions.items number ≡ Some s → SetsSession inside.book book number (record s { stage = Leaving trx })) (books : (lines : List Line) (sessions : List SessionOn) (primary : ℕ) → IsBook lines sessions primary inside.book → IsBook lines sessions primary book) where
  tries_inside : TriesAt g run inside n number trx stmt
  tries_inside = subst (λ (v : PrimaryView D). TriesAt g run v n number trx stmt) (sym view) tries

  set_inside : SetsSession inside.book book number (record (tries_inside.session) { stage = Leaving trx })
  set_inside = sets tries_inside.session tries_inside.comes.next.found

  book_inside : IsBook inside.work.lines inside.work.sessions inside.number book
  book_inside = books inside.work.lines inside.work.sessions inside.number tries_inside.comes.stands.primary.book

  pub comes_left : (s : Session) × (line : Line) × ComesTo g run (record inside { book = book }) n number s line × IsTakenBack s.stage
  comes_left = (
    record (tries_inside.session) { stage = Leaving trx },
    tries_inside.line,
    left_comes g run inside n number trx stmt tries_inside book set_inside book_inside,
    (tt, λ other e. leaving_not_outside trx other e),
  )

  pub up_left : old.down ≡ 0 → inside.down ≡ 0
  up_left up = ap (λ (v : PrimaryView D). v.down) view ∙ up

  pub turn_left : (new : PrimaryView D) (now : NodeView) (turn : Turn) → TriesTurn g run (record inside { book = book }) new n now (Some number) turn → TriesTurn g run old new n now (Some number) turn
  turn_left new now turn h =
      subst (λ (v : PrimaryView D). TriesTurn g run v new n now (Some number) turn) view
      (same_turn g inside book number tries_inside.session (record (tries_inside.session) { stage = Leaving trx })
      (as_before g run inside n number trx stmt tries_inside book set_inside book_inside) run new n now set_inside.answers turn h)
