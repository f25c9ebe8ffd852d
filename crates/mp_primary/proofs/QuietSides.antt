-- The sessions and the counts agree with the part still where it stayed quiet, and where a read was answered besides.
use Rattle.std.proofs.Common.{◌≡◌, ℕ, suc, ◌+◌, ◌≤◌, Bool, false, List, [], ◌∷◌, ◌++◌, length, drop, slice_get, slice_set, Option, Some, IfSome, if◌then◌else◌, refl, sym, ap, subst, ◌∙◌, arith, length-append}
use Rattle.std.specs.Option.{option_map}
use Rattle.mp_machine.specs.View.{part_in}
use Rattle.mp_model.specs.declared.ids.TrxName.{TrxName}
use Rattle.mp_model.specs.declared.replies.Answer.{Answer}
use Rattle.mp_model.specs.declared.replies.Reply.{Reply}
use Rattle.mp_model.specs.declared.waiting.Cause.{Cause}
use Rattle.mp_model.specs.declared.waiting.Cause.TheVariants.{Word, Writer, Prep}
use Rattle.mp_model.specs.declared.waiting.Turn.TheVariants as turns
use Rattle.mp_script.specs.declared.statements.Line.{Line}
use Rattle.mp_script.specs.Execution.{line_at, stmt_in}
use Rattle.mp_script.specs.Transactions.{begins, begin_in, trx_in_lines}
use Rattle.mp_cells.specs.declared.records.Mtr.{Mtr}
use Rattle.mp_cells.specs.declared.rows.Row.{Row}
use Rattle.mp_cells.specs.Trees.{row_at}
use Rattle.mp_core_pages.specs.declared.part.Placed.{Placed}
use Rattle.mp_core_trx.specs.declared.part.Begun.{Begun}
use Rattle.mp_core_trx.specs.declared.part.Draw.{Draw}
use Rattle.mp_core.specs.declared.part.CorePart.{CorePart}
use Rattle.mp_core.specs.CoreExtends.{CoreExtends}
use Rattle.mp_book.specs.declared.book.Book.{Book}
use Rattle.mp_book.specs.declared.session.Session.{Session}
use Rattle.mp_book.specs.declared.stage.Stage.{Stage}
use Rattle.mp_book.specs.declared.stage.Stage.TheVariants.{Open}
use Rattle.mp_book.specs.Stages.{next_line, trx_of_stage}
use Rattle.mp_book.specs.Books.{IsAnswered}
use Rattle.mp_outside.specs.declared.disks.Disk.{Ghosts}
use Rattle.mp_shared.specs.Nodes.{Run, NodeView}
use Rattle.mp_supports.specs.Kept.{Entry}
use Rattle.mp_supports.specs.Agreement.{IsOpenAs, RefusalSupported, Opens, Bounds, rows_left, rows_left_by}
use Rattle.mp_supports.proofs.BoundSteps.{bounds_answered}
use Rattle.mp_supports.proofs.Places.{at_place}
use Rattle.mp_supports.proofs.Unchanged.{opens_same, bounds_kept}
use Rattle.mp_desk.specs.Desks.{Moves}
use Rattle.mp_desk.specs.Statements.{StaysQuiet}
use Rattle.mp_primary.specs.Primaries.{PrimaryView, PrimaryAgrees}
use Rattle.mp_primary.specs.Turns.{ComesTo, NamesWait, WaitsFor}
use Rattle.mp_primary.proofs.OpenSessions.{one_of, waits_ended, opens_set}
use Rattle.mp_primary.proofs.AnsweredTurns.{found_here}
use Rattle.mp_primary.proofs.TurnEnds.{moved, HasSides, IsRightWait}

-- the transaction of a statement that doesn't begin one is that of the statement before it
pub named_on : (lines : List Line) (session index next : ℕ) (line : Line) → next ≡ index + 1
    → line_at lines session (suc index) ≡ Some line → begins (Some line.stmt) ≡ false
    → trx_in_lines lines session next ≡ trx_in_lines lines session index
named_on lines session index next line is at no_begin =
    let up : next ≡ suc index = omega (arith, is) in
    let stmt : stmt_in lines session (suc index) ≡ Some line.stmt = ap (λ (o : Option Line). option_map (λ (l : Line). l.stmt) o) at in
    let none_begun : begins (stmt_in lines session (suc index)) ≡ false = ap begins stmt ∙ no_begin in
    ap (λ (i : ℕ). trx_in_lines lines session i) up
    ∙ ap (λ (b : Bool). record { session = session; first = if b then suc index else begin_in lines session index }) none_begun

-- no fewer timestamps were drawn
pub drew_more : (q r : CorePart) → CoreExtends q r → length q.trx.drew ≤ length r.trx.drew
drew_more q r e =
    let drawn : length r.trx.drew ≡ length (e.trx.more_drawn.0 ++ q.trx.drew) = ap (λ (l : List Draw). length l) e.trx.more_drawn.1 in
    let sum : length (e.trx.more_drawn.0 ++ q.trx.drew) ≡ length e.trx.more_drawn.0 + length q.trx.drew =
    length-append e.trx.more_drawn.0 q.trx.drew in
    omega (arith, drawn, sum)

module _ {D : Type 0} (g : Ghosts D) (run : Run) (old : PrimaryView D) (before n : NodeView) (number : ℕ) (s : Session) (line : Line)
    (comes : ComesTo g run old before number s line) (up : old.down ≡ 0) (quiet : Moves StaysQuiet old.number before n) where
  module _ (entries : List Entry) (q r : CorePart) (has : part_in before.parts old.number ≡ Some q)
      (there : part_in n.parts old.number ≡ Some r) (was : PrimaryAgrees g old entries q) where
    pub still : StaysQuiet q r
    still = moved StaysQuiet old.number before n quiet q r has there

    -- with the sessions as they were
    pub quiet_opens : Opens old.work r 0 old.book.sessions.items
    quiet_opens = opens_same old.work q r 0 still.extends still.begun still.rows still.made old.book.sessions.items (was.opens up)

    pub quiet_bounds : Bounds old.work r old.book.answers.items old.book.sessions.items
    quiet_bounds = bounds_kept q r still.extends old.work old.book.answers.items old.book.sessions.items still.made was.bounds

    pub quiet_sides : HasSides old.work r old.book
    quiet_sides = record { opens = quiet_opens; bounds = quiet_bounds }

    -- a read of an open transaction was answered
    module _ (book : Book) (trx : Begun) (stage : s.stage ≡ Open trx) (no_begin : begins (Some line.stmt) ≡ false) (reply : Reply)
        (is : IsAnswered old.book book number s line reply s.stage s.formers.items s.restored) where
      found : slice_get old.book.sessions.items number ≡ Some s
      found = comes.next.found

      trx_then : trx_of_stage is.after.stage ≡ Some trx
      trx_then = ap trx_of_stage (is.goes.stage_is ∙ stage)

      name_then : trx_in_lines old.work.lines is.after.number is.after.next ≡ trx_in_lines old.work.lines s.number s.next
      name_then =
          let at = found_here old.work.lines old.work.sessions old.number number old.book s line comes.stands.primary.book comes.next in
          let here : number ≡ s.number = sym (comes.stands.primary.book.each number s found).number_is in
          ap (λ (k : ℕ). trx_in_lines old.work.lines k is.after.next) is.goes.number
          ∙ named_on old.work.lines s.number s.next is.after.next line is.goes.next
          (ap (λ (k : ℕ). line_at old.work.lines k (suc s.next)) (sym here) ∙ at.found) no_begin

      left_then : (k : ℕ) → drop is.after.restored is.after.formers.items ≡ drop s.restored s.formers.items
      left_then k = ap (λ (i : ℕ). drop i is.after.formers.items) is.goes.restored_is
          ∙ ap (λ (l : List Row). drop s.restored l) is.goes.formers_are

      open_then : IsOpenAs old.work r 0 s trx → IsOpenAs old.work r 0 is.after trx
      open_then h = record {
        begun = h.begun;
        named = h.named ∙ sym (ap (λ (name : TrxName). Some name) name_then);
        active = h.active;
        formers = λ key. h.formers key ∙ sym (ap (λ (l : List Row). row_at key l) (left_then 0));
        whole = λ none. h.whole (sym is.goes.restored_is ∙ none);
      }

      its_open : IsOpenAs old.work r 0 s trx
      its_open = subst (λ (o : Option Begun). IfSome o (IsOpenAs old.work r 0 s)) (ap trx_of_stage stage)
          (quiet_opens.each s (at_place old.book.sessions.items number s found))

      rows_then : rows_left is.after ≤ rows_left s
      rows_then =
          let after : rows_left is.after ≡ length (drop is.after.restored is.after.formers.items) =
          ap (λ (o : Option Begun). rows_left_by o is.after) trx_then in
          let first : rows_left s ≡ length (drop s.restored s.formers.items) =
          ap (λ (o : Option Begun). rows_left_by o s) (ap trx_of_stage stage) in
          let same : length (drop is.after.restored is.after.formers.items) ≡ length (drop s.restored s.formers.items) =
          ap (λ (l : List Row). length l) (left_then 0) in
          omega (arith, after, first, same)

      pub looked_sides : HasSides old.work r book
      looked_sides = record {
        opens = subst (Opens old.work r 0) (sym is.sessions)
            (opens_set old.work r old.book.sessions.items number s is.after found (trx_then ∙ sym (ap trx_of_stage stage))
            (subst (λ (o : Option Begun). IfSome o (IsOpenAs old.work r 0 is.after)) (sym trx_then) (open_then its_open))
            (waits_ended old.work r is.after is.goes.waits)
            (subst (λ (t : Stage). RefusalSupported old.work r 0 t (next_line is.after)) (sym (is.goes.stage_is ∙ stage)) tt)
            quiet_opens);
        bounds = subst (λ (l : List Session). Bounds old.work r book.answers.items l) (sym is.sessions)
            (subst (λ (l : List Answer). Bounds old.work r l (slice_set old.book.sessions.items number is.after)) (sym is.answers)
            (bounds_answered old.work q r still.extends old.book.answers.items old.book.sessions.items number s is.after found was.bounds
            (is.answer ∷ [])
            (ap (λ (l : List (Placed Mtr)). length l) still.made) (drew_more q r still.extends) rows_then));
      }

  same_waits : (mid : PrimaryView D) → mid.book ≡ old.book → (x y : Session) → slice_get old.book.sessions.items number ≡ Some x
      → slice_get mid.book.sessions.items number ≡ Some y → y.waits.items ≡ x.waits.items
  same_waits mid same x y a b =
      ap (λ (v : Session). v.waits.items)
      (one_of (slice_get old.book.sessions.items number) x y a (ap (λ (k : Book). slice_get k.sessions.items number) (sym same) ∙ b))

  -- a wait for a word, or for a commit in its midst, which the book doesn't note
  pub plain_wait : (mid : PrimaryView D) → mid.book ≡ old.book → (cause : Cause) → ((name : TrxName) → cause ≡ Writer name → ⊥)
      → WaitsFor old number before n cause → IsRightWait g old before n number cause mid
  plain_wait mid same cause no_writer waits = record {
    answers = ap (λ (k : Book). k.answers) same;
    sides = λ entries q r has there was. subst (HasSides old.work r) (sym same) (quiet_sides entries q r has there was);
    others = λ other ne. ap (λ (k : Book). slice_get k.sessions.items other) same;
    named = names cause no_writer;
    may_go_on = record { session = s; found = ap (λ (k : Book). slice_get k.sessions.items number) same ∙ comes.next.found; inside = comes.inside };
    waits = waits;
  }
    where
      names : (c : Cause) → ((name : TrxName) → c ≡ Writer name → ⊥) → NamesWait old mid number (turns.Waiting c)
      names (Word wait) unwritten = same_waits mid same
      names (Prep name) unwritten = same_waits mid same
      names (Writer name) unwritten = absurd (unwritten name refl)
