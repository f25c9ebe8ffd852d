-- A statement is stopped, since its primary went down in this turn.
use Rattle.std.proofs.Common.{◌≡◌, ◌≢◌, ℕ, ◌+◌, ◌*◌, ◌<◌, ◌≤◌, ◌⊎◌, Bool, true, false, List, [], ◌∷◌, ◌++◌, length, drop, count_by, slice_set, Option, None, Some, is_some, MatchOption, refl, sym, ap, subst, ◌∙◌, inl, inr, arith, cond}
use Rattle.std.specs.Option.{option_map}
use Rattle.std.proofs.lemmas.List.Sums.{sum_by-append, sum_by-cons}
use Rattle.mp_machine.specs.Lists.{IsIn}
use Rattle.mp_machine.specs.View.{part_in}
use Rattle.mp_model.specs.declared.replies.Answer.{Answer}
use Rattle.mp_model.specs.declared.replies.Reply.{Reply}
use Rattle.mp_model.specs.declared.replies.Reply.TheVariants.{Began, Skipped, Stopped}
use Rattle.mp_model.specs.declared.waiting.Turn.TheVariants as turns
use Rattle.mp_script.specs.declared.statements.Line.{Line}
use Rattle.mp_script.specs.declared.statements.SessionOn.{SessionOn}
use Rattle.mp_script.specs.declared.statements.Stmt.{Stmt}
use Rattle.mp_script.specs.declared.statements.Stmt.TheVariants.{Begin, Get, Put, Del, Copy, Scan, Commit, Rollback}
use Rattle.mp_script.specs.Execution.{line_at}
use Rattle.mp_script.specs.Transactions.{target_of, target_key}
use Rattle.mp_script.specs.WentDown.{is_stopped}
use Rattle.mp_cells.specs.declared.records.Mtr.{Mtr}
use Rattle.mp_cells.specs.declared.rows.Row.{Row}
use Rattle.mp_core_pages.specs.declared.part.Placed.{Placed}
use Rattle.mp_core_trx.specs.declared.opening.TrxOpening.{TrxOpening}
use Rattle.mp_core_trx.specs.declared.part.Begun.{Begun}
use Rattle.mp_core_trx.specs.declared.slot.SlotTag.TheVariants.{Active, Prep}
use Rattle.mp_core_trx.specs.Parts.{HasBegun, Shows}
use Rattle.mp_core.specs.declared.part.CorePart.{CorePart}
use Rattle.mp_core.specs.CoreExtends.{CoreExtends}
use Rattle.mp_book.specs.declared.book.Book.{Book}
use Rattle.mp_book.specs.declared.session.Session.{Session}
use Rattle.mp_book.specs.Stages.{trx_of_stage, with_former}
use Rattle.mp_book.specs.Answered.{NoneShowsDown}
use Rattle.mp_book.specs.Books.{IsBook, IsNext, IsAnswered, MayAnswer, stage_after}
use Rattle.mp_outside.specs.declared.disks.Disk.{Ghosts}
use Rattle.mp_shared.specs.Nodes.{Run, NodeView}
use Rattle.mp_shared.proofs.Holding.{held_part}
use Rattle.mp_supports.specs.Supports.{Trace, no_trace}
use Rattle.mp_supports.specs.Kept.{Entry, Did}
use Rattle.mp_supports.specs.Agreement.{is_of_write, Bounds, rows_left, rows_left_by}
use Rattle.mp_supports.proofs.Places.{sum_set, drop_one_more}
use Rattle.mp_desk.specs.Desks.{Moves}
use Rattle.mp_desk.specs.Statements.{StaysQuiet}
use Rattle.mp_desk.proofs.MediaMoved.{not_zero}
use Rattle.mp_desk.proofs.Moving.{moves_as}
use Rattle.mp_primary.specs.Primaries.{PrimaryView, AreSessions, PrimaryAgrees}
use Rattle.mp_primary.specs.Turns.{ComesTo}
use Rattle.mp_primary.specs.Tries.{TriesTurn}
use Rattle.mp_primary.specs.AtWork.{HasGoneDown, LeavesAtMostOne, MayStopWith}
use Rattle.mp_primary.proofs.OpenSessions.{sessions_set}
use Rattle.mp_primary.proofs.QuietSides.{drew_more}
use Rattle.mp_primary.proofs.TurnEnds.{moved, line_is, answered_down}

-- a statement that made nothing may be stopped
quiet_leaves : (line : Line) (q r : CorePart) → StaysQuiet q r → LeavesAtMostOne line None q r
quiet_leaves line q r h = record { begun = h.begun; rows = h.rows; few = inl (refl, h.made) }

pub quiet_stop : {D : Type 0} (old : PrimaryView D) (line : Line) (before n : NodeView) → Moves StaysQuiet old.number before n
    → MayStopWith old line None before n no_trace
quiet_stop old line before n quiet = record {
  stopped = λ r there. (inl refl, tt);
  left = moves_as old.number StaysQuiet (LeavesAtMostOne line None) (quiet_leaves line) before n quiet;
  later = tt;
}

-- ---- the counts

false_true : false ≡ true → ⊥
false_true e = cc

key_of : (stmt : Stmt) → is_some (target_of stmt) ≡ true → is_some (target_key (Some stmt)) ≡ true
key_of Begin is = absurd (false_true is)
key_of (Get key) is = absurd (false_true is)
key_of (Put key value) is = refl
key_of (Del key) is = refl
key_of (Copy from to) is = refl
key_of (Scan low most) is = absurd (false_true is)
key_of Commit is = absurd (false_true is)
key_of Rollback is = absurd (false_true is)

-- an answer to a write is one
pub of_write : (lines : List Line) (a : Answer) (line : Line) → line_at lines a.session a.index ≡ Some line
    → is_some (target_of line.stmt) ≡ true → is_of_write lines a ≡ true
of_write lines a line at is = ap (λ (o : Option Line). is_some (target_key (option_map (λ (l : Line). l.stmt) o))) at ∙ key_of line.stmt is

abbrev one_if : Bool → ℕ
one_if b = cond b 1 0

counted : (test : Answer → Bool) (answers : List Answer) (a : Answer)
    → count_by test (answers ++ a ∷ []) ≡ count_by test answers + one_if (test a)
counted test answers a =
    let sum : count_by test (answers ++ a ∷ []) ≡ count_by test answers + count_by test (a ∷ []) =
    sum_by-append (λ (x : Answer). cond (test x) 1 0) answers (a ∷ []) in
    let one : count_by test (a ∷ []) ≡ one_if (test a) + 0 = sum_by-cons (λ (x : Answer). one_if (test x)) a [] in
    omega (arith, sum, one)

-- a row more at most, where one was replaced first
one_more_row : (formers : List Row) (k : ℕ) (o : Option Row)
    → length (drop k (with_former formers o)) ≤ length (drop k formers) + one_if (is_some o)
one_more_row formers k None = omega arith
one_more_row formers k (Some row) = drop_one_more formers k row

module _ {D : Type 0} (g : Ghosts D) (run : Run) (old : PrimaryView D) (before n : NodeView) (number : ℕ) (s : Session) (line : Line)
    (comes : ComesTo g run old before number s line) (former : Option Row) (trace : Trace)
    (may : MayStopWith old line former before n trace)
    (book : Book) (reply : Reply)
    (is : IsAnswered old.book book number s line reply s.stage (with_former s.formers.items former) s.restored) where
  trx_same : trx_of_stage is.after.stage ≡ trx_of_stage s.stage
  trx_same = ap trx_of_stage is.goes.stage_is

  rows_more : rows_left is.after ≤ rows_left s + one_if (is_some former)
  rows_more = go (trx_of_stage s.stage) refl
    where
      go : (o : Option Begun) → trx_of_stage s.stage ≡ o → rows_left is.after ≤ rows_left s + one_if (is_some former)
      go None none = let zero : rows_left is.after ≡ 0 =
          ap (λ (o : Option Begun). rows_left_by o is.after) (trx_same ∙ none) in omega (arith, zero)
      go (Some trx) some =
          let after : rows_left is.after ≡ length (drop is.after.restored is.after.formers.items) =
          ap (λ (o : Option Begun). rows_left_by o is.after) (trx_same ∙ some) in
          let first : rows_left s ≡ length (drop s.restored s.formers.items) = ap (λ (o : Option Begun). rows_left_by o s) some in
          let are : length (drop is.after.restored is.after.formers.items) ≡ length (drop s.restored (with_former s.formers.items former)) =
          ap (λ (i : ℕ). length (drop i is.after.formers.items)) is.goes.restored_is
          ∙ ap (λ (l : List Row). length (drop s.restored l)) is.goes.formers_are in
          let more = one_more_row s.formers.items s.restored former in
          omega (arith, after, first, are, more)

  module _ (entries : List Entry) (q r : CorePart) (has : part_in before.parts old.number ≡ Some q)
      (there : part_in n.parts old.number ≡ Some r) (was : PrimaryAgrees g old entries q) where
    left : LeavesAtMostOne line former q r
    left = moved (LeavesAtMostOne line former) old.number before n may.left q r has there

    stop_sessions : AreSessions r book.sessions.items
    stop_sessions =
        let kept : AreSessions r old.book.sessions.items = λ b began opened.
        was.sessions b (subst (λ (l : List Begun). IsIn b l) left.begun began) (
          subst (λ (l : List Begun). HasBegun l b.id) left.begun opened.0,
          subst
              (λ l. Shows l b.id Active ⊎ Shows l b.id Prep) left.rows opened.1,
        ) in
        subst (AreSessions r) (sym is.sessions)
        (sessions_set old.work r old.book.sessions.items number s is.after comes.next.found trx_same kept)

    -- what was made more, with the row that may be put back, is at most two where a write is answered
    few_more : length r.pages.made + one_if (is_some former) ≤ length q.pages.made + 2 * one_if (is_of_write old.work.lines is.answer)
    few_more = elim left.few [
      | inl none ↦
          let same : length r.pages.made ≡ length q.pages.made = ap (λ (l : List (Placed Mtr)). length l) none.1 in
          let no_row : one_if (is_some former) ≡ 0 = ap (λ (o : Option Row). one_if (is_some o)) none.0 in
          omega (arith, same, no_row)
      | inr one ↦
          let writes : one_if (is_of_write old.work.lines is.answer) ≡ 1 =
          ap one_if (of_write old.work.lines is.answer line
          (line_is g run old before n number s line comes is.answer is.session is.index) one.0) in
          let more = one.1 in
          let most = at_most_one (is_some former) in
          omega (arith, writes, more, most)
    ]
      where
        at_most_one : (b : Bool) → one_if b ≤ 1
        at_most_one true = omega arith
        at_most_one false = omega arith

    stop_bounds : CoreExtends q r → Bounds old.work r book.answers.items book.sessions.items
    stop_bounds e =
        subst (λ (l : List Session). Bounds old.work r book.answers.items l) (sym is.sessions)
        (subst (λ (l : List Answer). Bounds old.work r l (slice_set old.book.sessions.items number is.after)) (sym is.answers)
        (record {
          base = ap (λ (o : TrxOpening). o.base) e.trx.same_opening ∙ was.bounds.base;
          begins = let same = ap (λ (o : TrxOpening). o.begins) e.trx.same_opening in let few =
              was.bounds.begins in omega (arith, same, few);
          few = was.bounds.few;
          mtrs =
              let sum = sum_set rows_left old.book.sessions.items number is.after s comes.next.found in
              let count = counted (is_of_write old.work.lines) old.book.answers.items is.answer in
              let old_mtrs = was.bounds.mtrs in
              let more = few_more in
              let rows = rows_more in
              let drew = drew_more q r e in
              omega (arith, sum, count, old_mtrs, more, rows, drew);
        }))

module _ {D : Type 0} (g : Ghosts D) (run : Run) (old : PrimaryView D) (before n : NodeView) (number : ℕ) (s : Session) (line : Line)
    (comes : ComesTo g run old before number s line) (former : Option Row) (trace : Trace)
    (may : MayStopWith old line former before n trace)
    (mid : PrimaryView D) (gone : HasGoneDown g run old mid before n trace) (book : Book) where
  -- the statement is answered `stopped`
  pub stopped_down : IsAnswered old.book book number s line (Stopped old.number) s.stage (with_former s.formers.items former) s.restored
      → IsBook old.work.lines old.work.sessions old.number book
      → TriesTurn g run old (record mid { book = book }) before n (Some number) turns.Answered
  stopped_down is books =
      answered_down g run old before n number s line comes old.book book mid books trace gone (Stopped old.number) s.stage
      (with_former s.formers.items former) s.restored is
      (record {
        supported = λ r there. (refl, some, (may.stopped r there).0);
        in_doubt = λ r there. (may.stopped r there).1;
        sessions = stop_sessions g run old before n number s line comes former trace may book (Stopped old.number) is;
        bounds = λ entries q r has there was.
            stop_bounds g run old before n number s line comes former trace may book (Stopped old.number) is entries q r has there was
            (moved (λ a c. Did a c trace) old.number before n gone.did q r has there).extends;
        left = may.later;
        no_begin = λ view e. stopped_not_began view e;
        draws = λ cts e. absurd (none_some cts e);
        not_skipped = stopped_not_skipped;
        tells = (refl, some);
      }) comes.inside
    where
      some : old.number ≢ 0
      some = not_zero old.number (held_part n old.number gone.desk.part).2.0

      stopped_not_began : (view : ℕ) → Stopped old.number ≡ Began view → ⊥
      stopped_not_began view e = cc

      stopped_not_skipped : Stopped old.number ≡ Skipped → ⊥
      stopped_not_skipped e = cc

      none_some : (cts : ℕ) → ◌≡◌ {A = Option ℕ} None (Some cts) → ⊥
      none_some cts e = cc

-- ---- of what a method sees inside

row_room : (o : Option Row) (spare : ℕ) → 0 < spare → MatchOption o (Unit {0}) (λ row. 0 < spare)
row_room None spare room = tt
row_room (Some row) spare room = room

module _ {D : Type 0} (g : Ghosts D) (run : Run) (old view now : PrimaryView D) (same : view ≡ now) (before n : NodeView) (trace : Trace)
    (number : ℕ) (s : Session) (line : Line) (comes : ComesTo g run old before number s line)
    (gone_now : HasGoneDown g run old now before n trace) where
  gone_inside : HasGoneDown g run old view before n trace
  gone_inside = subst (λ (v : PrimaryView D). HasGoneDown g run old v before n trace) (sym same) gone_now

  book_is : view.book ≡ old.book
  book_is = ap (λ (v : PrimaryView D). v.book) gone_inside.rest

  next_inside : IsNext view.book number s line
  next_inside = subst (λ (b : Book). IsNext b number s line) (sym book_is) comes.next

  pub stop_next : (former : Option Row) → (x : Session) × (l : Line) × IsNext view.book number x l
      × MayAnswer x l (Stopped view.down) (stage_after x.stage l.stmt (Stopped view.down)) (with_former x.formers.items former) x.restored
      × MatchOption former (Unit {0}) (λ row. 0 < x.formers.spare)
  stop_next former = (
    s,
    line,
    next_inside,
    (former, refl, refl, refl),
    row_room former s.formers.spare
        (comes.room.in_session s comes.next.found).0,
  )

  pub stop_room : 0 < view.book.answers.spare
  stop_room = subst (λ (b : Book). 0 < b.answers.spare) (sym book_is) comes.room.answer

  pub stop_here : (former : Option Row) (book : Book)
      → ((x : Session) (l : Line) → IsNext view.book number x l
      → IsAnswered view.book book number x l (Stopped view.down) (stage_after x.stage l.stmt (Stopped view.down))
      (with_former x.formers.items former) x.restored)
      → ((lines : List Line) (sessions : List SessionOn) (primary : ℕ) → IsBook lines sessions primary view.book
      → (is_stopped (Stopped view.down) ≡ true) ⊎ NoneShowsDown view.book.answers.items → IsBook lines sessions primary book)
      → MayStopWith old line former before n trace → TriesTurn g run old (record view { book = book }) before n (Some number) turns.Answered
  stop_here former book answered books may =
      stopped_down g run old before n number s line comes former trace may view gone_inside book
      (subst (λ (v : PrimaryView D). IsAnswered v.book book number s line (Stopped v.down) s.stage
      (with_former s.formers.items former) s.restored) gone_inside.rest (answered s line next_inside))
      (books old.work.lines old.work.sessions old.number
      (subst (λ (b : Book). IsBook old.work.lines old.work.sessions old.number b) (sym book_is) comes.stands.primary.book) (inl refl))
