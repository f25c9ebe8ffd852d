-- A turn that answered a session's next statement, and took no step.
use Rattle.std.proofs.Common.{◌≡◌, ◌≢◌, ℕ, zero, suc, ◌<◌, ◌≤◌, ◌⊎◌, Bool, true, false, List, [], ◌∷◌, ◌++◌, length, drop, slice_get, slice_set, Option, None, Some, IfSome, refl, sym, ap, subst, ◌∙◌, inl, inr, arith}
use Rattle.mp_machine.specs.View.{part_in}
use Rattle.mp_model.specs.declared.replies.Answer.{Answer}
use Rattle.mp_model.specs.declared.replies.Reply.{Reply}
use Rattle.mp_model.specs.declared.replies.Reply.TheVariants.{Began, Skipped, Stopped}
use Rattle.mp_model.specs.declared.waiting.Turn.TheVariants as turns
use Rattle.mp_script.specs.declared.statements.Line.{Line}
use Rattle.mp_script.specs.declared.statements.SessionOn.{SessionOn}
use Rattle.mp_script.specs.declared.statements.Stmt.{Stmt}
use Rattle.mp_script.specs.declared.statements.Stmt.TheVariants.{Begin}
use Rattle.mp_script.specs.Execution.{line_at}
use Rattle.mp_script.specs.Entries.{open_after}
use Rattle.mp_script.specs.Spelling.{MayStand}
use Rattle.mp_script.specs.Transactions.{cts_of}
use Rattle.mp_script.specs.WentDown.{shows_down, is_stopped}
use Rattle.mp_cells.specs.declared.rows.Row.{Row}
use Rattle.mp_core_trx.specs.declared.part.Begun.{Begun}
use Rattle.mp_core.specs.declared.part.CorePart.{CorePart}
use Rattle.mp_book.specs.declared.book.Book.{Book}
use Rattle.mp_book.specs.declared.session.Session.{Session}
use Rattle.mp_book.specs.declared.stage.Stage.{Stage}
use Rattle.mp_book.specs.declared.stage.Stage.TheVariants.{Skipping}
use Rattle.mp_book.specs.Stages.{next_line, task_by, trx_of_stage, with_former}
use Rattle.mp_book.specs.Through.{is_no_task}
use Rattle.mp_book.specs.Answered.{execution_above, NoneShowsDown}
use Rattle.mp_book.specs.Books.{IsBook, IsNext, IsAnswered, StageStands, stage_after, skipped_to}
use Rattle.mp_outside.specs.declared.disks.Disk.{Ghosts}
use Rattle.mp_shared.specs.Nodes.{Run, NodeView}
use Rattle.mp_shared.proofs.Holding.{held_part}
use Rattle.mp_supports.specs.Work.{Work}
use Rattle.mp_supports.specs.Supports.{no_trace, SupportsReply, SupportsWaits}
use Rattle.mp_supports.specs.Kept.{Entry}
use Rattle.mp_supports.specs.Agreement.{IsOpenAs, RefusalSupported, Opens, Bounds, rows_left, rows_left_by}
use Rattle.mp_buffer_fusion.proofs.Kept.{set_here, set_else}
use Rattle.mp_supports.proofs.Classes.{did_looked}
use Rattle.mp_supports.proofs.Extending.{core_extends_refl}
use Rattle.mp_supports.proofs.Places.{at_place}
use Rattle.mp_supports.proofs.BoundSteps.{bounds_answered}
use Rattle.mp_primary.specs.Primaries.{PrimaryView, AreSessions, AreWaitsSupported, PrimaryAgreesIn, PrimaryAgrees}
use Rattle.mp_primary.specs.Turns.{IsSessionOf, IsInTurns, Adds, GoesOnBy, ComesTo, ComesToStop, has_nothing_left, no_task_in, TellsDown}
use Rattle.mp_primary.specs.Tries.{TriesTurn}
use Rattle.mp_desk.proofs.Moving.{looked_none, goes_none}
use Rattle.mp_primary.proofs.OpenSessions.{one_of, waits_ended, sessions_set, waits_set, opens_set}
use Rattle.mp_primary.proofs.AnsweredTurns.{calm, AnswersWell, goes_on_answered, line_found}
use Rattle.mp_primary.proofs.StillInTurns.{stage_in, skipped_in, set_may}

-- the answer that was added is that one
pub one_answer : (items : List Answer) (a b : Answer) → items ++ a ∷ [] ≡ items ++ b ∷ [] → a ≡ b
one_answer [] a b e = cc
one_answer (x ∷ items) a b e = one_answer items a b (tails (items ++ a ∷ []) (items ++ b ∷ []) e)
  where
    tails : (l m : List Answer) → x ∷ l ≡ x ∷ m → l ≡ m
    tails l m e = cc

pub within : {T : Type 0} (xs : List T) (i : ℕ) (x : T) → slice_get xs i ≡ Some x → i < length xs
within [] i x is = absurd cc
within (y ∷ ys) zero x is = omega arith
within (y ∷ ys) (suc i) x is = let rest = within ys i x is in omega (arith, rest)

pub answered_not_done : turns.Answered ≡ turns.Done → ⊥
answered_not_done e = cc

pub answered_not_stopped : (by : ℕ) → turns.Answered ≡ turns.Stopped by → ⊥
answered_not_stopped by e = cc

pub false_not_true : false ≡ true → ⊥
false_not_true e = cc

pub some_not_none : (line : Line) → Some line ≡ None → ⊥
some_not_none line e = cc

-- what is to be tried may be stopped
pub to_stop : {D : Type 0} (g : Ghosts D) (run : Run) (pr : PrimaryView D) (n : NodeView) (number : ℕ) (s : Session) (line : Line) → ComesTo g run pr n number s line → ComesToStop g run pr n number s line
to_stop g run pr n number s line comes = record { stands = comes.stands; next = comes.next; inside = comes.inside; room = comes.room.answer }

module _ {D : Type 0} (g : Ghosts D) (run : Run) (old : PrimaryView D) (book : Book) (n : NodeView) (number : ℕ) (s : Session) (line : Line) (comes : ComesToStop g run old n number s line) (reply : Reply) (stage : Stage) (formers : List Row) (restored : ℕ) (is : IsAnswered old.book book number s line reply stage formers restored) (books : IsBook old.work.lines old.work.sessions old.number book) where
  abbrev new : PrimaryView D
  new = record old { book = book }

  found : slice_get old.book.sessions.items number ≡ Some s
  found = comes.next.found

  -- a session that is tried has something left
  busy : has_nothing_left old (Some number) ≡ false
  busy = ap no_task_in found ∙ ap (λ (o : Option Line). is_no_task (task_by o s.stage)) comes.next.next

  has : (q : CorePart) × (part_in n.parts old.number ≡ Some q)
  has = let h = held_part n old.number comes.stands.desk.part in (h.0, h.1)

  module _ (same_trx : trx_of_stage stage ≡ trx_of_stage s.stage) (fewer : (trx : Begun) → trx_of_stage s.stage ≡ Some trx → rows_left is.after ≤ rows_left s) where
    after_trx : trx_of_stage is.after.stage ≡ trx_of_stage s.stage
    after_trx = ap trx_of_stage is.goes.stage_is ∙ same_trx

    rows_no_more : rows_left is.after ≤ rows_left s
    rows_no_more = go (trx_of_stage s.stage) refl
      where
        go : (o : Option Begun) → trx_of_stage s.stage ≡ o → rows_left is.after ≤ rows_left s
        go None none = let zero : rows_left is.after ≡ 0 = ap (λ (o : Option Begun). rows_left_by o is.after) (after_trx ∙ none) in omega (arith, zero)
        go (Some trx) some = fewer trx some

    module _ (supported : (q : CorePart) → part_in n.parts old.number ≡ Some q → SupportsReply old.work q old.down no_trace line reply)
        (shows : old.down ≡ 0 → shows_down reply ≡ false)
        (its : old.down ≡ 0 → (q : CorePart) → part_in n.parts old.number ≡ Some q → Opens old.work q 0 old.book.sessions.items → IfSome (trx_of_stage is.after.stage) (IsOpenAs old.work q 0 is.after))
        (refused : old.down ≡ 0 → (q : CorePart) → part_in n.parts old.number ≡ Some q → RefusalSupported old.work q 0 is.after.stage (next_line is.after)) where
      well : (entries : List Entry) (r : CorePart) → PrimaryAgrees g old entries has.0 → part_in n.parts old.number ≡ Some r → AnswersWell g old new is.answer no_trace has.0 r
      well entries r was there = subst (AnswersWell g old new is.answer no_trace has.0) (one_of (part_in n.parts old.number) r has.0 there has.1)
          (record {
            down = inr (refl, refl);
            did = did_looked has.0 has.0 (looked_none has.0);
            may = record {
              supported = record {
                line = line;
                found = ap (λ (k : ℕ). line_at old.work.lines k is.answer.index) is.session ∙ ap (line_at old.work.lines number) is.index ∙ line_found old.work.lines old.work.sessions old.number number old.book s line comes.stands.primary.book comes.next;
                reply = subst (SupportsReply old.work has.0 old.down no_trace line) (sym is.reply_is) (supported has.0 has.1);
                waits = subst (SupportsWaits old.work has.0 line) (sym is.waits) (subst (λ (o : Option Line). IfSome o (λ l. SupportsWaits old.work has.0 l s.waits.items)) comes.next.next (was.waits s (at_place old.book.sessions.items number s found)));
              };
              in_doubt = λ down. tt;
              up = λ up. ap shows_down is.reply_is ∙ shows up;
            };
            opens = λ up. subst (Opens old.work has.0 0) (sym is.sessions) (opens_set old.work has.0 old.book.sessions.items number s is.after found after_trx (its up has.0 has.1 (was.opens up)) (waits_ended old.work has.0 is.after is.goes.waits) (refused up has.0 has.1) (was.opens up));
            sessions = subst (AreSessions has.0) (sym is.sessions) (sessions_set old.work has.0 old.book.sessions.items number s is.after found after_trx was.sessions);
            waits = subst (AreWaitsSupported old.work has.0) (sym is.sessions) (waits_set old.work has.0 old.book.sessions.items number s is.after found (waits_ended old.work has.0 is.after is.goes.waits) was.waits);
            mirrors = was.mirrors;
            media = was.media;
            bounds = subst (λ (l : List Session). Bounds old.work has.0 book.answers.items l) (sym is.sessions)
                (subst (λ (l : List Answer). Bounds old.work has.0 l (slice_set old.book.sessions.items number is.after)) (sym is.answers)
                (bounds_answered old.work has.0 has.0 (core_extends_refl has.0) old.book.answers.items old.book.sessions.items number s is.after found was.bounds (is.answer ∷ []) refl (omega arith) rows_no_more));
          })

      goes : (entries : List Entry) → PrimaryAgreesIn g old entries n → GoesOnBy g old new n n (Some number) entries turns.Answered
      goes = goes_on_answered g old new n n number s line reply stage formers restored comes.next is refl refl no_trace has.0 has.1 well tt

      pub answered_turn : ((view : ℕ) → reply ≢ Began view) → cts_of reply ≡ None → (reply ≡ Skipped → old.down ≡ 0) → TellsDown old.down reply → IsInTurns stage → TriesTurn g run old new n n (Some number) turns.Answered
      answered_turn no_begin no_stamp skips stops inside = record {
        stands = record {
          primary = record { book = books; names = comes.stands.primary.names; places = comes.stands.primary.places; own = comes.stands.primary.own; up = comes.stands.primary.up };
          desk = comes.stands.desk;
          agrees = let more = goes comes.stands.agrees.0 comes.stands.agrees.1 in (comes.stands.agrees.0 ++ more.more, more.agrees);
        };
        number = refl;
        work = refl;
        went = goes_none old.number n;
        goes_on = goes;
        others = λ other ne. ap (λ (l : List Session). slice_get l other) is.sessions ∙ set_else old.book.sessions.items number other is.after (λ same. ne (ap (λ (k : ℕ). Some k) (sym same)));
        named = λ x there. ap (λ (v : Session). v.waits.items) (one_of (slice_get book.sessions.items number) is.after x (ap (λ (l : List Session). slice_get l number) is.sessions ∙ set_here old.book.sessions.items number is.after (within old.book.sessions.items number s found)) there) ∙ is.goes.waits;
        cause = tt;
        up = tt;
        answers = tt;
        down = inl refl;
        faults = omega arith;
        tells = refl;
        may_go_on = set_may new number old.book.sessions.items s is.after found is.sessions (stage_in is.after.stage stage is.goes.stage_is inside);
        begins = λ a view more so. absurd (no_begin view (its_reply a more ∙ so));
        draws = λ a cts more so. absurd (none_some_nat cts (sym no_stamp ∙ ap cts_of (its_reply a more) ∙ so));
        skips = λ a more so. skips (its_reply a more ∙ so);
        stops = λ a more. subst (TellsDown old.down) (its_reply a more) stops;
        done = ((λ e. absurd (answered_not_done e)), (λ up nothing. absurd (false_not_true (sym busy ∙ nothing))));
        stopped = ((λ by e. absurd (answered_not_stopped by e)), (λ down none. absurd (some_not_none line (sym comes.next.next ∙ none s found))));
      }
        where
          its_reply : (a : Answer) → Adds old new a → reply ≡ a.reply
          its_reply a more = sym is.reply_is ∙ ap (λ (x : Answer). x.reply) (one_answer old.book.answers.items is.answer a (sym is.answers ∙ more))

          none_some_nat : (cts : ℕ) → ◌≡◌ {A = Option ℕ} None (Some cts) → ⊥
          none_some_nat cts e = cc

-- ---- a statement that is skipped

no_refusal : (work : Work) (q : CorePart) (more : Bool) (line : Option Line) → RefusalSupported work q 0 (skipped_to more) line
no_refusal work q true line = tt
no_refusal work q false line = tt

no_trx : (more : Bool) → trx_of_stage (skipped_to more) ≡ None
no_trx true = refl
no_trx false = refl

not_a_begin : (stmt : Stmt) → MayStand true stmt → stmt ≢ Begin
not_a_begin stmt may is = subst (MayStand true) is may

module _ {D : Type 0} (g : Ghosts D) (run : Run) (old : PrimaryView D) (book : Book) (n : NodeView) (number : ℕ) (s : Session) (line : Line) (comes : ComesToStop g run old n number s line) where
  old_calm : old.down ≡ 0 → NoneShowsDown old.book.answers.items
  old_calm up =
      let h = held_part n old.number comes.stands.desk.part in
      let was = comes.stands.agrees.1 h.0 h.1 in
      subst NoneShowsDown was.answers (calm comes.stands.agrees.0 (was.kept.up up))

  pub skipped_turn : s.stage ≡ Skipping → old.down ≡ 0 → IsAnswered old.book book number s line Skipped (stage_after s.stage line.stmt Skipped) (with_former s.formers.items None) s.restored
      → ((lines : List Line) (sessions : List SessionOn) (primary : ℕ) → IsBook lines sessions primary old.book → (is_stopped Skipped ≡ true) ⊎ NoneShowsDown old.book.answers.items → IsBook lines sessions primary book)
      → TriesTurn g run old (record old { book = book }) n n (Some number) turns.Answered
  skipped_turn skipping up is books =
      let stands = comes.stands.primary.book.each number s comes.next.found in
      let stage : StageStands (execution_above old.work.lines old.work.sessions old.book.answers.items) old.number number s Skipping = subst (StageStands (execution_above old.work.lines old.work.sessions old.book.answers.items) old.number number s) skipping (stands.stage (old_calm up)) in
      let fits : MayStand true line.stmt = subst (λ (o : Option Line). IfSome o (λ l. MayStand true l.stmt)) comes.next.next stage.1 in
      let none : trx_of_stage s.stage ≡ None = ap trx_of_stage skipping in
      let gone : trx_of_stage (skipped_to (open_after line.stmt)) ≡ None = no_trx (open_after line.stmt) in
      answered_turn g run old book n number s line comes Skipped (skipped_to (open_after line.stmt)) s.formers.items s.restored is
      (books old.work.lines old.work.sessions old.number comes.stands.primary.book (inr (old_calm up)))
      (gone ∙ sym none)
      (λ trx some. absurd (none_begun trx (sym none ∙ some)))
      (λ q there. (not_a_begin line.stmt fits, refl))
      (λ still. refl)
      (λ still q there opens. subst (λ (o : Option Begun). IfSome o (IsOpenAs old.work q 0 is.after)) (sym (ap trx_of_stage is.goes.stage_is ∙ gone)) tt)
      (λ still q there. subst (λ (t : Stage). RefusalSupported old.work q 0 t (next_line is.after)) (sym is.goes.stage_is) (no_refusal old.work q (open_after line.stmt) (next_line is.after)))
      (λ view e. absurd (skipped_not_began view e)) refl (λ e. up) up (skipped_in (open_after line.stmt))
    where
      none_begun : (trx : Begun) → ◌≡◌ {A = Option Begun} None (Some trx) → ⊥
      none_begun trx e = cc

      skipped_not_began : (view : ℕ) → Skipped ≡ Began view → ⊥
      skipped_not_began view e = cc

module _ {D : Type 0} (g : Ghosts D) (run : Run) (old : PrimaryView D) (book : Book) (n : NodeView) (number : ℕ) (s : Session) (line : Line) (comes : ComesToStop g run old n number s line) where
  pub stopped_answer : (by : ℕ) → old.down ≡ by → by ≢ 0 → IsAnswered old.book book number s line (Stopped by) (stage_after s.stage line.stmt (Stopped by)) (with_former s.formers.items None) s.restored
      → ((lines : List Line) (sessions : List SessionOn) (primary : ℕ) → IsBook lines sessions primary old.book → (is_stopped (Stopped by) ≡ true) ⊎ NoneShowsDown old.book.answers.items → IsBook lines sessions primary book)
      → TriesTurn g run old (record old { book = book }) n n (Some number) turns.Answered
  stopped_answer by down some is books =
      answered_turn g run old book n number s line comes (Stopped by) s.stage s.formers.items s.restored is
      (books old.work.lines old.work.sessions old.number comes.stands.primary.book (inl refl))
      refl
      (λ trx its. same_rows trx its)
      (λ q there. (down, some, inl refl))
      (λ up. absurd (some (sym down ∙ up)))
      (λ up. absurd (some (sym down ∙ up)))
      (λ up. absurd (some (sym down ∙ up)))
      (λ view e. absurd (stopped_not_began view e)) refl (λ e. absurd (stopped_not_skipped e)) (sym down, some) comes.inside
    where
      same_rows : (trx : Begun) → trx_of_stage s.stage ≡ Some trx → rows_left is.after ≤ rows_left s
      same_rows trx its =
          let after : rows_left is.after ≡ length (drop is.after.restored is.after.formers.items) = ap (λ (o : Option Begun). rows_left_by o is.after) (ap trx_of_stage is.goes.stage_is ∙ its) in
          let before : rows_left s ≡ length (drop s.restored s.formers.items) = ap (λ (o : Option Begun). rows_left_by o s) its in
          let same : length (drop is.after.restored is.after.formers.items) ≡ length (drop s.restored s.formers.items) = ap (λ (k : ℕ). length (drop k is.after.formers.items)) is.goes.restored_is ∙ ap (λ (l : List Row). length (drop s.restored l)) is.goes.formers_are in
          omega (arith, after, before, same)

      stopped_not_began : (view : ℕ) → Stopped by ≡ Began view → ⊥
      stopped_not_began view e = cc

      stopped_not_skipped : Stopped by ≡ Skipped → ⊥
      stopped_not_skipped e = cc

-- the same, of what a method sees inside
module _ {D : Type 0} (g : Ghosts D) (inside old : PrimaryView D) (view : inside ≡ old) (run : Run) (book : Book) (n : NodeView) (number : ℕ) (s : Session) (line : Line) (comes : ComesToStop g run old n number s line) where
  inside_comes : ComesToStop g run inside n number s line
  inside_comes = subst (λ (v : PrimaryView D). ComesToStop g run v n number s line) (sym view) comes

  pub skipped_inside : s.stage ≡ Skipping → old.down ≡ 0 → ((x : Session) (l : Line) → IsNext inside.book number x l → IsAnswered inside.book book number x l Skipped (stage_after x.stage l.stmt Skipped) (with_former x.formers.items None) x.restored)
      → ((lines : List Line) (sessions : List SessionOn) (primary : ℕ) → IsBook lines sessions primary inside.book → (is_stopped Skipped ≡ true) ⊎ NoneShowsDown inside.book.answers.items → IsBook lines sessions primary book)
      → TriesTurn g run old (record inside { book = book }) n n (Some number) turns.Answered
  skipped_inside skipping up is books =
      subst (λ (v : PrimaryView D). TriesTurn g run v (record inside { book = book }) n n (Some number) turns.Answered) view
      (skipped_turn g run inside book n number s line inside_comes skipping (ap (λ (v : PrimaryView D). v.down) view ∙ up) (is s line inside_comes.next) books)

  pub stopped_inside : (by : ℕ) → inside.down ≡ by → old.down ≢ 0 → ((x : Session) (l : Line) → IsNext inside.book number x l → IsAnswered inside.book book number x l (Stopped by) (stage_after x.stage l.stmt (Stopped by)) (with_former x.formers.items None) x.restored)
      → ((lines : List Line) (sessions : List SessionOn) (primary : ℕ) → IsBook lines sessions primary inside.book → (is_stopped (Stopped by) ≡ true) ⊎ NoneShowsDown inside.book.answers.items → IsBook lines sessions primary book)
      → TriesTurn g run old (record inside { book = book }) n n (Some number) turns.Answered
  stopped_inside by down some is books =
      subst (λ (v : PrimaryView D). TriesTurn g run v (record inside { book = book }) n n (Some number) turns.Answered) view
      (stopped_answer g run inside book n number s line inside_comes by down (λ zero. some (sym (ap (λ (v : PrimaryView D). v.down) view) ∙ down ∙ zero)) (is s line inside_comes.next) books)

  -- the answer tells with which number, and for whom the statement waited
  pub stopped_reply : (by : ℕ) → inside.down ≡ by → ((x : Session) (l : Line) → IsNext inside.book number x l → IsAnswered inside.book book number x l (Stopped by) (stage_after x.stage l.stmt (Stopped by)) (with_former x.formers.items None) x.restored)
      → (a : Answer) → Adds old (record inside { book = book }) a → (a.reply ≡ Stopped old.down) × ((x : Session) → IsSessionOf old number x → a.waits.items ≡ x.waits.items)
  stopped_reply by down is a more =
      let answered = is s line inside_comes.next in
      let adds : book.answers.items ≡ inside.book.answers.items ++ a ∷ [] = more ∙ ap (λ (v : PrimaryView D). v.book.answers.items ++ a ∷ []) (sym view) in
      let same : answered.answer ≡ a = one_answer inside.book.answers.items answered.answer a (sym answered.answers ∙ adds) in (
        ap (λ (x : Answer). x.reply) (sym same) ∙ answered.reply_is ∙ ap (λ (k : ℕ). Stopped k) (sym down ∙ ap (λ (v : PrimaryView D). v.down) view),
        λ x there. ap (λ (y : Answer). y.waits.items) (sym same) ∙ answered.waits ∙ ap (λ (v : Session). v.waits.items) (sym (one_of (slice_get old.book.sessions.items number) s x comes.next.found there)),
      )
