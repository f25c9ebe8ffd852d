-- A turn that answered a session's next statement.
use Rattle.std.proofs.Common.{◌≡◌, ℕ, suc, ◌+◌, Bool, true, false, List, [], ◌∷◌, ◌++◌, length, slice_get, Option, None, Some, IfSome, refl, sym, ap, subst, ◌∙◌, inl, arith}
use Rattle.std.specs.List.{AllByRecursion}
use Rattle.mp_machine.specs.View.{part_in}
use Rattle.mp_model.specs.declared.replies.Answer.{Answer}
use Rattle.mp_model.specs.declared.replies.Reply.{Reply}
use Rattle.mp_model.specs.declared.waiting.Turn.TheVariants as turns
use Rattle.mp_script.specs.declared.statements.Line.{Line}
use Rattle.mp_script.specs.declared.statements.SessionOn.{SessionOn}
use Rattle.mp_script.specs.BeginNames.{begin_names}
use Rattle.mp_script.specs.Execution.{line_at, runs_on}
use Rattle.mp_script.specs.WentDown.{shows_down}
use Rattle.mp_core_trx.specs.declared.opening.TrxOpening.{TrxOpening}
use Rattle.mp_core.specs.declared.part.CorePart.{CorePart}
use Rattle.mp_book.specs.declared.session.Session.{Session}
use Rattle.mp_book.specs.declared.stage.Stage.{Stage}
use Rattle.mp_book.specs.declared.book.Book.{Book}
use Rattle.mp_book.specs.Answered.{execution_above, NoneShowsDown}
use Rattle.mp_book.specs.Orderly.{session_lines}
use Rattle.mp_book.specs.Books.{IsBook, IsNext, IsAnswered, SessionStands}
use Rattle.mp_book.proofs.OwnLines.{IsFoundAt, found_at}
use Rattle.mp_cells.specs.declared.rows.Row.{Row}
use Rattle.mp_outside.specs.declared.disks.Disk.{Ghosts}
use Rattle.mp_shared.specs.Nodes.{NodeView}
use Rattle.mp_supports.specs.Work.{Work}
use Rattle.mp_supports.specs.Supports.{Trace}
use Rattle.mp_supports.specs.Kept.{Entry, answers_in, Kept, Did, GoesDownOnce, MayBeKept}
use Rattle.mp_supports.specs.Agreement.{Opens, Mirrors, Bounds}
use Rattle.mp_supports.proofs.Keeping.{kept_more}
use Rattle.mp_primary.specs.Primaries.{PrimaryView, AreSessions, AreWaitsSupported, PrimaryAgreesIn, PrimaryAgrees}
use Rattle.mp_desk.specs.Making.{HoldsPartOf}
use Rattle.mp_primary.specs.Turns.{IsLeftAfter, GoesOnBy}
use Rattle.mp_primary.proofs.BegunByAnswers.{begun_answered, begun_one}

abbrev pub entry_of : Answer → Trace → Entry
entry_of answer trace = record { answer = Some answer; trace = trace }

-- one answer more
pub answers_more : (entries : List Entry) (answer : Answer) (trace : Trace) → answers_in (entries ++ entry_of answer trace ∷ []) ≡ answers_in entries ++ answer ∷ []
answers_more [] answer trace = refl
answers_more (e ∷ entries) answer trace = go e.answer refl (answers_more entries answer trace)
  where
    go : (o : Option Answer) → e.answer ≡ o → answers_in (entries ++ entry_of answer trace ∷ []) ≡ answers_in entries ++ answer ∷ [] → answers_in (e ∷ entries ++ entry_of answer trace ∷ []) ≡ answers_in (e ∷ entries) ++ answer ∷ []
    go None is rest = rw is rest
    go (Some a) is rest = rw is (ap (λ (l : List Answer). a ∷ l) rest)

-- no kept answer of a primary that is up shows it down
pub calm : (entries : List Entry) → AllByRecursion (λ e. IfSome e.answer (λ a. shows_down a.reply ≡ false)) entries → NoneShowsDown (answers_in entries)
calm [] all = refl
calm (e ∷ entries) all = go e.answer refl (calm entries all.1)
  where
    go : (o : Option Answer) → e.answer ≡ o → NoneShowsDown (answers_in entries) → NoneShowsDown (answers_in (e ∷ entries))
    go None is rest = rw is rest
    go (Some a) is rest = let first : shows_down a.reply ≡ false = subst (λ (o : Option Answer). IfSome o (λ x. shows_down x.reply ≡ false)) is all.0 in rw (is, first) rest

module _ {D : Type 0} (g : Ghosts D) (old new : PrimaryView D) where
  -- what an answer asks of the parts before it and after it
  pub record AnswersWell (answer : Answer) (trace : Trace) (q r : CorePart) : Type 0 where
    pub down : GoesDownOnce q r old.down new.down
    pub did : Did q r trace
    pub may : MayBeKept old.work r new.down (entry_of answer trace)
    pub opens : new.down ≡ 0 → Opens new.work r 0 new.book.sessions.items
    pub sessions : AreSessions r new.book.sessions.items
    pub waits : AreWaitsSupported new.work r new.book.sessions.items
    pub mirrors : Mirrors r new.down new.desk.llsn new.desk.undo
    pub media : HoldsPartOf g new.work new.down new.number new.media r
    pub bounds : Bounds new.work r new.book.answers.items new.book.sessions.items

  module _ (before after : NodeView) (number : ℕ) (s : Session) (line : Line) (reply : Reply) (stage : Stage) (formers : List Row) (restored : ℕ) (next : IsNext old.book number s line) (is : IsAnswered old.book new.book number s line reply stage formers restored) (same : new.number ≡ old.number) (work : new.work ≡ old.work) (trace : Trace) where
    pub goes_on_answered : (q : CorePart) → part_in before.parts old.number ≡ Some q
        → ((entries : List Entry) (r : CorePart) → PrimaryAgrees g old entries q → part_in after.parts old.number ≡ Some r → AnswersWell is.answer trace q r)
        → IsLeftAfter before (entry_of is.answer trace)
        → (entries : List Entry) → PrimaryAgreesIn g old entries before → GoesOnBy g old new before after (Some number) entries turns.Answered
    goes_on_answered q has well left entries agrees = record {
      more = entry_of is.answer trace ∷ [];
      agrees = λ r there.
          let was = agrees q has in
          let so = well entries r was (ap (part_in after.parts) (sym same) ∙ there) in
          record {
            kept = subst (λ w. Kept w r new.down (entries ++ entry_of is.answer trace ∷ [])) (sym work) (kept_more old.work q r old.down new.down entries so.down was.kept (entry_of is.answer trace) so.did so.may);
            answers = answers_more entries is.answer trace ∙ ap (λ (l : List Answer). l ++ is.answer ∷ []) was.answers ∙ sym is.answers;
            opens = so.opens;
            sessions = so.sessions;
            waits = so.waits;
            mirrors = so.mirrors;
            media = so.media;
            bounds = so.bounds;
            exact =
                ap (λ (o : TrxOpening). o.begins) so.did.extends.trx.same_opening ∙ was.exact ∙ ap (λ (w : Work). length (begin_names w.lines)) (sym work);
            begun = begun_one entries (entry_of is.answer trace) was.begun (begun_answered is.answer trace);
          };
      adds = inl (record { session = s; line = line; next = next; answer = is.answer; of_session = is.session; index = is.index; waits = inl is.waits; entry = entry_of is.answer trace; has = refl; one = refl });
      later = (left, tt);
    }

-- ---- the statement in the script

no_line : (line : Line) → None ≡ Some line → ⊥
no_line line e = cc

module _ (lines : List Line) (sessions : List SessionOn) (primary number : ℕ) (book : Book) (s : Session) (line : Line) (is_book : IsBook lines sessions primary book) (next : IsNext book number s line) where
  pub stands : SessionStands lines sessions primary book.answers.items number s
  stands = is_book.each number s next.found

  own_lines : s.lines.items ≡ session_lines number lines
  own_lines = go (runs_on (execution_above lines sessions book.answers.items) number primary) refl
    where
      go : (b : Bool) → runs_on (execution_above lines sessions book.answers.items) number primary ≡ b → s.lines.items ≡ session_lines number lines
      go true e = stands.lines_are ∙ rw e refl
      go false e = let none : s.lines.items ≡ [] = stands.lines_are ∙ rw e refl in absurd (no_line line (subst (λ (l : List Line). slice_get l s.next ≡ Some line) none next.next))

  pub found_here : IsFoundAt lines number (suc s.next) line
  found_here = let zero_more : 0 + suc s.next ≡ suc s.next = omega arith in subst (λ n. IsFoundAt lines number n line) zero_more (found_at number lines 0 false s.next line (is_book.orderly number) (subst (λ (l : List Line). slice_get l s.next ≡ Some line) own_lines next.next))

  pub line_found : line_at lines number line.index ≡ Some line
  line_found = ap (λ (i : ℕ). line_at lines number i) found_here.index_is ∙ found_here.found
