-- A turn before which room was made, or at whose begin its transaction was left, is a turn.
use mathlib.Core.Logic.{dite}
use native.Mathlib.Decide.{ℕ_discrete}
use Rattle.std.proofs.Common.{◌≡◌, ◌≢◌, ℕ, List, slice_get, Option, Some, Result, Ok, Err, IfOk, OnErr, refl, sym, ap, subst, ◌∙◌}
use Rattle.mp_model.specs.declared.waiting.Turn.{Turn}
use Rattle.mp_script.specs.declared.statements.SessionOn.{SessionOn}
use Rattle.mp_script.specs.declared.statements.Line.{Line}
use Rattle.mp_script.specs.Transactions.{trx_in_lines}
use Rattle.mp_core_trx.specs.declared.part.Begun.{Begun}
use Rattle.mp_book.specs.declared.book.Book.{Book}
use Rattle.mp_book.specs.declared.session.Session.{Session}
use Rattle.mp_book.specs.declared.stage.Stage.{Stage}
use Rattle.mp_book.specs.declared.stage.Stage.TheVariants.{Open, Leaving}
use Rattle.mp_book.specs.Stages.{next_line, task_by, task_of, trx_of_stage}
use Rattle.mp_book.specs.Through.{is_no_task}
use Rattle.mp_book.specs.Books.{IsBook, SetsSession, HasSameSession, HasRoom}
use Rattle.mp_model.specs.declared.list.Items.{Items}
use Rattle.mp_model.specs.declared.replies.Answer.{Answer}
use Rattle.mp_outside.specs.declared.disks.Disk.{Ghosts}
use Rattle.mp_shared.specs.Nodes.{Run, NodeView}
use Rattle.mp_buffer_fusion.proofs.Kept.{set_else}
use Rattle.mp_supports.specs.Work.{Work}
use Rattle.mp_supports.specs.Kept.{Entry}
use Rattle.mp_supports.specs.Agreement.{RefusalSupported}
use Rattle.mp_primary.specs.Primaries.{PrimaryView, PrimaryAgreesIn, StandsWith}
use Rattle.mp_primary.specs.Downs.{IsDownAsTold}
use Rattle.mp_primary.specs.Turns.{IsSessionOf, IsInTurns, MayTakeTurn, ComesTo, TakesTurn}
use Rattle.mp_primary.proofs.StillInTurns.{stage_in, found_in, set_may}
use Rattle.mp_primary.proofs.SameSessions.{StandsAsBefore, same_in, same_stands, next_on, same_taken}

-- room was made
pub roomed : (work : Work) (old book : Book) (number : ℕ) (s : Session) → slice_get old.sessions.items number ≡ Some s → (is : HasSameSession old book number s) → book.answers.items ≡ old.answers.items → StandsAsBefore work old book number s is.after
roomed work old book number s found is answers = record {
  found = found;
  sessions = is.sessions;
  answers = answers;
  next = ap (λ (x : Session). next_line x) is.same.rest;
  task = ap (λ (x : Session). is_no_task (task_of x)) is.same.rest;
  waits = is.same.waits;
  trx = ap (λ (x : Session). trx_of_stage x.stage) is.same.rest;
  name = ap (λ (x : Session). trx_in_lines work.lines x.number x.next) is.same.rest;
  restored = ap (λ (x : Session). x.restored) is.same.rest;
  formers = is.same.formers;
  refused = λ q h.
      subst (λ (o : Option Line). RefusalSupported work q 0 is.after.stage o) (sym (ap (λ (x : Session). next_line x) is.same.rest))
      (subst (λ (t : Stage). RefusalSupported work q 0 t (next_line s)) (sym (ap (λ (x : Session). x.stage) is.same.rest)) h);
}

-- the session's transaction is to be put back, for its `rollback`
pub left : (work : Work) (old book : Book) (number : ℕ) (s : Session) (line : Line) (trx : Begun) → slice_get old.sessions.items number ≡ Some s → next_line s ≡ Some line → s.stage ≡ Open trx → SetsSession old book number (record s { stage = Leaving trx }) → StandsAsBefore work old book number s (record s { stage = Leaving trx })
left work old book number s line trx found next stage is = record {
  found = found;
  sessions = is.sessions;
  answers = ap (λ (a : Items Answer). a.items) is.answers;
  next = refl;
  task = ap (λ (o : Option Line). is_no_task (task_by o (Leaving trx))) next ∙ sym (ap (λ (o : Option Line). is_no_task (task_by o s.stage)) next);
  waits = refl;
  trx = sym (ap trx_of_stage stage);
  name = refl;
  restored = refl;
  formers = refl;
  refused = λ q h. tt;
}

-- what goes for each Ok, and where it is an Err
pub if_ok_map : {T E : Type 0} (P Q : T → Type 0) (r : Result T E) → ((x : T) → P x → Q x) → IfOk r P → IfOk r Q
if_ok_map P Q (Ok x) f h = f x h
if_ok_map P Q (Err e) f h = tt

pub on_err_map : {T E : Type 0} (A B : Type 0) (r : Result T E) → (A → B) → OnErr r A → OnErr r B
on_err_map A B (Ok x) f h = tt
on_err_map A B (Err e) f h = f h

-- room was made for a turn, as its primary's method sees it
module _ {D : Type 0} (g : Ghosts D) (run : Run) (inside old : PrimaryView D) (view : inside ≡ old) (n : NodeView) (number : ℕ) (s : Session) (found : IsSessionOf old number s) (stands : StandsWith g run old n) (book : Book)
    (answers : book.answers.items ≡ inside.book.answers.items) (same : (x : Session) → slice_get inside.book.sessions.items number ≡ Some x → HasSameSession inside.book book number x) (books : (lines : List Line) (sessions : List SessionOn) (primary : ℕ) → IsBook lines sessions primary inside.book → IsBook lines sessions primary book) where
  abbrev mid : PrimaryView D
  mid = record inside { book = book }

  found_there : slice_get inside.book.sessions.items number ≡ Some s
  found_there = ap (λ (v : PrimaryView D). slice_get v.book.sessions.items number) view ∙ found

  abbrev now_session : Session
  now_session = (same s found_there).after

  as_before : StandsAsBefore inside.work inside.book book number s now_session
  as_before = roomed inside.work inside.book book number s found_there (same s found_there) answers

  stage_same : now_session.stage ≡ s.stage
  stage_same = ap (λ (v : Session). v.stage) (same s found_there).same.rest

  inside_stands : StandsWith g run inside n
  inside_stands = subst (λ (v : PrimaryView D). StandsWith g run v n) (sym view) stands

  pub roomed_stands : StandsWith g run mid n
  roomed_stands = same_stands g inside book number s now_session as_before run n (books inside.work.lines inside.work.sessions inside.number inside_stands.primary.book) inside_stands

  pub roomed_kept : (entries : List Entry) → PrimaryAgreesIn g old entries n → PrimaryAgreesIn g mid entries n
  roomed_kept entries agrees = same_in g inside book number s now_session as_before n entries (subst (λ (v : PrimaryView D). PrimaryAgreesIn g v entries n) (sym view) agrees)

  pub roomed_comes : (line : Line) → next_line s ≡ Some line → HasRoom book number → IsInTurns s.stage → (x : Session) × ComesTo g run mid n number x line
  roomed_comes line next room inside_turn = (
    now_session,
    record { stands = roomed_stands; next = next_on g inside book number s now_session as_before line (record { found = found_there; next = next }); inside = stage_in now_session.stage s.stage stage_same inside_turn; room = room },
  )

  pub roomed_turn : (new : PrimaryView D) (now : NodeView) (turn : Turn) → TakesTurn g run mid new n now (Some number) turn → TakesTurn g run old new n now (Some number) turn
  roomed_turn new now turn h =
      subst (λ (v : PrimaryView D). TakesTurn g run v new n now (Some number) turn) view
      (same_taken g inside book number s now_session as_before run new n now turn h)

  -- its own word is as it was
  pub roomed_told : IsDownAsTold old n → IsDownAsTold mid n
  roomed_told told = subst (λ (v : PrimaryView D). IsDownAsTold v n) (sym view) told

  -- nothing changed but room
  pub roomed_stays : (new : PrimaryView D) (now : NodeView) → (now ≡ n) × (new ≡ mid) → (now ≡ n) × StandsWith g run new now
  roomed_stays new now h = (h.0, subst (λ (v : PrimaryView D). StandsWith g run v now) (sym h.1) (subst (λ (m : NodeView). StandsWith g run mid m) (sym h.0) roomed_stands))

  pub roomed_still : (new : PrimaryView D) (now : NodeView) → (now ≡ n) × (new ≡ mid) → (entries : List Entry) → PrimaryAgreesIn g old entries n → PrimaryAgreesIn g new entries now
  roomed_still new now h entries agrees = subst (λ (v : PrimaryView D). PrimaryAgreesIn g v entries now) (sym h.1) (subst (λ (m : NodeView). PrimaryAgreesIn g mid entries m) (sym h.0) (roomed_kept entries agrees))

  pub roomed_same : (new : PrimaryView D) (now : NodeView) → (now ≡ n) × (new ≡ mid)
      → (new.media ≡ old.media) × (new.down ≡ old.down) × (new.number ≡ old.number) × (new.work ≡ old.work) × (new.book.answers.items ≡ old.book.answers.items)
  roomed_same new now h = (
    ap (λ (v : PrimaryView D). v.media) h.1 ∙ ap (λ (v : PrimaryView D). v.media) view,
    ap (λ (v : PrimaryView D). v.down) h.1 ∙ ap (λ (v : PrimaryView D). v.down) view,
    ap (λ (v : PrimaryView D). v.number) h.1 ∙ ap (λ (v : PrimaryView D). v.number) view,
    ap (λ (v : PrimaryView D). v.work) h.1 ∙ ap (λ (v : PrimaryView D). v.work) view,
    ap (λ (v : PrimaryView D). v.book.answers.items) h.1 ∙ answers ∙ ap (λ (v : PrimaryView D). v.book.answers.items) view,
  )

  -- each session that might take a turn may
  pub roomed_may : (k : ℕ) → MayTakeTurn old k → MayTakeTurn mid k
  roomed_may k may = dite (ℕ_discrete k number) here there
    where
      here : k ≡ number → MayTakeTurn mid k
      here its =
          let inside_turn = found_in old number s found (subst (λ (j : ℕ). MayTakeTurn old j) its may) in
          subst (λ (j : ℕ). MayTakeTurn mid j) (sym its)
          (set_may mid number inside.book.sessions.items s now_session found_there (same s found_there).sessions (stage_in now_session.stage s.stage stage_same inside_turn))

      there : k ≢ number → MayTakeTurn mid k
      there other = record {
        session = may.session;
        found = ap (λ (l : List Session). slice_get l k) (same s found_there).sessions ∙ set_else inside.book.sessions.items number k now_session other
            ∙ ap (λ (v : PrimaryView D). slice_get v.book.sessions.items k) view ∙ may.found;
        inside = may.inside;
      }

  pub roomed_sessions : (new : PrimaryView D) (now : NodeView) → (now ≡ n) × (new ≡ mid) → (k : ℕ) → MayTakeTurn old k → MayTakeTurn new k
  roomed_sessions new now h k may = subst (λ (v : PrimaryView D). MayTakeTurn v k) (sym h.1) (roomed_may k may)
