-- A book stays one where a session's stage changes, its rows are put back, or it waits.
use Rattle.std.proofs.Common.{◌≡◌, ℕ, ◌+◌, ◌≤◌, ◌<◌, ◌==◌, ◌⊎◌, ◌≢◌, ◌&&◌, Bool, true, false, if◌then◌else◌, List, [], ◌∷◌, ◌++◌, length, Option, None, Some, is_some, slice_get, slice_set, inl, inr, ⊎_elim, refl, sym, ap, subst, ◌∙◌, arith}
use Rattle.std.specs.Option.{IfSome}
use Rattle.std.specs.Prelude.{MatchOption}
use Rattle.std.specs.List.{list_any, AllByRecursion}
use Rattle.std.proofs.lemmas.List.{length-append, length-set}
use Rattle.std.proofs.lemmas.Bool.Decides.{nat_tests}
use Rattle.mp_model.specs.Listed.{Listed}
use Rattle.mp_model.specs.declared.ids.TrxName.{TrxName}
use Rattle.mp_model.specs.declared.replies.Answer.{Answer}
use Rattle.mp_model.specs.declared.replies.Reply.TheVariants.{Began}
use Rattle.mp_script.specs.declared.statements.Line.{Line}
use Rattle.mp_script.specs.declared.statements.SessionOn.{SessionOn}
use Rattle.mp_script.specs.declared.statements.Stmt.{Stmt}
use Rattle.mp_script.specs.declared.statements.Stmt.TheVariants as stmts
use Rattle.mp_script.specs.Below.{EachBelow}
use Rattle.mp_script.specs.Execution.{Execution, reply_at}
use Rattle.mp_script.specs.Right.{IsWithoutRepeat}
use Rattle.mp_script.specs.Spelling.{MayStand}
use Rattle.mp_script.specs.Transactions.{Target, target_of, same_trx, trx_at, refused_among, wrote_among}
use Rattle.mp_script.proofs.Lists.{all_append}
use Rattle.mp_cells.specs.declared.rows.Row.{Row}
use Rattle.mp_cells.specs.Trees.{row_at}
use Rattle.mp_core_trx.specs.declared.part.Begun.{Begun}
use Rattle.mp_book.specs.declared.stage.Refusal.{Refusal}
use Rattle.mp_book.specs.declared.stage.Stage.{Stage}
use Rattle.mp_book.specs.declared.stage.Stage.TheVariants.{Closed, Open, Refused, Leaving, Skipping, Outside}
use Rattle.mp_book.specs.declared.session.Session.{Session}
use Rattle.mp_book.specs.declared.book.Book.{Book}
use Rattle.mp_book.specs.Orderly.{session_lines, IsOrderly}
use Rattle.mp_book.specs.Stages.{next_line, HaveOneRowEach, is_named, with_name}
use Rattle.mp_book.specs.Answered.{execution_above, NoneShowsDown, HasWrittenHere, WaitsStand, IsPlaced}
use Rattle.mp_book.specs.Books.{StartsAs, IsSameSession, statements_upto, NextFits, TrxStands, RefusalStands, StageStands, SessionStands, IsBook, IsNext, SetsSession, own_lines, HasSameSession, IsGoingBack, IsRolledBack}
use Rattle.mp_book.proofs.Items.{if_some_map, if_some_always, IsElse, after_set, after_push, or_left, or_right}
use Rattle.mp_book.proofs.Above.{no_waits}
use Rattle.mp_book.proofs.OwnLines.{first_in_order}

true_false : true ≡ false → ⊥
true_false e = cc

-- one session is another now, and stands
module _ (lines : List Line) (sessions : List SessionOn) (primary : ℕ) (old new : Book) (number : ℕ) (after : Session) (book : IsBook lines sessions primary old) where
  pub book_put : new.answers.items ≡ old.answers.items → new.sessions.items ≡ slice_set old.sessions.items number after → SessionStands lines sessions primary old.answers.items number after → IsBook lines sessions primary new
  book_put answers put stands = record {
    orderly = book.orderly;
    placed = subst (λ l. EachBelow (IsPlaced lines sessions primary) [] l) (sym answers) book.placed;
    whole = ap (λ (l : List Session). length l) put ∙ length-set old.sessions.items number after ∙ book.whole;
    each = λ k z at.
        let there : slice_get (slice_set old.sessions.items number after) k ≡ Some z = subst (λ (l : List Session). slice_get l k ≡ Some z) put at in
        subst (λ l. SessionStands lines sessions primary l k z) (sym answers) (stands_at k z (after_set old.sessions.items number after k z there));
  }
    where
      stands_at : (k : ℕ) (z : Session) → ((number ≡ k) × (z ≡ after)) ⊎ IsElse old.sessions.items number k z → SessionStands lines sessions primary old.answers.items k z
      stands_at k z (inl h) = subst (λ n. SessionStands lines sessions primary old.answers.items n z) h.0 (subst (λ (x : Session). SessionStands lines sessions primary old.answers.items number x) (sym h.1) stands)
      stands_at k z (inr h) = book.each k z h.stood

  pub book_set : SetsSession old new number after → SessionStands lines sessions primary old.answers.items number after → IsBook lines sessions primary new
  book_set sets stands = book_put (ap (λ (l : Listed Answer). l.items) sets.answers) sets.sessions stands

module _ (lines : List Line) (sessions : List SessionOn) (primary : ℕ) (answers : List Answer) (number : ℕ) (s : Session) (h : SessionStands lines sessions primary answers number s) where
  abbrev run : Execution
  run = execution_above lines sessions answers

  -- at another stage
  restaged : (stage : Stage) (trx : Begun) → TrxStands run number s trx → TrxStands run number (record s { stage = stage }) trx
  restaged stage trx t = record { began = t.began; unrefused = t.unrefused; wrote = t.wrote; once = t.once; next_fits = t.next_fits }

  stage_set : (stage : Stage) → (NoneShowsDown answers → StageStands run primary number (record s { stage = stage }) stage) → SessionStands lines sessions primary answers number (record s { stage = stage })
  stage_set stage stands = record {
    number_is = h.number_is;
    lines_are = h.lines_are;
    next = h.next;
    within = h.within;
    unanswered = h.unanswered;
    restored = h.restored;
    waits = h.waits;
    stage = stands;
  }

  stands_as : (stage : Stage) → s.stage ≡ stage → NoneShowsDown answers → StageStands run primary number s stage
  stands_as stage is calm = subst (λ st. StageStands run primary number s st) is (h.stage calm)

  pub refused_set : (line : Line) (trx : Begun) (refusal : Refusal) → next_line s ≡ Some line → s.stage ≡ Open trx → is_some (target_of line.stmt) ≡ true → RefusalStands run primary line.stmt refusal → SessionStands lines sessions primary answers number (record s { stage = Refused trx refusal })
  refused_set line trx refusal next is write stands = stage_set (Refused trx refusal) (λ calm. (restaged (Refused trx refusal) trx (stands_as (Open trx) is calm).0, (line, next, write, stands)))

  pub leaving_set : (trx : Begun) → s.stage ≡ Open trx → IfSome (next_line s) (λ line. line.stmt ≡ stmts.Rollback) → SessionStands lines sessions primary answers number (record s { stage = Leaving trx })
  leaving_set trx is last = stage_set (Leaving trx) (λ calm. (restaged (Leaving trx) trx (stands_as (Open trx) is calm).0, last))

  pub closed_set : next_line s ≡ None → SessionStands lines sessions primary answers number (record s { stage = Closed })
  closed_set none = stage_set Closed (λ calm. subst (λ o. IfSome o (λ line. MayStand false line.stmt)) (sym none) tt)

  pub outside_set : (trx : Option Begun) → SessionStands lines sessions primary answers number (record s { stage = Outside trx })
  outside_set trx = stage_set (Outside trx) (λ calm. tt)

  -- with one row more put back
  put_back : (trx : Begun) → TrxStands run number s trx → TrxStands run number (record s { restored = s.restored + 1 }) trx
  put_back trx t = record { began = t.began; unrefused = t.unrefused; wrote = t.wrote; once = t.once; next_fits = t.next_fits }

  stage_back : (stage : Stage) → IsGoingBack stage → StageStands run primary number s stage → StageStands run primary number (record s { restored = s.restored + 1 }) stage
  stage_back Closed back t = absurd back
  stage_back (Open trx) back t = absurd back
  stage_back (Refused trx refusal) back t = (put_back trx t.0, t.1)
  stage_back (Leaving trx) back t = (put_back trx t.0, t.1)
  stage_back Skipping back t = absurd back
  stage_back (Outside trx) back t = tt

  pub back_set : IsGoingBack s.stage → s.restored < length s.formers.items → SessionStands lines sessions primary answers number (record s { restored = s.restored + 1 })
  back_set back left = record {
    number_is = h.number_is;
    lines_are = h.lines_are;
    next = h.next;
    within = h.within;
    unanswered = h.unanswered;
    restored = omega (arith, left);
    waits = h.waits;
    stage = λ calm. stage_back s.stage back (h.stage calm);
  }

  -- with other rooms, and other waits
  module _ (after : Session) (rest : after ≡ record s { formers = after.formers; waits = after.waits }) (formers : after.formers.items ≡ s.formers.items) where
    next_same : next_line after ≡ next_line s
    next_same = ap (λ (x : Session). next_line x) rest

    fits_same : (b : Bool) → NextFits b s → NextFits b after
    fits_same b t = subst (λ o. IfSome o (λ line. MayStand b line.stmt)) (sym next_same) t

    trx_same : (trx : Begun) → TrxStands run number s trx → TrxStands run number after trx
    trx_same trx t =
        let same_next : after.next ≡ s.next = ap (λ (x : Session). x.next) rest in
        record {
          began = subst (λ n. reply_at run number (trx_at run number n).first ≡ Some (Began trx.view)) (sym same_next) t.began;
          unrefused = subst (λ n. refused_among run (trx_at run number n) (statements_upto run number n) ≡ false) (sym same_next) t.unrefused;
          wrote = λ key. subst (λ n. wrote_among run (trx_at run number n) (statements_upto run number n) key ≡ is_some (row_at key after.formers.items)) (sym same_next) (t.wrote key ∙ sym (ap (λ (l : List Row). is_some (row_at key l)) formers));
          once = subst (λ l. HaveOneRowEach l) (sym formers) t.once;
          next_fits = fits_same true t.next_fits;
        }

    stage_same : (stage : Stage) → StageStands run primary number s stage → StageStands run primary number after stage
    stage_same Closed t = fits_same false t
    stage_same (Open trx) t = (trx_same trx t.0, ap (λ (x : Session). x.restored) rest ∙ t.1)
    stage_same (Refused trx refusal) t = (trx_same trx t.0, (t.1.0, next_same ∙ t.1.1, t.1.2, t.1.3))
    stage_same (Leaving trx) t = (trx_same trx t.0, subst (λ o. IfSome o (λ line. line.stmt ≡ stmts.Rollback)) (sym next_same) t.1)
    stage_same Skipping t =
        let same_next : after.next ≡ s.next = ap (λ (x : Session). x.next) rest in
        (subst (λ n. refused_among run (trx_at run number n) (statements_upto run number n) ≡ true) (sym same_next) t.0, fits_same true t.1)
    stage_same (Outside trx) t = tt

    pub others_same : IfSome (next_line after) (λ line. WaitsStand run primary line.stmt after.waits.items) → SessionStands lines sessions primary answers number after
    others_same waits = record {
      number_is = ap (λ (x : Session). x.number) rest ∙ h.number_is;
      lines_are = ap (λ (x : Session). x.lines.items) rest ∙ h.lines_are;
      next = h.next ∙ sym (ap (λ (x : Session). x.next) rest);
      within = let next = ap (λ (x : Session). x.next) rest in let count : length after.lines.items ≡ length s.lines.items = ap (λ (x : Session). length x.lines.items) rest in let le = h.within in omega (arith, next, count, le);
      unanswered = λ index above. h.unanswered index (let next : after.next ≡ s.next = ap (λ (x : Session). x.next) rest in omega (arith, next, above));
      restored = let back : after.restored ≡ s.restored = ap (λ (x : Session). x.restored) rest in let count : length after.formers.items ≡ length s.formers.items = ap (λ (l : List Row). length l) formers in let le = h.restored in omega (arith, back, count, le);
      waits = waits;
      stage = λ calm. subst (λ st. StageStands run primary number after st) (sym (ap (λ (x : Session). x.stage) rest)) (stage_same s.stage (h.stage calm));
    }

    pub same_session : after.waits.items ≡ s.waits.items → SessionStands lines sessions primary answers number after
    same_session waits = others_same (subst (λ o. IfSome o (λ line. WaitsStand run primary line.stmt after.waits.items)) (sym next_same) (if_some_map (λ (line : Line). WaitsStand run primary line.stmt s.waits.items) (λ (line : Line). WaitsStand run primary line.stmt after.waits.items) (next_line s) (λ line. subst (λ w. WaitsStand run primary line.stmt w) (sym waits)) h.waits))

-- one name more, if it isn't there, keeps each once
same_names : (x y : TrxName) → same_trx x y ≡ false → x ≢ y
same_names x y apart is =
    let same : (x.session == x.session && x.first == x.first) ≡ true = grind (arith, nat_tests) in
    true_false (sym same ∙ subst (λ (z : TrxName). same_trx x z ≡ false) (sym is) apart)

apart_each : (names : List TrxName) (name : TrxName) → is_named name names ≡ false → AllByRecursion (λ other. name ≢ other) names
apart_each [] name none = tt
apart_each (x ∷ names) name none = (λ is. same_names x name (or_left (same_trx x name) (is_named name names) none) (sym is), apart_each names name (or_right (same_trx x name) (is_named name names) none))

without_one : (names : List TrxName) (name : TrxName) → IsWithoutRepeat names → AllByRecursion (λ other. name ≢ other) names → IsWithoutRepeat (names ++ name ∷ [])
without_one [] name once apart = (tt, tt)
without_one (x ∷ names) name once apart = (all_append (λ other. other ≢ x) names (name ∷ []) once.0 (apart.0, tt), without_one names name once.1 apart.1)

-- the waits with one more
module _ (run : Execution) (primary : ℕ) (name : TrxName) (waits : List TrxName) where
  with_one : (key : ℕ) → HasWrittenHere run primary key name → IsWithoutRepeat waits × AllByRecursion (HasWrittenHere run primary key) waits → IsWithoutRepeat (with_name name waits) × AllByRecursion (HasWrittenHere run primary key) (with_name name waits)
  with_one key here h = go (is_named name waits) refl
    where
      go : (b : Bool) → is_named name waits ≡ b → IsWithoutRepeat (with_name name waits) × AllByRecursion (HasWrittenHere run primary key) (with_name name waits)
      go true e = rw e h
      go false e = rw e (without_one waits name h.0 (apart_each waits name e), all_append (HasWrittenHere run primary key) waits (name ∷ []) h.1 (here, tt))

  by_target : (target : Option Target) → is_some target ≡ true → IfSome target (λ t. HasWrittenHere run primary t.key name)
      → MatchOption target (waits ≡ []) (λ t. IsWithoutRepeat waits × AllByRecursion (HasWrittenHere run primary t.key) waits)
      → MatchOption target (with_name name waits ≡ []) (λ t. IsWithoutRepeat (with_name name waits) × AllByRecursion (HasWrittenHere run primary t.key) (with_name name waits))
  by_target None some here h = absurd (true_false (sym some))
  by_target (Some t) some here h = with_one t.key here h

  pub waits_one : (stmt : Stmt) → is_some (target_of stmt) ≡ true → IfSome (target_of stmt) (λ t. HasWrittenHere run primary t.key name) → WaitsStand run primary stmt waits → WaitsStand run primary stmt (with_name name waits)
  waits_one stmt some here h = by_target (target_of stmt) some here h

-- before anything is answered
pub starts : (lines : List Line) (sessions : List SessionOn) (primary number : ℕ) (s : Session) → IsOrderly lines → StartsAs number (own_lines lines sessions primary number) s → SessionStands lines sessions primary [] number s
starts lines sessions primary number s orderly is = record {
  number_is = is.number_is;
  lines_are = is.lines_are;
  next = sym is.next;
  within = let none = is.next in omega (arith, none);
  unanswered = λ index above. refl;
  restored = let none = is.restored in omega (arith, none);
  waits = if_some_always (λ (line : Line). WaitsStand (execution_above lines sessions []) primary line.stmt s.waits.items) (next_line s) (λ line. subst (λ w. WaitsStand (execution_above lines sessions []) primary line.stmt w) (sym is.waits) (no_waits (execution_above lines sessions []) primary line.stmt));
  stage = λ calm. subst (λ st. StageStands (execution_above lines sessions []) primary number s st) (sym is.stage) (subst (λ n. IfSome (slice_get s.lines.items n) (λ line. MayStand false line.stmt)) (sym is.next) (subst (λ (l : List Line). IfSome (slice_get l 0) (λ line. MayStand false line.stmt)) (sym is.lines_are) (first (list_any (λ (on : SessionOn). on.session == number && on.primary == primary) sessions))));
}
  where
    first : (b : Bool) → IfSome (slice_get (if b then session_lines number lines else []) 0) (λ line. MayStand false line.stmt)
    first true = first_in_order (session_lines number lines) 0 false (orderly number)
    first false = tt

-- a write waits for one more
pub waiting : (lines : List Line) (sessions : List SessionOn) (primary : ℕ) (answers : List Answer) (number : ℕ) (s : Session) (h : SessionStands lines sessions primary answers number s) (after : Session) (line : Line) (name : TrxName)
    → next_line s ≡ Some line → is_some (target_of line.stmt) ≡ true → IfSome (target_of line.stmt) (λ t. HasWrittenHere (execution_above lines sessions answers) primary t.key name) → after ≡ record s { waits = after.waits } → after.waits.items ≡ with_name name s.waits.items
    → SessionStands lines sessions primary answers number after
waiting lines sessions primary answers number s h after line name next some here rest waits =
    let run = execution_above lines sessions answers in
    let before : WaitsStand run primary line.stmt s.waits.items = subst (λ o. IfSome o (λ (l : Line). WaitsStand run primary l.stmt s.waits.items)) next h.waits in
    let now : WaitsStand run primary line.stmt after.waits.items = subst (λ w. WaitsStand run primary line.stmt w) (sym waits) (waits_one run primary name s.waits.items line.stmt some here before) in
    let formers : after.formers ≡ s.formers = ap (λ (x : Session). x.formers) rest in
    let rest_too : after ≡ record s { formers = after.formers; waits = after.waits } = rest ∙ ap (λ f. record s { formers = f; waits = after.waits }) (sym formers) in
    let same_next : next_line after ≡ next_line s = ap (λ (x : Session). next_line x) rest in
    others_same lines sessions primary answers number s h after rest_too (ap (λ (l : Listed Row). l.items) formers)
    (subst (λ o. IfSome o (λ (l : Line). WaitsStand run primary l.stmt after.waits.items)) (sym (same_next ∙ next)) now)

-- with other rooms
pub book_same : (lines : List Line) (sessions : List SessionOn) (primary : ℕ) (old new : Book) → IsBook lines sessions primary old → new.answers.items ≡ old.answers.items → new.sessions.items ≡ old.sessions.items → IsBook lines sessions primary new
book_same lines sessions primary old new book answers same = record {
  orderly = book.orderly;
  placed = subst (λ l. EachBelow (IsPlaced lines sessions primary) [] l) (sym answers) book.placed;
  whole = ap (λ (l : List Session). length l) same ∙ book.whole;
  each = λ k z at. subst (λ l. SessionStands lines sessions primary l k z) (sym answers) (book.each k z (subst (λ (l : List Session). slice_get l k ≡ Some z) same at));
}

-- the sessions so far, before anything is answered
pub record AreStarted (lines : List Line) (sessions : List SessionOn) (primary count : ℕ) (xs : List Session) : Type 0 where
  pub length_is : length xs ≡ count
  pub each : (k : ℕ) (s : Session) → slice_get xs k ≡ Some s → StartsAs k (own_lines lines sessions primary k) s

pub started_more : (lines : List Line) (sessions : List SessionOn) (primary count : ℕ) (xs : List Session) (x : Session) (ys : List Session) → AreStarted lines sessions primary count xs → StartsAs count (own_lines lines sessions primary count) x → ys ≡ xs ++ x ∷ [] → AreStarted lines sessions primary (count + 1) ys
started_more lines sessions primary count xs x ys h starts_as is = record {
  length_is = let all : length ys ≡ length (xs ++ x ∷ []) = ap (λ (l : List Session). length l) is in let sum : length (xs ++ x ∷ []) ≡ length xs + 1 = length-append xs (x ∷ []) in let before = h.length_is in omega (arith, all, sum, before);
  each = λ k s at. by_place k s (after_push xs x k s (subst (λ (l : List Session). slice_get l k ≡ Some s) is at));
}
  where
    by_place : (k : ℕ) (s : Session) → ((k ≡ length xs) × (s ≡ x)) ⊎ (slice_get xs k ≡ Some s) → StartsAs k (own_lines lines sessions primary k) s
    by_place k s (inl new) = subst (λ n. StartsAs n (own_lines lines sessions primary n) s) (sym (new.0 ∙ h.length_is)) (subst (λ (z : Session). StartsAs count (own_lines lines sessions primary count) z) (sym new.1) starts_as)
    by_place k s (inr old) = h.each k s old

pub begins_book : (lines : List Line) (sessions : List SessionOn) (primary count : ℕ) (book : Book) → IsOrderly lines → book.answers.items ≡ [] → AreStarted lines sessions primary count book.sessions.items → count ≡ 65 → IsBook lines sessions primary book
begins_book lines sessions primary count book orderly none h all = record {
  orderly = orderly;
  placed = subst (λ l. EachBelow (IsPlaced lines sessions primary) [] l) (sym none) tt;
  whole = h.length_is ∙ all;
  each = λ k s at. subst (λ l. SessionStands lines sessions primary l k s) (sym none) (starts lines sessions primary k s orderly (h.each k s at));
}
