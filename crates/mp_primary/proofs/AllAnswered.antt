-- Where no session has a statement left, each statement of a primary's sessions is answered.
use Rattle.std.proofs.Common.{◌≡◌, ℕ, zero, suc, ◌<◌, ◌≤◌, ◌==◌, ◌&&◌, Bool, true, false, List, [], ◌∷◌, ◌++◌, length, take, slice_get, if◌then◌else◌, Option, None, Some, is_none, refl, ap, subst, ◌∙◌, arith}
use Rattle.std.proofs.Math.Seq.{take-length}
use Rattle.std.proofs.lemmas.Bool.Decides.{nat_tests}
use Rattle.std.proofs.lemmas.List.{append-nil, append_assoc, length-map}
use Rattle.mp_model.specs.declared.replies.Answer.{Answer}
use Rattle.mp_script.specs.declared.statements.Line.{Line}
use Rattle.mp_script.specs.declared.statements.SessionOn.{SessionOn}
use Rattle.mp_script.specs.Below.{EachBelow, answered, stated}
use Rattle.mp_script.specs.Execution.{is_session_on}
use Rattle.mp_book.specs.declared.book.Book.{Book}
use Rattle.mp_book.specs.declared.session.Session.{Session}
use Rattle.mp_book.specs.declared.stage.Stage.{Stage}
use Rattle.mp_book.specs.Answered.{IsPlaced}
use Rattle.mp_book.specs.Orderly.{session_lines}
use Rattle.mp_book.specs.Stages.{next_line, task_by}
use Rattle.mp_book.specs.Through.{is_no_task, has_no_task, have_no_task}
use Rattle.mp_book.specs.Books.{IsBook, SessionStands}
use Rattle.mp_book.proofs.Items.{stands_there}
use Rattle.mp_primary.specs.Answering.{has_no_line, have_no_line}

-- ---- lists

-- one item more of the front
take_more : (xs : List ℕ) (k x : ℕ) → slice_get xs k ≡ Some x → take k xs ++ x ∷ [] ≡ take (suc k) xs
take_more [] k x is = absurd cc
take_more (y ∷ xs) zero x is = cc
take_more (y ∷ xs) (suc k) x is = ap (λ (more : List ℕ). y ∷ more) (take_more xs k x is)

answered_append : (session : ℕ) (first more : List Answer) → answered session (first ++ more) ≡ answered session first ++ answered session more
answered_append session [] more = refl
answered_append session (answer ∷ first) more = go (answer.session == session) refl (answered_append session first more)
  where
    go : (b : Bool) → (answer.session == session) ≡ b → answered session (first ++ more) ≡ answered session first ++ answered session more → answered session (answer ∷ first ++ more) ≡ answered session (answer ∷ first) ++ answered session more
    go true e rest = rw e (ap (λ (l : List ℕ). answer.index ∷ l) rest)
    go false e rest = rw e rest

length_more : (xs : List ℕ) (x : ℕ) → length (xs ++ x ∷ []) ≡ suc (length xs)
length_more [] x = refl
length_more (y ∷ xs) x = let e = length_more xs x in omega (arith, e)

-- nothing stands behind the last
none_past : (xs : List Line) (i : ℕ) → slice_get xs i ≡ None → length xs ≤ i
none_past [] i e = omega arith
none_past (x ∷ xs) zero e = absurd cc
none_past (x ∷ xs) (suc i) e = let rest = none_past xs i e in omega (arith, rest)

both_true : (a b : Bool) → (a && b) ≡ true → (a ≡ true) × (b ≡ true)
both_true true b e = (refl, e)
both_true false b e = absurd cc

-- no session that stands there has a statement left
none_left_at : (xs : List Session) (i : ℕ) (s : Session) → have_no_line xs ≡ true → slice_get xs i ≡ Some s → has_no_line s ≡ true
none_left_at [] i s all at = absurd cc
none_left_at (x ∷ xs) zero s all at =
    let same : x ≡ s = cc in
    subst (λ (v : Session). has_no_line v ≡ true) same (both_true (has_no_line x) (have_no_line xs) all).0
none_left_at (x ∷ xs) (suc i) s all at = none_left_at xs i s (both_true (has_no_line x) (have_no_line xs) all).1 at

none_stated_left : (o : Option Line) → is_none o ≡ true → o ≡ None
none_stated_left None e = refl
none_stated_left (Some line) e = absurd cc

-- a session that has nothing left has no statement left
no_line_by : (o : Option Line) (stage : Stage) → is_no_task (task_by o stage) ≡ true → is_none o ≡ true
no_line_by None stage e = refl
no_line_by (Some line) stage e = absurd cc

pub no_task_no_line : (sessions : List Session) → have_no_task sessions ≡ true → have_no_line sessions ≡ true
no_task_no_line [] all = refl
no_task_no_line (s ∷ sessions) all =
    let both = both_true (has_no_task s) (have_no_task sessions) all in
    rw (no_line_by (next_line s) s.stage both.0) (no_task_no_line sessions both.1)

-- ---- the answers

module _ (lines : List Line) (sessions : List SessionOn) (primary : ℕ) where
  -- what is answered of a session so far is the front of what is stated
  answered_front : (session : ℕ) (above rest : List Answer) → EachBelow (IsPlaced lines sessions primary) above rest → answered session above ≡ take (length (answered session above)) (stated session lines)
      → answered session (above ++ rest) ≡ take (length (answered session (above ++ rest))) (stated session lines)
  answered_front session above [] each so_far = rw (append-nil above) so_far
  answered_front session above (answer ∷ rest) each so_far = rw (← append_assoc above (answer ∷ []) rest) (answered_front session (above ++ answer ∷ []) rest each.1 (here (answer.session == session) refl))
    where
      here : (b : Bool) → (answer.session == session) ≡ b → answered session (above ++ answer ∷ []) ≡ take (length (answered session (above ++ answer ∷ []))) (stated session lines)
      here true e =
          let its : answer.session ≡ session = grind (arith, nat_tests) in
          let more : answered session (above ++ answer ∷ []) ≡ answered session above ++ answer.index ∷ [] = answered_append session above (answer ∷ []) ∙ ap (λ (l : List ℕ). answered session above ++ l) (rw e refl) in
          let next : slice_get (stated session lines) (length (answered session above)) ≡ Some answer.index = subst (λ (k : ℕ). slice_get (stated k lines) (length (answered k above)) ≡ Some answer.index) its each.0.next.next in
          let grown : take (length (answered session above)) (stated session lines) ++ answer.index ∷ [] ≡ take (suc (length (answered session above))) (stated session lines) = take_more (stated session lines) (length (answered session above)) answer.index next in
          rw (more, length_more (answered session above) answer.index) (ap (λ (l : List ℕ). l ++ answer.index ∷ []) so_far ∙ grown)
      here false e =
          let none : answered session (answer ∷ []) ≡ [] = rw e refl in
          let same : answered session (above ++ answer ∷ []) ≡ answered session above = answered_append session above (answer ∷ []) ∙ ap (λ (l : List ℕ). answered session above ++ l) none ∙ append-nil (answered session above) in
          rw same so_far

  module _ (book : Book) (is : IsBook lines sessions primary book) (through : have_no_line book.sessions.items ≡ true) (session : ℕ) (below : session < 65) (on : is_session_on sessions session primary ≡ true) where
    own : (s : Session) × (slice_get book.sessions.items session ≡ Some s)
    own = stands_there book.sessions.items session (let whole = is.whole in omega (arith, whole, below))

    stands : SessionStands lines sessions primary book.answers.items session own.0
    stands = is.each session own.0 own.1

    over : next_line own.0 ≡ None
    over = none_stated_left (next_line own.0) (none_left_at book.sessions.items session own.0 through own.1)

    its_lines : (own.0).lines.items ≡ session_lines session lines
    its_lines = stands.lines_are ∙ ap (λ (b : Bool). if b then session_lines session lines else []) on

    counted : length (answered session book.answers.items) ≡ length (stated session lines)
    counted =
        let next = stands.next in
        let within = stands.within in
        let end = none_past (own.0).lines.items (own.0).next over in
        let count : length (own.0).lines.items ≡ length (session_lines session lines) = ap (λ (l : List Line). length l) its_lines in
        let mapped : length (stated session lines) ≡ length (session_lines session lines) = length-map (session_lines session lines) (λ (line : Line). line.index) in
        omega (arith, next, within, end, count, mapped)

    pub all_answered : answered session book.answers.items ≡ stated session lines
    all_answered =
        answered_front session [] book.answers.items is.placed refl
        ∙ ap (λ (n : ℕ). take n (stated session lines)) counted
        ∙ take-length (stated session lines)
