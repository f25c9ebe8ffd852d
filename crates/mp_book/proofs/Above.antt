-- What look-ups find with one answer more, and what is said of a transaction then.
use Rattle.std.proofs.Common.{◌≡◌, ℕ, zero, suc, ◌+◌, ◌≤◌, ◌==◌, ◌&&◌, ◌||◌, Bool, true, false, List, [], ◌∷◌, ◌++◌, length, filter, map, Option, None, Some, if◌then◌else◌, refl, sym, ap, subst, ◌∙◌, arith}
use Rattle.std.specs.Option.{IfSome}
use Rattle.std.specs.Prelude.{MatchOption}
use Rattle.std.specs.List.{AllByRecursion}
use Rattle.std.proofs.lemmas.Bool.Decides.{nat_tests}
use Rattle.std.proofs.lemmas.List.{append-nil, map-append, length-append}
use Rattle.std.proofs.lemmas.List.Elements.{filter-append}
use Rattle.mp_model.specs.declared.ids.TrxName.{TrxName}
use Rattle.mp_model.specs.declared.replies.Answer.{Answer}
use Rattle.mp_script.specs.declared.statements.Line.{Line}
use Rattle.mp_script.specs.declared.statements.SessionOn.{SessionOn}
use Rattle.mp_script.specs.declared.statements.Stmt.{Stmt}
use Rattle.mp_script.specs.Below.{answered}
use Rattle.mp_script.specs.Execution.{Execution, answer_at, reply_at}
use Rattle.mp_script.specs.Transactions.{Target, target_of, target_key, is_refusal, is_wrote, is_number, wrote_at, refused_among, wrote_among}
use Rattle.mp_script.specs.Right.{HasWritten, IsWithoutRepeat}
use Rattle.mp_script.proofs.Lists.{all_map}
use Rattle.mp_book.specs.Answered.{execution_above, HasWrittenHere, WaitsStand}

-- another statement's answer is found as before
pub answer_other : (answers : List Answer) (a : Answer) (session index : ℕ) → (a.session == session && a.index == index) ≡ false → answer_at (answers ++ a ∷ []) session index ≡ answer_at answers session index
answer_other [] a session index other = rw other refl
answer_other (x ∷ answers) a session index other = ap (λ rest. if (x.session == session && x.index == index) then Some x else rest) (answer_other answers a session index other)

-- the new one is found where its statement had none
pub answer_here : (answers : List Answer) (a : Answer) → answer_at answers a.session a.index ≡ None → answer_at (answers ++ a ∷ []) a.session a.index ≡ Some a
answer_here [] a none = let e : (a.session == a.session && a.index == a.index) ≡ true = grind (arith, nat_tests) in rw e refl
answer_here (x ∷ answers) a none = go (x.session == a.session && x.index == a.index) refl (answer_here answers a)
  where
    go : (b : Bool) → (x.session == a.session && x.index == a.index) ≡ b → (answer_at answers a.session a.index ≡ None → answer_at (answers ++ a ∷ []) a.session a.index ≡ Some a) → answer_at (x ∷ answers ++ a ∷ []) a.session a.index ≡ Some a
    go true e rest = let no : Some x ≡ None = rw e at none in cc
    go false e rest = rw e (rest (rw e at none))

-- what was found is found
pub answer_kept : (answers : List Answer) (a : Answer) (session index : ℕ) (found : Answer) → answer_at answers session index ≡ Some found → answer_at (answers ++ a ∷ []) session index ≡ Some found
answer_kept [] a session index found is = cc
answer_kept (x ∷ answers) a session index found is = go (x.session == session && x.index == index) refl (answer_kept answers a session index found)
  where
    go : (b : Bool) → (x.session == session && x.index == index) ≡ b → (answer_at answers session index ≡ Some found → answer_at (answers ++ a ∷ []) session index ≡ Some found) → answer_at (x ∷ answers ++ a ∷ []) session index ≡ Some found
    go true e rest = rw e (rw e at is)
    go false e rest = rw e (rest (rw e at is))

pub answered_more : (session : ℕ) (answers : List Answer) (a : Answer) → answered session (answers ++ a ∷ []) ≡ answered session answers ++ answered session (a ∷ [])
answered_more session answers a =
    ap (λ l. map (λ (answer : Answer). answer.index) l) (filter-append (λ (answer : Answer). answer.session == session) answers (a ∷ []))
    ∙ map-append (λ (answer : Answer). answer.index) (filter (λ (answer : Answer). answer.session == session) answers) (filter (λ (answer : Answer). answer.session == session) (a ∷ []))

pub count_here : (answers : List Answer) (a : Answer) → length (answered a.session (answers ++ a ∷ [])) ≡ suc (length (answered a.session answers))
count_here answers a =
    let e : (a.session == a.session) ≡ true = grind (arith, nat_tests) in
    let one : answered a.session (a ∷ []) ≡ a.index ∷ [] = rw e refl in
    let all : length (answered a.session (answers ++ a ∷ [])) ≡ length (answered a.session answers ++ a.index ∷ []) = ap (λ (l : List ℕ). length l) (answered_more a.session answers a ∙ ap (λ l. answered a.session answers ++ l) one) in
    let sum : length (answered a.session answers ++ a.index ∷ []) ≡ length (answered a.session answers) + 1 = length-append (answered a.session answers) (a.index ∷ []) in
    omega (arith, all, sum)

pub count_other : (session : ℕ) (answers : List Answer) (a : Answer) → (a.session == session) ≡ false → length (answered session (answers ++ a ∷ [])) ≡ length (answered session answers)
count_other session answers a e =
    let none : answered session (a ∷ []) ≡ [] = rw e refl in
    ap (λ (l : List ℕ). length l) (answered_more session answers a ∙ ap (λ l. answered session answers ++ l) none ∙ append-nil (answered session answers))

module _ (lines : List Line) (sessions : List SessionOn) (old new : List Answer) where
  -- the statements of a transaction are answered as before, up to a count
  abbrev pub SameReplies : ℕ → ℕ → ℕ → Type 0
  SameReplies session first count = (j : ℕ) → j ≤ count → reply_at (execution_above lines sessions new) session (first + j) ≡ reply_at (execution_above lines sessions old) session (first + j)

  pub refused_same : (trx : TrxName) (count : ℕ) → SameReplies trx.session trx.first count → refused_among (execution_above lines sessions new) trx count ≡ refused_among (execution_above lines sessions old) trx count
  refused_same trx zero same = refl
  refused_same trx (suc count) same =
      let rest = refused_same trx count (λ j le. same j (omega (arith, le))) in
      rw (rest, same (suc count) (omega arith)) refl

  pub wrote_same : (trx : TrxName) (count key : ℕ) → SameReplies trx.session trx.first count → wrote_among (execution_above lines sessions new) trx count key ≡ wrote_among (execution_above lines sessions old) trx count key
  wrote_same trx zero key same = refl
  wrote_same trx (suc count) key same =
      let rest = wrote_same trx count key (λ j le. same j (omega (arith, le))) in
      rw (rest, same (suc count) (omega arith)) refl

-- a write that was answered ok is so with one answer more
module _ (lines : List Line) (sessions : List SessionOn) (answers : List Answer) (a : Answer) where
  wrote_kept : (session index key : ℕ) → wrote_at (execution_above lines sessions answers) session index ≡ Some key → wrote_at (execution_above lines sessions (answers ++ a ∷ [])) session index ≡ Some key
  wrote_kept session index key is = go (answer_at answers session index) refl
    where
      no_key : None ≡ Some key → wrote_at (execution_above lines sessions (answers ++ a ∷ [])) session index ≡ Some key
      no_key e = cc

      go : (found : Option Answer) → answer_at answers session index ≡ found → wrote_at (execution_above lines sessions (answers ++ a ∷ [])) session index ≡ Some key
      go None e = no_key (rw e at is)
      go (Some x) e = rw (answer_kept answers a session index x e) (rw e at is)

  written_more : (name : TrxName) (key : ℕ) → HasWritten (execution_above lines sessions answers) name key → HasWritten (execution_above lines sessions (answers ++ a ∷ [])) name key
  written_more name key h = record { index = h.index; its = h.its; written = wrote_kept name.session h.index key h.written }

  pub here_more : (primary key : ℕ) (name : TrxName) → HasWrittenHere (execution_above lines sessions answers) primary key name → HasWrittenHere (execution_above lines sessions (answers ++ a ∷ [])) primary key name
  here_more primary key name h = λ on. written_more name key (h on)

  waits_by : (primary : ℕ) (waits : List TrxName) (target : Option Target)
      → MatchOption target (waits ≡ []) (λ target. IsWithoutRepeat waits × AllByRecursion (HasWrittenHere (execution_above lines sessions answers) primary target.key) waits)
      → MatchOption target (waits ≡ []) (λ target. IsWithoutRepeat waits × AllByRecursion (HasWrittenHere (execution_above lines sessions (answers ++ a ∷ [])) primary target.key) waits)
  waits_by primary waits None h = h
  waits_by primary waits (Some target) h = (h.0, all_map (HasWrittenHere (execution_above lines sessions answers) primary target.key) (HasWrittenHere (execution_above lines sessions (answers ++ a ∷ [])) primary target.key) waits (here_more primary target.key) h.1)

  pub waits_more : (primary : ℕ) (stmt : Stmt) (waits : List TrxName) → WaitsStand (execution_above lines sessions answers) primary stmt waits → WaitsStand (execution_above lines sessions (answers ++ a ∷ [])) primary stmt waits
  waits_more primary stmt waits h = waits_by primary waits (target_of stmt) h

-- nobody was waited for
no_waits_by : (run : Execution) (primary : ℕ) (waits : List TrxName) → waits ≡ [] → (target : Option Target) → MatchOption target (waits ≡ []) (λ target. IsWithoutRepeat waits × AllByRecursion (HasWrittenHere run primary target.key) waits)
no_waits_by run primary waits none None = none
no_waits_by run primary waits none (Some target) = subst (λ w. IsWithoutRepeat w × AllByRecursion (HasWrittenHere run primary target.key) w) (sym none) (tt, tt)

pub no_waits : (run : Execution) (primary : ℕ) (stmt : Stmt) → WaitsStand run primary stmt []
no_waits run primary stmt = no_waits_by run primary [] refl (target_of stmt)
