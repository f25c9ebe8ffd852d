-- The statements of a spelled script: within their ranges, numbered in each session's order, each with its `begin`.
use Rattle.std.proofs.Common.{◌≡◌, ℕ, zero, suc, ◌+◌, ◌<◌, ◌≤◌, Bool, true, false, List, [], ◌∷◌, ◌++◌, Some, None, refl, sym, ap, subst, ◌∙◌, ◌⊎◌, inl, inr, arith, ◌==◌, ◌&&◌, if◌then◌else◌}
use Rattle.std.specs.List.{AllByRecursion}
use Rattle.std.proofs.lemmas.Bool.{cases_lt}
use Rattle.std.proofs.lemmas.Bool.Decides.{nat_tests}
use Rattle.mp_script.specs.declared.statements.Line.{Line}
use Rattle.mp_script.specs.declared.statements.Script.{Script}
use Rattle.mp_script.specs.declared.statements.SessionOn.{SessionOn}
use Rattle.mp_script.specs.declared.statements.Stmt.{Stmt}
use Rattle.mp_script.specs.declared.statements.Stmt.TheVariants.{Begin, Get, Put, Del, Copy, Scan, Commit, Rollback}
use Rattle.mp_script.specs.declared.entries.Entry.{Entry}
use Rattle.mp_script.specs.declared.entries.Entry.TheVariants.{Session, Statement}
use Rattle.mp_script.specs.Below.{stated}
use Rattle.mp_script.specs.Entries.{Said, nothing_said, with_entry, said_after, is_declared, statements, has_open_trx}
use Rattle.mp_script.specs.Execution.{line_at, stmt_in}
use Rattle.mp_script.specs.InTheirPart.{count_from}
use Rattle.mp_script.specs.Spelling.{MayDeclare, MaySay, MayStand, AllFit, IsSpelled}
use Rattle.mp_script.specs.SpelledLines.{IsLineInRange, HaveTheirBegin}
use Rattle.mp_script.specs.Transactions.{begins, begin_in}
use Rattle.mp_script.proofs.Lists.{all_append}
use Rattle.mp_script.proofs.Tallies.{statements-push, open_behind-push, statements-le}

-- a declared session is 1 to 64
pub session_within : (sessions : List SessionOn) (session : ℕ) → AllByRecursion (λ s. (1 ≤ s.session) × (s.session ≤ 64)) sessions → is_declared sessions session ≡ true → (1 ≤ session) × (session ≤ 64)
session_within [] session within declared = cc
session_within (s ∷ sessions) session within declared = go (session == s.session) refl (session_within sessions session within.1)
  where
    go : (b : Bool) → (session == s.session) ≡ b → (is_declared sessions session ≡ true → (1 ≤ session) × (session ≤ 64)) → (1 ≤ session) × (session ≤ 64)
    go true e rest = let same : session ≡ s.session = grind (arith, nat_tests) in rw same within.0
    go false e rest = rest (rw e at declared)

-- a look-up in statements with one more: it is found there, or it is the new one, or there is none
line_before : (lines : List Line) (line : Line) (session index : ℕ) → (line.session == session && line.index == index) ≡ false → line_at (lines ++ line ∷ []) session index ≡ line_at lines session index
line_before [] line session index other = rw other refl
line_before (x ∷ lines) line session index other = ap (λ rest. if (x.session == session && x.index == index) then Some x else rest) (line_before lines line session index other)

line_new : (lines : List Line) (line : Line) → line_at lines line.session line.index ≡ None → line_at (lines ++ line ∷ []) line.session line.index ≡ Some line
line_new [] line none = let e : (line.session == line.session && line.index == line.index) ≡ true = grind (arith, nat_tests) in rw e refl
line_new (x ∷ lines) line none = go (x.session == line.session && x.index == line.index) refl (line_new lines line)
  where
    go : (b : Bool) → (x.session == line.session && x.index == line.index) ≡ b → (line_at lines line.session line.index ≡ None → line_at (lines ++ line ∷ []) line.session line.index ≡ Some line) → line_at (x ∷ lines ++ line ∷ []) line.session line.index ≡ Some line
    go true e rest = let no : Some x ≡ None = rw e at none in cc
    go false e rest = rw e (rest (rw e at none))

-- the same statements give the same `begin`
same_begin : (lines more : List Line) (session index : ℕ) → ((j : ℕ) → j ≤ index → line_at more session j ≡ line_at lines session j) → begin_in more session index ≡ begin_in lines session index
same_begin lines more session zero same = refl
same_begin lines more session (suc index) same = rw (same (suc index) (omega arith), same_begin lines more session index (λ j le. same j (omega (arith, le)))) refl

begin_le : (lines : List Line) (session index : ℕ) → begin_in lines session index ≤ index
begin_le lines session zero = omega arith
begin_le lines session (suc index) = go (begins (stmt_in lines session (suc index))) refl (begin_le lines session index)
  where
    go : (b : Bool) → begins (stmt_in lines session (suc index)) ≡ b → begin_in lines session index ≤ index → begin_in lines session (suc index) ≤ suc index
    go true e le = rw e (omega arith)
    go false e le = rw e (omega arith)

-- what is kept of the statements said so far
pub record InOrderSoFar (sessions : List SessionOn) (lines : List Line) : Type 0 where
  pub declared : AllByRecursion (λ s. (1 ≤ s.session) × (s.session ≤ 64)) sessions
  pub within : AllByRecursion IsLineInRange lines
  pub beyond : (session index : ℕ) → statements lines session < index ⊎ (index ≡ 0) → line_at lines session index ≡ None
  pub open_begun : (session : ℕ) → has_open_trx lines session ≡ true → begins (stmt_in lines session (begin_in lines session (statements lines session))) ≡ true
  pub begun : HaveTheirBegin lines
  pub numbered : (session : ℕ) → stated session lines ≡ count_from 1 (statements lines session)

count_from_more : (first count : ℕ) → count_from first count ++ (first + count) ∷ [] ≡ count_from first (suc count)
count_from_more first zero = ap (λ n. n ∷ []) (omega arith)
count_from_more first (suc count) = ap (λ rest. first ∷ rest) (ap (λ n. count_from (first + 1) count ++ n ∷ []) (omega arith) ∙ count_from_more (first + 1) count)

stated_more : (session : ℕ) (lines : List Line) (line : Line) → stated session (lines ++ line ∷ []) ≡ (if line.session == session then stated session lines ++ line.index ∷ [] else stated session lines)
stated_more session [] line = go (line.session == session) refl
  where
    go : (b : Bool) → (line.session == session) ≡ b → stated session (line ∷ []) ≡ (if line.session == session then line.index ∷ [] else [])
    go true e = rw e refl
    go false e = rw e refl
stated_more session (x ∷ lines) line = go (x.session == session) (line.session == session) refl refl (stated_more session lines line)
  where
    go : (b d : Bool) → (x.session == session) ≡ b → (line.session == session) ≡ d → stated session (lines ++ line ∷ []) ≡ (if line.session == session then stated session lines ++ line.index ∷ [] else stated session lines)
        → stated session (x ∷ lines ++ line ∷ []) ≡ (if line.session == session then stated session (x ∷ lines) ++ line.index ∷ [] else stated session (x ∷ lines))
    go true true e f rest = rw (e, f) (ap (λ xs. x.index ∷ xs) (rw f at rest))
    go true false e f rest = rw (e, f) (ap (λ xs. x.index ∷ xs) (rw f at rest))
    go false true e f rest = rw (e, f) (rw f at rest)
    go false false e f rest = rw (e, f) (rw f at rest)

stands_open : (stmt : Stmt) → MayStand true stmt → begins (Some stmt) ≡ false
stands_open Begin may = absurd may
stands_open (Get key) may = refl
stands_open (Put key value) may = refl
stands_open (Del key) may = refl
stands_open (Copy from to) may = refl
stands_open (Scan low most) may = refl
stands_open Commit may = refl
stands_open Rollback may = refl

stands_shut : (stmt : Stmt) → MayStand false stmt → begins (Some stmt) ≡ true
stands_shut Begin may = refl
stands_shut (Get key) may = absurd may
stands_shut (Put key value) may = absurd may
stands_shut (Del key) may = absurd may
stands_shut (Copy from to) may = absurd may
stands_shut (Scan low most) may = absurd may
stands_shut Commit may = absurd may
stands_shut Rollback may = absurd may

module _ (said : Said) (line : Line) (may : MaySay said line) (so_far : InOrderSoFar said.sessions said.lines) where
  abbrev next : List Line
  next = said.lines ++ line ∷ []

  count_here : statements next line.session ≡ suc (statements said.lines line.session)
  count_here = let e : (line.session == line.session) ≡ true = grind (arith, nat_tests) in statements-push said.lines line line.session ∙ rw e (omega arith)

  count_other : (session : ℕ) → (line.session == session) ≡ false → statements next session ≡ statements said.lines session
  count_other session e = statements-push said.lines line session ∙ rw e (omega arith)

  index_is : line.index ≡ suc (statements said.lines line.session)
  index_is = omega (arith, may.number)

  new_found : line_at next line.session (suc (statements said.lines line.session)) ≡ Some line
  new_found = rw (← index_is) (line_new said.lines line (so_far.beyond line.session line.index (inl (omega (arith, index_is)))))

  -- earlier statements are found as before
  before_it : (session index : ℕ) → (line.session == session && line.index == index) ≡ false → line_at next session index ≡ line_at said.lines session index
  before_it session index other = line_before said.lines line session index other

  below_it : (session index : ℕ) → index ≤ statements said.lines session → line_at next session index ≡ line_at said.lines session index
  below_it session index le = before_it session index (go (line.session == session) refl)
    where
      go : (b : Bool) → (line.session == session) ≡ b → (line.session == session && line.index == index) ≡ false
      go true e = let same : line.session ≡ session = grind (arith, nat_tests) in let lt : index < line.index = omega (arith, index_is, rw (← same) at le) in let f : (line.index == index) ≡ false = grind (arith, nat_tests) in rw (e, f) refl
      go false e = rw e refl

  begin_same : (session index : ℕ) → index ≤ statements said.lines session → begin_in next session index ≡ begin_in said.lines session index
  begin_same session index le = same_begin said.lines next session index (λ j below. below_it session j (omega (arith, le, below)))

  -- a `begin` that there was is there
  begin_kept : (session index : ℕ) → index ≤ statements said.lines session → begins (stmt_in said.lines session (begin_in said.lines session index)) ≡ true → begins (stmt_in next session (begin_in next session index)) ≡ true
  begin_kept session index le has = rw (begin_same session index le, below_it session (begin_in said.lines session index) (let b = begin_le said.lines session index in omega (arith, b, le))) has

  -- the new statement's transaction has begun
  new_begun : begins (stmt_in next line.session (begin_in next line.session (suc (statements said.lines line.session)))) ≡ true
  new_begun = go (has_open_trx said.lines line.session) refl may.stands
    where
      go : (b : Bool) → has_open_trx said.lines line.session ≡ b → MayStand b line.stmt → begins (stmt_in next line.session (begin_in next line.session (suc (statements said.lines line.session)))) ≡ true
      go true e stands = rw (new_found, stands_open line.stmt stands) (begin_kept line.session (statements said.lines line.session) (omega arith) (so_far.open_begun line.session e))
      go false e stands = rw (new_found, stands_shut line.stmt stands) (rw new_found (stands_shut line.stmt stands))

  pub next_in_order : InOrderSoFar said.sessions (said.lines ++ line ∷ [])
  next_in_order = record {
    declared = so_far.declared;
    within = all_append IsLineInRange said.lines (line ∷ []) so_far.within (new_within, tt);
    beyond = beyond_it;
    open_begun = open_begun_it;
    begun = begun_it;
    numbered = numbered_it;
  }
    where
      new_within : IsLineInRange line
      new_within =
          let session = session_within said.sessions line.session so_far.declared may.declared in
          let few = statements-le said.lines line.session in
          record { session_low = session.0; session_high = session.1; index_low = omega (arith, may.number); index_high = omega (arith, may.number, few, may.room); stmt = may.within }

      beyond_it : (session index : ℕ) → statements next session < index ⊎ (index ≡ 0) → line_at next session index ≡ None
      beyond_it session index past = go (line.session == session) refl past
        where
          go : (b : Bool) → (line.session == session) ≡ b → statements next session < index ⊎ (index ≡ 0) → line_at next session index ≡ None
          go true e (inl gt) =
              let same : line.session ≡ session = grind (arith, nat_tests) in
              let count : statements next session ≡ suc (statements said.lines session) = rw (← same) count_here in
              let at : line.index ≡ suc (statements said.lines session) = rw (← same) index_is in
              let f : (line.index == index) ≡ false = let apart : line.index < index = omega (arith, gt, count, at) in grind (arith, nat_tests) in
              before_it session index (rw (e, f) refl) ∙ so_far.beyond session index (inl (omega (arith, gt, count)))
          go true e (inr is) = let f : (line.index == index) ≡ false = let apart : index < line.index = omega (arith, is, index_is) in grind (arith, nat_tests) in before_it session index (rw (e, f) refl) ∙ so_far.beyond session index (inr is)
          go false e (inl gt) = before_it session index (rw e refl) ∙ so_far.beyond session index (inl (let same = count_other session e in omega (arith, gt, same)))
          go false e (inr is) = before_it session index (rw e refl) ∙ so_far.beyond session index (inr is)

      open_begun_it : (session : ℕ) → has_open_trx next session ≡ true → begins (stmt_in next session (begin_in next session (statements next session))) ≡ true
      open_begun_it session is_open = go (line.session == session) refl
        where
          go : (b : Bool) → (line.session == session) ≡ b → begins (stmt_in next session (begin_in next session (statements next session))) ≡ true
          go true e = let same : line.session ≡ session = grind (arith, nat_tests) in rw (← same, count_here) new_begun
          go false e = rw (count_other session e) (begin_kept session (statements said.lines session) (omega arith) (so_far.open_begun session (sym (open_behind-push false said.lines line session ∙ rw e refl) ∙ is_open)))

      begun_it : HaveTheirBegin next
      begun_it session index found is = go (line.session == session && line.index == index) refl
        where
          go : (b : Bool) → (line.session == session && line.index == index) ≡ b → begins (stmt_in next session (begin_in next session index)) ≡ true
          go true e =
              let same : line.session ≡ session = grind (arith, nat_tests) in
              let at : line.index ≡ index = grind (arith, nat_tests) in
              rw (← same, ← at) (subst (λ n. begins (stmt_in next line.session (begin_in next line.session n)) ≡ true) (sym index_is) new_begun)
          go false e =
              let old : line_at said.lines session index ≡ Some found = sym (before_it session index e) ∙ is in
              begin_kept session index (within_count old) (so_far.begun session index found old)
            where
              within_count : line_at said.lines session index ≡ Some found → index ≤ statements said.lines session
              within_count old = by_test (cases_lt (statements said.lines session) index)
                where
                  by_test : (statements said.lines session < index) ⊎ (index ≤ statements said.lines session) → index ≤ statements said.lines session
                  by_test (inl gt) = let none : line_at said.lines session index ≡ None = so_far.beyond session index (inl gt) in cc
                  by_test (inr le) = le

      numbered_it : (session : ℕ) → stated session next ≡ count_from 1 (statements next session)
      numbered_it session = stated_more session said.lines line ∙ go (line.session == session) refl
        where
          go : (b : Bool) → (line.session == session) ≡ b → (if line.session == session then stated session said.lines ++ line.index ∷ [] else stated session said.lines) ≡ count_from 1 (statements next session)
          go true e =
              let same : line.session ≡ session = grind (arith, nat_tests) in
              let count : statements next session ≡ suc (statements said.lines session) = rw (← same) count_here in
              let at : line.index ≡ 1 + statements said.lines session = omega (arith, rw same at index_is) in
              rw (e, count, at, so_far.numbered session) (count_from_more 1 (statements said.lines session))
          go false e = rw (e, count_other session e) (so_far.numbered session)

-- one more session changes nothing of the statements
pub more_declared : (said : Said) (s : SessionOn) → MayDeclare said s → InOrderSoFar said.sessions said.lines → InOrderSoFar (said.sessions ++ s ∷ []) said.lines
more_declared said s may so_far = record {
  declared = all_append (λ x. (1 ≤ x.session) × (x.session ≤ 64)) said.sessions (s ∷ []) so_far.declared ((may.session_low, may.session_high), tt);
  within = so_far.within;
  beyond = so_far.beyond;
  open_begun = so_far.open_begun;
  begun = so_far.begun;
  numbered = so_far.numbered;
}

-- so it goes on to the last entry
in_order_after : (said : Said) (entries : List Entry) → AllFit said entries → InOrderSoFar said.sessions said.lines → InOrderSoFar (said_after said entries).sessions (said_after said entries).lines
in_order_after said [] fit so_far = so_far
in_order_after said (Session s ∷ entries) fit so_far = in_order_after (with_entry said (Session s)) entries fit.1 (more_declared said s fit.0 so_far)
in_order_after said (Statement line ∷ entries) fit so_far = in_order_after (with_entry said (Statement line)) entries fit.1 (next_in_order said line fit.0 so_far)

pub spelled_in_order : (script : Script) → IsSpelled script → InOrderSoFar script.sessions.items script.lines.items
spelled_in_order script (bytes, spells) = subst (λ said. InOrderSoFar said.sessions said.lines) spells.spelled.whole (in_order_after (nothing_said script.primaries) spells.entries spells.spelled.fit start)
  where
    start : InOrderSoFar [] []
    start = record { declared = tt; within = tt; beyond = λ session index past. refl; open_begun = λ session is_open. cc; begun = λ session index line is. cc; numbered = λ session. refl }
