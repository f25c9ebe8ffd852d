-- A spelled script begins at most 5,032 transactions: of at most 10,000 statements each `begin` but the last of each of
-- 64 sessions has its `commit` or `rollback`.
use Rattle.std.proofs.Common.{◌≡◌, ℕ, zero, suc, ◌+◌, ◌<◌, ◌≤◌, Bool, true, false, List, [], ◌∷◌, ◌++◌, length, Some, refl, ap, subst, ◌∙◌, arith, ◌==◌, if◌then◌else◌}
use Rattle.std.specs.Prelude.{count_by}
use Rattle.std.proofs.lemmas.Bool.Decides.{nat_tests}
use Rattle.std.proofs.lemmas.List.{length-append}
use Rattle.std.proofs.lemmas.List.Sums.{sum_by-append}
use Rattle.mp_script.specs.declared.statements.Line.{Line}
use Rattle.mp_script.specs.declared.statements.Script.{Script}
use Rattle.mp_script.specs.declared.statements.Stmt.{Stmt}
use Rattle.mp_script.specs.declared.statements.Stmt.TheVariants.{Begin, Get, Put, Del, Copy, Scan, Commit, Rollback}
use Rattle.mp_script.specs.declared.entries.Entry.{Entry}
use Rattle.mp_script.specs.declared.entries.Entry.TheVariants.{Session, Statement}
use Rattle.mp_script.specs.Entries.{Said, nothing_said, with_entry, said_after, open_after, has_open_trx}
use Rattle.mp_script.specs.Spelling.{MaySay, MayStand, AllFit, IsSpelled}
use Rattle.mp_script.specs.SpelledLines.{begin_count}
use Rattle.mp_script.specs.Transactions.{begins}
use Rattle.mp_script.proofs.SpelledLines.{session_within, InOrderSoFar, next_in_order, more_declared}
use Rattle.mp_script.proofs.Tallies.{open_behind-push}

abbrev one_if : Bool → ℕ
one_if b = if b then 1 else 0

abbrev ends : Stmt → Bool
ends Begin = false
ends (Get key) = false
ends (Put key value) = false
ends (Del key) = false
ends (Copy from to) = false
ends (Scan low most) = false
ends Commit = true
ends Rollback = true

abbrev end_count : List Line → ℕ
end_count lines = count_by (λ line. ends line.stmt) lines

-- how many of the first so many sessions have an open transaction
abbrev open_count : ℕ → List Line → ℕ
open_count zero lines = 0
open_count (suc n) lines = open_count n lines + one_if (has_open_trx lines (suc n))

open_most : (n : ℕ) (lines : List Line) → open_count n lines ≤ n
open_most zero lines = omega arith
open_most (suc n) lines = go (has_open_trx lines (suc n)) (open_most n lines)
  where
    go : (b : Bool) → open_count n lines ≤ n → open_count n lines + one_if b ≤ suc n
    go true le = omega (arith, le)
    go false le = omega (arith, le)

open_other : (lines : List Line) (line : Line) (session : ℕ) → (line.session == session) ≡ false → has_open_trx (lines ++ line ∷ []) session ≡ has_open_trx lines session
open_other lines line session e = open_behind-push false lines line session ∙ rw e refl

open_its : (lines : List Line) (line : Line) (session : ℕ) → (line.session == session) ≡ true → has_open_trx (lines ++ line ∷ []) session ≡ open_after line.stmt
open_its lines line session e = open_behind-push false lines line session ∙ rw e refl

open_above : (n : ℕ) (lines : List Line) (line : Line) → n < line.session → open_count n (lines ++ line ∷ []) ≡ open_count n lines
open_above zero lines line lt = refl
open_above (suc n) lines line lt =
    let other : (line.session == suc n) ≡ false = grind (arith, nat_tests) in
    rw (open_other lines line (suc n) other, open_above n lines line (omega (arith, lt))) refl

-- one statement more changes the count by its own session
open_more : (n : ℕ) (lines : List Line) (line : Line) → 1 ≤ line.session → line.session ≤ n → open_count n (lines ++ line ∷ []) + one_if (has_open_trx lines line.session) ≡ open_count n lines + one_if (open_after line.stmt)
open_more zero lines line low high = absurd (omega (arith, low, high))
open_more (suc n) lines line low high = go (line.session == suc n) refl (open_more n lines line low)
  where
    go : (b : Bool) → (line.session == suc n) ≡ b → (line.session ≤ n → open_count n (lines ++ line ∷ []) + one_if (has_open_trx lines line.session) ≡ open_count n lines + one_if (open_after line.stmt))
        → open_count (suc n) (lines ++ line ∷ []) + one_if (has_open_trx lines line.session) ≡ open_count (suc n) lines + one_if (open_after line.stmt)
    go true e rest =
        let same : line.session ≡ suc n = grind (arith, nat_tests) in
        let above : open_count n (lines ++ line ∷ []) ≡ open_count n lines = open_above n lines line (omega (arith, same)) in
        let here : one_if (has_open_trx (lines ++ line ∷ []) (suc n)) ≡ one_if (open_after line.stmt) = ap one_if (open_its lines line (suc n) e) in
        let was : one_if (has_open_trx lines line.session) ≡ one_if (has_open_trx lines (suc n)) = ap (λ s. one_if (has_open_trx lines s)) same in
        omega (arith, above, here, was)
    go false e rest =
        let lower : line.session ≤ n = grind (arith, nat_tests, high) in
        let below = rest lower in
        rw (open_other lines line (suc n) e) (omega (arith, below))

-- `begin`s are as many as ends and open transactions
record IsBalanced (lines : List Line) : Type 0 where
  balance : begin_count lines ≡ end_count lines + open_count 64 lines
  both : begin_count lines + end_count lines ≤ length lines
  most : length lines ≤ 10000

begin_more : (lines : List Line) (line : Line) → begin_count (lines ++ line ∷ []) ≡ begin_count lines + one_if (begins (Some line.stmt))
begin_more lines line = sum_by-append _ lines (line ∷ []) ∙ ap (λ n. begin_count lines + n) (omega arith)

end_more : (lines : List Line) (line : Line) → end_count (lines ++ line ∷ []) ≡ end_count lines + one_if (ends line.stmt)
end_more lines line = sum_by-append _ lines (line ∷ []) ∙ ap (λ n. end_count lines + n) (omega arith)

-- a statement begins a transaction where none was open, ends the open one, or leaves it open
steps : (open_now : Bool) (stmt : Stmt) → MayStand open_now stmt → (one_if (begins (Some stmt)) + one_if open_now ≡ one_if (ends stmt) + one_if (open_after stmt)) × (one_if (begins (Some stmt)) + one_if (ends stmt) ≤ 1)
steps false Begin may = (refl, omega arith)
steps false (Get key) may = absurd may
steps false (Put key value) may = absurd may
steps false (Del key) may = absurd may
steps false (Copy from to) may = absurd may
steps false (Scan low most) may = absurd may
steps false Commit may = absurd may
steps false Rollback may = absurd may
steps true Begin may = absurd may
steps true (Get key) may = (refl, omega arith)
steps true (Put key value) may = (refl, omega arith)
steps true (Del key) may = (refl, omega arith)
steps true (Copy from to) may = (refl, omega arith)
steps true (Scan low most) may = (refl, omega arith)
steps true Commit may = (refl, omega arith)
steps true Rollback may = (refl, omega arith)

balanced_next : (said : Said) (line : Line) → MaySay said line → (1 ≤ line.session) × (line.session ≤ 64) → IsBalanced said.lines → IsBalanced (said.lines ++ line ∷ [])
balanced_next said line may session so_far =
    let step = steps (has_open_trx said.lines line.session) line.stmt may.stands in
    let opens = open_more 64 said.lines line session.0 session.1 in
    let long : length (said.lines ++ line ∷ []) ≡ length said.lines + 1 = length-append said.lines (line ∷ []) in
    let b = begin_more said.lines line in
    let e = end_more said.lines line in
    let balance = so_far.balance in
    let both = so_far.both in
    let changes = step.0 in
    let one = step.1 in
    record {
      balance = omega (arith, b, e, opens, balance, changes);
      both = omega (arith, b, e, both, one, long);
      most = omega (arith, may.room, long);
    }

balanced_after : (said : Said) (entries : List Entry) → AllFit said entries → InOrderSoFar said.sessions said.lines → IsBalanced said.lines → IsBalanced (said_after said entries).lines
balanced_after said [] fit in_order so_far = so_far
balanced_after said (Session s ∷ entries) fit in_order so_far = balanced_after (with_entry said (Session s)) entries fit.1 (more_declared said s fit.0 in_order) so_far
balanced_after said (Statement line ∷ entries) fit in_order so_far = balanced_after (with_entry said (Statement line)) entries fit.1 (next_in_order said line fit.0 in_order) (balanced_next said line fit.0 (session_within said.sessions line.session in_order.declared fit.0.declared) so_far)

pub few_begins : (script : Script) → IsSpelled script → begin_count script.lines.items ≤ 5032
few_begins script (bytes, spells) =
    let start : InOrderSoFar [] [] = record { declared = tt; within = tt; beyond = λ session index past. refl; open_begun = λ session is_open. cc; begun = λ session index line is. cc; numbered = λ session. refl } in
    let end : IsBalanced (said_after (nothing_said script.primaries) spells.entries).lines = balanced_after (nothing_said script.primaries) spells.entries spells.spelled.fit start (record { balance = refl; both = omega arith; most = omega arith }) in
    let all : IsBalanced script.lines.items = subst (λ said. IsBalanced said.lines) spells.spelled.whole end in
    let open_few = open_most 64 script.lines.items in
    let balance = all.balance in
    let both = all.both in
    let most = all.most in
    omega (arith, open_few, balance, both, most)
