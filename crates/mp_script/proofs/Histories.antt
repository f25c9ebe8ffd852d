-- The history of commits, one number after another: later commits hide from earlier views, and the next one is folded over
-- those before it.
use Rattle.std.proofs.Common.{◌≡◌, ℕ, zero, suc, ◌+◌, ◌<◌, ◌≤◌, nat_le, Bool, true, false, List, [], ◌∷◌, ◌++◌, Option, Some, None, refl, sym, ap, ◌∙◌, ◌⊎◌, inl, inr, arith}
use Rattle.std.specs.List.{AllByRecursion, flat_map}
use Rattle.std.proofs.lemmas.Bool.{cases_lt}
use Rattle.std.proofs.lemmas.Bool.Decides.{nat_tests}
use Rattle.std.proofs.lemmas.List.{append-nil, append_assoc}
use Rattle.mp_model.specs.declared.histories.Commit.{Commit}
use Rattle.mp_model.specs.declared.key_value.KeyValue.{KeyValue}
use Rattle.mp_model.specs.declared.replies.Answer.{Answer}
use Rattle.mp_model.specs.Folded.{over, before, writes_up_to}
use Rattle.mp_model.proofs.Folds.{over_append}
use Rattle.mp_script.specs.Execution.{Execution}
use Rattle.mp_script.specs.Transactions.{trx_of, view_of}
use Rattle.mp_script.specs.Seen.{own_writes, acknowledgement, commit_by, history}
use Rattle.mp_script.proofs.Lists.{all_append, all_map}

-- commits above a view add nothing to it
pub writes_hidden : (first later : List Commit) (view : ℕ) → AllByRecursion (λ commit. view < commit.cts) later → writes_up_to (first ++ later) view ≡ writes_up_to first view
writes_hidden [] [] view above = refl
writes_hidden [] (commit ∷ later) view above = let e : nat_le commit.cts view ≡ false = grind (arith, nat_tests, above.0) in rw e (writes_hidden [] later view above.1)
writes_hidden (commit ∷ first) later view above = go (nat_le commit.cts view) refl (writes_hidden first later view above)
  where
    go : (b : Bool) → nat_le commit.cts view ≡ b → writes_up_to (first ++ later) view ≡ writes_up_to first view → writes_up_to (commit ∷ first ++ later) view ≡ writes_up_to (commit ∷ first) view
    go true e same = rw e (ap (λ writes. commit.writes.items ++ writes) same)
    go false e same = rw e same

-- commits at or below a view are all folded in
pub writes_shown : (commits : List Commit) (view : ℕ) → AllByRecursion (λ commit. commit.cts ≤ view) commits → writes_up_to commits view ≡ flat_map (λ commit. commit.writes.items) commits
writes_shown [] view below = refl
writes_shown (commit ∷ commits) view below = let e : nat_le commit.cts view ≡ true = grind (arith, nat_tests, below.0) in rw e (ap (λ writes. commit.writes.items ++ writes) (writes_shown commits view below.1))

pub flat_map_append : (first more : List Commit) → flat_map (λ commit. commit.writes.items) (first ++ more) ≡ flat_map (λ commit. commit.writes.items) first ++ flat_map (λ commit. commit.writes.items) more
flat_map_append [] more = refl
flat_map_append (commit ∷ first) more = ap (λ writes. commit.writes.items ++ writes) (flat_map_append first more) ∙ sym (append_assoc commit.writes.items _ _)

module _ (run : Execution) where
  -- the commit with a number, where there is one, has it
  numbered : (P : ℕ → Type 0) (lower : List Commit) (number : ℕ) (found : Option Answer) → P number → AllByRecursion (λ commit. P commit.cts) (commit_by run lower number found)
  numbered P lower number None holds = tt
  numbered P lower number (Some answer) holds = (holds, tt)

  -- the first commits have the first numbers
  pub history_bound : (count : ℕ) → AllByRecursion (λ commit. commit.cts ≤ run.opening.base + count) (history run count)
  history_bound zero = tt
  history_bound (suc count) = all_append (λ commit. commit.cts ≤ run.opening.base + suc count) (history run count) _
      (all_map (λ commit. commit.cts ≤ run.opening.base + count) (λ commit. commit.cts ≤ run.opening.base + suc count) (history run count) (λ commit le. omega arith) (history_bound count))
      (numbered (λ cts. cts ≤ run.opening.base + suc count) (history run count) (run.opening.base + suc count) (acknowledgement run.answers (run.opening.base + suc count)) (omega arith))

  -- a view shows no commit above it
  pub history_later : (rows : List KeyValue) (count made : ℕ) → made ≤ count → before rows (history run count) (run.opening.base + made) ≡ before rows (history run made) (run.opening.base + made)
  history_later rows zero made le = let e : made ≡ 0 = omega arith in rw e refl
  history_later rows (suc count) made le = go (cases_lt made (suc count)) (history_later rows count made)
    where
      go : (made < suc count) ⊎ (suc count ≤ made) → (made ≤ count → before rows (history run count) (run.opening.base + made) ≡ before rows (history run made) (run.opening.base + made)) → before rows (history run (suc count)) (run.opening.base + made) ≡ before rows (history run made) (run.opening.base + made)
      go (inl lt) same = ap (λ writes. over rows writes) (writes_hidden (history run count) (commit_by run (history run count) (run.opening.base + suc count) (acknowledgement run.answers (run.opening.base + suc count))) (run.opening.base + made) (numbered (λ cts. run.opening.base + made < cts) (history run count) (run.opening.base + suc count) (acknowledgement run.answers (run.opening.base + suc count)) (omega arith))) ∙ same (omega arith)
      go (inr ge) same = let e : made ≡ suc count = omega arith in rw e refl

  -- the next commit is folded over those before it
  pub history_next : (rows : List KeyValue) (made : ℕ) (answer : Answer) → acknowledgement run.answers (run.opening.base + suc made) ≡ Some answer
      → before rows (history run (suc made)) (run.opening.base + suc made)
      ≡ over (before rows (history run made) (run.opening.base + made)) (own_writes run (λ index. before run.opening.rows.items (history run made) (view_of run (trx_of run answer))) (trx_of run answer) answer.index)
  history_next rows made answer found =
      let lower = history run made in
      let number = run.opening.base + suc made in
      let mine = own_writes run (λ index. before run.opening.rows.items lower (view_of run (trx_of run answer))) (trx_of run answer) answer.index in
      let all = writes_shown (history run (suc made)) number (history_bound (suc made)) in
      let here : history run (suc made) ≡ lower ++ commit_by run lower number (Some answer) = rw found refl in
      let below = writes_shown lower (run.opening.base + made) (history_bound made) in
      ap (λ writes. over rows writes) (all ∙ ap (λ commits. flat_map (λ commit. commit.writes.items) commits) here ∙ flat_map_append lower (commit_by run lower number (Some answer)) ∙ ap (λ writes. writes ++ (mine ++ [])) (sym below))
      ∙ over_append rows (writes_up_to lower (run.opening.base + made)) (mine ++ [])
      ∙ ap (λ writes. over (before rows lower (run.opening.base + made)) writes) (append-nil mine)
