-- The rows of a view have at a key what the latest commit in it that wrote the key set, or the opening's value.
use Rattle.std.proofs.Common.{◌≡◌, ℕ, zero, suc, ◌+◌, ◌-◌, ◌≤◌, List, ◌++◌, Option, Some, None, refl, sym, ap, subst, ◌∙◌, inl, inr, arith, append-nil}
use Rattle.std.specs.List.{flat_map}
use Rattle.std.proofs.lemmas.Bool.{cases_lt}
use Rattle.mp_model.specs.declared.histories.Commit.{Commit}
use Rattle.mp_model.specs.declared.key_value.KeyValue.{KeyValue}
use Rattle.mp_model.specs.declared.replies.Answer.{Answer}
use Rattle.mp_model.specs.Folded.{over, before, value_at}
use Rattle.mp_script.specs.Execution.{Execution}
use Rattle.mp_script.specs.Transactions.{trx_of, view_of, statements_before}
use Rattle.mp_script.specs.Seen.{writes_among, acknowledgement, commit_by, history}
use Rattle.mp_script.specs.LastValues.{last_value, value_over, writes_acknowledged, writes_of_commit, NoCommitWrites, IsValueInView, CommitsAboveViews}
use Rattle.mp_script.proofs.Histories.{writes_shown, history_bound, history_later, history_next}
use Rattle.mp_script.proofs.LastValues.{value_at-over}

module _ (run : Execution) (above : CommitsAboveViews run) where
  -- a view within the first commits shows what it shows in the end
  shown_same : (view made : ℕ) → run.opening.base ≤ view → view ≤ run.opening.base + made → made ≤ run.commits → before run.opening.rows.items (history run made) view ≡ before run.opening.rows.items (history run run.commits) view
  shown_same view made low high le =
      let count : ℕ = view - run.opening.base in
      let is : view ≡ run.opening.base + count = omega (arith, low) in
      subst (λ (v : ℕ). before run.opening.rows.items (history run made) v ≡ before run.opening.rows.items (history run run.commits) v) (sym is)
      (history_later run run.opening.rows.items made count (omega (arith, is, high)) ∙ sym (history_later run run.opening.rows.items run.commits count (omega (arith, is, high, le))))

  none_more : (key after made : ℕ) → last_value key (writes_of_commit run (run.opening.base + suc made)) ≡ None → NoCommitWrites run after (run.opening.base + made) key → NoCommitWrites run after (run.opening.base + suc made) key
  none_more key after made none rest = λ number lt le. elim (cases_lt number (run.opening.base + suc made)) [
    | inl before_it ↦ rest number lt (omega (arith, before_it))
    | inr ge ↦
        let is : run.opening.base + suc made ≡ number = omega (arith, ge, le) in
        subst (λ (n : ℕ). last_value key (writes_of_commit run n) ≡ None) is none
  ]

  more : (key made : ℕ) (value : Option (List ℕ)) → last_value key (writes_of_commit run (run.opening.base + suc made)) ≡ None → IsValueInView run (run.opening.base + made) key value → IsValueInView run (run.opening.base + suc made) key value
  more key made value none (inl l) = let within = l.in_view in inl (record {
    number = l.number;
    above_base = l.above_base;
    in_view = omega (arith, within);
    sets = l.sets;
    latest = none_more key l.number made none l.latest;
  })
  more key made value none (inr n) = inr (none_more key run.opening.base made none n.0, n.1)

  -- without a commit with the next number nothing changes
  quiet : (made : ℕ) → acknowledgement run.answers (run.opening.base + suc made) ≡ None → before run.opening.rows.items (history run (suc made)) (run.opening.base + suc made) ≡ before run.opening.rows.items (history run made) (run.opening.base + made)
  quiet made none =
      let same : history run (suc made) ≡ history run made = ap (λ (found : Option Answer). history run made ++ commit_by run (history run made) (run.opening.base + suc made) found) none ∙ append-nil (history run made) in
      ap (over run.opening.rows.items)
      (writes_shown (history run (suc made)) (run.opening.base + suc made) (history_bound run (suc made))
      ∙ ap (λ (commits : List Commit). flat_map (λ commit. commit.writes.items) commits) same
      ∙ sym (writes_shown (history run made) (run.opening.base + made) (history_bound run made)))

  -- the commit with the next number is folded over those before it
  module _ (made : ℕ) (le : suc made ≤ run.commits) (answer : Answer) (found : acknowledgement run.answers (run.opening.base + suc made) ≡ Some answer) where
    folded : before run.opening.rows.items (history run (suc made)) (run.opening.base + suc made) ≡ over (before run.opening.rows.items (history run made) (run.opening.base + made)) (writes_of_commit run (run.opening.base + suc made))
    folded =
        let trx = trx_of run answer in
        let views = above (run.opening.base + suc made) answer found in
        let low = views.0 in
        let high = views.1 in
        let same = shown_same (view_of run trx) made low (omega (arith, high)) (omega (arith, le)) in
        history_next run run.opening.rows.items made answer found
        ∙ ap (λ (rows : List KeyValue). over (before run.opening.rows.items (history run made) (run.opening.base + made)) (writes_among run (λ index. rows) trx (statements_before trx answer.index))) same
        ∙ ap (λ (x : Option Answer). over (before run.opening.rows.items (history run made) (run.opening.base + made)) (writes_acknowledged run x)) (sym found)

    one_more : (key : ℕ) → IsValueInView run (run.opening.base + made) key (value_at key (before run.opening.rows.items (history run made) (run.opening.base + made))) → IsValueInView run (run.opening.base + suc made) key (value_at key (before run.opening.rows.items (history run (suc made)) (run.opening.base + suc made)))
    one_more key rest = by_last (last_value key (writes_of_commit run (run.opening.base + suc made))) refl
      where
        value_is : value_at key (before run.opening.rows.items (history run (suc made)) (run.opening.base + suc made)) ≡ value_over (last_value key (writes_of_commit run (run.opening.base + suc made))) (value_at key (before run.opening.rows.items (history run made) (run.opening.base + made)))
        value_is = ap (value_at key) folded ∙ value_at-over key (before run.opening.rows.items (history run made) (run.opening.base + made)) (writes_of_commit run (run.opening.base + suc made))

        by_last : (x : Option (Option (List ℕ))) → last_value key (writes_of_commit run (run.opening.base + suc made)) ≡ x → IsValueInView run (run.opening.base + suc made) key (value_at key (before run.opening.rows.items (history run (suc made)) (run.opening.base + suc made)))
        by_last None is =
            let same : value_at key (before run.opening.rows.items (history run (suc made)) (run.opening.base + suc made)) ≡ value_at key (before run.opening.rows.items (history run made) (run.opening.base + made)) = value_is ∙ ap (λ (x : Option (Option (List ℕ))). value_over x (value_at key (before run.opening.rows.items (history run made) (run.opening.base + made)))) is in
            subst (IsValueInView run (run.opening.base + suc made) key) (sym same) (more key made (value_at key (before run.opening.rows.items (history run made) (run.opening.base + made))) is rest)
        by_last (Some value) is =
            let same : value_at key (before run.opening.rows.items (history run (suc made)) (run.opening.base + suc made)) ≡ value = value_is ∙ ap (λ (x : Option (Option (List ℕ))). value_over x (value_at key (before run.opening.rows.items (history run made) (run.opening.base + made)))) is in
            subst (IsValueInView run (run.opening.base + suc made) key) (sym same) (inl (record {
              number = run.opening.base + suc made;
              above_base = omega arith;
              in_view = omega arith;
              sets = is;
              latest = λ number lt upto. absurd (omega (arith, lt, upto));
            }))

  value_made : (key made : ℕ) → made ≤ run.commits → IsValueInView run (run.opening.base + made) key (value_at key (before run.opening.rows.items (history run made) (run.opening.base + made)))
  value_made key zero le = inr (λ number lt upto. absurd (omega (arith, lt, upto)), refl)
  value_made key (suc made) le = by_answer (acknowledgement run.answers (run.opening.base + suc made)) refl (value_made key made (omega (arith, le)))
    where
      by_answer : (x : Option Answer) → acknowledgement run.answers (run.opening.base + suc made) ≡ x → IsValueInView run (run.opening.base + made) key (value_at key (before run.opening.rows.items (history run made) (run.opening.base + made))) → IsValueInView run (run.opening.base + suc made) key (value_at key (before run.opening.rows.items (history run (suc made)) (run.opening.base + suc made)))
      by_answer None is rest =
          subst (IsValueInView run (run.opening.base + suc made) key) (sym (ap (value_at key) (quiet made is)))
          (more key made (value_at key (before run.opening.rows.items (history run made) (run.opening.base + made))) (ap (λ (x : Option Answer). last_value key (writes_acknowledged run x)) is) rest)
      by_answer (Some answer) is rest = one_more made le answer is key rest

  pub value_in_view : (key view : ℕ) → run.opening.base ≤ view → view ≤ run.opening.base + run.commits → IsValueInView run view key (value_at key (before run.opening.rows.items (history run run.commits) view))
  value_in_view key view low high =
      let count : ℕ = view - run.opening.base in
      let is : view ≡ run.opening.base + count = omega (arith, low) in
      let made = value_made key count (omega (arith, is, high)) in
      subst (λ (v : ℕ). IsValueInView run v key (value_at key (before run.opening.rows.items (history run run.commits) v))) (sym is)
      (subst (λ (rows : List KeyValue). IsValueInView run (run.opening.base + count) key (value_at key rows)) (sym (history_later run run.opening.rows.items run.commits count (omega (arith, is, high)))) made)
