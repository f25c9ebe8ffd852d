-- Answer by answer.
use Rattle.std.proofs.Common.{◌≡◌, ℕ, true, false, List, [], ◌∷◌, Option, Some, None, refl, sym, subst, ◌∙◌, inl, inr, arith}
use Rattle.std.specs.Prelude.{◌==◌, ◌&&◌}
use Rattle.std.specs.List.{AllByRecursion}
use Rattle.std.proofs.lemmas.Bool.{cases_Bool}
use Rattle.mp_model.specs.declared.replies.Answer.{Answer}
use Rattle.mp_model.specs.declared.replies.Reply.TheVariants.{Committed, Unknown}
use Rattle.mp_script.specs.Execution.{Execution, answer_at}
use Rattle.mp_script.specs.Transactions.{acknowledged_cts, cts_of}
use Rattle.mp_recover.specs.Closed.{SameWrites, writes_of_answer, RestsOn, is_kept}
use Rattle.mp_recover.specs.SmallRuns.{acknowledged_put, unknown_put, kept_put, row_of_put, answer_without_waits}
use Rattle.mp_recover.proofs.examples.law_kept_closed_examples.Goals as goal

same_answer : (x y : Answer) → Some x ≡ Some y → x ≡ y
same_answer x y h = cc

same_number : (a b : ℕ) → Some a ≡ Some b → a ≡ b
same_number a b h = cc

-- what holds of each answer holds of the one that is looked up
of_answer : (P : Answer → Type 0) (answers : List Answer) → AllByRecursion P answers → (session index : ℕ) (answer : Answer) → answer_at answers session index ≡ Some answer → P answer
of_answer P [] all session index answer e = absurd cc
of_answer P (a ∷ answers) all session index answer e = elim (cases_Bool (a.session == session && a.index == index)) [
  | inl here ↦ subst P (same_answer a answer (sym (rw here refl) ∙ e)) all.0
  | inr there ↦ of_answer P answers all.1 session index answer (sym (rw there refl) ∙ e)
]

-- no commit is below the first number
acknowledged_first : (number : ℕ) → AllByRecursion (λ answer. acknowledged_cts answer.reply ≡ Some number → number ≡ 1) acknowledged_put.answers
acknowledged_first number = (λ e. absurd cc, (λ e. absurd cc, (λ e. sym (same_number 1 number e), tt)))

acknowledged_none : (number : ℕ) → AllByRecursion (λ answer. acknowledged_cts answer.reply ≡ Some number → number ≡ 1) unknown_put.answers
acknowledged_none number = (λ e. absurd cc, (λ e. absurd cc, (λ e. absurd cc, tt)))

rests_on_none : (run : Execution) → ((number : ℕ) → AllByRecursion (λ answer. acknowledged_cts answer.reply ≡ Some number → number ≡ 1) run.answers) → (answer : Answer) (number : ℕ) → RestsOn run answer 1 number → ⊥
rests_on_none run first answer number rests =
    let is = of_answer (λ other. acknowledged_cts other.reply ≡ Some number → number ≡ 1) run.answers (first number) rests.other.session rests.other.index rests.other rests.told rests.acknowledged.shows in
    let below = rests.below in
    omega (arith, is, below)

pub returns-clause-acknowledged : goal.returns-clause-acknowledged
returns-clause-acknowledged c = record {
  acknowledged = (
    λ number e. absurd cc,
    (λ number e. absurd cc, (λ number e. subst (λ (n : ℕ). is_kept (kept_put 1 (row_of_put ∷ []) ∷ []) n ≡ true) (same_number 1 number e) refl, tt)),
  );
  committed = (record { answer = answer_without_waits 1 3 (Committed 1); told = refl; number = refl; writes = λ rows key. refl }, tt);
  rests = (λ answer told number n rests. absurd (rests_on_none acknowledged_put acknowledged_first answer n rests), tt);
}

pub returns-clause-lost : goal.returns-clause-lost
returns-clause-lost c = λ closed. let no : false ≡ true = closed.acknowledged.1.1.0 1 refl in cc

pub returns-clause-renumbered : goal.returns-clause-renumbered
returns-clause-renumbered c = λ closed. let no : false ≡ true = closed.acknowledged.1.1.0 1 refl in cc

-- the commit's answer is the last one, and its transaction wrote key 7
wrote_seven : AllByRecursion (λ answer. cts_of answer.reply ≡ Some 1 → SameWrites [] (writes_of_answer acknowledged_put answer) → ⊥) acknowledged_put.answers
wrote_seven = (λ e same. absurd cc, (λ e same. absurd cc, (λ e same. (let no : ◌≡◌ {A = Option (List ℕ)} None (Some (66 ∷ [])) = same [] 7 in cc), tt)))

pub returns-clause-unwritten : goal.returns-clause-unwritten
returns-clause-unwritten c = λ closed.
    let was = closed.committed.0 in
    of_answer (λ answer. cts_of answer.reply ≡ Some 1 → SameWrites [] (writes_of_answer acknowledged_put answer) → ⊥) acknowledged_put.answers wrote_seven was.answer.session was.answer.index was.answer was.told was.number was.writes

pub returns-clause-unknown : goal.returns-clause-unknown
returns-clause-unknown c = record {
  acknowledged = (λ number e. absurd cc, (λ number e. absurd cc, (λ number e. absurd cc, tt)));
  committed = (record { answer = answer_without_waits 1 3 (Unknown 1); told = refl; number = refl; writes = λ rows key. refl }, tt);
  rests = (λ answer told number n rests. absurd (rests_on_none unknown_put acknowledged_none answer n rests), tt);
}

pub returns-clause-given_up : goal.returns-clause-given_up
returns-clause-given_up c = record {
  acknowledged = (λ number e. absurd cc, (λ number e. absurd cc, (λ number e. absurd cc, tt)));
  committed = tt;
  rests = tt;
}

-- session 2 read key 7, which commit 1 wrote
pub returns-clause-rests : goal.returns-clause-rests
returns-clause-rests c = record {
  other = answer_without_waits 1 3 (Committed 1);
  told = refl;
  below = omega arith;
  key = 7;
  acknowledged = record { shows = refl; wrote = refl };
  touches = inl (record { index = 2; its = refl; reads = refl });
}

pub returns-clause-itself : goal.returns-clause-itself
returns-clause-itself c = λ rests. let below = rests.below in omega (arith, below)
