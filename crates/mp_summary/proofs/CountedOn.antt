-- What has been counted of answers and then of more has been counted of all of them.
use Rattle.std.proofs.Common.{arith, ◌≡◌, ℕ, ◌+◌, ◌<◌, List, [], ◌∷◌, ◌++◌, length, take, get_or, refl, sym, ap, subst, ◌∙◌}
use Rattle.std.specs.List.{flat_map}
use Rattle.std.proofs.lemmas.Grind.{flat_map-append}
use Rattle.std.proofs.lemmas.List.{take_more, append-nil}
use Rattle.std.proofs.lemmas.List.Elements.{filter_map-append}
use Rattle.std.proofs.lemmas.List.Sums.{sum_by-append}
use Rattle.mp_model.specs.declared.replies.Answer.{Answer}
use Rattle.mp_model.specs.declared.transcripts.Part.{Part}
use Rattle.mp_script.specs.declared.statements.Line.{Line}
use Rattle.mp_summary.specs.declared.counting.AnswerCounts.{AnswerCounts}
use Rattle.mp_summary.specs.Counted.{HasCounted}
use Rattle.mp_summary.specs.Summaries.{answered_count, acknowledged_count, written_key, keys_written, with_number, with_numbers}

with_more : (there xs ys : List ℕ) → with_numbers there (xs ++ ys) ≡ with_numbers (with_numbers there xs) ys
with_more there [] ys = refl
with_more there (x ∷ xs) ys = with_more (with_number there x) xs ys

pub counted_none : (lines : List Line) (counts : AnswerCounts) → HasCounted lines [] counts counts
counted_none lines counts = record { answered = omega arith; commits = omega arith; keys = refl }

pub counted_more : (lines : List Line) (xs ys : List Answer) (a b d : AnswerCounts) → HasCounted lines xs a b → HasCounted lines ys b d
    → HasCounted lines (xs ++ ys) a d
counted_more lines xs ys a b d first second =
    let answered : answered_count (xs ++ ys) ≡ answered_count xs + answered_count ys = sum_by-append _ xs ys in
    let commits : acknowledged_count (xs ++ ys) ≡ acknowledged_count xs + acknowledged_count ys = sum_by-append _ xs ys in
    let one = first.answered in
    let two = second.answered in
    let three = first.commits in
    let four = second.commits in
    record {
      answered = omega (arith, answered, one, two);
      commits = omega (arith, commits, three, four);
      keys = second.keys ∙ ap (λ (l : List ℕ). with_numbers l (keys_written lines ys)) first.keys
          ∙ sym_more (keys_written lines xs) (keys_written lines ys) (keys_written lines (xs ++ ys)) (filter_map-append (written_key lines) xs ys);
    }
  where
    sym_more : (k l m : List ℕ) → m ≡ k ++ l → with_numbers (with_numbers a.keys.items k) l ≡ with_numbers a.keys.items m
    sym_more k l m e = rw e (rw (with_more a.keys.items k l) refl)

-- one more answer of a part
pub counted_next : (lines : List Line) (answers : List Answer) (i : ℕ) (answer : Answer) (a b d : AnswerCounts) → i < length answers
    → answer ≡ get_or answers i answer → HasCounted lines (take i answers) a b → HasCounted lines (answer ∷ []) b d → HasCounted lines (take (i + 1) answers) a d
counted_next lines answers i answer a b d lt is first second =
    let next : take (i + 1) answers ≡ take i answers ++ answer ∷ [] = take_more answers i answer lt ∙ ap (λ (x : Answer). take i answers ++ x ∷ []) (sym is) in
    subst (λ (l : List Answer). HasCounted lines l a d) (sym next) (counted_more lines (take i answers) (answer ∷ []) a b d first second)

answers_of : List Part → List Answer
answers_of parts = flat_map (λ part. part.answers.items) parts

-- one more part
pub parts_next : (lines : List Line) (parts : List Part) (i : ℕ) (part : Part) (answers : List Answer) (a b d : AnswerCounts)
    → i < length parts
    → part ≡ get_or parts i part → answers ≡ part.answers.items → HasCounted lines (flat_map (λ p. p.answers.items) (take i parts)) a b
    → HasCounted lines answers b d → HasCounted lines (flat_map (λ p. p.answers.items) (take (i + 1) parts)) a d
unfolding answers_of
parts_next lines parts i part answers a b d lt is its first second =
    let next : take (i + 1) parts ≡ take i parts ++ part ∷ [] = take_more parts i part lt ∙ ap (λ (x : Part). take i parts ++ x ∷ []) (sym is) in
    let joined : answers_of (take i parts ++ part ∷ []) ≡ answers_of (take i parts) ++ (part.answers.items ++ []) = flat_map-append (λ (p : Part). p.answers.items) (take i parts) (part ∷ []) in
    let whole : answers_of (take (i + 1) parts) ≡ answers_of (take i parts) ++ answers =
    ap answers_of next ∙ joined ∙ ap (λ (l : List Answer). answers_of (take i parts) ++ l) (append-nil part.answers.items ∙ sym its) in
    subst (λ (l : List Answer). HasCounted lines l a d) (sym whole) (counted_more lines (answers_of (take i parts)) answers a b d first second)
