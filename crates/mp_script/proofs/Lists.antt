-- Facts of all items of a list, kept when it grows.
use Rattle.std.proofs.Common.{◌≡◌, ℕ, ◌≤◌, Bool, true, false, List, [], ◌∷◌, ◌++◌, Some, None, refl, arith}
use Rattle.std.specs.Prelude.{find}
use Rattle.std.specs.List.{AllByRecursion}
use Rattle.std.proofs.lemmas.Bool.Decides.{nat_tests}
use Rattle.mp_model.specs.declared.replies.Answer.{Answer}
use Rattle.mp_script.specs.Below.{EachBelow, from_first, greatest_cts}

pub all_append : {T : Type 0} (P : T → Type 0) (xs ys : List T) → AllByRecursion P xs → AllByRecursion P ys → AllByRecursion P (xs ++ ys)
all_append P [] ys all_xs all_ys = all_ys
all_append P (x ∷ xs) ys all_xs all_ys = (all_xs.0, all_append P xs ys all_xs.1 all_ys)

pub all_map : {T : Type 0} (P Q : T → Type 0) (xs : List T) → ((x : T) → P x → Q x) → AllByRecursion P xs → AllByRecursion Q xs
all_map P Q [] f all_xs = tt
all_map P Q (x ∷ xs) f all_xs = (f x all_xs.0, all_map P Q xs f all_xs.1)

pub all_always : {T : Type 0} (P : T → Type 0) (xs : List T) → ((x : T) → P x) → AllByRecursion P xs
all_always P [] f = tt
all_always P (x ∷ xs) f = (f x, all_always P xs f)

-- what holds of each answer with those above it, holds with less said of it
pub below_map : (P Q : List Answer → Answer → Type 0) (above answers : List Answer) → ((above : List Answer) (answer : Answer) → P above answer → Q above answer) → EachBelow P above answers → EachBelow Q above answers
below_map P Q above [] f each = tt
below_map P Q above (answer ∷ answers) f each = (f above answer each.0, below_map P Q (above ++ answer ∷ []) answers f each.1)

-- and without those above it
pub all_from_below : (P : List Answer → Answer → Type 0) (Q : Answer → Type 0) (above answers : List Answer) → ((above : List Answer) (answer : Answer) → P above answer → Q answer) → EachBelow P above answers → AllByRecursion Q answers
all_from_below P Q above [] f each = tt
all_from_below P Q above (answer ∷ answers) f each = (f above answer each.0, all_from_below P Q (above ++ answer ∷ []) answers f each.1)

-- the answers from the first that passes on are among all
pub all_from_first : (P : Answer → Type 0) (test : Answer → Bool) (answers : List Answer) → AllByRecursion P answers → AllByRecursion P (from_first test answers)
all_from_first P test [] all_answers = tt
all_from_first P test (answer ∷ answers) all_answers = go (test answer) refl (all_from_first P test answers all_answers.1)
  where
    go : (b : Bool) → test answer ≡ b → AllByRecursion P (from_first test answers) → AllByRecursion P (from_first test (answer ∷ answers))
    go true e later = rw e all_answers
    go false e later = rw e later

-- those that don't pass are left out
pub from_first_append : (test : Answer → Bool) (first more : List Answer) → AllByRecursion (λ answer. test answer ≡ false) first → from_first test (first ++ more) ≡ from_first test more
from_first_append test [] more none = refl
from_first_append test (answer ∷ first) more none = rw none.0 (from_first_append test first more none.1)

-- the greatest of one number more
pub greatest_more : (base : ℕ) (numbers : List ℕ) (number : ℕ) → greatest_cts base numbers ≤ number → greatest_cts base (numbers ++ number ∷ []) ≡ number
greatest_more base [] number le = grind (arith, nat_tests)
greatest_more base (first ∷ numbers) number le =
    let lower : greatest_cts base numbers ≤ number = grind (arith, nat_tests) in
    let at : first ≤ number = grind (arith, nat_tests) in
    rw (greatest_more base numbers number lower) (grind (arith, nat_tests))

-- nothing is found where no item passes
pub find_none : {T : Type 0} (test : T → Bool) (xs : List T) → AllByRecursion (λ x. test x ≡ false) xs → find test xs ≡ None
find_none test [] none = refl
find_none test (x ∷ xs) none = rw none.0 (find_none test xs none.1)

-- so the first that passes behind them is found
pub find_behind : {T : Type 0} (test : T → Bool) (xs : List T) (x : T) (more : List T) → AllByRecursion (λ y. test y ≡ false) xs → test x ≡ true → find test (xs ++ x ∷ more) ≡ Some x
find_behind test [] x more none here = rw here refl
find_behind test (y ∷ xs) x more none here = rw none.0 (find_behind test xs x more none.1 here)
