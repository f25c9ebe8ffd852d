use Rattle.std.proofs.Common.{◌≡◌, ℕ, ◌∙◌, not, nat_eq, IsTrue, IsFalse, sym, inl, inr, ⊎_elim, arith}
use Rattle.std.proofs.lemmas.Bool.Decides.{nat_tests}
use Rattle.mp_core_pages.proofs.LockWords.{none_but, but_none, one_bit}
use Rattle.mp_core_pages.proofs.lock_words.has_other.Goals as goal

number_differs : (a b : ℕ) → IsTrue (not (nat_eq a b)) → ¬ (a ≡ b)
number_differs a b t e = grind (arith, nat_tests)

number_is : (a b : ℕ) → IsFalse (not (nat_eq a b)) → a ≡ b
number_is a b t = grind (arith, nat_tests)

pub returns-then-word-p-clause-none : goal.returns-then-word-p-clause-none
returns-then-word-p-clause-none c = λ _ m from to other.
    let node = c.requires.node in
    none_but c.args.word c.args.p c.requires.lock node.0 node.1
    (inl (inr (c.if-word-p.true ∙ one_bit c.args.p node.0 node.1))) m from to other

pub returns-clause-found : goal.returns-clause-found
returns-clause-found c = λ found none.
    let node = c.requires.node in
    ⊎_elim
    (λ own.
    ⊎_elim
    (λ free. c.if-word-eq0.false free)
    (λ bit. c.if-word-p.false (bit ∙ sym (one_bit c.args.p node.0 node.1)))
    own)
    (λ number. number_differs _ _ found (number ∙ sym c.from.ensures))
    (but_none c.args.word c.args.p c.requires.lock node.0 node.1 none)

pub returns-clause-none : goal.returns-clause-none
returns-clause-none c = λ not_found m from to other.
    let node = c.requires.node in
    none_but c.args.word c.args.p c.requires.lock node.0 node.1
    (inr (number_is _ _ not_found ∙ c.from.ensures)) m from to other
