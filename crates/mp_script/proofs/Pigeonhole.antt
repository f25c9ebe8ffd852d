-- At most 65 sessions are declared, since their numbers differ and are at most 64.
use Rattle.std.proofs.Common.{arith, ◌≡◌, ◌==◌, ◌+◌, ◌<◌, ◌≤◌, ◌||◌, ◌++◌, ℕ, zero, suc, List, [], ◌∷◌, length, Bool, true, false, cond, refl, sym, ap, subst, ◌∙◌, add-zero, append-nil, append_assoc}
use Rattle.std.proofs.lemmas.Bool.{eqb-true}
use Rattle.std.proofs.lemmas.Bool.Decides.{nat_tests}
use Rattle.std.proofs.lemmas.List.{length-append}
use Rattle.mp_script.specs.declared.statements.SessionOn.{SessionOn}
use Rattle.mp_script.specs.Entries.{is_declared}
use Rattle.mp_script.proofs.Canonical.{AllDeclared}

-- how many numbers below a bound are declared
declared_below : ℕ → List SessionOn → ℕ
declared_below zero ss = 0
declared_below (suc n) ss = declared_below n ss + cond (is_declared ss n) 1 0

declared_below-le : (n : ℕ) (ss : List SessionOn) → declared_below n ss ≤ n
unfolding declared_below
declared_below-le zero ss = omega arith
declared_below-le (suc n) ss = one (is_declared ss n) (declared_below-le n ss)
  where
    one : (b : Bool) → declared_below n ss ≤ n → declared_below n ss + cond b 1 0 ≤ suc n
    one true h = omega arith
    one false h = omega arith

declared-push : (ss : List SessionOn) (s : SessionOn) (n : ℕ) → is_declared (ss ++ s ∷ []) n ≡ (is_declared ss n || (n == s.session))
declared-push [] s n = by_test (n == s.session)
  where
    by_test : (b : Bool) → (b || false) ≡ b
    by_test true = refl
    by_test false = refl
declared-push (x ∷ ss) s n = by_test (n == x.session) (declared-push ss s n)
  where
    by_test : (b : Bool) → is_declared (ss ++ s ∷ []) n ≡ (is_declared ss n || (n == s.session)) → (b || is_declared (ss ++ s ∷ []) n) ≡ ((b || is_declared ss n) || (n == s.session))
    by_test true h = refl
    by_test false h = h

same : (n : ℕ) → (n == n) ≡ true
same n = grind (arith, nat_tests)

differ : (n m : ℕ) → n < m → (n == m) ≡ false
differ n m h = grind (arith, nat_tests)

above-push : (n : ℕ) (ss : List SessionOn) (s : SessionOn) → n ≤ s.session → declared_below n (ss ++ s ∷ []) ≡ declared_below n ss
unfolding declared_below
above-push zero ss s h = refl
above-push (suc n) ss s h =
    ap (λ x. x + cond (is_declared (ss ++ s ∷ []) n) 1 0) (above-push n ss s (omega arith))
    ∙ ap (λ b. declared_below n ss + cond b 1 0) (declared-push ss s n ∙ ap (λ b. is_declared ss n || b) (differ n s.session (omega arith)) ∙ or-false (is_declared ss n))
  where
    or-false : (b : Bool) → (b || false) ≡ b
    or-false true = refl
    or-false false = refl

below-push : (n : ℕ) (ss : List SessionOn) (s : SessionOn) → s.session < n → is_declared ss s.session ≡ false → declared_below n (ss ++ s ∷ []) ≡ declared_below n ss + 1
unfolding declared_below
below-push zero ss s h new = absurd (omega arith)
below-push (suc n) ss s h new = by_test (n == s.session) refl (λ l. below-push n ss s l new)
  where
    grown : (a b c d : ℕ) → a ≡ b + 1 → a + d ≡ b + d + 1
    grown a b c d e = omega arith

    next : (n == s.session) ≡ false → s.session < n
    next e = grind (arith, nat_tests)

    at : n ≡ s.session → is_declared (ss ++ s ∷ []) n ≡ true
    at e = declared-push ss s n ∙ ap (λ b. is_declared ss n || b) (ap (λ m. m == s.session) e ∙ same s.session) ∙ or-true (is_declared ss n)
      where
        or-true : (b : Bool) → (b || true) ≡ true
        or-true true = refl
        or-true false = refl

    was : n ≡ s.session → is_declared ss n ≡ false
    was e = ap (is_declared ss) e ∙ new

    else_same : (n == s.session) ≡ false → is_declared (ss ++ s ∷ []) n ≡ is_declared ss n
    else_same e = declared-push ss s n ∙ ap (λ b. is_declared ss n || b) e ∙ or-false (is_declared ss n)
      where
        or-false : (b : Bool) → (b || false) ≡ b
        or-false true = refl
        or-false false = refl

    by_test : (b : Bool) → (n == s.session) ≡ b → (s.session < n → declared_below n (ss ++ s ∷ []) ≡ declared_below n ss + 1) → declared_below n (ss ++ s ∷ []) + cond (is_declared (ss ++ s ∷ []) n) 1 0 ≡ declared_below n ss + cond (is_declared ss n) 1 0 + 1
    by_test true e rest =
        let here : n ≡ s.session = eqb-true _ _ e in
        let before : declared_below n (ss ++ s ∷ []) ≡ declared_below n ss = above-push n ss s (omega arith) in
        ap (λ b. declared_below n (ss ++ s ∷ []) + cond b 1 0) (at here) ∙ ap (λ x. x + 1) (before ∙ sym (add-zero (declared_below n ss)) ∙ ap (λ b. declared_below n ss + cond b 1 0) (sym (was here)))
    by_test false e rest =
        ap (λ b. declared_below n (ss ++ s ∷ []) + cond b 1 0) (else_same e) ∙ grown _ _ 0 (cond (is_declared ss n) 1 0) (rest (next e))

sessions-few : (n : ℕ) (above ss : List SessionOn) → AllDeclared n above ss → length above ≤ declared_below 65 above → length (above ++ ss) ≤ declared_below 65 (above ++ ss)
sessions-few n above [] d h = subst (λ x. length x ≤ declared_below 65 x) (sym (append-nil above)) h
sessions-few n above (s ∷ ss) d h =
    let grown : declared_below 65 (above ++ s ∷ []) ≡ declared_below 65 above + 1 = below-push 65 above s (omega (arith, d.0.session_high)) d.0.new in
    subst (λ x. length x ≤ declared_below 65 x) (append_assoc above (s ∷ []) ss) (sessions-few n (above ++ s ∷ []) ss d.1 (omega (arith, grown, h, length-append {A = SessionOn} above (s ∷ []))))

pub sessions-within : (n : ℕ) (ss : List SessionOn) → AllDeclared n [] ss → length ss ≤ 65
sessions-within n ss d = omega (arith, sessions-few n [] ss d (omega arith), declared_below-le 65 ss)
