-- A log that is emptied.
use Rattle.std.proofs.Common.{◌≡◌, ℕ, zero, suc, ◌≤◌, ◌==◌, not, Bool, true, false, List, [], ◌∷◌, ◌++◌, length, take, drop, refl, sym, ap, subst, ◌∙◌, inl, inr, arith}
use mathlib.Core.Logic.{◌⊎◌}
use mathlib.Core.Bool.{false≢true}
use Rattle.std.specs.Prelude.{slice_get}
use Rattle.std.proofs.lemmas.Bool.{eqb-true, eq-eqb}
use Rattle.mp_cells.specs.declared.records.Mtr.{Mtr}
use Rattle.mp_outside.specs.Disks.{Torn, Cut}
use Rattle.mp_log.specs.Logs.{open_gate, is_closed_gate, batches_text, IsText}

-- a front of a file that begins with a closed gate
pub front_empty : (file c : List ℕ) → IsText [] file → Cut 1 file c → IsText [] c
front_empty file c text cut = by_count (length c) refl
  where
    reach : 1 ≤ length file → 1 ≤ length c
    reach some = omega (arith, cut.no_shorter, some)

    long : 1 ≤ length file
    long = subst (λ (xs : List ℕ). 1 ≤ length xs) (sym text.whole) (omega arith)

    by_count : (n : ℕ) → length c ≡ n → IsText [] c
    by_count zero e = absurd (omega (arith, e, reach long))
    by_count (suc n) e = record { gate = text.gate; rest = take n text.rest; closed = text.closed; whole = cut.front ∙ ap (λ (k : ℕ). take k file) e ∙ ap (take (suc n)) text.whole }

-- a file whose first byte is a closed gate, and one whose first byte isn't
pub begins_closed : (file : List ℕ) → is_closed_gate (slice_get file 0) ≡ true → IsText [] file
begins_closed [] test = absurd (false≢true test)
begins_closed (first ∷ rest) test = record { gate = first; rest = rest; closed = λ e. absurd (false≢true (sym (ap not (eq-eqb first 165 e)) ∙ test)); whole = refl }

heads : {a b : ℕ} {xs ys : List ℕ} → a ∷ xs ≡ b ∷ ys → a ≡ b
heads e = cc

pub begins_open : (file : List ℕ) → is_closed_gate (slice_get file 0) ≡ false → IsText [] file → ⊥
begins_open [] test text = let whole : [] ≡ text.gate ∷ text.rest = text.whole in cc
begins_open (first ∷ rest) test text = by_test (first == open_gate) refl
  where
    by_test : (t : Bool) → (first == open_gate) ≡ t → ⊥
    by_test true e = text.closed (sym (heads text.whole) ∙ eqb-true first open_gate e)
    by_test false e = false≢true (sym test ∙ ap not e)

-- a log that doesn't begin with a closed gate has a batch
some_batch : (batches : List (List Mtr)) (file : List ℕ) → IsText batches file → (IsText [] file → ⊥) → (rest : List ℕ) × (batches_text batches ≡ open_gate ∷ rest)
some_batch [] file text open_first = absurd (open_first text)
some_batch (batch ∷ batches) file text open_first = (_, refl)

open_of : (d rest : List ℕ) (batches : List (List Mtr)) → IsText batches d → batches_text batches ≡ open_gate ∷ rest → (back : List ℕ) × (d ≡ open_gate ∷ back)
open_of d rest batches text h = (rest ++ text.gate ∷ text.rest, text.whole ∙ ap (λ (x : List ℕ). x ++ text.gate ∷ text.rest) h)

-- the first gate is torn
pub first_torn : (batches : List (List Mtr)) (from : ℕ) (seen d c : List ℕ) → IsText batches seen → (IsText [] seen → ⊥) → IsText batches d → Torn from 1 d c → IsText batches c ⊎ IsText [] c
first_torn batches from seen d [] reads open_first text torn =
    let b = some_batch batches seen reads open_first in
    let o = open_of d b.0 batches text b.1 in
    absurd (omega (arith, torn.no_shorter, ap length o.1))
first_torn batches from seen d (x ∷ xs) reads open_first text torn = by_test (x == open_gate) refl
  where
    same : x ≡ open_gate → IsText batches (x ∷ xs)
    same e =
        let b = some_batch batches seen reads open_first in
        let o = open_of d b.0 batches text b.1 in
        let back : xs ≡ o.0 = torn.after ∙ ap (drop 1) o.1 in
        let whole : d ≡ x ∷ xs = o.1 ∙ ap (λ (g : ℕ). g ∷ o.0) (sym e) ∙ ap (λ (r : List ℕ). x ∷ r) (sym back) in
        subst (IsText batches) whole text

    by_test : (t : Bool) → (x == open_gate) ≡ t → IsText batches (x ∷ xs) ⊎ IsText [] (x ∷ xs)
    by_test true e = inl (same (eqb-true x open_gate e))
    by_test false e = inr (record { gate = x; rest = xs; closed = λ k. absurd (false≢true (sym e ∙ eq-eqb x open_gate k)); whole = refl })
