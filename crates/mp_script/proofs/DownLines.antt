-- Which primaries have a `down` line.
use Rattle.std.proofs.Common.{◌≡◌, ◌≢◌, ℕ, zero, suc, ◌+◌, ◌<◌, ◌≤◌, ◌==◌, Bool, true, false, cond, [], ◌∷◌, refl, sym, ap, subst, ◌∙◌, inl, inr, arith, eq-eqb, ne_eqb}
use Rattle.std.proofs.lemmas.Bool.{cases_Bool, cases_lt}
use mathlib.Core.Bool.{false≢true}
use Rattle.mp_machine.specs.Lists.{IsIn}
use Rattle.mp_model.specs.declared.transcripts.Down.{Down}
use Rattle.mp_script.specs.WentDown.{DownsRise}
use Rattle.mp_script.specs.DownLines.{down_lines}

lines_skipped : (down : ℕ → ℕ) (first count : ℕ) → (down first == 0) ≡ true → down_lines down first (suc count) ≡ down_lines down (first + 1) count
lines_skipped down first count e = ap (λ (b : Bool). cond b (down_lines down (first + 1) count) (record { primary = first; by = down first } ∷ down_lines down (first + 1) count)) e

lines_with : (down : ℕ → ℕ) (first count : ℕ) → (down first == 0) ≡ false → down_lines down first (suc count) ≡ record { primary = first; by = down first } ∷ down_lines down (first + 1) count
lines_with down first count e = ap (λ (b : Bool). cond b (down_lines down (first + 1) count) (record { primary = first; by = down first } ∷ down_lines down (first + 1) count)) e

pub lines_rise : (down : ℕ → ℕ) (low first count : ℕ) → low ≤ first → DownsRise low (down_lines down first count)
lines_rise down low first zero le = tt
lines_rise down low first (suc count) le = elim (cases_Bool (down first == 0)) [
  | inl e ↦ subst (DownsRise low) (sym (lines_skipped down first count e)) (lines_rise down low (first + 1) count (omega (arith, le)))
  | inr e ↦ subst (DownsRise low) (sym (lines_with down first count e)) (le, lines_rise down (first + 1) (first + 1) count (omega arith))
]

-- a line is of one of the primaries, which is down, with its number
pub record IsLineOf (down : ℕ → ℕ) (first count : ℕ) (line : Down) : Type 0 where
  pub low : first ≤ line.primary
  pub high : line.primary < first + count
  pub by_is : line.by ≡ down line.primary
  pub is_down : down line.primary ≢ 0

pub line_is_of : (down : ℕ → ℕ) (first count : ℕ) (line : Down) → IsIn line (down_lines down first count) → IsLineOf down first count line
line_is_of down first zero line h = absurd h
line_is_of down first (suc count) line h = elim (cases_Bool (down first == 0)) [
  | inl e ↦ further (line_is_of down (first + 1) count line (subst (IsIn line) (lines_skipped down first count e) h))
  | inr e ↦ elim (subst (IsIn line) (lines_with down first count e) h) [
    | inl same ↦
        subst (IsLineOf down first (suc count)) (sym same) (record { low = omega arith; high = omega arith; by_is = refl; is_down = λ none. false≢true (sym e ∙ eq-eqb (down first) 0 none) })
    | inr there ↦ further (line_is_of down (first + 1) count line there)
  ]
]
  where
    further : IsLineOf down (first + 1) count line → IsLineOf down first (suc count) line
    further x = let low = x.low in let high = x.high in record { low = omega (arith, low); high = omega (arith, high); by_is = x.by_is; is_down = x.is_down }

-- a primary that is down has its line
pub line_of_down : (down : ℕ → ℕ) (n first count : ℕ) → first ≤ n → n < first + count → down n ≢ 0 → IsIn (record { primary = n; by = down n }) (down_lines down first count)
line_of_down down n first zero low high ne = absurd (omega (arith, low, high))
line_of_down down n first (suc count) low high ne = elim (cases_lt first n) [
  | inl past ↦
      let rest = line_of_down down n (first + 1) count (omega (arith, past)) (omega (arith, high)) ne in
      elim (cases_Bool (down first == 0)) [
        | inl e ↦ subst (IsIn (record { primary = n; by = down n })) (sym (ap (λ (b : Bool). cond b (down_lines down (first + 1) count) (record { primary = first; by = down first } ∷ down_lines down (first + 1) count)) e)) rest
        | inr e ↦ subst (IsIn (record { primary = n; by = down n })) (sym (ap (λ (b : Bool). cond b (down_lines down (first + 1) count) (record { primary = first; by = down first } ∷ down_lines down (first + 1) count)) e)) (inr rest)
      ]
  | inr ge ↦
      let is : n ≡ first = omega (arith, low, ge) in
      let test : (down first == 0) ≡ false = ne_eqb (down first) 0 (λ e. ne (ap down is ∙ e)) in
      subst (IsIn (record { primary = n; by = down n })) (sym (ap (λ (b : Bool). cond b (down_lines down (first + 1) count) (record { primary = first; by = down first } ∷ down_lines down (first + 1) count)) test))
      (inl (ap (λ (k : ℕ). record { primary = k; by = down k }) is))
]

pub none_down : (first count : ℕ) → down_lines (λ n. 0) first count ≡ []
none_down first zero = refl
none_down first (suc count) = none_down (first + 1) count

pub no_line : (line : Down) (first count : ℕ) → line ∷ [] ≡ down_lines (λ n. 0) first count → ⊥
no_line line first count e = let same : line ∷ [] ≡ [] = e ∙ none_down first count in absurd cc
