-- The clear pages from one on: this one or not, and then the next.
use Rattle.std.proofs.Common.{◌≡◌, ◌≢◌, ℕ, suc, ◌+◌, ◌-◌, ◌<◌, ◌==◌, Bool, true, false, cond, List, [], ◌∷◌, refl, sym, ap, ◌∙◌, inl, inr, arith}
use Rattle.std.proofs.lemmas.Bool.{cases_eq, eq-eqb, eqb-true}
use mathlib.Core.Bool.{false≢true}
use Rattle.std.proofs.lemmas.Bool.Decides.{nat_tests}
use Rattle.std.proofs.lemmas.Nat.Bits.{bit_at-lt}
use Rattle.mp_cells.specs.PageView.{bit_of}
use Rattle.mp_tree.specs.Planning.{clear_from}

pub clear_none : (from : ℕ) (bits : List ℕ) → clear_from 0 from bits ≡ []
unfolding clear_from
clear_none from bits = refl

pub clear_more : (count from : ℕ) (bits : List ℕ) → bit_of bits from ≢ 0 → clear_from (suc count) from bits ≡ clear_from count (from + 1) bits
unfolding clear_from
clear_more count from bits set = let test : (bit_of bits from == 0) ≡ false = grind (arith, nat_tests) in ap (λ (b : Bool). cond b (from ∷ clear_from count (from + 1) bits) (clear_from count (from + 1) bits)) test

pub clear_first : (count from : ℕ) (bits : List ℕ) → bit_of bits from ≡ 0 → clear_from (suc count) from bits ≡ from ∷ clear_from count (from + 1) bits
unfolding clear_from
clear_first count from bits clear = ap (λ (b : Bool). cond b (from ∷ clear_from count (from + 1) bits) (clear_from count (from + 1) bits)) (eq-eqb (bit_of bits from) 0 clear)

pub clear_passed : (from : ℕ) (bits : List ℕ) → from < 4096 → bit_of bits from ≢ 0 → clear_from (4096 - from) from bits ≡ clear_from (4096 - (from + 1)) (from + 1) bits
clear_passed from bits lt set = let count : 4096 - from ≡ suc (4096 - (from + 1)) = omega arith in ap (λ (n : ℕ). clear_from n from bits) count ∙ clear_more (4096 - (from + 1)) from bits set

pub clear_here : (from : ℕ) (bits : List ℕ) → from < 4096 → bit_of bits from ≡ 0 → clear_from (4096 - from) from bits ≡ from ∷ clear_from (4096 - (from + 1)) (from + 1) bits
clear_here from bits lt clear = let count : 4096 - from ≡ suc (4096 - (from + 1)) = omega arith in ap (λ (n : ℕ). clear_from n from bits) count ∙ clear_first (4096 - (from + 1)) from bits clear

-- a bit that isn't seen as set is clear, and one that is isn't
pub not_set : (bits : List ℕ) (n : ℕ) → (bit_of bits n == 1) ≡ false → bit_of bits n ≡ 0
not_set bits n test = elim (cases_eq (bit_of bits n) 1) [
  | inl same ↦ absurd (false≢true (sym test ∙ eq-eqb (bit_of bits n) 1 same))
  | inr other ↦ omega (arith, other, bit_at-lt)
]

pub is_set : (bits : List ℕ) (n : ℕ) → (bit_of bits n == 1) ≡ true → bit_of bits n ≢ 0
is_set bits n test = λ (e : bit_of bits n ≡ 0). absurd (omega (arith, e, eqb-true (bit_of bits n) 1 test))
