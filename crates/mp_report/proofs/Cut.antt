-- A byte's first place tells what stands before and after it.
use Rattle.std.proofs.Common.{◌≡◌, ◌==◌, ℕ, ◌+◌, suc, nat_lt, inl, inr, Bool, true, false, cond, List, [], ◌∷◌, length, take, drop, Some, None, refl, ap, arith, add-one}
use Rattle.std.proofs.lemmas.Bool.Decides.{eqb_tells, nat_tests}
use Rattle.std.specs.Option.{option_map, option_and_then}
use Rattle.std.specs.List.{position, position_or_len}
use Rattle.mp_report.specs.Reading.{cut_at}

-- what stands before and after a place
abbrev pub parted : List ℕ → ℕ → List ℕ × List ℕ
parted word place = (take place word, drop (place + 1) word)

shifted : (n m : ℕ) → nat_lt (1 + n) (suc m) ≡ nat_lt n m
shifted n m = grind (arith, nat_tests)

next_place : (n x : ℕ) (word : List ℕ) → (x ∷ take n word, drop (n + 1) word) ≡ parted (x ∷ word) (1 + n)
next_place n x word = let e : 1 + n ≡ suc n = omega arith in simp (e, add-one)

one_more : (b : Bool) (x n : ℕ) (word : List ℕ)
    → option_and_then {T = List ℕ × List ℕ} {U = List ℕ × List ℕ} (λ parts. Some (x ∷ parts.0, parts.1)) (option_map (parted word) (cond b (Some n) None)) ≡ option_map (parted (x ∷ word)) (cond b (Some (1 + n)) None)
one_more true x n word = ap Some (next_place n x word)
one_more false x n word = refl

pub at_first : (byte : ℕ) (word : List ℕ) → cut_at byte word ≡ option_map (parted word) (position (λ b. b == byte) word)
at_first byte [] = refl
at_first byte (x ∷ word) = elim (eqb_tells x byte) [
  | inl same ↦ rw same.0 (let e : nat_lt 0 (suc (length word)) ≡ true = grind (arith, nat_tests) in rw e refl)
  | inr other ↦ rw (other.0, at_first byte word) (let n = position_or_len (λ b. b == byte) word in rw (shifted n (length word)) (one_more (nat_lt n (length word)) x n word))
]
