-- The bits with one set or cleared: that one is, and the others are as they were.
use Rattle.std.proofs.Common.{◌≡◌, ◌≢◌, ℕ, zero, suc, ◌*◌, ◌/◌, ◌%◌, ◌^◌, ◌<◌, ◌==◌, Bool, true, false, cond, List, length, get_or, refl, sym, ap, ◌∙◌, inl, inr, arith}
use Rattle.std.specs.Prelude.{bit_and, bit_or}
use Rattle.std.specs.Int.{bit_at, bit_not, w8}
use Rattle.std.proofs.lemmas.Bool.{cases_eq, eq-eqb}
use Rattle.std.proofs.lemmas.Bool.Decides.{nat_tests}
use Rattle.std.proofs.lemmas.Nat.{and_le_l}
use Rattle.std.proofs.lemmas.List.{get_or-set_same, get_or-set_other, length-set}
use Rattle.std.proofs.lemmas.Nat.Bits.{bit_at_or, bit_at-pow_same, bit_at-pow_other, bit_at-lt, bit_at_clear_same, bit_at_clear_other}
use Rattle.mp_cells.specs.PageView.{AreBits, bit_of, with_bit, without_bit}

pub with_bit-same : (bits : List ℕ) (m : ℕ) → m < 4096 → AreBits bits → bit_of (with_bit bits m) m ≡ 1
with_bit-same bits m lt h =
    let byte = get_or bits (m / 8) 0 in
    let place : m / 8 < length bits = omega (arith, h.count) in
    ap (λ (b : ℕ). bit_at b (m % 8)) (get_or-set_same bits (m / 8) (bit_or byte (2 ^ (m % 8))) 0 place)
    ∙ bit_at_or byte (2 ^ (m % 8)) (m % 8)
    ∙ omega (arith, bit_at-pow_same (m % 8), bit_at-lt byte (m % 8))

pub with_bit-other : (bits : List ℕ) (m n : ℕ) → m < 4096 → AreBits bits → n ≢ m → bit_of (with_bit bits m) n ≡ bit_of bits n
with_bit-other bits m n lt h other = elim (cases_eq (n / 8) (m / 8)) [
  | inl same ↦
      let byte = get_or bits (m / 8) 0 in
      let place : m / 8 < length bits = omega (arith, h.count) in
      let apart : n % 8 ≢ m % 8 = λ (e : n % 8 ≡ m % 8). other (omega (arith, e, same)) in
      ap (λ (q : ℕ). bit_at (get_or (with_bit bits m) q 0) (n % 8)) same
      ∙ ap (λ (b : ℕ). bit_at b (n % 8)) (get_or-set_same bits (m / 8) (bit_or byte (2 ^ (m % 8))) 0 place)
      ∙ bit_at_or byte (2 ^ (m % 8)) (n % 8)
      ∙ omega (arith, bit_at-pow_other (m % 8) (n % 8) apart)
      ∙ ap (λ (q : ℕ). bit_at (get_or bits q 0) (n % 8)) (sym same)
  | inr apart ↦
      ap (λ (b : ℕ). bit_at b (n % 8)) (get_or-set_other bits (m / 8) (n / 8) (bit_or (get_or bits (m / 8) 0) (2 ^ (m % 8))) 0 apart)
]

-- ---- with one cleared

place_bit : (page : ℕ) → 1 * 2 ^ (page % 8) % 256 ≡ 2 ^ (page % 8)
place_bit page = small (page % 8) (omega arith)
  where
    small : (k : ℕ) → k < 8 → 1 * 2 ^ k % 256 ≡ 2 ^ k
    small zero lt = refl
    small (suc zero) lt = refl
    small (suc (suc zero)) lt = refl
    small (suc (suc (suc zero))) lt = refl
    small (suc (suc (suc (suc zero)))) lt = refl
    small (suc (suc (suc (suc (suc zero))))) lt = refl
    small (suc (suc (suc (suc (suc (suc zero)))))) lt = refl
    small (suc (suc (suc (suc (suc (suc (suc zero))))))) lt = refl
    small (suc (suc (suc (suc (suc (suc (suc (suc k)))))))) lt = absurd (omega (arith, lt))

-- a byte with a bit cleared
abbrev cleared_byte : List ℕ → ℕ → ℕ
cleared_byte bits m = bit_and (get_or bits (m / 8) 0) (bit_not w8 (2 ^ (m % 8)))

pub without_bit-same : (bits : List ℕ) (m : ℕ) → m < 4096 → AreBits bits → bit_of (without_bit bits m) m ≡ 0
without_bit-same bits m lt h =
    let byte = get_or bits (m / 8) 0 in
    let place : m / 8 < length bits = omega (arith, h.count) in
    ap (λ (b : ℕ). bit_at b (m % 8)) (get_or-set_same bits (m / 8) (cleared_byte bits m) 0 place)
    ∙ ap (λ (b : ℕ). bit_at (bit_and byte (bit_not w8 b)) (m % 8)) (sym (place_bit m))
    ∙ bit_at_clear_same w8 byte (m % 8) (omega arith)

pub without_bit-other : (bits : List ℕ) (m n : ℕ) → m < 4096 → AreBits bits → n ≢ m → bit_of (without_bit bits m) n ≡ bit_of bits n
without_bit-other bits m n lt h other = elim (cases_eq (n / 8) (m / 8)) [
  | inl same ↦
      let byte = get_or bits (m / 8) 0 in
      let place : m / 8 < length bits = omega (arith, h.count) in
      let apart : n % 8 ≢ m % 8 = λ (e : n % 8 ≡ m % 8). other (omega (arith, e, same)) in
      ap (λ (q : ℕ). bit_at (get_or (without_bit bits m) q 0) (n % 8)) same
      ∙ ap (λ (b : ℕ). bit_at b (n % 8)) (get_or-set_same bits (m / 8) (cleared_byte bits m) 0 place)
      ∙ ap (λ (b : ℕ). bit_at (bit_and byte (bit_not w8 b)) (n % 8)) (sym (place_bit m))
      ∙ bit_at_clear_other w8 byte (m % 8) (omega arith) (n % 8) (omega arith) apart
      ∙ ap (λ (q : ℕ). bit_at (get_or bits q 0) (n % 8)) (sym same)
  | inr apart ↦ ap (λ (b : ℕ). bit_at b (n % 8)) (get_or-set_other bits (m / 8) (n / 8) (cleared_byte bits m) 0 apart)
]

-- bytes stay bytes
pub bits_without : (bits : List ℕ) (m : ℕ) → m < 4096 → AreBits bits → AreBits (without_bit bits m)
bits_without bits m lt h =
    let place : m / 8 < length bits = omega (arith, h.count) in
    record {
      count = length-set bits (m / 8) (cleared_byte bits m) ∙ h.count;
      bytes = λ i. elim (cases_eq i (m / 8)) [
        | inl same ↦
            let small : cleared_byte bits m < 256 = omega (arith, and_le_l (get_or bits (m / 8) 0) (bit_not w8 (2 ^ (m % 8))), h.bytes (m / 8)) in
            rw (same, get_or-set_same bits (m / 8) (cleared_byte bits m) 0 place) small
        | inr other ↦ rw (get_or-set_other bits (m / 8) i (cleared_byte bits m) 0 other) (h.bytes i)
      ];
    }

-- ---- any bit, after one was set or cleared

pub with_bit-any : (bits : List ℕ) (m n : ℕ) → AreBits bits → m < 4096 → bit_of (with_bit bits m) n ≡ cond (n == m) 1 (bit_of bits n)
with_bit-any bits m n h lt = elim (cases_eq n m) [
  | inl same ↦ let test : (n == m) ≡ true = eq-eqb n m same in ap (bit_of (with_bit bits m)) same ∙ with_bit-same bits m lt h ∙ ap (λ (t : Bool). cond t 1 (bit_of bits n)) (sym test)
  | inr other ↦ let test : (n == m) ≡ false = grind (arith, nat_tests) in with_bit-other bits m n lt h other ∙ ap (λ (t : Bool). cond t 1 (bit_of bits n)) (sym test)
]

pub without_bit-any : (bits : List ℕ) (m n : ℕ) → AreBits bits → m < 4096 → bit_of (without_bit bits m) n ≡ cond (n == m) 0 (bit_of bits n)
without_bit-any bits m n h lt = elim (cases_eq n m) [
  | inl same ↦ let test : (n == m) ≡ true = eq-eqb n m same in ap (bit_of (without_bit bits m)) same ∙ without_bit-same bits m lt h ∙ ap (λ (t : Bool). cond t 0 (bit_of bits n)) (sym test)
  | inr other ↦ let test : (n == m) ≡ false = grind (arith, nat_tests) in without_bit-other bits m n lt h other ∙ ap (λ (t : Bool). cond t 0 (bit_of bits n)) (sym test)
]
