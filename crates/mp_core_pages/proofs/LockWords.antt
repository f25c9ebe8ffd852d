-- A lock word as a node comes to read, comes to write, and lets the lock go: who holds the lock then.
use Rattle.std.proofs.Common.{◌≡◌, ℕ, zero, suc, ◌+◌, ◌-◌, ◌*◌, ◌/◌, ◌%◌, ◌^◌, ◌<◌, ◌≤◌, ◌⊎◌, min, max, ◌==◌, if◌then◌else◌, refl, sym, ap, ◌∙◌, subst, inl, inr, arith, w64, bit_and, bit_or, lt_of_le_of_lt}
use Rattle.std.specs.Int.{bit_at}
use Rattle.std.specs.Int.Bits.{or_add_and}
use Rattle.std.proofs.lemmas.Nat.{or_disjoint, or_of_8, and_le_l, pow_below}
use Rattle.std.proofs.lemmas.Nat.Bits.{bit_at-zero, bit_at-lt, bit_at_and, bit_at_or, bit_at_not, bit_at-pow_same, bit_at-pow_other, bit_at_cat_low, and_pow, same_from_bits_below}
use mathlib.Core.Logic.{dite}
use native.Mathlib.Decide.{ℕ_discrete}
use Rattle.mp_core_pages.specs.declared.page_lock.Held.TheVariants.{No, Read, Write}
use Rattle.mp_core_pages.specs.LockWords.{holder, mask_of, IsLockWord, LacksReader}
use Rattle.mp_core_pages.proofs.Choices.{if_equal, if_differs}

-- a node's bit is one of the first eight
bit_is_low : (n : ℕ) → 1 ≤ n → n ≤ 8 → 2 ^ (n - 1) < 2 ^ 8
bit_is_low n low high = pow_below (n - 1) 8 (omega arith)

-- a word that no writer has shows its readers
holder_reads : (word n : ℕ) → word < 256 → 1 ≤ n → holder word n ≡ (if bit_at word (n - 1) == 1 then Read else No)
holder_reads word n small low = if_differs (word / 256) n Write (if bit_at word (n - 1) == 1 then Read else No)
    (λ e. omega arith)

no_low_bit : (n m : ℕ) → 1 ≤ m → m ≤ 8 → bit_at (256 * n) (m - 1) ≡ 0
no_low_bit n m low high = let same : 256 * n ≡ n * 2 ^ 8 + 0 = omega arith in ap (λ x. bit_at x (m - 1)) same
    ∙ bit_at_cat_low n 8 0 (m - 1) (omega arith) ∙ bit_at-zero (m - 1)

-- a writer's word names the writer alone
pub holder_writer : (n m : ℕ) → 1 ≤ n → 1 ≤ m → m ≤ 8 → holder (256 * n) m ≡ (if m == n then Write else No)
holder_writer n m some low high =
    let number : 256 * n / 256 ≡ n = omega arith in
    dite (ℕ_discrete m n)
    (λ same. if_equal (256 * n / 256) m Write (if bit_at (256 * n) (m - 1) == 1 then Read else No)
    (number ∙ sym same) ∙ sym (if_equal m n Write No same))
    (λ other.
    if_differs (256 * n / 256) m Write (if bit_at (256 * n) (m - 1) == 1 then Read else No)
    (λ e. other (sym e ∙ number))
    ∙ if_differs (bit_at (256 * n) (m - 1)) 1 Read No (λ e. let none = no_low_bit n m low high in omega arith)
    ∙ sym (if_differs m n Write No other))

pub writer_word : (n : ℕ) → 1 ≤ n → n ≤ 8 → IsLockWord (256 * n)
writer_word n low high = inr (n, low, high, refl)

module _ (word n : ℕ) (low : 1 ≤ n) (high : n ≤ 8) where
  as_or : LacksReader word n → bit_or word (2 ^ (n - 1)) ≡ word + 2 ^ (n - 1)
  as_or lacks = or_disjoint word (2 ^ (n - 1))
      (and_pow word (n - 1) ∙ ap (λ b. b * 2 ^ (n - 1)) lacks.1 ∙ omega arith)

  pub reader_small : LacksReader word n → word + 2 ^ (n - 1) < 256
  reader_small lacks = subst (λ x. x < 256) (as_or lacks) (or_of_8 word (2 ^ (n - 1)) lacks.0 (bit_is_low n low high))

  -- with one more reader, that one reads, and the others hold the lock as before
  pub holder_reader : LacksReader word n → (m : ℕ) → 1 ≤ m → m ≤ 8 → holder (word + 2 ^ (n - 1)) m ≡
      (if m == n then Read else holder word m)
  holder_reader lacks m from to =
      let bits : bit_at (word + 2 ^ (n - 1)) (m - 1) ≡ max (bit_at word (m - 1)) (bit_at (2 ^ (n - 1)) (m - 1)) =
      ap (λ x. bit_at x (m - 1)) (sym (as_or lacks)) ∙ bit_at_or word (2 ^ (n - 1)) (m - 1) in
      dite (ℕ_discrete m n)
      (λ same.
      let own : bit_at (2 ^ (n - 1)) (m - 1) ≡ 1 = ap (λ j. bit_at (2 ^ (n - 1)) (j - 1)) same ∙ bit_at-pow_same
      (n - 1) in
      let below = bit_at-lt word (m - 1) in
      holder_reads (word + 2 ^ (n - 1)) m (reader_small lacks) from
      ∙ if_equal (bit_at (word + 2 ^ (n - 1)) (m - 1)) 1 Read No (omega arith)
      ∙ sym (if_equal m n Read (holder word m) same))
      (λ other.
      let none : bit_at (2 ^ (n - 1)) (m - 1) ≡ 0 = bit_at-pow_other (n - 1) (m - 1) (λ e. other (omega arith)) in
      let stays : bit_at (word + 2 ^ (n - 1)) (m - 1) ≡ bit_at word (m - 1) = omega arith in
      holder_reads (word + 2 ^ (n - 1)) m (reader_small lacks) from
      ∙ ap (λ b. if b == 1 then Read else No) stays
      ∙ sym (holder_reads word m lacks.0 from)
      ∙ sym (if_differs m n Read (holder word m) other))

  -- the mask keeps the low bits but the node's own
  mask_bits : (i : ℕ) → i < 8 → bit_at (mask_of n) i ≡ 1 - bit_at (2 ^ (n - 1)) i
  mask_bits i within =
      let below = bit_is_low n low high in
      let sum = or_add_and (2 ^ (n - 1)) 3840 in
      let small : bit_or (2 ^ (n - 1)) 3840 < 2 ^ 64 = omega arith in
      let high_bits : bit_at 3840 i ≡ 0 = bit_at_cat_low 15 8 0 i within ∙ bit_at-zero i in
      let both = bit_at_or (2 ^ (n - 1)) 3840 i in
      bit_at_not w64 (bit_or (2 ^ (n - 1)) 3840) i small (omega arith) ∙ omega arith

  -- who reads and lets the lock go holds it no more, and the others hold it as before
  release_reader : word < 256 → bit_at word (n - 1) ≡ 1 → (m : ℕ) → 1 ≤ m → m ≤ 8
      → holder (bit_and word (mask_of n)) m ≡ (if m == n then No else holder word m)
  release_reader small reads m from to =
      let less = and_le_l word (mask_of n) in
      let kept : bit_at (bit_and word (mask_of n)) (m - 1) ≡ min (bit_at word (m - 1))
      (1 - bit_at (2 ^ (n - 1)) (m - 1)) =
      bit_at_and word (mask_of n) (m - 1) ∙ ap (min (bit_at word (m - 1))) (mask_bits (m - 1) (omega arith)) in
      let all = holder_reads (bit_and word (mask_of n)) m (lt_of_le_of_lt less small) from in
      dite (ℕ_discrete m n)
      (λ same.
      let own : bit_at (2 ^ (n - 1)) (m - 1) ≡ 1 = ap (λ j. bit_at (2 ^ (n - 1)) (j - 1)) same ∙ bit_at-pow_same
      (n - 1) in
      all ∙ if_differs (bit_at (bit_and word (mask_of n)) (m - 1)) 1 Read No (λ e. omega arith)
      ∙ sym (if_equal m n No (holder word m) same))
      (λ other.
      let none : bit_at (2 ^ (n - 1)) (m - 1) ≡ 0 = bit_at-pow_other (n - 1) (m - 1) (λ e. other (omega arith)) in
      let below = bit_at-lt word (m - 1) in
      let stays : bit_at (bit_and word (mask_of n)) (m - 1) ≡ bit_at word (m - 1) = omega arith in
      all ∙ ap (λ b. if b == 1 then Read else No) stays ∙ sym (holder_reads word m small from)
      ∙ sym (if_differs m n No (holder word m) other))

-- a writer's number is off the mask
none_left : (n : ℕ) → 1 ≤ n → n ≤ 8 → bit_and (256 * n) (mask_of n) ≡ 0
none_left zero low high = absurd (omega arith)
none_left (suc zero) low high = refl
none_left (suc (suc zero)) low high = refl
none_left (suc (suc (suc zero))) low high = refl
none_left (suc (suc (suc (suc zero)))) low high = refl
none_left (suc (suc (suc (suc (suc zero))))) low high = refl
none_left (suc (suc (suc (suc (suc (suc zero)))))) low high = refl
none_left (suc (suc (suc (suc (suc (suc (suc zero))))))) low high = refl
none_left (suc (suc (suc (suc (suc (suc (suc (suc zero)))))))) low high = refl
none_left (suc (suc (suc (suc (suc (suc (suc (suc (suc n))))))))) low high = absurd (omega arith)

pub free_word : (m : ℕ) → 1 ≤ m → holder 0 m ≡ No
free_word m from = holder_reads 0 m (omega arith) from ∙ if_differs (bit_at 0 (m - 1)) 1 Read No
    (λ e. let none = bit_at-zero (m - 1) in omega arith)

module _ (word n : ℕ) (low : 1 ≤ n) (high : n ≤ 8) (has : ¬ (holder word n ≡ No)) where
  -- who holds the lock reads, or is the writer
  has_bit : word < 256 → bit_at word (n - 1) ≡ 1
  has_bit small =
      dite (ℕ_discrete (bit_at word (n - 1)) 1)
      (λ is. is)
      (λ other. absurd (has (holder_reads word n small low ∙ if_differs (bit_at word (n - 1)) 1 Read No other)))

  is_writer : (j : ℕ) → 1 ≤ j → word ≡ 256 * j → n ≡ j
  is_writer j some is =
      dite (ℕ_discrete n j)
      (λ same. same)
      (λ other. absurd (has (ap (λ x. holder x n) is ∙ holder_writer j n some low high
      ∙ if_differs n j Write No other)))

  -- who lets the lock go holds it no more, and the others hold it as before
  pub holder_release : IsLockWord word → (m : ℕ) → 1 ≤ m → m ≤ 8 → holder (bit_and word (mask_of n)) m ≡
      (if m == n then No else holder word m)
  holder_release (inl small) m from to = release_reader word n low high small (has_bit small) m from to
  holder_release (inr w) m from to =
      let same = is_writer w.0 w.1 w.3 in
      let own : word ≡ 256 * n = w.3 ∙ ap (λ j. 256 * j) (sym same) in
      ap (λ x. holder (bit_and x (mask_of n)) m) own ∙ ap (λ x. holder x m) (none_left n low high) ∙ free_word m from
      ∙ dite (ℕ_discrete m n)
      (λ is. sym (if_equal m n No (holder word m) is))
      (λ other. sym (if_differs m n No (holder word m) other ∙ ap (λ x. holder x m) own
      ∙ holder_writer n m low from to ∙ if_differs m n Write No other))

  pub released_word : IsLockWord word → IsLockWord (bit_and word (mask_of n))
  released_word (inl small) = inl (lt_of_le_of_lt (and_le_l word (mask_of n)) small)
  released_word (inr w) = inl
      (subst (λ x. bit_and x (mask_of n) < 256) (sym (w.3 ∙ ap (λ j. 256 * j) (sym (is_writer w.0 w.1 w.3))))
      (subst (λ x. x < 256) (sym (none_left n low high)) (omega arith)))

-- a node's bit as it is shifted into place
pub one_bit : (n : ℕ) → 1 ≤ n → n ≤ 8 → 1 * 2 ^ (n - 1) % 2 ^ 64 ≡ 2 ^ (n - 1)
one_bit n low high = let small = bit_is_low n low high in omega arith

-- who writes is named by the word's number
writes_by_number : (word m : ℕ) → holder word m ≡ Write → word / 256 ≡ m
writes_by_number word m is =
    dite (ℕ_discrete (word / 256) m)
    (λ same. same)
    (λ other. absurd (by_bit (bit_at word (m - 1))
    (sym (if_differs (word / 256) m Write (if bit_at word (m - 1) == 1 then Read else No) other) ∙ is)))
  where
    by_bit : (b : ℕ) → (if b == 1 then Read else No) ≡ Write → ⊥
    by_bit b e =
        dite (ℕ_discrete b 1)
        (λ one. let r : Read ≡ Write = sym (if_equal b 1 Read No one) ∙ e in cc)
        (λ none. let r : No ≡ Write = sym (if_differs b 1 Read No none) ∙ e in cc)

-- a word of readers has no writer
pub no_writer : (word n : ℕ) → word < 256 → 1 ≤ n → ¬ (holder word n ≡ Write)
no_writer word n small low is = let number = writes_by_number word n is in absurd (omega arith)

-- who writes is the only one that holds the lock
pub only_writer : (word n m : ℕ) → IsLockWord word → 1 ≤ n → 1 ≤ m → m ≤ 8 → holder word n ≡ Write
    → ¬ (holder word m ≡ No) → m ≡ n
only_writer word n m (inl small) low from to writes has = absurd (no_writer word n small low writes)
only_writer word n m (inr w) low from to writes has =
    let is = w.3 in
    let number : word / 256 ≡ n = writes_by_number word n writes in
    let own : w.0 ≡ n = omega arith in
    dite (ℕ_discrete m w.0)
    (λ same. same ∙ own)
    (λ other. absurd (has (ap (λ x. holder x m) w.3 ∙ holder_writer w.0 m w.1 from to
    ∙ if_differs m w.0 Write No other)))

-- who does not read a word of readers does not hold its lock
pub lacks_lock : (word n : ℕ) → LacksReader word n → 1 ≤ n → holder word n ≡ No
lacks_lock word n lacks low = holder_reads word n lacks.0 low ∙ if_differs (bit_at word (n - 1)) 1 Read No
    (λ e. let none = lacks.1 in omega arith)

-- the words that a node finds as it comes to write: nobody else holds the lock
pub alone_before : (word n : ℕ) → 1 ≤ n → n ≤ 8 → (word ≡ 0) ⊎ (word ≡ 2 ^ (n - 1)) → (word < 256)
    × ((m : ℕ) → 1 ≤ m → ¬ (m ≡ n) → holder word m ≡ No)
alone_before word n low high (inl none) = (omega arith, λ m from other. ap (λ x. holder x m) none ∙ free_word m from)
alone_before word n low high (inr own) =
    let small = bit_is_low n low high in
    let below : word < 256 = omega arith in (
      below,
      λ m from other. lacks_lock word m
          (below, ap (λ x. bit_at x (m - 1)) own ∙ bit_at-pow_other (n - 1) (m - 1) (λ e. other (omega arith))) from,
    )

-- a node's own words: nobody else holds the lock where the word is free, its own bit alone, or has its number
pub none_but : (word n : ℕ) → IsLockWord word → 1 ≤ n → n ≤ 8 → ((word ≡ 0) ⊎ (word ≡ 2 ^ (n - 1)))
    ⊎ (word / 256 ≡ n) → (m : ℕ) → 1 ≤ m → m ≤ 8 → ¬ (m ≡ n) → holder word m ≡ No
none_but word n lock low high (inl own) m from to other = (alone_before word n low high own).1 m from other
none_but word n (inl small) low high (inr number) m from to other = absurd (omega arith)
none_but word n (inr w) low high (inr number) m from to other =
    let same : w.0 ≡ n = let is = w.3 in omega arith in
    ap (λ x. holder x m) w.3 ∙ holder_writer w.0 m w.1 from to ∙ if_differs m w.0 Write No (λ e. other (e ∙ same))

no_bit : (word m : ℕ) → word < 256 → 1 ≤ m → holder word m ≡ No → bit_at word (m - 1) ≡ 0
no_bit word m small from none =
    let below = bit_at-lt word (m - 1) in
    dite (ℕ_discrete (bit_at word (m - 1)) 1)
    (λ one. let both : Read ≡ No =
    sym (holder_reads word m small from ∙ if_equal (bit_at word (m - 1)) 1 Read No one) ∙ none in cc)
    (λ zero_bit. omega arith)

-- and in no other word
pub but_none : (word n : ℕ) → IsLockWord word → 1 ≤ n → n ≤ 8
    → ((m : ℕ) → 1 ≤ m → m ≤ 8 → ¬ (m ≡ n) → holder word m ≡ No) → ((word ≡ 0) ⊎ (word ≡ 2 ^ (n - 1)))
    ⊎ (word / 256 ≡ n)
but_none word n (inr w) low high none =
    dite (ℕ_discrete w.0 n)
    (λ same. inr (let is = w.3 in omega arith))
    (λ other.
    let writes : Write ≡ No =
    sym (ap (λ x. holder x w.0) w.3 ∙ holder_writer w.0 w.0 w.1 w.1 w.2 ∙ if_equal w.0 w.0 Write No refl)
    ∙ none w.0 w.1 w.2 other in
    cc)
but_none word n (inl small) low high none =
    let others : (i : ℕ) → i < 8 → ¬ (i ≡ n - 1) → bit_at word i ≡ 0 =
    λ i within other.
    let place : i + 1 - 1 ≡ i = omega arith in
    ap (bit_at word) (sym place) ∙ no_bit word (i + 1) small (omega arith)
    (none (i + 1) (omega arith) (omega arith) (λ e. other (omega arith))) in
    dite (ℕ_discrete (bit_at word (n - 1)) 1)
    (λ own.
    inl (inr (same_from_bits_below 8 word (2 ^ (n - 1)) small (bit_is_low n low high)
    (λ i within.
    dite (ℕ_discrete i (n - 1))
    (λ same. ap (bit_at word) same ∙ own ∙ sym (ap (bit_at (2 ^ (n - 1))) same ∙ bit_at-pow_same (n - 1)))
    (λ other. others i within other ∙ sym (bit_at-pow_other (n - 1) i other))))))
    (λ differs.
    inl (inl (same_from_bits_below 8 word 0 small (omega arith)
    (λ i within.
    let below = bit_at-lt word (n - 1) in
    let own : bit_at word (n - 1) ≡ 0 = omega arith in
    dite (ℕ_discrete i (n - 1))
    (λ same. ap (bit_at word) same ∙ own ∙ sym (bit_at-zero i))
    (λ other. others i within other ∙ sym (bit_at-zero i))))))
