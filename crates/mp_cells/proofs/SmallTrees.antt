-- The definition of a tree at small maps: a fresh one, one of two leaves, and one whose fences leave a gap.
use Rattle.std.proofs.Common.{◌≡◌, ◌≢◌, ℕ, zero, suc, ◌+◌, ◌/◌, ◌%◌, ◌^◌, ◌<◌, ◌≤◌, ◌==◌, false, [], ◌∷◌, length, get_or, replicate, refl, ap, ◌∙◌, inl, inr, arith}
use Rattle.std.specs.Int.{bit_at}
use Rattle.std.specs.List.{AllByRecursion}
use Rattle.std.proofs.lemmas.Bool.{cases_lt}
use Rattle.std.proofs.lemmas.Bool.Decides.{nat_tests}
use Rattle.std.proofs.lemmas.Nat.Bits.{bit_at-zero, bit_at_above}
use Rattle.mp_cells.specs.declared.kinds.Kind.TheVariants.{Blank, Leaf, Inner, Undo}
use Rattle.mp_cells.specs.Rows.{IsRow}
use Rattle.mp_cells.specs.PageView.{AreBits, IsPage, bit_of, is_of}
use Rattle.mp_cells.specs.Trees.{root, Levels, uses, one_if, IsTree, IsUnwritten, IsClean}
use Rattle.mp_cells.specs.SmallMaps.{low_bits, fresh_map, gone_row, two_leaves, gap_map}

zeros_at : (n i : ℕ) → get_or (replicate {A = ℕ} n 0) i 0 ≡ 0
zeros_at zero i = refl
zeros_at (suc n) zero = refl
zeros_at (suc n) (suc i) = zeros_at n i

low_are_bits : (byte : ℕ) → byte < 256 → AreBits (low_bits byte)
low_are_bits byte h = record { count = refl; bytes = λ i. at i }
  where
    at : (i : ℕ) → get_or (low_bits byte) i 0 < 256
    at zero = h
    at (suc i) = let e : get_or (replicate 511 0) i 0 ≡ 0 = zeros_at 511 i in omega (arith, e)

-- no bit is set from k on, where the byte is below 2 ^ k
clear : (byte k n : ℕ) → byte < 2 ^ k → k ≤ n → k ≤ 8 → bit_of (low_bits byte) n ≡ 0
clear byte k n lt le small = elim (cases_lt n 8) [
  | inl low ↦
      let quotient : n / 8 ≡ 0 = omega arith in
      let rest : n % 8 ≡ n = omega arith in
      rw (quotient, rest) (bit_at_above byte k n lt le)
  | inr high ↦ beyond (n / 8) (n % 8) (omega arith)
]
  where
    beyond : (q r : ℕ) → 1 ≤ q → bit_at (get_or (low_bits byte) q 0) r ≡ 0
    beyond zero r h = absurd (omega arith)
    beyond (suc q) r h = ap (λ (b : ℕ). bit_at b r) (zeros_at 511 q) ∙ bit_at-zero r

-- ---- a fresh map

fresh_sound : (n : ℕ) → IsPage (fresh_map n)
fresh_sound zero = record { llsn = omega arith; content = (refl, low_are_bits 3 (omega arith)) }
fresh_sound (suc zero) = record { llsn = omega arith; content = (refl, refl, tt) }
fresh_sound (suc (suc n)) = record { llsn = omega arith; content = refl }

-- a page above the ones that are used is used by none
not_used : (n a : ℕ) → a ≢ n → (a == n) ≡ false
not_used n a h = grind (arith, nat_tests)

fresh_bits : (n : ℕ) → bit_of (low_bits 3) n ≡ one_if (n == 0) + uses n (1 ∷ []) + one_if false
fresh_bits zero = refl
fresh_bits (suc zero) = refl
fresh_bits (suc (suc n)) =
    let none : one_if (1 == suc (suc n)) ≡ 0 = ap one_if (not_used (suc (suc n)) 1 (omega arith)) in
    let other : one_if (suc (suc n) == 0) ≡ 0 = ap one_if (not_used 0 (suc (suc n)) (omega arith)) in
    clear 3 2 (suc (suc n)) (omega arith) (omega arith) (omega arith) ∙ omega (arith, none, other)

pub fresh_is_tree : IsTree fresh_map 0
fresh_is_tree = record {
  sound = λ n lt. fresh_sound n;
  meta = refl;
  levels = (refl, refl, refl, tt);
  leaf_fill = leaf_fill;
  inner_fill = inner_fill;
  root_fill = λ e. absurd cc;
  bits = bits;
  blank = blank;
}
  where
    leaf_fill : (n : ℕ) → n < 4096 → n ≢ 1 → (fresh_map n).kind ≡ Leaf → 7 ≤ length (fresh_map n).rows
    leaf_fill zero lt ne e = absurd cc
    leaf_fill (suc zero) lt ne e = absurd (ne refl)
    leaf_fill (suc (suc n)) lt ne e = absurd cc

    inner_fill : (n : ℕ) → n < 4096 → n ≢ 1 → (fresh_map n).kind ≡ Inner → 62 ≤ length (fresh_map n).children
    inner_fill zero lt ne e = absurd cc
    inner_fill (suc zero) lt ne e = absurd (ne refl)
    inner_fill (suc (suc n)) lt ne e = absurd cc

    bits : (n : ℕ) → n < 4096 → bit_of (low_bits 3) n ≡ one_if (n == 0) + uses n (1 ∷ []) + one_if (is_of Undo (fresh_map n))
    bits zero lt = refl
    bits (suc zero) lt = refl
    bits (suc (suc n)) lt = fresh_bits (suc (suc n))

    blank : (n : ℕ) → n < 4096 → bit_of (low_bits 3) n ≡ 0 → (fresh_map n).kind ≡ Blank
    blank zero lt e = absurd (omega (arith, e))
    blank (suc zero) lt e = absurd (omega (arith, e))
    blank (suc (suc n)) lt e = refl

pub fresh_is_clean : IsClean 0 fresh_map
fresh_is_clean = record { tree = fresh_is_tree; no_undo = no_undo; no_writers = no_writers; llsns = llsns }
  where
    no_undo : (n : ℕ) → n < 4096 → (fresh_map n).kind ≢ Undo
    no_undo zero lt = λ e. absurd cc
    no_undo (suc zero) lt = λ e. absurd cc
    no_undo (suc (suc n)) lt = λ e. absurd cc

    no_writers : (n : ℕ) → n < 4096 → (fresh_map n).kind ≡ Leaf → AllByRecursion IsUnwritten (fresh_map n).rows
    no_writers zero lt e = tt
    no_writers (suc zero) lt e = tt
    no_writers (suc (suc n)) lt e = tt

    llsns : (n : ℕ) → n < 4096 → (fresh_map n).llsn ≤ 0
    llsns zero lt = omega arith
    llsns (suc zero) lt = omega arith
    llsns (suc (suc n)) lt = omega arith

-- ---- a root with two leaves

gone_is_row : (key : ℕ) → key < 2 ^ 32 → IsRow (gone_row key)
gone_is_row key lt = record { key = lt; value = tt; origin = refl }

two_sound : (n : ℕ) → IsPage (two_leaves n)
two_sound zero = record { llsn = omega arith; content = (refl, low_are_bits 15 (omega arith)) }
two_sound (suc zero) = record { llsn = omega arith; content = (refl, refl, (record { low = omega arith; page = refl }, (record { low = omega arith; page = refl }, tt))) }
two_sound (suc (suc zero)) = record { llsn = omega arith; content = (refl, refl, (gone_is_row 1 (omega arith), (gone_is_row 2 (omega arith), (gone_is_row 3 (omega arith), (gone_is_row 4 (omega arith), (gone_is_row 5 (omega arith), (gone_is_row 6 (omega arith), (gone_is_row 7 (omega arith), tt)))))))) }
two_sound (suc (suc (suc zero))) = record { llsn = omega arith; content = (refl, refl, (gone_is_row 9 (omega arith), (gone_is_row 10 (omega arith), (gone_is_row 11 (omega arith), (gone_is_row 12 (omega arith), (gone_is_row 13 (omega arith), (gone_is_row 14 (omega arith), (gone_is_row 15 (omega arith), tt)))))))) }
two_sound (suc (suc (suc (suc n)))) = record { llsn = omega arith; content = refl }

two_levels : Levels two_leaves 1 (root ∷ [])
two_levels = ((refl, refl, refl, tt), (refl, refl, refl, (refl, refl, refl, tt)))

pub two_is_tree : IsTree two_leaves 1
two_is_tree = record {
  sound = λ n lt. two_sound n;
  meta = refl;
  levels = two_levels;
  leaf_fill = leaf_fill;
  inner_fill = inner_fill;
  root_fill = λ e. omega arith;
  bits = bits;
  blank = blank;
}
  where
    leaf_fill : (n : ℕ) → n < 4096 → n ≢ 1 → (two_leaves n).kind ≡ Leaf → 7 ≤ length (two_leaves n).rows
    leaf_fill zero lt ne e = absurd cc
    leaf_fill (suc zero) lt ne e = absurd cc
    leaf_fill (suc (suc zero)) lt ne e = omega arith
    leaf_fill (suc (suc (suc zero))) lt ne e = omega arith
    leaf_fill (suc (suc (suc (suc n)))) lt ne e = absurd cc

    inner_fill : (n : ℕ) → n < 4096 → n ≢ 1 → (two_leaves n).kind ≡ Inner → 62 ≤ length (two_leaves n).children
    inner_fill zero lt ne e = absurd cc
    inner_fill (suc zero) lt ne e = absurd (ne refl)
    inner_fill (suc (suc zero)) lt ne e = absurd cc
    inner_fill (suc (suc (suc zero))) lt ne e = absurd cc
    inner_fill (suc (suc (suc (suc n)))) lt ne e = absurd cc

    bits : (n : ℕ) → n < 4096 → bit_of (low_bits 15) n ≡ one_if (n == 0) + uses n (1 ∷ 2 ∷ 3 ∷ []) + one_if (is_of Undo (two_leaves n))
    bits zero lt = refl
    bits (suc zero) lt = refl
    bits (suc (suc zero)) lt = refl
    bits (suc (suc (suc zero))) lt = refl
    bits (suc (suc (suc (suc n)))) lt =
        let m = suc (suc (suc (suc n))) in
        clear 15 4 m (omega arith) (omega arith) (omega arith)
        ∙ omega (arith, ap one_if (not_used m 1 (omega arith)), ap one_if (not_used m 2 (omega arith)), ap one_if (not_used m 3 (omega arith)), ap one_if (not_used 0 m (omega arith)))

    blank : (n : ℕ) → n < 4096 → bit_of (low_bits 15) n ≡ 0 → (two_leaves n).kind ≡ Blank
    blank zero lt e = absurd (omega (arith, e))
    blank (suc zero) lt e = absurd (omega (arith, e))
    blank (suc (suc zero)) lt e = absurd (omega (arith, e))
    blank (suc (suc (suc zero))) lt e = absurd (omega (arith, e))
    blank (suc (suc (suc (suc n)))) lt e = refl

pub two_is_clean : IsClean 0 two_leaves
two_is_clean = record { tree = two_is_tree; no_undo = no_undo; no_writers = no_writers; llsns = llsns }
  where
    no_undo : (n : ℕ) → n < 4096 → (two_leaves n).kind ≢ Undo
    no_undo zero lt = λ e. absurd cc
    no_undo (suc zero) lt = λ e. absurd cc
    no_undo (suc (suc zero)) lt = λ e. absurd cc
    no_undo (suc (suc (suc zero))) lt = λ e. absurd cc
    no_undo (suc (suc (suc (suc n)))) lt = λ e. absurd cc

    no_writers : (n : ℕ) → n < 4096 → (two_leaves n).kind ≡ Leaf → AllByRecursion IsUnwritten (two_leaves n).rows
    no_writers zero lt e = tt
    no_writers (suc zero) lt e = tt
    no_writers (suc (suc zero)) lt e = (refl, (refl, (refl, (refl, (refl, (refl, (refl, tt)))))))
    no_writers (suc (suc (suc zero))) lt e = (refl, (refl, (refl, (refl, (refl, (refl, (refl, tt)))))))
    no_writers (suc (suc (suc (suc n)))) lt e = tt

    llsns : (n : ℕ) → n < 4096 → (two_leaves n).llsn ≤ 0
    llsns zero lt = omega arith
    llsns (suc zero) lt = omega arith
    llsns (suc (suc zero)) lt = omega arith
    llsns (suc (suc (suc zero))) lt = omega arith
    llsns (suc (suc (suc (suc n)))) lt = omega arith

-- ---- a gap between two leaves

pub gap_is_none : (height : ℕ) → IsTree gap_map height → ⊥
gap_is_none zero tree = let both : Inner ≡ Leaf = tree.levels.0 in absurd cc
gap_is_none (suc zero) tree = let high : ◌≡◌ {A = ℕ} 7 9 = tree.levels.1.2 in omega (arith, high)
gap_is_none (suc (suc h)) tree = let both : Leaf ≡ Inner = tree.levels.1.0.0 in absurd cc
