-- Where few pages are clear, the bits of all others are set.
use Rattle.std.proofs.Common.{◌≡◌, ℕ, zero, suc, ◌+◌, ◌*◌, ◌/◌, ◌%◌, ◌^◌, ◌<◌, ◌≤◌, List, [], ◌∷◌, length, drop, get_or, count_ones, refl, sym, ap, ◌∙◌, arith}
use mathlib.Core.Logic.{dite}
use native.Mathlib.Decide.{ℕ_discrete}
use native.Mathlib.Nat.{pow-suc}
use lib.Count.{ones_step}
use Rattle.std.proofs.Math.Nat.{div-div-eq-div-mul}
use Rattle.std.proofs.lemmas.List.Sums.{sum_by-cons}
use Rattle.mp_cells.specs.PageView.{bits_set, bit_of}
use Rattle.mp_tree.specs.Planning.{clear_from}
use Rattle.mp_tree.proofs.ClearPages.{clear_first, clear_more}

-- the bits of the bytes from one on are its own and those behind it
bytes_from : (bits : List ℕ) (i : ℕ) → bits_set (drop i bits) ≡ count_ones (get_or bits i 0) + bits_set (drop (suc i) bits)
unfolding lib.Count.ones
bytes_from [] zero = refl
bytes_from [] (suc i) = refl
bytes_from (b ∷ bits) zero = sum_by-cons count_ones b bits
bytes_from (b ∷ bits) (suc i) = bytes_from bits i

-- those set from a place of a byte on
abbrev left_set : List ℕ → ℕ → ℕ → ℕ
left_set bits i j = count_ones (get_or bits i 0 / 2 ^ j) + bits_set (drop (suc i) bits)

whole_byte : (b : ℕ) → b / 2 ^ 0 ≡ b
whole_byte b = omega arith

next_half : (b j : ℕ) → b / 2 ^ suc j ≡ b / 2 ^ j / 2
next_half b j = ap (λ (k : ℕ). b / k) (pow-suc 2 j) ∙ sym (div-div-eq-div-mul b (2 ^ j) 2)

left_first : (bits : List ℕ) (i : ℕ) → left_set bits i 0 ≡ bits_set (drop i bits)
left_first bits i = ap (λ (b : ℕ). count_ones b + bits_set (drop (suc i) bits)) (whole_byte (get_or bits i 0)) ∙ sym (bytes_from bits i)

bit_there : (bits : List ℕ) (i j : ℕ) → j < 8 → bit_of bits (8 * i + j) ≡ get_or bits i 0 / 2 ^ j % 2
bit_there bits i j lt =
    let byte : (8 * i + j) / 8 ≡ i = omega (arith, lt) in
    let place : (8 * i + j) % 8 ≡ j = omega (arith, lt) in
    ap (λ (k : ℕ). get_or bits k 0 / 2 ^ ((8 * i + j) % 8) % 2) byte ∙ ap (λ (k : ℕ). get_or bits i 0 / 2 ^ k % 2) place

-- of so many pages from one on, each is clear or its bit is set
room_from : (count i j : ℕ) (bits : List ℕ) → j < 8 → count ≤ length (clear_from count (8 * i + j) bits) + left_set bits i j
room_from zero i j bits lt = omega arith
room_from (suc count) i j bits lt =
    let from = 8 * i + j in
    let x = get_or bits i 0 / 2 ^ j in
    let rest = bits_set (drop (suc i) bits) in
    let bit = bit_there bits i j lt in
    let ones : count_ones x ≡ x % 2 + count_ones (x / 2) = ones_step x in
    let next : count ≤ length (clear_from count (from + 1) bits) + (count_ones (x / 2) + rest) =
    dite (ℕ_discrete j 7)
    (λ last.
    let later = room_from count (suc i) 0 bits (omega arith) in
    let place : 8 * suc i + 0 ≡ from + 1 = omega (arith, last) in
    let same = ap (λ (k : ℕ). length (clear_from count k bits)) place in
    let left = left_first bits (suc i) in
    omega (arith, later, same, left))
    (λ before.
    let later = room_from count i (suc j) bits (omega (arith, lt, before)) in
    let place : 8 * i + suc j ≡ from + 1 = omega arith in
    let same = ap (λ (k : ℕ). length (clear_from count k bits)) place in
    let half = ap count_ones (next_half (get_or bits i 0) j) in
    omega (arith, later, same, half)) in
    dite (ℕ_discrete (bit_of bits from) 0)
    (λ clear.
    let first = ap (λ (l : List ℕ). length l) (clear_first count from bits clear) in
    omega (arith, first, next, ones))
    (λ set.
    let more = ap (λ (l : List ℕ). length l) (clear_more count from bits set) in
    omega (arith, more, next, ones, bit, set))

pub few_clear : (bits : List ℕ) → length (clear_from 4096 0 bits) < 4 → 4096 < bits_set bits + 5
few_clear bits few =
    let room = room_from 4096 0 0 bits (omega arith) in
    let all = left_first bits 0 in
    omega (arith, room, all, few)
