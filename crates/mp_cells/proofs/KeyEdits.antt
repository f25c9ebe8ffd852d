-- What putting a cell at its key and cutting at a key keep: rising keys, the kind of cells, the count.
use Rattle.std.proofs.Common.{◌≡◌, ℕ, suc, ◌+◌, ◌<◌, ◌≤◌, nat_lt, Bool, true, false, cond, List, [], ◌∷◌, ◌++◌, length, filter, refl, inl, inr, arith}
use Rattle.std.specs.List.{AllByRecursion}
use Rattle.std.proofs.lemmas.Bool.{cases_lt}
use Rattle.std.proofs.lemmas.Bool.Decides.{nat_tests}
use Rattle.mp_cells.specs.Keys.{holds, with_cell, cells_below}
use Rattle.mp_cells.proofs.KeyOrder.{Rises, Rises-wider, above_all, absent_above}

-- no cell lies below a key that isn't above the bound
pub below_none : {T : Type 0} (key : T → ℕ) (k low high : ℕ) (cells : List T) → Rises key low high cells → k ≤ low → filter (λ cell. nat_lt (key cell) k) cells ≡ []
below_none key k low high [] r le = refl
below_none key k low high (cell ∷ cells) r le = grind (arith, nat_tests, r.0, below_none key k (key cell + 1) high cells r.2 (omega (arith, r.0)))

-- putting a cell behind a lower one, in the place of its equal, and before a higher one
pub with_cell-below : {T : Type 0} (key : T → ℕ) (new cell : T) (cells : List T) → key cell < key new → with_cell key new (cell ∷ cells) ≡ cell ∷ with_cell key new cells
with_cell-below key new cell cells lt =
    let front : filter (λ x. nat_lt (key x) (key new)) (cell ∷ cells) ≡ cell ∷ filter (λ x. nat_lt (key x) (key new)) cells = grind (arith, nat_tests) in
    let back : filter (λ x. nat_lt (key new) (key x)) (cell ∷ cells) ≡ filter (λ x. nat_lt (key new) (key x)) cells = grind (arith, nat_tests) in
    rw (front, back) refl

pub with_cell-equal : {T : Type 0} (key : T → ℕ) (low high : ℕ) (new cell : T) (cells : List T) → Rises key low high (cell ∷ cells) → key cell ≡ key new → with_cell key new (cell ∷ cells) ≡ new ∷ cells
with_cell-equal key low high new cell cells r e =
    let below : filter (λ x. nat_lt (key x) (key new)) cells ≡ [] = below_none key (key new) (key cell + 1) high cells r.2 (omega arith) in
    let above : filter (λ x. nat_lt (key new) (key x)) cells ≡ cells = above_all key (key new) (key cell + 1) high cells r.2 (omega arith) in
    let front : filter (λ x. nat_lt (key x) (key new)) (cell ∷ cells) ≡ [] = grind (arith, nat_tests) in
    let back : filter (λ x. nat_lt (key new) (key x)) (cell ∷ cells) ≡ cells = grind (arith, nat_tests) in
    rw (front, back) refl

pub with_cell-above : {T : Type 0} (key : T → ℕ) (low high : ℕ) (new cell : T) (cells : List T) → Rises key low high (cell ∷ cells) → key new < key cell → with_cell key new (cell ∷ cells) ≡ new ∷ cell ∷ cells
with_cell-above key low high new cell cells r lt =
    let below : filter (λ x. nat_lt (key x) (key new)) cells ≡ [] = below_none key (key new) (key cell + 1) high cells r.2 (omega arith) in
    let above : filter (λ x. nat_lt (key new) (key x)) cells ≡ cells = above_all key (key new) (key cell + 1) high cells r.2 (omega arith) in
    let front : filter (λ x. nat_lt (key x) (key new)) (cell ∷ cells) ≡ [] = grind (arith, nat_tests) in
    let back : filter (λ x. nat_lt (key new) (key x)) (cell ∷ cells) ≡ cell ∷ cells = grind (arith, nat_tests) in
    rw (front, back) refl

-- the keys still rise
pub Rises-with_cell : {T : Type 0} (key : T → ℕ) (low high : ℕ) (new : T) (cells : List T) → Rises key low high cells → low ≤ key new → key new < high → Rises key low high (with_cell key new cells)
Rises-with_cell key low high new [] r le lt = (le, lt, tt)
Rises-with_cell key low high new (cell ∷ cells) r le lt = elim (cases_lt (key cell) (key new)) [
  | inl below ↦ rw (with_cell-below key new cell cells below) (r.0, r.1, Rises-with_cell key (key cell + 1) high new cells r.2 (omega arith) lt)
  | inr from ↦ elim (cases_lt (key new) (key cell)) [
    | inl above ↦ rw (with_cell-above key low high new cell cells r above) (le, lt, (omega arith, r.1, r.2))
    | inr also ↦
        let same : key cell ≡ key new = omega arith in
        rw (with_cell-equal key low high new cell cells r same) (le, lt, Rises-wider key (key cell + 1) high (key new + 1) high cells (omega arith) (omega arith) r.2)
  ]
]

-- the count grows by one where no cell has the key
pub length-with_cell : {T : Type 0} (key : T → ℕ) (low high : ℕ) (new : T) (cells : List T) → Rises key low high cells → length (with_cell key new cells) ≡ length cells + cond (holds key (key new) cells) 0 1
length-with_cell key low high new [] r = refl
length-with_cell {T} key low high new (cell ∷ cells) r = elim (cases_lt (key cell) (key new)) [
  | inl below ↦
      let held : holds key (key new) (cell ∷ cells) ≡ holds key (key new) cells = grind (arith, nat_tests) in
      rw (with_cell-below key new cell cells below, held) (omega (arith, length-with_cell key (key cell + 1) high new cells r.2))
  | inr from ↦ elim (cases_lt (key new) (key cell)) [
    | inl above ↦
        let none : holds key (key new) cells ≡ false = absent_above key (key new) (key cell + 1) high cells r.2 (omega arith) in
        let held : holds key (key new) (cell ∷ cells) ≡ false = grind (arith, nat_tests, none) in
        rw (with_cell-above key low high new cell cells r above, held) (omega arith)
    | inr also ↦
        let same : key cell ≡ key new = omega arith in
        let held : holds key (key new) (cell ∷ cells) ≡ true = grind (arith, nat_tests, same) in
        rw (with_cell-equal key low high new cell cells r same, held) (omega arith)
  ]
]

-- the cells below a bound rise up to it
pub Rises-cells_below : {T : Type 0} (key : T → ℕ) (low high bound : ℕ) (cells : List T) → Rises key low high cells → Rises key low bound (cells_below key bound cells)
Rises-cells_below key low high bound [] r = tt
Rises-cells_below {T} key low high bound (cell ∷ cells) r = elim (cases_lt (key cell) bound) [
  | inl below ↦
      let kept : cells_below key bound (cell ∷ cells) ≡ cell ∷ cells_below key bound cells = grind (arith, nat_tests) in
      rw kept (r.0, below, Rises-cells_below key (key cell + 1) high bound cells r.2)
  | inr from ↦
      let none : cells_below key bound cells ≡ [] = below_none key bound (key cell + 1) high cells r.2 (omega arith) in
      let gone : cells_below key bound (cell ∷ cells) ≡ [] = grind (arith, nat_tests, none) in
      rw gone tt
]

-- a filter keeps no more
pub length-filter_most : {T : Type 0} (p : T → Bool) (cells : List T) → length (filter p cells) ≤ length cells
length-filter_most p [] = omega arith
length-filter_most {T} p (cell ∷ cells) = by_test (p cell) refl (length-filter_most p cells)
  where
    by_test : (b : Bool) → p cell ≡ b → length (filter p cells) ≤ length cells → length (cond b (cell ∷ filter p cells) (filter p cells)) ≤ suc (length cells)
    by_test true e h = omega arith
    by_test false e h = omega arith

-- and what holds of all holds of those
pub All-filter : {T : Type 0} (P : T → Type 0) (p : T → Bool) (cells : List T) → AllByRecursion P cells → AllByRecursion P (filter p cells)
All-filter P p [] h = tt
All-filter {T} P p (cell ∷ cells) h = by_test (p cell) (All-filter P p cells h.1)
  where
    by_test : (b : Bool) → AllByRecursion P (filter p cells) → AllByRecursion P (cond b (cell ∷ filter p cells) (filter p cells))
    by_test true rest = (h.0, rest)
    by_test false rest = rest

pub All-append : {T : Type 0} (P : T → Type 0) (xs ys : List T) → AllByRecursion P xs → AllByRecursion P ys → AllByRecursion P (xs ++ ys)
All-append P [] ys h k = k
All-append P (x ∷ xs) ys h k = (h.0, All-append P xs ys h.1 k)

pub All-with_cell : {T : Type 0} (P : T → Type 0) (key : T → ℕ) (new : T) (cells : List T) → P new → AllByRecursion P cells → AllByRecursion P (with_cell key new cells)
All-with_cell P key new cells n h = All-append P (filter (λ cell. nat_lt (key cell) (key new)) cells) (new ∷ filter (λ cell. nat_lt (key new) (key cell)) cells) (All-filter P _ cells h) (n, All-filter P _ cells h)
