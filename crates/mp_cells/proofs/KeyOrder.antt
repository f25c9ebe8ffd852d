-- Cells whose keys rise: where a key's place is, what stands there, and what keeps them rising.
use Rattle.std.proofs.Common.{◌≡◌, ℕ, zero, suc, ◌+◌, ◌<◌, ◌≤◌, ◌||◌, nat_lt, nat_le, Bool, true, false, List, [], ◌∷◌, length, take, drop, get_or, set, filter, Result, Ok, Err, MatchResult, refl, sym, ap, ◌∙◌, inl, inr, arith}
use mathlib.Core.Bool.{false≢true}
use Rattle.std.proofs.lemmas.List.{length-take-le, length-drop, drop-drop, set_split, take-append-drop, set-append_left, take_at, length-set}
use Rattle.std.specs.List.{AllWithin, insert}
use Rattle.std.specs.List.Sorted.{IsSearchInRange, IsBinarySearchResult, IsNonDecreasingBy}
use Rattle.std.specs.Ordering.{nat_cmp, ordering_index}
use Rattle.std.proofs.lemmas.Cmp.{ranked}
use Rattle.std.proofs.lemmas.Bool.{and_parts, and_from, leb-true, le-leb, ltb-true, lt-ltb, cases_lt}
use Rattle.std.proofs.lemmas.Bool.Decides.{nat_tests}
use Rattle.mp_model.proofs.SortedRows.{filter_front, filter_rest}
use Rattle.mp_cells.specs.Keys.{rises, holds, holds_first, with_cell}

-- the keys rise strictly, from low on and below high
abbrev pub Rises : {T : Type 0} → (T → ℕ) → ℕ → ℕ → List T → Type 0
Rises key low high [] = Unit {0}
Rises key low high (cell ∷ cells) = (low ≤ key cell) × (key cell < high) × Rises key (key cell + 1) high cells

pub Rises-from_test : {T : Type 0} (key : T → ℕ) (low high : ℕ) (cells : List T) → rises key low high cells ≡ true → Rises key low high cells
Rises-from_test key low high [] h = tt
Rises-from_test key low high (cell ∷ cells) h =
    let parts = and_parts _ _ h in
    let bounds = and_parts _ _ parts.0 in
    (leb-true _ _ bounds.0, ltb-true _ _ bounds.1, Rises-from_test key (key cell + 1) high cells parts.1)

pub test-from_Rises : {T : Type 0} (key : T → ℕ) (low high : ℕ) (cells : List T) → Rises key low high cells → rises key low high cells ≡ true
test-from_Rises key low high [] h = refl
test-from_Rises key low high (cell ∷ cells) h =
    and_from _ _ (and_from _ _ (le-leb _ _ h.0) (lt-ltb _ _ h.1)) (test-from_Rises key (key cell + 1) high cells h.2)

-- wider bounds do as well
pub Rises-wider : {T : Type 0} (key : T → ℕ) (low high low' high' : ℕ) (cells : List T) → low' ≤ low → high ≤ high' → Rises key low high cells → Rises key low' high' cells
Rises-wider key low high low' high' [] l h r = tt
Rises-wider key low high low' high' (cell ∷ cells) l h r =
    (omega (arith, r.0), omega (arith, r.1), Rises-wider key (key cell + 1) high (key cell + 1) high' cells (omega arith) h r.2)

-- each key is at or above the lower bound
pub at_least : {T : Type 0} (key : T → ℕ) (low high : ℕ) (cells : List T) → Rises key low high cells → (i : ℕ) (d : T) → i < length cells → low ≤ key (get_or cells i d)
at_least key low high [] r i d within = absurd (omega arith)
at_least key low high (cell ∷ cells) r zero d within = r.0
at_least key low high (cell ∷ cells) r (suc i) d within = omega (arith, r.0, at_least key (key cell + 1) high cells r.2 i d (omega arith))

-- keys rise along the cells
pub strictly : {T : Type 0} (key : T → ℕ) (low high : ℕ) (cells : List T) → Rises key low high cells → (i j : ℕ) (d : T) → i < j → j < length cells → key (get_or cells i d) < key (get_or cells j d)
strictly key low high [] r i j d lt within = absurd (omega arith)
strictly key low high (cell ∷ cells) r zero zero d lt within = absurd (omega arith)
strictly key low high (cell ∷ cells) r zero (suc j) d lt within = omega (arith, at_least key (key cell + 1) high cells r.2 j d (omega arith))
strictly key low high (cell ∷ cells) r (suc i) zero d lt within = absurd (omega arith)
strictly key low high (cell ∷ cells) r (suc i) (suc j) d lt within = strictly key (key cell + 1) high cells r.2 i j d (omega arith) (omega arith)

-- all cells before the place have lower keys, and all from it on have not
pub record IsPlace {T : Type 0} (key : T → ℕ) (cells : List T) (k i : ℕ) : Type 0 where
  pub bound : i ≤ length cells
  pub below : AllWithin (λ cell. key cell < k) cells 0 i
  pub above : AllWithin (λ cell. k ≤ key cell) cells i (length cells)

-- a binary search by key ends at the place
pub searched : {T : Type 0} (key : T → ℕ) (low high : ℕ) (cells : List T) (k : ℕ) → Rises key low high cells → (r : Result ℕ ℕ) → IsSearchInRange r (length cells) → IsBinarySearchResult (λ cell. nat_cmp (key cell) k) cells r → MatchResult r (IsPlace key cells k) (IsPlace key cells k)
searched {T} key low high cells k rises (Ok at) in_range equal = record {
  bound = omega arith;
  below = λ i d from lt. let here : key (get_or cells at d) ≡ k = ranked _ k _ (sym (equal d)) in omega (arith, here, strictly key low high cells rises i at d lt in_range);
  above = λ i d le lt. let here : key (get_or cells at d) ≡ k = ranked _ k _ (sym (equal d)) in above_here d here i le lt;
}
  where
    above_here : (d : T) → key (get_or cells at d) ≡ k → (i : ℕ) → at ≤ i → i < length cells → k ≤ key (get_or cells i d)
    above_here d here i le lt = elim (cases_lt at i) [
      | inl past ↦ omega (arith, here, strictly key low high cells rises at i d past lt)
      | inr same ↦ let e : i ≡ at = omega arith in rw e (omega (arith, here))
    ]
searched key low high cells k rises (Err at) in_range parted =
    let halves = parted comparisons_rise in
    record {
      bound = in_range;
      below = λ i d from lt. ranked _ k _ (sym (halves.0 i d from lt));
      above = λ i d le lt. let greater : k < key (get_or cells i d) = ranked _ k _ (sym (halves.1 i d le lt)) in omega (arith, greater);
    }
  where
    comparisons_rise : IsNonDecreasingBy (λ cell. ordering_index (nat_cmp (key cell) k)) cells
    comparisons_rise i j d le lt = elim (cases_lt i j) [
      | inl before ↦ grind (arith, nat_tests, strictly key low high cells rises i j d before lt)
      | inr same ↦ let e : i ≡ j = omega arith in rw e (omega arith)
    ]

-- so the cells below the key are the front, and the others the rest
pub front_below : {T : Type 0} (key : T → ℕ) (cells : List T) (k i : ℕ) → IsPlace key cells k i → take i cells ≡ filter (λ cell. nat_lt (key cell) k) cells
front_below key cells k i place = filter_front (λ cell. nat_lt (key cell) k) cells i place.bound
    (λ n d low high. grind (arith, nat_tests, place.below n d low high))
    (λ n d low high. grind (arith, nat_tests, place.above n d low high))

pub rest_above : {T : Type 0} (key : T → ℕ) (cells : List T) (k i : ℕ) → IsPlace key cells k i → drop i cells ≡ filter (λ cell. nat_le k (key cell)) cells
rest_above key cells k i place = filter_rest (λ cell. nat_le k (key cell)) cells i place.bound
    (λ n d low high. grind (arith, nat_tests, place.below n d low high))
    (λ n d low high. grind (arith, nat_tests, place.above n d low high))

-- cells that all lie above a key
pub above_all : {T : Type 0} (key : T → ℕ) (k low high : ℕ) (cells : List T) → Rises key low high cells → k < low → filter (λ cell. nat_lt k (key cell)) cells ≡ cells
above_all key k low high [] r lt = refl
above_all key k low high (cell ∷ cells) r lt = grind (arith, nat_tests, r.0, above_all key k (key cell + 1) high cells r.2 (omega (arith, r.0)))

pub at_or_above_all : {T : Type 0} (key : T → ℕ) (k low high : ℕ) (cells : List T) → Rises key low high cells → k ≤ low → filter (λ cell. nat_le k (key cell)) cells ≡ cells
at_or_above_all key k low high [] r le = refl
at_or_above_all key k low high (cell ∷ cells) r le = grind (arith, nat_tests, r.0, at_or_above_all key k (key cell + 1) high cells r.2 (omega (arith, r.0)))

pub absent_above : {T : Type 0} (key : T → ℕ) (k low high : ℕ) (cells : List T) → Rises key low high cells → k < low → holds key k cells ≡ false
absent_above key k low high [] r lt = refl
absent_above key k low high (cell ∷ cells) r lt = grind (arith, nat_tests, r.0, absent_above key k (key cell + 1) high cells r.2 (omega (arith, r.0)))

-- rest are the cells from a key on, above those after it
pub record SplitsAtKey {T : Type 0} (key : T → ℕ) (k : ℕ) (cells rest above : List T) : Type 0 where
  pub held : holds key k cells ≡ holds_first key k rest
  pub found : holds_first key k rest ≡ true → drop 1 rest ≡ above
  pub absent : holds_first key k rest ≡ false → rest ≡ above

pub split_at_key : {T : Type 0} (key : T → ℕ) (k low high : ℕ) (cells : List T) → Rises key low high cells → SplitsAtKey key k cells (filter (λ cell. nat_le k (key cell)) cells) (filter (λ cell. nat_lt k (key cell)) cells)
split_at_key key k low high [] r = record { held = refl; found = λ e. refl; absent = λ e. refl }
split_at_key {T} key k low high (cell ∷ cells) r = elim (cases_lt (key cell) k) [
  | inl below ↦
      let rest : filter (λ x. nat_le k (key x)) (cell ∷ cells) ≡ filter (λ x. nat_le k (key x)) cells = grind (arith, nat_tests) in
      let above : filter (λ x. nat_lt k (key x)) (cell ∷ cells) ≡ filter (λ x. nat_lt k (key x)) cells = grind (arith, nat_tests) in
      let h = split_at_key key k (key cell + 1) high cells r.2 in
      let held : holds key k (cell ∷ cells) ≡ holds key k cells = grind (arith, nat_tests) in
      rw (rest, above) (record { held = held ∙ h.held; found = h.found; absent = h.absent })
  | inr from ↦ split_from from
]
  where
    split_from : k ≤ key cell → SplitsAtKey key k (cell ∷ cells) (filter (λ x. nat_le k (key x)) (cell ∷ cells)) (filter (λ x. nat_lt k (key x)) (cell ∷ cells))
    split_from from =
        let rest : filter (λ x. nat_le k (key x)) (cell ∷ cells) ≡ cell ∷ cells = grind (arith, nat_tests, at_or_above_all key k (key cell + 1) high cells r.2 (omega arith)) in
        let others : filter (λ x. nat_lt k (key x)) cells ≡ cells = above_all key k (key cell + 1) high cells r.2 (omega arith) in
        let none : holds key k cells ≡ false = absent_above key k (key cell + 1) high cells r.2 (omega arith) in
        rw rest (record {
          held = grind (arith, nat_tests, none);
          found = λ e. grind (arith, nat_tests, others, e);
          absent = λ e. grind (arith, nat_tests, others, e);
        })

-- a cell that is set at its key's place, where a cell has the key, is put there
pub replaced : {T : Type 0} (key : T → ℕ) (low high k : ℕ) (cells : List T) (cell : T) (i : ℕ) → k ≡ key cell → Rises key low high cells
    → take i cells ≡ filter (λ x. nat_lt (key x) k) cells → drop i cells ≡ filter (λ x. nat_le k (key x)) cells
    → holds_first key k (drop i cells) ≡ true → (i < length cells) × (set cells i cell ≡ with_cell key cell cells)
replaced {T} key low high k cells cell i is r front rest held =
    let split = split_at_key key k low high cells r in
    let found : drop 1 (drop i cells) ≡ filter (λ x. nat_lt k (key x)) cells = ap (drop 1) rest ∙ split.found (ap (holds_first key k) (sym rest) ∙ held) in
    let lt : i < length cells = omega (arith, there (drop i cells) held, length-drop i cells) in
    let step : i + 1 ≡ suc i = omega arith in
    let next : drop (suc i) cells ≡ drop 1 (drop i cells) = ap (λ (n : ℕ). drop n cells) (sym step) ∙ sym (drop-drop 1 i cells) in
    (lt, set_split cells i cell lt ∙ rw (front, next, found, is) refl)
  where
    there : (xs : List T) → holds_first key k xs ≡ true → 0 < length xs
    there [] h = absurd (false≢true h)
    there (x ∷ xs) h = omega arith

-- a cell that is inserted at its key's place, where no cell has the key, is put there
pub inserted : {T : Type 0} (key : T → ℕ) (low high k : ℕ) (cells : List T) (cell : T) (i : ℕ) → k ≡ key cell → Rises key low high cells
    → take i cells ≡ filter (λ x. nat_lt (key x) k) cells → drop i cells ≡ filter (λ x. nat_le k (key x)) cells
    → holds_first key k (drop i cells) ≡ false → (holds key (key cell) cells ≡ false) × (insert cells i cell ≡ with_cell key cell cells)
inserted {T} key low high k cells cell i is r front rest absent =
    let split = split_at_key key k low high cells r in
    let none : holds_first key k (filter (λ x. nat_le k (key x)) cells) ≡ false = ap (holds_first key k) (sym rest) ∙ absent in
    let back : drop i cells ≡ filter (λ x. nat_lt k (key x)) cells = rest ∙ split.absent none in
    (ap (λ (n : ℕ). holds key n cells) (sym is) ∙ split.held ∙ none, rw (front, back, is) refl)

-- the front keeps a cell that is set in it
pub take-set_front : {T : Type 0} (n i : ℕ) (cells : List T) (cell : T) → n ≤ length cells → i < n → take n (set cells i cell) ≡ set (take n cells) i cell
take-set_front {T} n i cells cell within lt =
    let count : length (take n cells) ≡ n = length-take-le n cells within in
    ap (λ (xs : List T). take n (set xs i cell)) (sym (take-append-drop n cells))
    ∙ ap (take n) (set-append_left (take n cells) (drop n cells) i cell (omega arith))
    ∙ take_at (set (take n cells) i cell) (drop n cells) n (omega (arith, length-set (take n cells) i cell))

-- where there is room for one, and no cell has the key
pub room_left : (held : Bool) (len n : ℕ) → (held || nat_lt len n) ≡ true → held ≡ false → len < n
room_left true len n room none = absurd (false≢true (sym none))
room_left false len n room none = ltb-true len n room
