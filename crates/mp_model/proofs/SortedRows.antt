-- A write into rows whose keys ascend: where the key's place is, and what the edit there gives.
use Rattle.std.proofs.Common.{◌≡◌, ℕ, zero, suc, ◌+◌, ◌<◌, ◌≤◌, nat_lt, nat_le, Bool, true, false, List, [], ◌∷◌, length, take, drop, get_or, filter, Option, Some, None, Result, Ok, Err, MatchResult, refl, sym, inl, inr, arith}
use mathlib.Core.Bool.{false≢true}
use Rattle.std.specs.List.{AllWithin}
use Rattle.std.specs.List.Sorted.{IsSearchInRange, IsBinarySearchResult, IsNonDecreasingBy}
use Rattle.std.specs.Ordering.{nat_cmp, ordering_index}
use Rattle.std.proofs.lemmas.Cmp.{ranked}
use Rattle.std.proofs.lemmas.Bool.Decides.{nat_tests}
use Rattle.std.proofs.lemmas.Grind.{common_steps}
use Rattle.std.proofs.lemmas.Bool.{cases_lt}
use Rattle.mp_model.specs.declared.key_value.KeyValue.{KeyValue}
use Rattle.mp_model.specs.Folded.{AscendsFrom, KeysAscend, value_at, holds_key}

-- rows from a key on
abbrev pub Ascend : ℕ → List KeyValue → Type 0
Ascend = AscendsFrom (λ row. row.key)

-- a lower bound does as well
pub ascends_from_lower : (rows : List KeyValue) (low high : ℕ) → low ≤ high → Ascend high rows → Ascend low rows
ascends_from_lower [] low high le h = tt
ascends_from_lower (row ∷ rows) low high le h = (omega (arith, h.0), h.1)

-- each key is at or above the bound
pub at_least : (rows : List KeyValue) (low : ℕ) → Ascend low rows → (i : ℕ) (d : KeyValue) → i < length rows → low ≤ (get_or rows i d).key
at_least [] low h i d within = absurd (omega arith)
at_least (row ∷ rows) low h zero d within = h.0
at_least (row ∷ rows) low h (suc i) d within = omega (arith, h.0, at_least rows (row.key + 1) h.1 i d (omega arith))

-- keys rise along the rows
pub rises : (rows : List KeyValue) (low : ℕ) → Ascend low rows → (i j : ℕ) (d : KeyValue) → i < j → j < length rows → (get_or rows i d).key < (get_or rows j d).key
rises [] low h i j d lt within = absurd (omega arith)
rises (row ∷ rows) low h zero zero d lt within = absurd (omega arith)
rises (row ∷ rows) low h zero (suc j) d lt within = omega (arith, at_least rows (row.key + 1) h.1 j d (omega arith))
rises (row ∷ rows) low h (suc i) zero d lt within = absurd (omega arith)
rises (row ∷ rows) low h (suc i) (suc j) d lt within = rises rows (row.key + 1) h.1 i j d (omega arith) (omega arith)

-- all rows before the place have lower keys, and all from it on have not
pub record IsPlace (rows : List KeyValue) (key i : ℕ) : Type 0 where
  pub bound : i ≤ length rows
  pub below : AllWithin (λ row. row.key < key) rows 0 i
  pub above : AllWithin (λ row. key ≤ row.key) rows i (length rows)

-- a binary search by key ends at the place
pub searched : (rows : List KeyValue) (key : ℕ) → KeysAscend rows → (r : Result ℕ ℕ) → IsSearchInRange r (length rows) → IsBinarySearchResult (λ row. nat_cmp row.key key) rows r → MatchResult r (IsPlace rows key) (IsPlace rows key)
searched rows key ascend (Ok at) in_range equal = record {
  bound = omega arith;
  below = λ i d low lt. let here : (get_or rows at d).key ≡ key = ranked _ key _ (sym (equal d)) in omega (arith, here, rises rows 0 ascend i at d lt in_range);
  above = λ i d le lt. let here : (get_or rows at d).key ≡ key = ranked _ key _ (sym (equal d)) in above_here d here i le lt;
}
  where
    above_here : (d : KeyValue) → (get_or rows at d).key ≡ key → (i : ℕ) → at ≤ i → i < length rows → key ≤ (get_or rows i d).key
    above_here d here i le lt = elim (cases_lt at i) [
      | inl past ↦ omega (arith, here, rises rows 0 ascend at i d past lt)
      | inr same ↦ let e : i ≡ at = omega arith in rw e (omega (arith, here))
    ]
searched rows key ascend (Err at) in_range parted =
    let halves = parted comparisons_rise in
    record {
      bound = in_range;
      below = λ i d low lt. ranked _ key _ (sym (halves.0 i d low lt));
      above = λ i d le lt. let greater : key < (get_or rows i d).key = ranked _ key _ (sym (halves.1 i d le lt)) in omega (arith, greater);
    }
  where
    comparisons_rise : IsNonDecreasingBy (λ row. ordering_index (nat_cmp row.key key)) rows
    comparisons_rise i j d le lt = elim (cases_lt i j) [
      | inl before ↦ grind (arith, nat_tests, rises rows 0 ascend i j d before lt)
      | inr same ↦ let e : i ≡ j = omega arith in rw e (omega arith)
    ]

-- where a test holds below place i and at none from it on, the filter is the front
pub filter_front : {T : Type 0} (p : T → Bool) (xs : List T) (i : ℕ) → i ≤ length xs → AllWithin (λ x. p x ≡ true) xs 0 i → AllWithin (λ x. p x ≡ false) xs i (length xs) → take i xs ≡ filter p xs
filter_front p [] zero le yes' no' = refl
filter_front p [] (suc i) le yes' no' = refl
filter_front p (x ∷ xs) zero le yes' no' = grind (arith, common_steps, no' 0 x (omega arith) (omega arith), filter_front p xs 0 (omega arith) (λ k d low high. absurd (omega arith)) (λ k d low high. no' (suc k) d (omega arith) (omega arith)))
filter_front p (x ∷ xs) (suc i) le yes' no' = grind (arith, common_steps, yes' 0 x (omega arith) (omega arith), filter_front p xs i (omega arith) (λ k d low high. yes' (suc k) d (omega arith) (omega arith)) (λ k d low high. no' (suc k) d (omega arith) (omega arith)))

-- and where it holds at none below and at each from there on, the filter is the rest
pub filter_rest : {T : Type 0} (p : T → Bool) (xs : List T) (i : ℕ) → i ≤ length xs → AllWithin (λ x. p x ≡ false) xs 0 i → AllWithin (λ x. p x ≡ true) xs i (length xs) → drop i xs ≡ filter p xs
filter_rest p [] zero le no' yes' = refl
filter_rest p [] (suc i) le no' yes' = refl
filter_rest p (x ∷ xs) zero le no' yes' = grind (arith, common_steps, yes' 0 x (omega arith) (omega arith), filter_rest p xs 0 (omega arith) (λ k d low high. absurd (omega arith)) (λ k d low high. yes' (suc k) d (omega arith) (omega arith)))
filter_rest p (x ∷ xs) (suc i) le no' yes' = grind (arith, common_steps, no' 0 x (omega arith) (omega arith), filter_rest p xs i (omega arith) (λ k d low high. no' (suc k) d (omega arith) (omega arith)) (λ k d low high. yes' (suc k) d (omega arith) (omega arith)))

-- rows that all lie above a key
pub above_all : (key : ℕ) (rows : List KeyValue) (low : ℕ) → Ascend low rows → key < low → filter (λ row. nat_lt key row.key) rows ≡ rows
above_all key [] low h lt = refl
above_all key (row ∷ rows) low h lt = grind (arith, nat_tests, h.0, above_all key rows (row.key + 1) h.1 (omega (arith, h.0)))

pub at_or_above_all : (key : ℕ) (rows : List KeyValue) (low : ℕ) → Ascend low rows → key ≤ low → filter (λ row. nat_le key row.key) rows ≡ rows
at_or_above_all key [] low h lt = refl
at_or_above_all key (row ∷ rows) low h lt = grind (arith, nat_tests, h.0, at_or_above_all key rows (row.key + 1) h.1 (omega (arith, h.0)))

pub below_none : (key : ℕ) (rows : List KeyValue) (low : ℕ) → Ascend low rows → key ≤ low → filter (λ row. nat_lt row.key key) rows ≡ []
below_none key [] low h lt = refl
below_none key (row ∷ rows) low h lt = grind (arith, nat_tests, h.0, below_none key rows (row.key + 1) h.1 (omega (arith, h.0)))

-- no row above the key has it
pub absent_above : (key : ℕ) (rows : List KeyValue) (low : ℕ) → Ascend low rows → key < low → value_at key rows ≡ None
absent_above key [] low h lt = refl
absent_above key (row ∷ rows) low h lt = grind (arith, nat_tests, h.0, absent_above key rows (row.key + 1) h.1 (omega (arith, h.0)))

-- the value of the first of these rows, where there is one
abbrev pub first_value : List KeyValue → Option (List ℕ)
first_value [] = None
first_value (row ∷ rows) = Some row.value

-- rest are the rows from a key on, above those after it, and value is what stands at the key
pub record SplitsAtKey (key : ℕ) (rest above : List KeyValue) (value : Option (List ℕ)) : Type 0 where
  pub found : holds_key key rest ≡ true → (drop 1 rest ≡ above) × (value ≡ first_value rest)
  pub absent : holds_key key rest ≡ false → (rest ≡ above) × (value ≡ None)

-- so the front of the rows are those with lower keys, and the rest those without
pub front_below : (rows : List KeyValue) (key i : ℕ) → IsPlace rows key i → take i rows ≡ filter (λ row. nat_lt row.key key) rows
front_below rows key i place = filter_front (λ row. nat_lt row.key key) rows i place.bound
    (λ k d low high. grind (arith, nat_tests, place.below k d low high))
    (λ k d low high. grind (arith, nat_tests, place.above k d low high))

pub rest_above : (rows : List KeyValue) (key i : ℕ) → IsPlace rows key i → drop i rows ≡ filter (λ row. nat_le key row.key) rows
rest_above rows key i place = filter_rest (λ row. nat_le key row.key) rows i place.bound
    (λ k d low high. grind (arith, nat_tests, place.below k d low high))
    (λ k d low high. grind (arith, nat_tests, place.above k d low high))

-- among the rows from the key on, the first has it, or none
pub split_at_key : (key : ℕ) (rows : List KeyValue) (low : ℕ) → Ascend low rows → SplitsAtKey key (filter (λ row. nat_le key row.key) rows) (filter (λ row. nat_lt key row.key) rows) (value_at key rows)
split_at_key key [] low h = record { found = λ e. absurd (false≢true e); absent = λ e. (refl, refl) }
split_at_key key (row ∷ rows) low h = elim (cases_lt row.key key) [
  | inl below ↦
      let rest : filter (λ row. nat_le key row.key) (row ∷ rows) ≡ filter (λ row. nat_le key row.key) rows = grind (arith, nat_tests) in
      let above : filter (λ row. nat_lt key row.key) (row ∷ rows) ≡ filter (λ row. nat_lt key row.key) rows = grind (arith, nat_tests) in
      let value : value_at key (row ∷ rows) ≡ value_at key rows = grind (arith, nat_tests) in
      rw (rest, above, value) (split_at_key key rows (row.key + 1) h.1)
  | inr from ↦ split_from from
]
  where
    split_from : key ≤ row.key → SplitsAtKey key (filter (λ row. nat_le key row.key) (row ∷ rows)) (filter (λ row. nat_lt key row.key) (row ∷ rows)) (value_at key (row ∷ rows))
    split_from from =
        let rest : filter (λ row. nat_le key row.key) (row ∷ rows) ≡ row ∷ rows = grind (arith, nat_tests, at_or_above_all key rows (row.key + 1) h.1 (omega arith)) in
        let others : filter (λ row. nat_lt key row.key) rows ≡ rows = above_all key rows (row.key + 1) h.1 (omega arith) in
        let none : value_at key rows ≡ None = absent_above key rows (row.key + 1) h.1 (omega arith) in
        rw rest (record {
          found = λ e. (grind (arith, nat_tests, others, e), grind (arith, nat_tests, e));
          absent = λ e. (grind (arith, nat_tests, others, e), grind (arith, nat_tests, none, e));
        })
