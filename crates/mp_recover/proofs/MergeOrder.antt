-- The first of several ascending lists' heads begins all of them in order.
use Rattle.std.proofs.Common.{◌≡◌, ◌≢◌, ℕ, zero, suc, ◌+◌, ◌<◌, ◌≤◌, nat_lt, Bool, true, false, cond, List, [], ◌∷◌, ◌++◌, ◌⊎◌, refl, sym, ap, subst, ◌∙◌, inl, inr, arith}
use Rattle.std.specs.List.{flat_map, AllByRecursion}
use Rattle.std.proofs.lemmas.Bool.{cases_lt}
use Rattle.std.proofs.lemmas.Bool.Decides.{nat_tests}
use Rattle.mp_cells.specs.declared.records.Mtr.{Mtr}
use Rattle.mp_cells.specs.Orders.{placed}
use Rattle.mp_histories.specs.KeyOps.{FirstIs}
use Rattle.mp_histories.specs.Cuts.{log_place}
use Rattle.mp_recover.specs.PageRecords.{by_log_place}
use Rattle.mp_recover.specs.Merging.{places_from, InLogOrder}
use Rattle.mp_recover.proofs.Filling.{here_or_not}

test_true : (a b : ℕ) → a < b → nat_lt a b ≡ true
test_true a b h = grind (arith, nat_tests, h)

test_false : (a b : ℕ) → b ≤ a → nat_lt a b ≡ false
test_false a b h = grind (arith, nat_tests, h)

-- all of these are at this place or behind
abbrev pub AllFrom : ℕ → List Mtr → Type 0
AllFrom n mtrs = AllByRecursion (λ mtr. n ≤ log_place mtr) mtrs

pub all_lower : (n m : ℕ) (mtrs : List Mtr) → n ≤ m → AllFrom m mtrs → AllFrom n mtrs
all_lower n m [] le all = tt
all_lower n m (x ∷ mtrs) le all = (omega (arith, le, all.0), all_lower n m mtrs le all.1)

all_above : (n : ℕ) (mtrs : List Mtr) → AllByRecursion (λ later. n < log_place later) mtrs → AllFrom (n + 1) mtrs
all_above n [] all = tt
all_above n (x ∷ mtrs) all = (omega (arith, all.0), all_above n mtrs all.1)

all_append : (n : ℕ) (xs ys : List Mtr) → AllFrom n xs → AllFrom n ys → AllFrom n (xs ++ ys)
all_append n [] ys all more = more
all_append n (x ∷ xs) ys all more = (all.0, all_append n xs ys all.1 more)

-- ascending mtrs are all from where the first one is
pub ascending_from : (n : ℕ) (mtrs : List Mtr) → InLogOrder mtrs → FirstIs (λ mtr. n ≤ log_place mtr) mtrs → AllFrom n mtrs
ascending_from n [] order first = tt
ascending_from n (x ∷ mtrs) order first = (first, all_lower n (log_place x + 1) mtrs (omega (arith, first)) (all_above (log_place x) mtrs order.0))

pub rest_from : (m : Mtr) (rest : List Mtr) → InLogOrder (m ∷ rest) → AllFrom (log_place m) rest
rest_from m rest order = all_lower (log_place m) (log_place m + 1) rest (omega arith) (all_above (log_place m) rest order.0)

placed_by : (n : ℕ) (x y : Mtr) (ys zs : List Mtr) (test : Bool) → n ≤ log_place x → AllFrom n (y ∷ ys) → AllFrom n zs → AllFrom n (cond test (y ∷ zs) (x ∷ y ∷ ys))
placed_by n x y ys zs true le all behind = (all.0, behind)
placed_by n x y ys zs false le all behind = (le, all)

placed_all : (n : ℕ) (x : Mtr) (ys : List Mtr) → n ≤ log_place x → AllFrom n ys → AllFrom n (placed log_place x ys)
placed_all n x [] le all = (le, tt)
placed_all n x (y ∷ ys) le all = placed_by n x y ys (placed log_place x ys) (nat_lt (log_place y) (log_place x)) le all (placed_all n x ys le all.1)

sorted_all : (n : ℕ) (xs : List Mtr) → AllFrom n xs → AllFrom n (by_log_place xs)
sorted_all n [] all = tt
sorted_all n (x ∷ xs) all = placed_all n x (by_log_place xs) all.0 (sorted_all n xs all.1)

-- the least is placed first, and others behind it
placed_first : (m : Mtr) (ys : List Mtr) → AllFrom (log_place m) ys → placed log_place m ys ≡ m ∷ ys
placed_first m [] all = refl
placed_first m (y ∷ ys) all = ap (λ (b : Bool). cond b (y ∷ placed log_place m ys) (m ∷ y ∷ ys)) (test_false (log_place y) (log_place m) all.0)

sorted_behind : (m : Mtr) (xs ys zs : List Mtr) → AllFrom (log_place m + 1) xs → by_log_place ys ≡ m ∷ by_log_place zs → by_log_place (xs ++ ys) ≡ m ∷ by_log_place (xs ++ zs)
sorted_behind m [] ys zs all e = e
sorted_behind m (x ∷ xs) ys zs all e =
    ap (placed log_place x) (sorted_behind m xs ys zs all.1 e)
    ∙ ap (λ (b : Bool). cond b (m ∷ placed log_place x (by_log_place (xs ++ zs))) (x ∷ m ∷ by_log_place (xs ++ zs))) (test_true (log_place m) (log_place x) (omega (arith, all.0)))

module _ (lefts new : ℕ → List Mtr) (m : Mtr) (at : ℕ)
    (here : lefts at ≡ m ∷ new at)
    (others : (k : ℕ) → k ≢ at → new k ≡ lefts k) where
  flat_same : (start count : ℕ) → at < start → flat_map lefts (places_from start count) ≡ flat_map new (places_from start count)
  flat_same start zero lt = refl
  flat_same start (suc count) lt =
      ap (λ (xs : List Mtr). xs ++ flat_map lefts (places_from (start + 1) count)) (sym (others start (λ e. omega (arith, lt, e))))
      ∙ ap (λ (ys : List Mtr). new start ++ ys) (flat_same (start + 1) count (omega (arith, lt)))

  all_flat : (bound start count : ℕ) → start + count ≤ bound → ((k : ℕ) → k < bound → AllFrom (log_place m) (new k)) → AllFrom (log_place m) (flat_map new (places_from start count))
  all_flat bound start zero le all = tt
  all_flat bound start (suc count) le all =
      all_append (log_place m) (new start) (flat_map new (places_from (start + 1) count)) (all start (omega (arith, le))) (all_flat bound (start + 1) count (omega (arith, le)) all)

  -- what is left at one place begins with an mtr that is behind none, and before all those of earlier places
  pub takes_least : (bound start count : ℕ) → start ≤ at → at < start + count → start + count ≤ bound
      → ((k : ℕ) → k < bound → AllFrom (log_place m) (new k)) → ((k : ℕ) → k < at → AllFrom (log_place m + 1) (lefts k))
      → by_log_place (flat_map lefts (places_from start count)) ≡ m ∷ by_log_place (flat_map new (places_from start count))
  takes_least bound start zero le lt in_bound all before = absurd (omega (arith, le, lt))
  takes_least bound start (suc count) le lt in_bound all before = elim (here_or_not start at) [
    | inl e ↦
        let first : lefts start ≡ m ∷ new start = subst (λ (k : ℕ). lefts k ≡ m ∷ new k) (sym e) here in
        let tail = flat_map new (places_from (start + 1) count) in
        ap (λ (xs : List Mtr). by_log_place (xs ++ flat_map lefts (places_from (start + 1) count))) first
        ∙ ap (λ (ys : List Mtr). placed log_place m (by_log_place (new start ++ ys))) (flat_same (start + 1) count (omega (arith, e)))
        ∙ placed_first m (by_log_place (new start ++ tail))
        (sorted_all (log_place m) (new start ++ tail) (all_append (log_place m) (new start) tail (all start (omega (arith, in_bound))) (all_flat bound (start + 1) count (omega (arith, in_bound)) all)))
    | inr apart ↦
        let below : start < at = by_order apart (cases_lt start at) in
        sorted_behind m (lefts start) (flat_map lefts (places_from (start + 1) count)) (flat_map new (places_from (start + 1) count)) (before start below)
        (takes_least bound (start + 1) count (omega (arith, below)) (omega (arith, lt)) (omega (arith, in_bound)) all before)
        ∙ ap (λ (xs : List Mtr). m ∷ by_log_place (xs ++ flat_map new (places_from (start + 1) count))) (sym (others start apart))
  ]
    where
      by_order : start ≢ at → (start < at) ⊎ (at ≤ start) → start < at
      by_order apart (inl below) = below
      by_order apart (inr above) = absurd (apart (omega (arith, le, above)))
