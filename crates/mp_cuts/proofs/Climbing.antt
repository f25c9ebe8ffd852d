-- Mtrs whose LLSNs climb: the first ones are those up to the LLSN of their last.
use Rattle.std.proofs.Common.{◌≡◌, ℕ, ◌<◌, ◌≤◌, ◌⊎◌, nat_le, Bool, true, false, List, [], ◌∷◌, ◌++◌, filter, map, reverse, refl, sym, ap, subst, ◌∙◌, inl, inr, arith, le-leb}
use Rattle.std.specs.List.{AllByRecursion}
use Rattle.std.proofs.lemmas.Bool.Decides.{nat_tests}
use Rattle.std.proofs.lemmas.Grind.{reverse_onto}
use Rattle.mp_machine.specs.Lists.{IsIn}
use Rattle.mp_cells.specs.declared.records.Mtr.{Mtr}
use Rattle.mp_log.specs.Logs.{last_after}
use Rattle.mp_histories.proofs.Lists.{filter-in, filter-out}
use Rattle.mp_core_pages.specs.declared.part.Placed.{Placed}
use Rattle.mp_core_pages.specs.PageParts.{last_llsn}
use Rattle.mp_core_pages.specs.PageInvariant.{Ascends}
use Rattle.mp_core.specs.Contents.{page_ops}

abbrev pub Climbs : ℕ → List Mtr → Type 0
Climbs low [] = Unit {0}
Climbs low (mtr ∷ mtrs) = (low < mtr.llsn) × Climbs mtr.llsn mtrs

-- an mtr is at or below an LLSN
abbrev pub is_up_to : ℕ → Mtr → Bool
is_up_to most mtr = nat_le mtr.llsn most

pub within : (llsn most : ℕ) → llsn ≤ most → nat_le llsn most ≡ true
within llsn most le = le-leb llsn most le

beyond : (llsn most : ℕ) → most < llsn → nat_le llsn most ≡ false
beyond llsn most lt = grind (arith, nat_tests, lt)

climbed : (low : ℕ) (xs ys : List Mtr) → Climbs low (xs ++ ys) → low ≤ last_after low xs
climbed low [] ys up = omega arith
climbed low (x ∷ xs) ys up = let rest = climbed x.llsn xs ys up.1 in let first = up.0 in omega (arith, first, rest)

all_beyond : (low most : ℕ) (ys : List Mtr) → most ≤ low → Climbs low ys → filter (is_up_to most) ys ≡ []
all_beyond low most [] le up = refl
all_beyond low most (y ∷ ys) le up =
    let first = up.0 in
    let high : most < y.llsn = omega (arith, le, first) in
    let most_le : most ≤ y.llsn = omega (arith, high) in
    filter-out (is_up_to most) y ys (beyond y.llsn most high) ∙ all_beyond y.llsn most ys most_le up.1

-- the first ones are those up to the last of them
pub first_ones : (low : ℕ) (xs ys : List Mtr) → Climbs low (xs ++ ys) → filter (is_up_to (last_after low xs)) (xs ++ ys) ≡ xs
first_ones low [] ys up = all_beyond low low ys (omega arith) up
first_ones low (x ∷ xs) ys up =
    filter-in (is_up_to (last_after x.llsn xs)) x (xs ++ ys) (within x.llsn (last_after x.llsn xs) (climbed x.llsn xs ys up.1))
    ∙ ap (λ (zs : List Mtr). x ∷ zs) (first_ones x.llsn xs ys up.1)

-- each is up to the last of the first, or is one of the others
pub first_or_later : (low : ℕ) (xs ys : List Mtr) → Climbs low (xs ++ ys) → (m : Mtr) → IsIn m (xs ++ ys) → (is_up_to (last_after low xs) m ≡ true) ⊎ IsIn m ys
first_or_later low [] ys up m has = inr has
first_or_later low (x ∷ xs) ys up m (inl same) =
    inl (ap (is_up_to (last_after x.llsn xs)) same ∙ within x.llsn (last_after x.llsn xs) (climbed x.llsn xs ys up.1))
first_or_later low (x ∷ xs) ys up m (inr has) = first_or_later x.llsn xs ys up.1 m has

above_more : (low high : ℕ) (xs : List Mtr) → low ≤ high → AllByRecursion (λ m. high < m.llsn) xs → AllByRecursion (λ m. low < m.llsn) xs
above_more low high [] le all = tt
above_more low high (x ∷ xs) le all = (let first = all.0 in omega (arith, le, first), above_more low high xs le all.1)

-- all are above where they climb from
pub climbs_above : (low : ℕ) (xs : List Mtr) → Climbs low xs → AllByRecursion (λ m. low < m.llsn) xs
climbs_above low [] up = tt
climbs_above low (x ∷ xs) up = (up.0, above_more low x.llsn xs (let first = up.0 in omega (arith, first)) (climbs_above x.llsn xs up.1))

-- ---- what a node made, in the order of making

abbrev pub in_time : List (Placed Mtr) → List Mtr
in_time made = map (λ x. x.mtr) (reverse made)

pub mtrs_more : (xs ys : List (Placed Mtr)) → map (λ (x : Placed Mtr). x.mtr) (xs ++ ys) ≡ map (λ (x : Placed Mtr). x.mtr) xs ++ map (λ (x : Placed Mtr). x.mtr) ys
mtrs_more [] ys = refl
mtrs_more (x ∷ xs) ys = ap (λ (ms : List Mtr). x.mtr ∷ ms) (mtrs_more xs ys)

in_time_step : (x : Placed Mtr) (made : List (Placed Mtr)) → in_time (x ∷ made) ≡ in_time made ++ x.mtr ∷ []
in_time_step x made = ap (map (λ (y : Placed Mtr). y.mtr)) (reverse_onto made x []) ∙ mtrs_more (reverse made) (x ∷ [])

climbs_more : (low : ℕ) (xs : List Mtr) (m : Mtr) → Climbs low xs → last_after low xs < m.llsn → Climbs low (xs ++ m ∷ [])
climbs_more low [] m up lt = (lt, tt)
climbs_more low (x ∷ xs) m up lt = (up.0, climbs_more x.llsn xs m up.1 lt)

last_more : (low : ℕ) (xs : List Mtr) (m : Mtr) → last_after low (xs ++ m ∷ []) ≡ m.llsn
last_more low [] m = refl
last_more low (x ∷ xs) m = last_more x.llsn xs m

last_in_time : (base : ℕ) (made : List (Placed Mtr)) → last_after base (in_time made) ≡ last_llsn page_ops base made
last_in_time base [] = refl
last_in_time base (x ∷ made) = ap (last_after base) (in_time_step x made) ∙ last_more base (in_time made) x.mtr

pub climbs_in_time : (base : ℕ) (made : List (Placed Mtr)) → Ascends page_ops base made → Climbs base (in_time made)
climbs_in_time base [] up = tt
climbs_in_time base (x ∷ made) up =
    subst (Climbs base) (sym (in_time_step x made))
    (climbs_more base (in_time made) x.mtr (climbs_in_time base made up.1) (subst (λ (k : ℕ). k < x.mtr.llsn) (sym (last_in_time base made)) up.0))
