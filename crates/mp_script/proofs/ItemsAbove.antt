-- What holds of each item of a list with those above it.
use Rattle.std.proofs.Common.{◌≡◌, ℕ, ◌+◌, ◌<◌, ◌≤◌, List, [], ◌∷◌, ◌++◌, refl, sym, ap, subst, ◌∙◌, inl, inr, arith, append_assoc, append-nil}
use Rattle.std.specs.List.{AllByRecursion}
use Rattle.mp_machine.specs.Lists.{IsIn}
use Rattle.mp_model.specs.Folded.{AscendsFrom}
use Rattle.mp_script.specs.Below.{EachBelow}
use Rattle.mp_script.specs.Standing.{StandsAbove}
use Rattle.mp_script.proofs.Ordered.{Pairwise, in_left, in_right, all_in}

module _ {T : Type 0} where
  -- what holds of each item and all above it
  pub each_from : (P : T → T → Type 0) (above xs : List T) → EachBelow (λ over item. AllByRecursion (λ x. P x item) over) above xs → (x y : T) → IsIn x above → IsIn y xs → P x y
  each_from P above [] each x y h k = absurd k
  each_from P above (z ∷ zs) each x y h (inl e) = all_in (λ v. P v y) x above (subst (λ (i : T). AllByRecursion (λ v. P v i) above) (sym e) each.0) h
  each_from P above (z ∷ zs) each x y h (inr k) = each_from P (above ++ z ∷ []) zs each.1 x y (in_left x above (z ∷ []) h) k

  pub each_pairs : (P : T → T → Type 0) (above xs : List T) → EachBelow (λ over item. AllByRecursion (λ x. P x item) over) above xs → Pairwise P xs
  each_pairs P above [] each = tt
  each_pairs P above (z ∷ zs) each = (λ y there. each_from P (above ++ z ∷ []) zs each.1 z y (in_right z above (z ∷ []) (inl refl)) there, each_pairs P (above ++ z ∷ []) zs each.1)

  pub each_all : (P : List T → T → Type 0) (above xs : List T) → EachBelow P above xs → (y : T) → IsIn y xs → (over : List T) × P over y
  each_all P above [] each y h = absurd h
  each_all P above (z ∷ zs) each y (inl e) = (above, subst (P above) (sym e) each.0)
  each_all P above (z ∷ zs) each y (inr h) = each_all P (above ++ z ∷ []) zs each.1 y h

-- ---- lists of answers, from the first on

pub all_of : {T : Type 0} (P : T → Type 0) (xs : List T) → ((x : T) → IsIn x xs → P x) → AllByRecursion P xs
all_of P [] h = tt
all_of P (x ∷ xs) h = (h x (inl refl), all_of P xs (λ y there. h y (inr there)))

pub each_split : {T : Type 0} (P : List T → T → Type 0) (whole above xs : List T) → whole ≡ above ++ xs → ((over : List T) (y : T) (rest : List T) → whole ≡ over ++ y ∷ rest → P over y) → EachBelow P above xs
each_split P whole above [] e h = tt
each_split P whole above (x ∷ xs) e h = (h above x xs e, each_split P whole (above ++ x ∷ []) xs (e ∙ sym (append_assoc above (x ∷ []) xs)) h)

pub last_in : {T : Type 0} (over : List T) (y : T) (rest : List T) → IsIn y (over ++ y ∷ rest)
last_in [] y rest = inl refl
last_in (z ∷ over) y rest = inr (last_in over y rest)

pub over_above : {T : Type 0} (over : List T) (y : T) (rest : List T) (x : T) → IsIn x over → StandsAbove x y (over ++ y ∷ rest)
over_above [] y rest x h = absurd h
over_above (z ∷ over) y rest x (inl e) = inl (sym e, last_in over y rest)
over_above (z ∷ over) y rest x (inr h) = inr (over_above over y rest x h)

pub in_over : {T : Type 0} (over : List T) (y : T) (rest : List T) (x : T) → IsIn x over → IsIn x (over ++ y ∷ rest)
in_over [] y rest x h = absurd h
in_over (z ∷ over) y rest x (inl e) = inl e
in_over (z ∷ over) y rest x (inr h) = inr (in_over over y rest x h)

pub still_above : {T : Type 0} (over : List T) (y : T) (rest : List T) (x z : T) → StandsAbove x z over → StandsAbove x z (over ++ y ∷ rest)
still_above [] y rest x z h = absurd h
still_above (k ∷ over) y rest x z (inl h) = inl (h.0, in_over over y rest z h.1)
still_above (k ∷ over) y rest x z (inr h) = inr (still_above over y rest x z h)

-- the place of an item, and what holds of it with those above
pub record IsPlacedIn {T : Type 0} (P : List T → T → Type 0) (above xs : List T) (y : T) : Type 0 where
  pub over : List T
  pub rest : List T
  pub split_is : xs ≡ over ++ y ∷ rest
  pub holds : P (above ++ over) y

pub placed_in : {T : Type 0} (P : List T → T → Type 0) (above xs : List T) (y : T) → EachBelow P above xs → IsIn y xs → IsPlacedIn P above xs y
placed_in P above [] y each h = absurd h
placed_in P above (z ∷ zs) y each (inl e) = record { over = []; rest = zs; split_is = ap (λ v. v ∷ zs) (sym e); holds = subst (λ l. P l y) (sym (append-nil above)) (subst (P above) (sym e) each.0) }
placed_in P above (z ∷ zs) y each (inr h) =
    let rest = placed_in P (above ++ z ∷ []) zs y each.1 h in
    record { over = z ∷ rest.over; rest = rest.rest; split_is = ap (λ l. z ∷ l) rest.split_is; holds = subst (λ l. P l y) (append_assoc above (z ∷ []) rest.over) rest.holds }

-- what holds of each two items, one above the other, holds pairwise
pub pairs_by : {T : Type 0} (P : T → T → Type 0) (xs : List T) → ((x y : T) → StandsAbove x y xs → P x y) → Pairwise P xs
pairs_by P [] h = tt
pairs_by P (x ∷ xs) h = (λ y there. h x y (inl (refl, there)), pairs_by P xs (λ a b above. h a b (inr above)))

-- what ascends rises pairwise
ascend_from : {T : Type 0} (number : T → ℕ) (low : ℕ) (xs : List T) → AscendsFrom number low xs → (x : T) → IsIn x xs → low ≤ number x
ascend_from number low [] a x h = absurd h
ascend_from number low (y ∷ ys) a x (inl e) = let from = a.0 in let same = ap number e in omega (arith, from, same)
ascend_from number low (y ∷ ys) a x (inr h) = let from = a.0 in let rest = ascend_from number (number y + 1) ys a.1 x h in omega (arith, from, rest)

pub ascend_pairs : {T : Type 0} (number : T → ℕ) (low : ℕ) (xs : List T) → AscendsFrom number low xs → Pairwise (λ a b. number a < number b) xs
ascend_pairs number low [] a = tt
ascend_pairs number low (y ∷ ys) a = (λ x there. let above = ascend_from number (number y + 1) ys a.1 x there in omega (arith, above), ascend_pairs number (number y + 1) ys a.1)
