-- Lists with one item more, and sums of which one summand grew.
use Rattle.std.proofs.Common.{◌≡◌, ◌≢◌, ℕ, zero, suc, ◌+◌, ◌<◌, ◌≤◌, List, [], ◌∷◌, ◌++◌, Option, None, Some, refl, sym, ap, subst, ◌∙◌, inl, inr, arith, append-nil}
use Rattle.std.specs.List.{filter_map, cons_option}
use Rattle.std.proofs.lemmas.Bool.{cases_eq}
use Rattle.std.proofs.lemmas.List.Elements.{filter_map-append}
use Rattle.mp_machine.specs.Lists.{IsIn, total}
use Rattle.mp_machine.proofs.Lists.{total_same}
use Rattle.mp_model.specs.Folded.{AscendsFrom}

pub total_more : (f g : ℕ → ℕ) (n more count : ℕ) → n < count → ((k : ℕ) → k ≢ n → g k ≡ f k) → g n ≡ f n + more → total g count ≡ total f count + more
total_more f g n more zero lt others here = absurd (omega arith)
total_more f g n more (suc count) lt others here = elim (cases_eq count n) [
  | inl e ↦
      let below : total g count ≡ total f count = total_same g f count (λ k h. others k (λ same. absurd (omega (arith, same, e, h)))) in
      let last : g count ≡ f count + more = subst (λ (k : ℕ). g k ≡ f k + more) (sym e) here in
      omega (arith, below, last)
  | inr apart ↦
      let below : total g count ≡ total f count + more = total_more f g n more count (omega (arith, lt, apart)) others here in
      let last : g count ≡ f count = others count apart in
      omega (arith, below, last)
]

-- an item above all others ascends behind them
pub ascend_one : {T : Type 0} (number : T → ℕ) (low : ℕ) (xs : List T) (x : T) → AscendsFrom number low xs → low ≤ number x → ((y : T) → IsIn y xs → number y < number x)
    → AscendsFrom number low (xs ++ x ∷ [])
ascend_one number low [] x ascends least above = (least, tt)
ascend_one number low (y ∷ ys) x ascends least above =
    (ascends.0, ascend_one number (number y + 1) ys x ascends.1 (let under = above y (inl refl) in omega (arith, under)) (λ z there. above z (inr there)))

module _ {X Y : Type 0} (f : X → Option Y) (xs : List X) (x : X) where
  last_found : (o : Option Y) → f x ≡ o → filter_map f (xs ++ x ∷ []) ≡ filter_map f xs ++ cons_option o []
  last_found o is = filter_map-append f xs (x ∷ []) ∙ ap (λ (p : Option Y). filter_map f xs ++ cons_option p []) is

  pub found_one : (y : Y) → f x ≡ Some y → filter_map f (xs ++ x ∷ []) ≡ filter_map f xs ++ y ∷ []
  found_one y is = last_found (Some y) is

  pub found_none : f x ≡ None → filter_map f (xs ++ x ∷ []) ≡ filter_map f xs
  found_none is = last_found None is ∙ append-nil (filter_map f xs)
