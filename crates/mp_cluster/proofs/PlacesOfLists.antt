-- What stands at the places of lists that were mapped or put together.
use Rattle.std.proofs.Common.{◌≡◌, ℕ, ◌≤◌, zero, suc, List, [], ◌∷◌, ◌++◌, length, map, slice_get, option_map, Option, Some, refl, sym, ap, ◌∙◌, arith}
use Rattle.std.proofs.lemmas.List.{length-map}
use Rattle.std.proofs.lemmas.Option.{slice_get-map, slice_get_within}
use Rattle.mp_files.specs.Nine.{At}
use Rattle.mp_files.proofs.Places.{same_some, at_place, At-refl}

module _ {X Y : Type 0} where
  -- what stands at a place of a mapped list
  pub mapped_at : (f : X → Y) (xs : List X) (place : ℕ) (x : X) → slice_get xs place ≡ Some x → slice_get (map f xs) place ≡ Some (f x)
  mapped_at f xs place x at = slice_get-map f xs place ∙ ap (λ (found : Option X). option_map f found) at

  pub from_mapped : (f : X → Y) (xs : List X) (place : ℕ) (y : Y) → slice_get (map f xs) place ≡ Some y → (x : X) × (slice_get xs place ≡ Some x) × (y ≡ f x)
  from_mapped f xs place y at =
      let within = slice_get_within (map f xs) place y at in
      let many = length-map xs f in
      let x = at_place xs place (omega (arith, within, many)) in
      (x.0, x.1, same_some y (f x.0) (sym at ∙ mapped_at f xs place x.0 x.1))

module _ {X : Type 0} where
  -- what stands in the front stands there whatever follows
  pub front_at : (xs ys : List X) (place : ℕ) (x : X) → slice_get xs place ≡ Some x → slice_get (xs ++ ys) place ≡ Some x
  front_at [] ys place x at = absurd cc
  front_at (z ∷ xs) ys zero x at = at
  front_at (z ∷ xs) ys (suc place) x at = front_at xs ys place x at

  -- behind fronts of one length stands the same
  pub behind_at : (xs zs rest : List X) → length xs ≡ length zs → (place : ℕ) → length xs ≤ place → slice_get (xs ++ rest) place ≡ slice_get (zs ++ rest) place
  behind_at [] [] rest many place past = refl
  behind_at [] (z ∷ zs) rest many place past = absurd (omega (arith, many))
  behind_at (x ∷ xs) [] rest many place past = absurd (omega (arith, many))
  behind_at (x ∷ xs) (z ∷ zs) rest many zero past = absurd (omega (arith, past))
  behind_at (x ∷ xs) (z ∷ zs) rest many (suc place) past = behind_at xs zs rest (omega (arith, many)) place (omega (arith, past))

  -- lists that are related place by place, with the same behind them
  pub both_at : (R : X → X → Type 0) → ((x : X) → R x x) → (xs ys rest : List X) → length ys ≡ length xs → ((place : ℕ) → At R xs ys place) → (place : ℕ) → At R (xs ++ rest) (ys ++ rest) place
  both_at R same [] [] rest many each place = At-refl R same rest place
  both_at R same [] (y ∷ ys) rest many each place = absurd (omega (arith, many))
  both_at R same (x ∷ xs) [] rest many each place = absurd (omega (arith, many))
  both_at R same (x ∷ xs) (y ∷ ys) rest many each zero = each zero
  both_at R same (x ∷ xs) (y ∷ ys) rest many each (suc place) = both_at R same xs ys rest (omega (arith, many)) (λ p. each (suc p)) place
