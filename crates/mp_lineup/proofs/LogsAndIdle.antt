-- What is told of the logs of primaries and of idle ones is told of the primaries and of those.
use Rattle.std.proofs.Common.{◌≡◌, List, [], ◌∷◌, ◌++◌, map, refl, ap}

pub map_of_both : {X Y Z : Type 0} (f : Y → Z) (h : X → Y) (xs : List X) (ys : List Y) → map f (map h xs ++ ys) ≡ map (λ x. f (h x)) xs ++ map f ys
map_of_both f h [] ys = refl
map_of_both f h (x ∷ xs) ys = ap (λ l. f (h x) ∷ l) (map_of_both f h xs ys)
