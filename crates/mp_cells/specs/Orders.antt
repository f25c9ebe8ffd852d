-- Lists in the order of a number of each item.
use Rattle.std.specs.Prelude.{ℕ, nat_lt, List, [], ◌∷◌, if◌then◌else◌}

-- a list with one more item, behind those of lower numbers at its front
abbrev pub placed : {T : Type 0} → (T → ℕ) → T → List T → List T
placed key x [] = x ∷ []
placed key x (y ∷ ys) = if nat_lt (key y) (key x) then y ∷ placed key x ys else x ∷ (y ∷ ys)

-- a list in the order of a number of its items; items of equal numbers keep their order
abbrev pub sorted_by : {T : Type 0} → (T → ℕ) → List T → List T
sorted_by key [] = []
sorted_by key (x ∷ xs) = placed key x (sorted_by key xs)
