-- Words on lists that grow at the front, and on functions of a node's number.
use Rattle.std.specs.Prelude.{◌≡◌, ℕ, zero, suc, ◌+◌, ◌==◌, if◌then◌else◌, ◌⊎◌, List, [], ◌∷◌, ◌++◌}

module _ {T : Type 0} where
  -- it stands in the list
  abbrev pub IsIn : T → List T → Type 0
  IsIn x [] = ⊥
  IsIn x (y ∷ ys) = (x ≡ y) ⊎ IsIn x ys

  -- no two items of the list have the same number
  abbrev pub AllDiffer : (T → ℕ) → List T → Type 0
  AllDiffer number [] = Unit {0}
  AllDiffer number (x ∷ xs) = ((y : T) → IsIn y xs → ¬ (number y ≡ number x)) × AllDiffer number xs

  -- the list has grown
  abbrev pub Grows : List T → List T → Type 0
  Grows old new = (more : List T) × (new ≡ more ++ old)

  -- the value of one node is another
  abbrev pub updated : (ℕ → T) → ℕ → T → ℕ → T
  updated f n x k = if k == n then x else f k

-- the list of one node has one item more
abbrev pub pushed : {T : Type 0} → (ℕ → List T) → ℕ → T → ℕ → List T
pushed f n x = updated f n (x ∷ f n)

-- the sum over the first nodes, so many of them
abbrev pub total : (ℕ → ℕ) → ℕ → ℕ
total f zero = 0
total f (suc count) = total f count + f count
