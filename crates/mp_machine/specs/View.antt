-- What a seat knows: by node, the part that it holds.
use Rattle.std.specs.Prelude.{◌≡◌, ℕ, zero, suc, List, [], ◌∷◌, Option, None, Some, Bool, not, if◌then◌else◌, slice_index_or, slice_set}

-- At place n is the part of node n, if the seat holds it
abbrev pub View : Type 0 → Type 0
View Part = List (Option Part)

module _ {Part : Type 0} where
  -- the part of a node, if it is held
  abbrev pub part_in : View Part → ℕ → Option Part
  part_in v n = slice_index_or v n None

  -- the view with another part for a node that it holds
  abbrev pub with_part : View Part → ℕ → Part → View Part
  with_part v n p = slice_set v n (Some p)

  -- the parts of the nodes that pass the test
  abbrev pub only : (ℕ → Bool) → View Part → View Part
  only test [] = []
  only test (x ∷ v) = (if test 0 then x else None) ∷ only (λ n. test (suc n)) v

  -- the parts of the nodes that fail the test
  abbrev pub without : (ℕ → Bool) → View Part → View Part
  without test v = only (λ n. not (test n)) v

  -- the first of two, or else the second
  abbrev pub either_part : Option Part → Option Part → Option Part
  either_part (Some p) y = Some p
  either_part None y = y

  -- the parts of two views
  abbrev pub joined : View Part → View Part → View Part
  joined [] w = w
  joined (x ∷ v) [] = x ∷ v
  joined (x ∷ v) (y ∷ w) = either_part x y ∷ joined v w

  -- the parts of the first nodes, all of them
  abbrev pub whole : (ℕ → Part) → ℕ → View Part
  whole part zero = []
  whole part (suc count) = Some (part 0) ∷ whole (λ n. part (suc n)) count

  -- each part that is held is the one given
  abbrev pub ViewAgrees : (ℕ → Part) → View Part → Type 0
  ViewAgrees part v = (n : ℕ) (p : Part) → part_in v n ≡ Some p → part n ≡ p
