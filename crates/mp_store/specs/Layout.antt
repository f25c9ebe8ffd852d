-- Where the parts of a store file lie: a header home of two sides, then 4,096 page homes of two sides.
use Rattle.std.specs.Prelude.{ℕ, ◌+◌, ◌*◌, ◌==◌, Bool, List, take, drop, slice_index}
use Rattle.mp_store.specs.declared.sides.Side.{Side}
use Rattle.mp_store.specs.declared.sides.Side.TheVariants.{First, Second}

-- so many bytes of a file from a place on
abbrev pub part : ℕ → ℕ → List ℕ → List ℕ
part place width file = take width (drop place file)

-- the length of a store file
abbrev pub store_length : ℕ
store_length = 8519808

-- the places of the sides
abbrev pub header_place : Side → ℕ
header_place First = 0
header_place Second = 64

abbrev pub page_place : ℕ → Side → ℕ
page_place number First = 128 + 2080 * number
page_place number Second = 128 + 2080 * number + 1040

-- the sides
abbrev pub header_side : Side → List ℕ → List ℕ
header_side side file = part (header_place side) 64 file

abbrev pub page_side : ℕ → Side → List ℕ → List ℕ
page_side number side file = part (page_place number side) 1040 file

-- a side's gate is open
abbrev pub is_open : List ℕ → Bool
is_open side = slice_index side 0 == 165

-- one of two by its side, and the other side
abbrev pub pick : {X : Type 0} → Side → X → X → X
pick First first second = first
pick Second first second = second

abbrev pub other : Side → Side
other First = Second
other Second = First
