-- A child's cell: 8 bytes. Which ones a child has, and which child some bytes are.
use Rattle.std.specs.Prelude.{ℕ, ◌==◌, ◌&&◌, Bool, List, [], ◌∷◌, ◌++◌, slice_index}
use Rattle.byteorder.specs.Endian.{little_bytes}
use Rattle.mp_cells.specs.declared.children.Child.{Child}
use Rattle.mp_cells.specs.Numbers.{number_at}
use Rattle.mp_cells.specs.Children.{is_child_page}

-- the cell of a child: its low key, its page and two zeros
unfoldable pub child_cell : Child → List ℕ
child_cell child = little_bytes 4 child.low ++ (little_bytes 2 child.page ++ 0 ∷ 0 ∷ [])

-- the child that a cell is read as, whatever its bytes are
unfoldable pub child_of : List ℕ → Child
child_of cell = record { low = number_at 0 4 cell; page = number_at 4 2 cell }

-- the first 8 bytes are the cell of a child that a page may keep
unfoldable pub is_child_cell : List ℕ → Bool
is_child_cell bytes = is_child_page (number_at 4 2 bytes) && slice_index bytes 6 == 0 && slice_index bytes 7 == 0
