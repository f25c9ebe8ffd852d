-- One round of a loop over cells: the cell at its place, and then the rest.
use Rattle.std.proofs.Common.{◌≡◌, ℕ, suc, ◌+◌, ◌-◌, ◌*◌, ◌<◌, ◌≤◌, Bool, true, false, List, [], ◌∷◌, ◌++◌, length, take, drop, get_or, Option, Some, None, refl, sym, ap, ◌∙◌, arith}
use Rattle.std.specs.List.{flat_map}
use Rattle.std.proofs.lemmas.List.{drop-drop, append_assoc, length-append, length-drop, take_at, drop_at, take_more, flat_map_more}
use Rattle.std.proofs.Math.Nat.{mul-le-mul_left}
use Rattle.mp_cells.specs.declared.faults.PageFault.{PageFault}
use Rattle.mp_cells.specs.declared.faults.Fault.TheVariants as faults
use Rattle.mp_cells.specs.declared.rows.Row.{Row}
use Rattle.mp_cells.specs.declared.children.Child.{Child}
use Rattle.mp_cells.specs.RowCell.{is_row_cell, row_of}
use Rattle.mp_cells.specs.ChildCell.{child_of}
use Rattle.mp_page.specs.Grammar.{first_of, unless, cell_fault, cell_key, keyed_fault, undo_fault, rows_of, children_of}

-- the rest after one part more
pub next_rest : (width i : ℕ) (cells rest : List ℕ) → rest ≡ drop (width * i) cells → drop width rest ≡ drop (width * (i + 1)) cells
next_rest width i cells rest h =
    let place : width * i + width ≡ width * (i + 1) = omega arith in
    ap (drop width) h ∙ drop-drop width (width * i) cells ∙ ap (λ (n : ℕ). drop n cells) place

pub keyed_step : (is_cell : List ℕ → Bool) (width low high count i least : ℕ) (rest : List ℕ) → i < count
    → keyed_fault is_cell width low high (count - i) (32 + width * i) least rest
    ≡ first_of (cell_fault low high (is_cell rest) (32 + width * i) least (cell_key rest) ∷ keyed_fault is_cell width low high (count - (i + 1)) (32 + width * (i + 1)) (cell_key rest + 1) (drop width rest) ∷ [])
keyed_step is_cell width low high count i least rest lt =
    let left : count - i ≡ suc (count - (i + 1)) = omega arith in
    let place : 32 + width * i + width ≡ 32 + width * (i + 1) = omega arith in
    rw (left, place) refl

-- the cell has a fault: it is the first of all
pub keyed_stops : (is_cell : List ℕ → Bool) (width low high count i least : ℕ) (rest : List ℕ) (fault : PageFault) (test : Bool) (key : ℕ) (all : Option PageFault) → i < count
    → test ≡ is_cell rest → key ≡ cell_key rest → Some fault ≡ cell_fault low high test (32 + width * i) least key
    → keyed_fault is_cell width low high (count - i) (32 + width * i) least rest ≡ all → Some fault ≡ all
keyed_stops is_cell width low high count i least rest fault test key all lt is_test is_key found so_far =
    let here : cell_fault low high (is_cell rest) (32 + width * i) least (cell_key rest) ≡ Some fault = rw (← is_test, ← is_key) (sym found) in
    sym (ap (λ (x : Option PageFault). first_of (x ∷ keyed_fault is_cell width low high (count - (i + 1)) (32 + width * (i + 1)) (cell_key rest + 1) (drop width rest) ∷ [])) here)
    ∙ sym (keyed_step is_cell width low high count i least rest lt) ∙ so_far

-- the cell has none: the rest goes on
one_left : (check : Option PageFault) → first_of (check ∷ []) ≡ check
one_left None = refl
one_left (Some fault) = refl

pub keyed_next : (is_cell : List ℕ → Bool) (width low high count i least : ℕ) (rest next : List ℕ) (test : Bool) (key : ℕ) (all : Option PageFault) → i < count
    → test ≡ is_cell rest → key ≡ cell_key rest → None ≡ cell_fault low high test (32 + width * i) least key → next ≡ drop width rest
    → keyed_fault is_cell width low high (count - i) (32 + width * i) least rest ≡ all
    → keyed_fault is_cell width low high (count - (i + 1)) (32 + width * (i + 1)) (key + 1) next ≡ all
keyed_next is_cell width low high count i least rest next test key all lt is_test is_key found is_next so_far =
    let here : cell_fault low high (is_cell rest) (32 + width * i) least (cell_key rest) ≡ None = rw (← is_test, ← is_key) (sym found) in
    let onward = keyed_fault is_cell width low high (count - (i + 1)) (32 + width * (i + 1)) (cell_key rest + 1) (drop width rest) in
    rw (is_key, is_next) (sym (ap (λ (x : Option PageFault). first_of (x ∷ onward ∷ [])) here ∙ one_left onward) ∙ sym (keyed_step is_cell width low high count i least rest lt) ∙ so_far)

-- the same of an undo page
undo_step : (count i : ℕ) (rest : List ℕ) → i < count
    → undo_fault (count - i) (32 + 64 * i) rest ≡ first_of (unless (is_row_cell rest) faults.Cell (32 + 64 * i) ∷ undo_fault (count - (i + 1)) (32 + 64 * (i + 1)) (drop 64 rest) ∷ [])
undo_step count i rest lt =
    let left : count - i ≡ suc (count - (i + 1)) = omega arith in
    let place : 32 + 64 * i + 64 ≡ 32 + 64 * (i + 1) = omega arith in
    rw (left, place) refl

pub undo_stops : (count i : ℕ) (rest : List ℕ) (all : Option PageFault) → i < count → is_row_cell rest ≡ false → undo_fault (count - i) (32 + 64 * i) rest ≡ all → Some (record { fault = faults.Cell; offset = 32 + 64 * i }) ≡ all
undo_stops count i rest all lt test so_far =
    sym (ap (λ (x : Bool). first_of (unless x faults.Cell (32 + 64 * i) ∷ undo_fault (count - (i + 1)) (32 + 64 * (i + 1)) (drop 64 rest) ∷ [])) test) ∙ sym (undo_step count i rest lt) ∙ so_far

pub undo_next : (count i : ℕ) (rest next : List ℕ) (all : Option PageFault) → i < count → is_row_cell rest ≡ true → next ≡ drop 64 rest → undo_fault (count - i) (32 + 64 * i) rest ≡ all → undo_fault (count - (i + 1)) (32 + 64 * (i + 1)) next ≡ all
undo_next count i rest next all lt test is_next so_far =
    let onward = undo_fault (count - (i + 1)) (32 + 64 * (i + 1)) (drop 64 rest) in
    rw is_next (sym (ap (λ (x : Bool). first_of (unless x faults.Cell (32 + 64 * i) ∷ onward ∷ [])) test ∙ one_left onward) ∙ sym (undo_step count i rest lt) ∙ so_far)

-- a cell more is read
pub rows_next : (count i : ℕ) (rows : List Row) (row : Row) (rest next : List ℕ) (made all : List Row) → i < count → row ≡ row_of rest → made ≡ rows ++ row ∷ [] → next ≡ drop 64 rest → rows ++ rows_of (count - i) rest ≡ all → made ++ rows_of (count - (i + 1)) next ≡ all
rows_next count i rows row rest next made all lt is_row is_made is_next so_far =
    let left : count - i ≡ suc (count - (i + 1)) = omega arith in
    let step : rows ++ rows_of (count - i) rest ≡ rows ++ (row ∷ rows_of (count - (i + 1)) next) = rw (left, is_row, is_next) refl in
    rw is_made (append_assoc rows (row ∷ []) (rows_of (count - (i + 1)) next) ∙ sym step ∙ so_far)

pub children_next : (count i : ℕ) (children : List Child) (child : Child) (rest next : List ℕ) (made all : List Child) → i < count → child ≡ child_of rest → made ≡ children ++ child ∷ [] → next ≡ drop 8 rest → children ++ children_of (count - i) rest ≡ all → made ++ children_of (count - (i + 1)) next ≡ all
children_next count i children child rest next made all lt is_child is_made is_next so_far =
    let left : count - i ≡ suc (count - (i + 1)) = omega arith in
    let step : children ++ children_of (count - i) rest ≡ children ++ (child ∷ children_of (count - (i + 1)) next) = rw (left, is_child, is_next) refl in
    rw is_made (append_assoc children (child ∷ []) (children_of (count - (i + 1)) next) ∙ sym step ∙ so_far)

-- a cell more is written, behind those so far
pub written_next : {T : Type 0} (cell : T → List ℕ) (width i : ℕ) (items : List T) (x : T) (start into front back new : List ℕ) → i < length items → x ≡ get_or items i x → width * length items ≤ length start
    → into ≡ flat_map cell (take i items) ++ drop (width * i) start → length into ≡ length start → front ≡ take (width * i) into → back ≡ drop (width * i) into → new ≡ cell x ++ drop width back
    → front ++ new ≡ flat_map cell (take (i + 1) items) ++ drop (width * (i + 1)) start
written_next {T} cell width i items x start into front back new lt is_x room so_far long is_front is_back is_new =
    let most : width * (i + 1) ≤ width * length items = mul-le-mul_left width (omega arith) in
    let some : width * i ≤ length start = omega arith in
    let count : length (flat_map cell (take i items)) ≡ width * i = omega (arith, ap length so_far, length-append (flat_map cell (take i items)) (drop (width * i) start), length-drop (width * i) start) in
    let f : front ≡ flat_map cell (take i items) = is_front ∙ ap (take (width * i)) so_far ∙ take_at (flat_map cell (take i items)) (drop (width * i) start) (width * i) count in
    let b : back ≡ drop (width * i) start = is_back ∙ ap (drop (width * i)) so_far ∙ drop_at (flat_map cell (take i items)) (drop (width * i) start) (width * i) count in
    let rest : drop width back ≡ drop (width * (i + 1)) start = next_rest width i start back b in
    let items_more : take (i + 1) items ≡ take i items ++ x ∷ [] = take_more items i x lt ∙ ap (λ (y : T). take i items ++ y ∷ []) (sym is_x) in
    let cells_more : flat_map cell (take (i + 1) items) ≡ flat_map cell (take i items) ++ cell x = ap (flat_map cell) items_more ∙ sym (flat_map_more cell [] (take i items) x) in
    rw (f, is_new, rest, cells_more) (sym (append_assoc (flat_map cell (take i items)) (cell x) (drop (width * (i + 1)) start)))
