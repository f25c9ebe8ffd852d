-- A list of cells without a fault is the list of cells that it is read as, and what is written has no fault and is read
-- again: once for the cells of rows and of children.
use Rattle.std.proofs.Common.{◌≡◌, ℕ, zero, suc, ◌+◌, ◌-◌, ◌*◌, ◌<◌, ◌≤◌, nat_le, nat_lt, Bool, true, List, [], ◌∷◌, ◌++◌, length, take, drop, get_or, replicate, None, refl, sym, ap, ◌∙◌, arith}
use Rattle.std.specs.List.{flat_map, AllByRecursion}
use Rattle.std.proofs.lemmas.Bool.{and_parts, and_from, leb-true, le-leb, ltb-true, lt-ltb}
use Rattle.std.proofs.lemmas.List.{drop-replicate, append_assoc, length-append, length-drop, drop_at, get_or-drop}
use Rattle.std.proofs.Math.Seq.{take-add}
use Rattle.mp_model.specs.Padded.{padded}
use Rattle.mp_cells.specs.declared.rows.Row.{Row}
use Rattle.mp_cells.specs.Rows.{IsRow}
use Rattle.mp_cells.specs.Children.{IsChild}
use Rattle.mp_cells.specs.RowCell.{row_cell, row_of, is_row_cell}
use Rattle.mp_cells.specs.ChildCell.{child_cell, child_of, is_child_cell}
use Rattle.mp_cells.proofs.KeyOrder.{Rises, Rises-wider}
use Rattle.mp_cells.proofs.RowSpelling.{row_of-row_cell, is_row_cell-row_cell, row_cell-row_of, length-row_cell, values_fit}
use Rattle.mp_cells.proofs.ChildSpelling.{child_of-child_cell, is_child_cell-child_cell, child_cell-child_of, length-child_cell}
use Rattle.mp_page.specs.Grammar.{cell_fault, cell_key, keyed_fault, undo_fault, cells_of}
use Rattle.mp_page.proofs.Checks.{passes, passed, finds_none, found_none}

-- all are bytes
abbrev pub AreBytes : List ℕ → Type 0
AreBytes bytes = (i : ℕ) → get_or bytes i 0 < 256

pub AreBytes-drop : (n : ℕ) (bytes : List ℕ) → AreBytes bytes → AreBytes (drop n bytes)
AreBytes-drop n bytes h i = rw get_or-drop (h (n + i))

-- how one kind of cell is read and written
pub record IsCodec {X : Type 0} (is_cell : List ℕ → Bool) (width : ℕ) (of : List ℕ → X) (cell : X → List ℕ) (Kept : X → Type 0) (key : X → ℕ) : Type 0 where
  pub reads : (bytes : List ℕ) → width ≤ length bytes → AreBytes bytes → is_cell bytes ≡ true → Kept (of bytes) × (take width bytes ≡ cell (of bytes))
  pub again : (x : X) (rest : List ℕ) → Kept x → (of (cell x ++ rest) ≡ x) × (is_cell (cell x ++ rest) ≡ true)
  pub count : (x : X) → Kept x → length (cell x) ≡ width
  pub keyed : (bytes : List ℕ) → key (of bytes) ≡ cell_key bytes

key_row : (bytes : List ℕ) → (row_of bytes).key ≡ cell_key bytes
unfolding row_of
key_row bytes = refl

key_child : (bytes : List ℕ) → (child_of bytes).low ≡ cell_key bytes
unfolding child_of
key_child bytes = refl

pub row_codec : IsCodec is_row_cell 64 row_of row_cell IsRow (λ row. row.key)
row_codec = record {
  reads = λ bytes long fits h. row_cell-row_of bytes fits h;
  again = λ row rest h. (row_of-row_cell row rest h, is_row_cell-row_cell row rest h);
  count = λ row h. length-row_cell row (values_fit row.value h.value);
  keyed = key_row;
}

pub child_codec : IsCodec is_child_cell 8 child_of child_cell IsChild (λ child. child.low)
child_codec = record {
  reads = λ bytes long fits h. child_cell-child_of bytes long fits h;
  again = λ child rest h. (child_of-child_cell child rest h, is_child_cell-child_cell child rest h);
  count = λ child h. length-child_cell child;
  keyed = key_child;
}

-- what so many cells are, once they are read
pub record AreCells {X : Type 0} (width : ℕ) (of : List ℕ → X) (cell : X → List ℕ) (Kept : X → Type 0) (n : ℕ) (bytes : List ℕ) : Type 0 where
  pub spelled : take (width * n) bytes ≡ flat_map cell (cells_of of width n bytes)
  pub kept : AllByRecursion Kept (cells_of of width n bytes)
  pub count : length (cells_of of width n bytes) ≡ n

module _ {X : Type 0} (is_cell : List ℕ → Bool) (width : ℕ) (of : List ℕ → X) (cell : X → List ℕ) (Kept : X → Type 0) (key : X → ℕ) (codec : IsCodec is_cell width of cell Kept key) where
  one_more : (n : ℕ) (bytes : List ℕ) → Kept (of bytes) → take width bytes ≡ cell (of bytes) → AreCells width of cell Kept n (drop width bytes) → AreCells width of cell Kept (suc n) bytes
  one_more n bytes kept front rest =
      let size : width * suc n ≡ width + width * n = omega arith in
      let parts : take (width * suc n) bytes ≡ take width bytes ++ take (width * n) (drop width bytes) = ap (λ (k : ℕ). take k bytes) size ∙ take-add width (width * n) bytes in
      record {
        spelled = parts ∙ rw (front, rest.spelled) refl;
        kept = (kept, rest.kept);
        count = ap suc rest.count;
      }

  -- cells with rising keys
  pub keyed_sound : (low high n place least : ℕ) (bytes : List ℕ) → width * n ≤ length bytes → AreBytes bytes → keyed_fault is_cell width low high n place least bytes ≡ None
      → AreCells width of cell Kept n bytes × Rises key least high (cells_of of width n bytes) × Rises key low high (cells_of of width n bytes)
  keyed_sound low high zero place least bytes long fits h = (record { spelled = let none : width * 0 ≡ 0 = omega arith in ap (λ (k : ℕ). take k bytes) none; kept = tt; count = refl }, tt, tt)
  keyed_sound low high (suc n) place least bytes long fits h =
      let a = finds_none (cell_fault low high (is_cell bytes) place least (cell_key bytes)) _ h in
      let b = passes _ _ _ _ a.0 in
      let c = passes _ _ _ _ b.1 in
      let d = passes _ _ _ _ c.1 in
      let e = and_parts (nat_le low (cell_key bytes)) (nat_lt (cell_key bytes) high) d.0 in
      let r = finds_none (keyed_fault is_cell width low high n (place + width) (cell_key bytes + 1) (drop width bytes)) [] a.1 in
      let long_here : width ≤ length bytes = omega arith in
      let long_rest : width * n ≤ length (drop width bytes) = omega (arith, length-drop width bytes) in
      let here = codec.reads bytes long_here fits b.0 in
      let rest = keyed_sound low high n (place + width) (cell_key bytes + 1) (drop width bytes) long_rest (AreBytes-drop width bytes fits) r.0 in
      let k = codec.keyed bytes in
      let after : Rises key (key (of bytes) + 1) high (cells_of of width n (drop width bytes)) = rw k rest.1 in
      let from_least : least ≤ key (of bytes) = rw k (leb-true least (cell_key bytes) c.0) in
      let from_low : low ≤ key (of bytes) = rw k (leb-true low (cell_key bytes) e.0) in
      let below : key (of bytes) < high = rw k (ltb-true (cell_key bytes) high e.1) in
      (one_more n bytes here.0 here.1 rest.0, (from_least, below, after), (from_low, below, after))

  -- what is written is read again
  pub cells_again : (xs : List X) (rest : List ℕ) → AllByRecursion Kept xs → cells_of of width (length xs) (flat_map cell xs ++ rest) ≡ xs
  cells_again [] rest h = refl
  cells_again (x ∷ xs) rest h =
      let whole : flat_map cell (x ∷ xs) ++ rest ≡ cell x ++ (flat_map cell xs ++ rest) = append_assoc (cell x) (flat_map cell xs) rest in
      let back : drop width (cell x ++ (flat_map cell xs ++ rest)) ≡ flat_map cell xs ++ rest = drop_at (cell x) (flat_map cell xs ++ rest) width (codec.count x h.0) in
      ap (λ (bytes : List ℕ). of bytes ∷ cells_of of width (length xs) (drop width bytes)) whole
      ∙ rw ((codec.again x (flat_map cell xs ++ rest) h.0).0, back, cells_again xs rest h.1) refl

  pub length-cells : (xs : List X) → AllByRecursion Kept xs → length (flat_map cell xs) ≡ width * length xs
  length-cells [] h = omega arith
  length-cells (x ∷ xs) h = omega (arith, length-append (cell x) (flat_map cell xs), codec.count x h.0, length-cells xs h.1)

  -- and has no fault
  pub keyed_none : (low high : ℕ) (xs : List X) (place least : ℕ) (rest : List ℕ) → AllByRecursion Kept xs → Rises key low high xs → Rises key least high xs → keyed_fault is_cell width low high (length xs) place least (flat_map cell xs ++ rest) ≡ None
  keyed_none low high [] place least rest h from_low from_least = refl
  keyed_none low high (x ∷ xs) place least rest h from_low from_least =
      let whole : flat_map cell (x ∷ xs) ++ rest ≡ cell x ++ (flat_map cell xs ++ rest) = append_assoc (cell x) (flat_map cell xs) rest in
      let back : drop width (cell x ++ (flat_map cell xs ++ rest)) ≡ flat_map cell xs ++ rest = drop_at (cell x) (flat_map cell xs ++ rest) width (codec.count x h.0) in
      let again = codec.again x (flat_map cell xs ++ rest) h.0 in
      let k : cell_key (cell x ++ (flat_map cell xs ++ rest)) ≡ key x = sym (codec.keyed (cell x ++ (flat_map cell xs ++ rest))) ∙ ap key again.0 in
      let here : cell_fault low high (is_cell (cell x ++ (flat_map cell xs ++ rest))) place least (cell_key (cell x ++ (flat_map cell xs ++ rest))) ≡ None =
      rw k (passed _ _ _ _ again.1 (passed _ _ _ _ (le-leb least (key x) from_least.0) (passed _ _ _ _ (and_from _ _ (le-leb low (key x) from_low.0) (lt-ltb (key x) high from_low.1)) refl))) in
      let after : keyed_fault is_cell width low high (length xs) (place + width) (cell_key (cell x ++ (flat_map cell xs ++ rest)) + 1) (drop width (cell x ++ (flat_map cell xs ++ rest))) ≡ None =
      rw (k, back) (keyed_none low high xs (place + width) (key x + 1) rest h.1 (wider x xs from_low) from_least.2) in
      ap (keyed_fault is_cell width low high (suc (length xs)) place least) whole ∙ found_none _ _ here (found_none _ _ after refl)
    where
      wider : (x : X) (xs : List X) → Rises key low high (x ∷ xs) → Rises key low high xs
      wider x xs r = Rises-wider key (key x + 1) high low high xs (omega (arith, r.0)) (omega arith) r.2

-- cells of an undo page, in any order
pub undo_sound : (n place : ℕ) (bytes : List ℕ) → 64 * n ≤ length bytes → AreBytes bytes → undo_fault n place bytes ≡ None → AreCells 64 row_of row_cell IsRow n bytes
undo_sound zero place bytes long fits h = record { spelled = refl; kept = tt; count = refl }
undo_sound (suc n) place bytes long fits h =
    let a = passes _ _ _ _ h in
    let r = finds_none (undo_fault n (place + 64) (drop 64 bytes)) [] a.1 in
    let long_rest : 64 * n ≤ length (drop 64 bytes) = omega (arith, length-drop 64 bytes) in
    let long_here : 64 ≤ length bytes = omega (arith, long) in
    let here = row_codec.reads bytes long_here fits a.0 in
    one_more is_row_cell 64 row_of row_cell IsRow (λ row. row.key) row_codec n bytes here.0 here.1 (undo_sound n (place + 64) (drop 64 bytes) long_rest (AreBytes-drop 64 bytes fits) r.0)

pub undo_none : (rows : List Row) (place : ℕ) (rest : List ℕ) → AllByRecursion IsRow rows → undo_fault (length rows) place (flat_map row_cell rows ++ rest) ≡ None
undo_none [] place rest h = refl
undo_none (row ∷ rows) place rest h =
    let whole : flat_map row_cell (row ∷ rows) ++ rest ≡ row_cell row ++ (flat_map row_cell rows ++ rest) = append_assoc (row_cell row) (flat_map row_cell rows) rest in
    let back : drop 64 (row_cell row ++ (flat_map row_cell rows ++ rest)) ≡ flat_map row_cell rows ++ rest = drop_at (row_cell row) (flat_map row_cell rows ++ rest) 64 (row_codec.count row h.0) in
    let after : undo_fault (length rows) (place + 64) (drop 64 (row_cell row ++ (flat_map row_cell rows ++ rest))) ≡ None = rw back (undo_none rows (place + 64) rest h.1) in
    ap (undo_fault (suc (length rows)) place) whole
    ∙ passed _ _ _ _ (row_codec.again row (flat_map row_cell rows ++ rest) h.0).1 (found_none _ _ after refl)

-- cells written over the front of zeros
pub filled : {X : Type 0} (is_cell : List ℕ → Bool) (width : ℕ) (of : List ℕ → X) (cell : X → List ℕ) (Kept : X → Type 0) (key : X → ℕ) (codec : IsCodec is_cell width of cell Kept key) (xs ys : List X) (into new : List ℕ)
    → AllByRecursion Kept xs → ys ≡ xs → into ≡ replicate 992 0 → new ≡ flat_map cell ys ++ drop (width * length ys) into → new ≡ padded 992 0 (flat_map cell xs)
filled {X} is_cell width of cell Kept key codec xs ys into new kept is_ys zeros written =
    let size : width * length xs ≡ length (flat_map cell xs) = sym (length-cells is_cell width of cell Kept key codec xs kept) in
    written ∙ ap (λ (zs : List X). flat_map cell zs ++ drop (width * length zs) into) is_ys
    ∙ ap (λ (rest : List ℕ). flat_map cell xs ++ drop (width * length xs) rest) zeros
    ∙ ap (λ (rest : List ℕ). flat_map cell xs ++ rest) (drop-replicate (width * length xs) 992 0 ∙ ap (λ (n : ℕ). replicate (992 - n) 0) size)
