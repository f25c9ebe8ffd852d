-- A change that is read from a record's fields is spelled so, and what is spelled so is read.
use Rattle.std.proofs.Common.{◌≡◌, ℕ, ◌+◌, ◌-◌, ◌*◌, ◌^◌, ◌<◌, ◌≤◌, ◌&&◌, nat_le, nat_lt, true, List, [], ◌∷◌, ◌++◌, length, drop, Ok, refl, sym, ap, subst, ◌∙◌, arith}
use mathlib.Core.Bool.{false≢true}
use Rattle.std.specs.List.{flat_map}
use Rattle.std.proofs.lemmas.Bool.{and_parts, and_from, leb-true, le-leb, ltb-true, lt-ltb, eqb-true, eq-eqb}
use Rattle.std.proofs.lemmas.List.{append_assoc, length-append, length-drop}
use Rattle.byteorder.specs.Endian.{little_bytes}
use Rattle.mp_cells.specs.declared.rows.Row.{Row}
use Rattle.mp_cells.specs.declared.children.Child.{Child}
use Rattle.mp_cells.specs.declared.changes.Change.{Change}
use Rattle.mp_cells.specs.declared.changes.Change.TheVariants.{MakeLeaf, MakeInner, MakeUndo, PutRow, RestoreRow, Cut, PutChild, PutUndo, TakePage}
use Rattle.mp_cells.specs.Keys.{rises}
use Rattle.mp_cells.specs.Rows.{IsRow}
use Rattle.mp_cells.specs.Children.{IsChild}
use Rattle.mp_cells.specs.RowCell.{row_cell}
use Rattle.mp_cells.specs.ChildCell.{child_cell}
use Rattle.mp_cells.specs.PageView.{are_fences, begins_at}
use Rattle.mp_cells.specs.Mtrs.{IsChange}
use Rattle.mp_cells.proofs.ChildSpelling.{child_page_range}
use Rattle.mp_redo.specs.declared.kinds.ChangeKind.{ChangeKind}
use Rattle.mp_redo.specs.declared.kinds.ChangeKind.TheVariants as kinds
use Rattle.mp_redo.specs.Spelling.{kind_of_change, change_bytes}
use Rattle.mp_redo.specs.Reading.{Read, and_then, number, row_at, child_at, rows_in, child_in, children_in, fences_at, make_leaf_at, make_inner_at, change_at}
use Rattle.mp_redo.proofs.Fields.{AreBytes, IsField, InRange, both_read, both_again, number_field, row_field, child_field}
use Rattle.mp_redo.proofs.Cells.{part_after, cell_reads, cell_again, cells_read, cells_again, cells_count, first_cell, same_cell, one_byte, fence_bytes, fences_field}

-- the bytes hold a part
pub room_for : (at width : ℕ) (bytes part rest : List ℕ) → at ≤ length bytes → drop at bytes ≡ part ++ rest → length part ≡ width → at + width ≤ length bytes
room_for at width bytes part rest long h e = omega (arith, length-drop at bytes, ap length h ∙ length-append part rest, e, long)

-- what a part that begins at a place is read as, and where it ends
pub record IsRead {X : Type 0} (Good : X → Type 0) (spell : X → List ℕ) (bytes : List ℕ) (at : ℕ) (x : X) (end : ℕ) : Type 0 where
  pub good : Good x
  pub room : end ≤ length bytes
  pub spelled : drop at bytes ≡ spell x ++ drop end bytes

-- and how one that is spelled so is read
pub record IsReadAgain {X : Type 0} (read : Read (X × ℕ)) (bytes rest : List ℕ) (x : X) (end : ℕ) : Type 0 where
  pub value : read ≡ Ok (x, end)
  pub room : end ≤ length bytes
  pub behind : drop end bytes ≡ rest

-- a change of a kind
abbrev pub IsOfKind : ChangeKind → Change → Type 0
IsOfKind kind change = (kind_of_change change ≡ kind) × IsChange change

abbrev ReadChange : ChangeKind → List ℕ → ℕ → Change × ℕ → Type 0
ReadChange kind bytes at c = IsRead (IsOfKind kind) change_bytes bytes at c.0 c.1

-- a change of one field
module _ {X : Type 0} (read : List ℕ → ℕ → Read X) (width : ℕ) (spell : X → List ℕ) (Good : X → Type 0) (is_field : IsField read width spell Good) (make : X → Change) where
  one_read : (kind : ChangeKind) (bytes : List ℕ) (at : ℕ) (c : Change × ℕ) → ((x : X) → Good x → IsOfKind kind (make x)) → ((x : X) → change_bytes (make x) ≡ spell x) → AreBytes bytes
      → and_then (read bytes at) (λ x. Ok (make x, at + width)) ≡ Ok c → ReadChange kind bytes at c
  one_read kind bytes at c good bytes_are fits h =
      let a = both_read (read bytes at) (λ x. Ok (make x, at + width)) c h in
      let b = is_field.reads bytes at a.0 fits a.1 in
      let e : (make a.0, at + width) ≡ c = let f = a.2 in cc in
      subst (ReadChange kind bytes at) e (record { good = good a.0 b.0; room = b.1; spelled = b.2 ∙ ap (λ (part : List ℕ). part ++ drop (at + width) bytes) (sym (bytes_are a.0)) })

  one_again : (bytes rest : List ℕ) (at : ℕ) (x : X) → at ≤ length bytes → Good x → drop at bytes ≡ spell x ++ rest
      → IsReadAgain (and_then (read bytes at) (λ x. Ok (make x, at + width))) bytes rest (make x) (at + width)
  one_again bytes rest at x long good h =
      let a = is_field.again bytes rest at x good h in
      record {
        value = both_again (read bytes at) (λ y. Ok (make y, at + width)) x (Ok (make x, at + width)) a.0 refl;
        room = room_for at width bytes (spell x) rest long h (is_field.count x good);
        behind = a.1;
      }

from_field : IsField (number 4 0 (2 ^ 32 - 1)) 4 (little_bytes 4) (InRange 0 (2 ^ 32 - 1))
from_field = number_field 4 0 (2 ^ 32 - 1) (omega arith) (omega arith)

page_field : IsField (number 2 2 4095) 2 (little_bytes 2) (InRange 2 4095)
page_field = number_field 2 2 4095 (omega arith) (omega arith)

rows_count_field : IsField (number 1 0 15) 1 (little_bytes 1) (InRange 0 15)
rows_count_field = number_field 1 0 15 (omega arith) (omega arith)

children_count_field : IsField (number 1 1 124) 1 (little_bytes 1) (InRange 1 124)
children_count_field = number_field 1 1 124 (omega arith) (omega arith)

-- the fields of a Make record, one behind another
make_bytes : ℕ × ℕ → ℕ → List ℕ → List ℕ
make_bytes fences count cells = fence_bytes fences ++ (little_bytes 1 count ++ cells)

made_of : (low high n : ℕ) (cells rest : List ℕ) → n < 256 → fence_bytes (low, high) ++ (little_bytes 1 n ++ (cells ++ rest)) ≡ (little_bytes 8 low ++ (little_bytes 8 high ++ n ∷ cells)) ++ rest
made_of low high n cells rest lt = ap (λ (count : List ℕ). fence_bytes (low, high) ++ (count ++ (cells ++ rest))) (one_byte n lt)

leaf_read : (bytes : List ℕ) (at : ℕ) (c : Change × ℕ) → AreBytes bytes → make_leaf_at bytes at ≡ Ok c → ReadChange kinds.MakeLeaf bytes at c
leaf_read bytes at c fits h =
    let a = both_read (fences_at bytes at) (λ fences. and_then (number 1 0 15 bytes (at + 16)) (λ count. and_then (rows_in count fences.0 fences.1 bytes (at + 17)) (λ rows. Ok (MakeLeaf fences.0 fences.1 rows, at + 17 + 64 * count)))) c h in
    let low = a.0.0 in
    let high = a.0.1 in
    let b = both_read (number 1 0 15 bytes (at + 16)) (λ count. and_then (rows_in count low high bytes (at + 17)) (λ rows. Ok (MakeLeaf low high rows, at + 17 + 64 * count))) c a.2 in
    let n = b.0 in
    let d = both_read (rows_in n low high bytes (at + 17)) (λ rows. Ok (MakeLeaf low high rows, at + 17 + 64 * n)) c b.2 in
    let rows = d.0 in
    let fences = fences_field.reads bytes at a.0 fits a.1 in
    let count = rows_count_field.reads bytes (at + 16) n fits b.1 in
    let place : at + 16 + 1 ≡ at + 17 = omega arith in
    let cells = cells_read row_at 64 row_cell IsRow (λ (row : Row). row.key) row_field n low high (at + 17) bytes rows (subst (λ (k : ℕ). k ≤ length bytes) place count.1) fits d.1 in
    let most : n ≤ 15 = count.0.until in
    let e : (MakeLeaf low high rows, at + 17 + 64 * n) ≡ c = let f = d.2 in cc in
    let behind_count : drop (at + 16) bytes ≡ little_bytes 1 n ++ (flat_map row_cell rows ++ drop (at + 17 + 64 * n) bytes) = part_after (little_bytes 1 n) (drop (at + 16 + 1) bytes) (drop (at + 16) bytes) _ count.2 (ap (λ (k : ℕ). drop k bytes) place ∙ cells.spelled) in
    let whole : drop at bytes ≡ fence_bytes a.0 ++ (little_bytes 1 n ++ (flat_map row_cell rows ++ drop (at + 17 + 64 * n) bytes)) = part_after (fence_bytes a.0) (drop (at + 16) bytes) (drop at bytes) _ fences.2 behind_count in
    subst (ReadChange kinds.MakeLeaf bytes at) e (record {
      good = (refl, (and_from _ _ (and_from _ _ fences.0 (le-leb (length rows) 15 (omega (arith, most, cells.number)))) cells.rising, cells.kept));
      room = cells.room;
      spelled = whole ∙ made_of low high n (flat_map row_cell rows) (drop (at + 17 + 64 * n) bytes) (omega (arith, most))
          ∙ ap (λ (k : ℕ). (little_bytes 8 low ++ (little_bytes 8 high ++ k ∷ flat_map row_cell rows)) ++ drop (at + 17 + 64 * n) bytes) (sym cells.number);
    })

begins_with : (low : ℕ) (first : Child) (children : List Child) → first.low ≡ low → begins_at low (first ∷ children) ≡ true
begins_with low first children e = eq-eqb first.low low e

inner_read : (bytes : List ℕ) (at : ℕ) (c : Change × ℕ) → AreBytes bytes → make_inner_at bytes at ≡ Ok c → ReadChange kinds.MakeInner bytes at c
inner_read bytes at c fits h =
    let a = both_read (fences_at bytes at) (λ fences. and_then (number 1 1 124 bytes (at + 16)) (λ count. and_then (child_in fences.0 (fences.0 + 1) bytes (at + 17)) (λ first. and_then (children_in count fences.0 fences.1 bytes (at + 17)) (λ children. Ok (MakeInner fences.0 fences.1 children, at + 17 + 8 * count))))) c h in
    let low = a.0.0 in
    let high = a.0.1 in
    let b = both_read (number 1 1 124 bytes (at + 16)) (λ count. and_then (child_in low (low + 1) bytes (at + 17)) (λ first. and_then (children_in count low high bytes (at + 17)) (λ children. Ok (MakeInner low high children, at + 17 + 8 * count)))) c a.2 in
    let n = b.0 in
    let f = both_read (child_in low (low + 1) bytes (at + 17)) (λ first. and_then (children_in n low high bytes (at + 17)) (λ children. Ok (MakeInner low high children, at + 17 + 8 * n))) c b.2 in
    let d = both_read (children_in n low high bytes (at + 17)) (λ children. Ok (MakeInner low high children, at + 17 + 8 * n)) c f.2 in
    let children = d.0 in
    let key : Child → ℕ = λ child. child.low in
    let fences = fences_field.reads bytes at a.0 fits a.1 in
    let count = children_count_field.reads bytes (at + 16) n fits b.1 in
    let place : at + 16 + 1 ≡ at + 17 = omega arith in
    let cells = cells_read child_at 8 child_cell IsChild (λ (child : Child). child.low) child_field n low high (at + 17) bytes children (subst (λ (k : ℕ). k ≤ length bytes) place count.1) fits d.1 in
    let first = cell_reads child_at 8 child_cell IsChild (λ (child : Child). child.low) child_field low (low + 1) (at + 17) bytes f.0 fits f.1 in
    let g = first_cell child_at 8 child_cell IsChild (λ (child : Child). child.low) child_field n low high (at + 17) bytes children count.0.from d.1 in
    let same = same_cell child_at 8 child_cell IsChild (λ (child : Child). child.low) child_field low (low + 1) low high (at + 17) bytes f.0 g.0 f.1 g.3 in
    let r = and_parts (nat_le low f.0.low) (nat_lt f.0.low (low + 1)) first.3 in
    let at_low : f.0.low ≡ low = omega (arith, leb-true low f.0.low r.0, ltb-true f.0.low (low + 1) r.1) in
    let begins : begins_at low children ≡ true = ap (begins_at low) g.2 ∙ begins_with low g.0 g.1 (ap (λ (x : Child). x.low) (sym same) ∙ at_low) in
    let most : n ≤ 124 = count.0.until in
    let e : (MakeInner low high children, at + 17 + 8 * n) ≡ c = let k = d.2 in cc in
    let behind_count : drop (at + 16) bytes ≡ little_bytes 1 n ++ (flat_map child_cell children ++ drop (at + 17 + 8 * n) bytes) = part_after (little_bytes 1 n) (drop (at + 16 + 1) bytes) (drop (at + 16) bytes) _ count.2 (ap (λ (k : ℕ). drop k bytes) place ∙ cells.spelled) in
    let whole : drop at bytes ≡ fence_bytes a.0 ++ (little_bytes 1 n ++ (flat_map child_cell children ++ drop (at + 17 + 8 * n) bytes)) = part_after (fence_bytes a.0) (drop (at + 16) bytes) (drop at bytes) _ fences.2 behind_count in
    subst (ReadChange kinds.MakeInner bytes at) e (record {
      good = (refl, (and_from _ _ (and_from _ _ (and_from _ _ fences.0 begins) (le-leb (length children) 124 (omega (arith, most, cells.number)))) cells.rising, cells.kept));
      room = cells.room;
      spelled = whole ∙ made_of low high n (flat_map child_cell children) (drop (at + 17 + 8 * n) bytes) (omega (arith, most))
          ∙ ap (λ (k : ℕ). (little_bytes 8 low ++ (little_bytes 8 high ++ k ∷ flat_map child_cell children)) ++ drop (at + 17 + 8 * n) bytes) (sym cells.number);
    })

page_good : (n : ℕ) → InRange 2 4095 n → IsOfKind kinds.TakePage (TakePage n)
page_good n r = (refl, and_from _ _ (le-leb 2 n r.from) (lt-ltb n 4096 (omega (arith, r.until))))

cut_good : (n : ℕ) → InRange 0 (2 ^ 32 - 1) n → IsOfKind kinds.Cut (Cut n)
cut_good n r = (refl, omega (arith, r.until))

pub change_read : (kind : ChangeKind) (bytes : List ℕ) (at : ℕ) (c : Change × ℕ) → at ≤ length bytes → AreBytes bytes → change_at kind bytes at ≡ Ok c → ReadChange kind bytes at c
change_read kinds.MakeLeaf bytes at c long fits h = leaf_read bytes at c fits h
change_read kinds.MakeInner bytes at c long fits h = inner_read bytes at c fits h
change_read kinds.MakeUndo bytes at c long fits h =
    let e : (MakeUndo, at) ≡ c = cc in
    subst (ReadChange kinds.MakeUndo bytes at) e (record { good = (refl, tt); room = long; spelled = refl })
change_read kinds.PutRow bytes at c long fits h = one_read row_at 64 row_cell IsRow row_field (λ row. PutRow row) kinds.PutRow bytes at c (λ row good. (refl, good)) (λ row. refl) fits h
change_read kinds.RestoreRow bytes at c long fits h = one_read row_at 64 row_cell IsRow row_field (λ row. RestoreRow row) kinds.RestoreRow bytes at c (λ row good. (refl, good)) (λ row. refl) fits h
change_read kinds.Cut bytes at c long fits h = one_read (number 4 0 (2 ^ 32 - 1)) 4 (little_bytes 4) (InRange 0 (2 ^ 32 - 1)) from_field (λ from. Cut from) kinds.Cut bytes at c cut_good (λ from. refl) fits h
change_read kinds.PutChild bytes at c long fits h = one_read child_at 8 child_cell IsChild child_field (λ child. PutChild child) kinds.PutChild bytes at c (λ child good. (refl, good)) (λ child. refl) fits h
change_read kinds.PutUndo bytes at c long fits h = one_read row_at 64 row_cell IsRow row_field (λ row. PutUndo row) kinds.PutUndo bytes at c (λ row good. (refl, good)) (λ row. refl) fits h
change_read kinds.TakePage bytes at c long fits h = one_read (number 2 2 4095) 2 (little_bytes 2) (InRange 2 4095) page_field (λ page. TakePage page) kinds.TakePage bytes at c page_good (λ page. refl) fits h

-- ---- and back

abbrev ReadAgain : Change → List ℕ → List ℕ → ℕ → Type 0
ReadAgain change bytes rest at = (end : ℕ) × IsReadAgain (change_at (kind_of_change change) bytes at) bytes rest change end

pub make_length : (low high n : ℕ) (cells : List ℕ) → length (little_bytes 8 low ++ (little_bytes 8 high ++ n ∷ cells)) ≡ 17 + length cells
make_length low high n cells =
    let l : length (little_bytes 8 low) ≡ 8 = refl in
    let u : length (little_bytes 8 high) ≡ 8 = refl in
    omega (arith, length-append (little_bytes 8 low) (little_bytes 8 high ++ n ∷ cells), length-append (little_bytes 8 high) (n ∷ cells), l, u)

leaf_again : (low high : ℕ) (rows : List Row) (bytes rest : List ℕ) (at : ℕ) → at ≤ length bytes → IsChange (MakeLeaf low high rows) → drop at bytes ≡ change_bytes (MakeLeaf low high rows) ++ rest → ReadAgain (MakeLeaf low high rows) bytes rest at
leaf_again low high rows bytes rest at long good h =
    let p = and_parts (are_fences low high && nat_le (length rows) 15) (rises (λ (row : Row). row.key) low high rows) good.0 in
    let q = and_parts (are_fences low high) (nat_le (length rows) 15) p.0 in
    let n = length rows in
    let most = leb-true n 15 q.1 in
    let cells_rest = flat_map row_cell rows ++ rest in
    let a = fences_field.again bytes (little_bytes 1 n ++ cells_rest) at (low, high) q.0 (h ∙ sym (made_of low high n (flat_map row_cell rows) rest (omega (arith, most)))) in
    let b = rows_count_field.again bytes cells_rest (at + 16) n (record { from = omega arith; until = most }) a.1 in
    let place : at + 17 ≡ at + 16 + 1 = omega arith in
    let behind_count : drop (at + 17) bytes ≡ cells_rest = ap (λ (k : ℕ). drop k bytes) place ∙ b.1 in
    let c = cells_again row_at 64 row_cell IsRow (λ (row : Row). row.key) row_field low high (at + 17) bytes rest rows p.1 good.1 behind_count in
    let end = at + 17 + 64 * n in
    let count = cells_count row_at 64 row_cell IsRow (λ (row : Row). row.key) row_field rows good.1 in
    let whole = make_length low high n (flat_map row_cell rows) in
    let room = room_for at (17 + 64 * n) bytes (change_bytes (MakeLeaf low high rows)) rest long h (omega (arith, whole, count)) in (
      end,
      record {
        value = both_again (fences_at bytes at) (λ fences. and_then (number 1 0 15 bytes (at + 16)) (λ count. and_then (rows_in count fences.0 fences.1 bytes (at + 17)) (λ xs. Ok (MakeLeaf fences.0 fences.1 xs, at + 17 + 64 * count)))) (low, high) (Ok (MakeLeaf low high rows, end)) a.0
            (both_again (number 1 0 15 bytes (at + 16)) (λ count. and_then (rows_in count low high bytes (at + 17)) (λ xs. Ok (MakeLeaf low high xs, at + 17 + 64 * count))) n (Ok (MakeLeaf low high rows, end)) b.0
            (both_again (rows_in n low high bytes (at + 17)) (λ xs. Ok (MakeLeaf low high xs, end)) rows (Ok (MakeLeaf low high rows, end)) c.0 refl));
        room = omega (arith, room);
        behind = c.1;
      },
    )

inner_again : (low high : ℕ) (children : List Child) (bytes rest : List ℕ) (at : ℕ) → at ≤ length bytes → IsChange (MakeInner low high children) → drop at bytes ≡ change_bytes (MakeInner low high children) ++ rest → ReadAgain (MakeInner low high children) bytes rest at
inner_again low high [] bytes rest at long good h =
    let p = and_parts _ _ good.0 in
    let q = and_parts (are_fences low high && begins_at low []) (nat_le 0 124) p.0 in
    let f = and_parts (are_fences low high) (begins_at low []) q.0 in
    absurd (false≢true f.1)
inner_again low high (first ∷ others) bytes rest at long good h =
    let children = first ∷ others in
    let p = and_parts (are_fences low high && begins_at low children && nat_le (length children) 124) (rises (λ (child : Child). child.low) low high children) good.0 in
    let q = and_parts (are_fences low high && begins_at low children) (nat_le (length children) 124) p.0 in
    let f = and_parts (are_fences low high) (begins_at low children) q.0 in
    let n = length children in
    let most : n ≤ 124 = leb-true n 124 q.1 in
    let at_low : first.low ≡ low = eqb-true first.low low f.1 in
    let cells_rest = flat_map child_cell children ++ rest in
    let a = fences_field.again bytes (little_bytes 1 n ++ cells_rest) at (low, high) f.0 (h ∙ sym (made_of low high n (flat_map child_cell children) rest (omega (arith, most)))) in
    let b = children_count_field.again bytes cells_rest (at + 16) n (record { from = omega arith; until = most }) a.1 in
    let place : at + 17 ≡ at + 16 + 1 = omega arith in
    let behind_count : drop (at + 17) bytes ≡ cells_rest = ap (λ (k : ℕ). drop k bytes) place ∙ b.1 in
    let ranged : (nat_le low first.low && nat_lt first.low (low + 1)) ≡ true = and_from _ _ (le-leb low first.low (omega (arith, at_low))) (lt-ltb first.low (low + 1) (omega (arith, at_low))) in
    let d = cell_again child_at 8 child_cell IsChild (λ (child : Child). child.low) child_field low (low + 1) (at + 17) bytes (flat_map child_cell others ++ rest) first good.1.0 ranged (behind_count ∙ append_assoc (child_cell first) (flat_map child_cell others) rest) in
    let c = cells_again child_at 8 child_cell IsChild (λ (child : Child). child.low) child_field low high (at + 17) bytes rest children p.1 good.1 behind_count in
    let end = at + 17 + 8 * n in
    let count = cells_count child_at 8 child_cell IsChild (λ (child : Child). child.low) child_field children good.1 in
    let whole = make_length low high n (flat_map child_cell children) in
    let room = room_for at (17 + 8 * n) bytes (change_bytes (MakeInner low high children)) rest long h (omega (arith, whole, count)) in (
      end,
      record {
        value = both_again (fences_at bytes at) (λ fences. and_then (number 1 1 124 bytes (at + 16)) (λ count. and_then (child_in fences.0 (fences.0 + 1) bytes (at + 17)) (λ x. and_then (children_in count fences.0 fences.1 bytes (at + 17)) (λ xs. Ok (MakeInner fences.0 fences.1 xs, at + 17 + 8 * count))))) (low, high) (Ok (MakeInner low high children, end)) a.0
            (both_again (number 1 1 124 bytes (at + 16)) (λ count. and_then (child_in low (low + 1) bytes (at + 17)) (λ x. and_then (children_in count low high bytes (at + 17)) (λ xs. Ok (MakeInner low high xs, at + 17 + 8 * count)))) n (Ok (MakeInner low high children, end)) b.0
            (both_again (child_in low (low + 1) bytes (at + 17)) (λ x. and_then (children_in n low high bytes (at + 17)) (λ xs. Ok (MakeInner low high xs, end))) first (Ok (MakeInner low high children, end)) d.0
            (both_again (children_in n low high bytes (at + 17)) (λ xs. Ok (MakeInner low high xs, end)) children (Ok (MakeInner low high children, end)) c.0 refl)));
        room = omega (arith, room);
        behind = c.1;
      },
    )

pub change_again : (change : Change) (bytes rest : List ℕ) (at : ℕ) → at ≤ length bytes → IsChange change → drop at bytes ≡ change_bytes change ++ rest → ReadAgain change bytes rest at
change_again (MakeLeaf low high rows) bytes rest at long good h = leaf_again low high rows bytes rest at long good h
change_again (MakeInner low high children) bytes rest at long good h = inner_again low high children bytes rest at long good h
change_again MakeUndo bytes rest at long good h = (at, record { value = refl; room = long; behind = h })
change_again (PutRow row) bytes rest at long good h = (at + 64, one_again row_at 64 row_cell IsRow row_field (λ row. PutRow row) bytes rest at row long good h)
change_again (RestoreRow row) bytes rest at long good h = (at + 64, one_again row_at 64 row_cell IsRow row_field (λ row. RestoreRow row) bytes rest at row long good h)
change_again (Cut from) bytes rest at long good h = (at + 4, one_again (number 4 0 (2 ^ 32 - 1)) 4 (little_bytes 4) (InRange 0 (2 ^ 32 - 1)) from_field (λ from. Cut from) bytes rest at from long (record { from = omega arith; until = omega (arith, good) }) h)
change_again (PutChild child) bytes rest at long good h = (at + 8, one_again child_at 8 child_cell IsChild child_field (λ child. PutChild child) bytes rest at child long good h)
change_again (PutUndo row) bytes rest at long good h = (at + 64, one_again row_at 64 row_cell IsRow row_field (λ row. PutUndo row) bytes rest at row long good h)
change_again (TakePage page) bytes rest at long good h =
    let range = child_page_range page good in
    (at + 2, one_again (number 2 2 4095) 2 (little_bytes 2) (InRange 2 4095) page_field (λ page. TakePage page) bytes rest at page long (record { from = range.0; until = omega (arith, range.1) }) h)
