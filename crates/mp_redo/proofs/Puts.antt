-- Bytes put behind bytes, and one round of a writing loop.
use Rattle.std.proofs.Common.{◌≡◌, ℕ, suc, ◌+◌, ◌*◌, ◌<◌, ◌≤◌, true, List, [], ◌∷◌, ◌++◌, length, take, drop, get_or, refl, sym, ap, subst, ◌∙◌, arith}
use Rattle.std.specs.List.{flat_map, AllByRecursion}
use Rattle.std.proofs.lemmas.List.{append_assoc, append-nil, length-append, take_more, flat_map_more, take-append-drop}
use Rattle.std.proofs.lemmas.List.Concat.{flat_map-append}
use Rattle.mp_model.specs.Listed.{Listed}
use Rattle.mp_cells.specs.declared.rows.Row.{Row}
use Rattle.mp_cells.specs.declared.children.Child.{Child}
use Rattle.mp_cells.specs.declared.changes.Change.{Change}
use Rattle.mp_cells.specs.declared.changes.Change.TheVariants.{MakeLeaf, MakeInner, MakeUndo, PutRow, RestoreRow, Cut, PutChild, PutUndo, TakePage}
use Rattle.mp_cells.specs.declared.records.Record.{Record}
use Rattle.mp_cells.specs.declared.records.Record.TheVariants.{Page, Commit}
use Rattle.mp_cells.specs.Rows.{IsRow}
use Rattle.mp_cells.specs.Children.{IsChild}
use Rattle.mp_cells.specs.RowCell.{row_cell}
use Rattle.mp_cells.specs.ChildCell.{child_cell}
use Rattle.mp_cells.specs.Changes.{HasCells}
use Rattle.mp_cells.specs.Mtrs.{IsChange, IsPageRecord, AreRecords}
use Rattle.mp_cells.specs.PageView.{is_leaf, is_inner}
use Rattle.mp_cells.specs.Mtrs.{IsMtr}
use Rattle.mp_cells.proofs.PageRanges.{leaf_ranges, inner_ranges}
use Rattle.mp_cells.proofs.ChangeCells.{has_cells}
use Rattle.mp_cells.proofs.RowSpelling.{length-row_cell, values_fit}
use Rattle.mp_cells.proofs.ChildSpelling.{length-child_cell}
use Rattle.byteorder.specs.Endian.{little_bytes}
use Rattle.mp_cells.specs.declared.records.Mtr.{Mtr}
use Rattle.mp_redo.specs.Spelling.{change_bytes, record_bytes, mtr_bytes}
use Rattle.mp_redo.specs.Writing.{Puts, RecordHasCells}
use Rattle.mp_redo.specs.Reading.{row_at, child_at}
use Rattle.mp_redo.proofs.Fields.{row_field, child_field}
use Rattle.mp_redo.proofs.Cells.{cells_count}
use Rattle.mp_redo.proofs.ChangeSpelling.{make_length}

pub puts_both : (a b : List ℕ) (x y z : Listed ℕ) → Puts a x y → Puts b y z → Puts (a ++ b) x z
puts_both a b x y z p q = record {
  items = q.items ∙ ap (λ (front : List ℕ). front ++ b) p.items ∙ append_assoc x.items a b;
  spare = omega (arith, p.spare, q.spare, length-append a b);
}

-- the room that is left behind a front
pub room_left : (a b : List ℕ) (x y : Listed ℕ) → length (a ++ b) ≤ x.spare → Puts a x y → length b ≤ y.spare
room_left a b x y room p = omega (arith, room, p.spare, length-append a b)

pub puts_none : (x : Listed ℕ) → Puts [] x x
puts_none x = record { items = sym (append-nil x.items); spare = omega arith }

module _ {T : Type 0} (spell : T → List ℕ) where
  one_more : (items : List T) (i : ℕ) (x : T) → i < length items → x ≡ get_or items i x → flat_map spell (take (i + 1) items) ≡ flat_map spell (take i items) ++ spell x
  one_more items i x lt is_x = ap (flat_map spell) (take_more items i x lt ∙ ap (λ (y : T). take i items ++ y ∷ []) (sym is_x)) ∙ sym (flat_map_more spell [] (take i items) x)

  -- an item more is put
  pub puts_next : (items : List T) (i : ℕ) (x : T) (start now new : Listed ℕ) → i < length items → x ≡ get_or items i x → Puts (flat_map spell (take i items)) start now → Puts (spell x) now new → Puts (flat_map spell (take (i + 1) items)) start new
  puts_next items i x start now new lt is_x so_far put = rw (one_more items i x lt is_x) (puts_both (flat_map spell (take i items)) (spell x) start now new so_far put)

  -- and there is room for it
  pub room_next : (items : List T) (i : ℕ) (x : T) (start now : Listed ℕ) → i < length items → x ≡ get_or items i x → length (flat_map spell items) ≤ start.spare → Puts (flat_map spell (take i items)) start now → length (spell x) ≤ now.spare
  room_next items i x start now lt is_x room so_far =
      let parts = ap (flat_map spell) (sym (take-append-drop (i + 1) items)) ∙ flat_map-append spell (take (i + 1) items) (drop (i + 1) items) in
      omega (arith, room, so_far.spare, ap length parts, length-append (flat_map spell (take (i + 1) items)) (flat_map spell (drop (i + 1) items)), ap length (one_more items i x lt is_x), length-append (flat_map spell (take i items)) (spell x))

-- how many bytes a change's fields have
abbrev pub change_length : Change → ℕ
change_length (MakeLeaf low high rows) = 17 + 64 * length rows
change_length (MakeInner low high children) = 17 + 8 * length children
change_length MakeUndo = 0
change_length (PutRow row) = 64
change_length (RestoreRow row) = 64
change_length (Cut from) = 4
change_length (PutChild child) = 8
change_length (PutUndo row) = 64
change_length (TakePage number) = 2

cell_length : (row : Row) → IsRow row → length (row_cell row) ≡ 64
cell_length row h = length-row_cell row (values_fit row.value h.value)

pub change_is_long : (change : Change) → HasCells change → change_length change ≡ length (change_bytes change)
change_is_long (MakeLeaf low high rows) h = omega (arith, make_length low high (length rows) (flat_map row_cell rows), cells_count row_at 64 row_cell IsRow (λ (row : Row). row.key) row_field rows h)
change_is_long (MakeInner low high children) h = omega (arith, make_length low high (length children) (flat_map child_cell children), cells_count child_at 8 child_cell IsChild (λ (child : Child). child.low) child_field children h)
change_is_long MakeUndo h = refl
change_is_long (PutRow row) h = sym (cell_length row h)
change_is_long (RestoreRow row) h = sym (cell_length row h)
change_is_long (Cut from) h = refl
change_is_long (PutChild child) h = sym (length-child_cell child)
change_is_long (PutUndo row) h = sym (cell_length row h)
change_is_long (TakePage number) h = refl

-- the records of an mtr have such cells
pages_have_cells : (llsn : ℕ) (items : List Record) → AllByRecursion (IsPageRecord llsn) items → AllByRecursion RecordHasCells items
pages_have_cells llsn [] h = tt
pages_have_cells llsn (Page page prev change ∷ items) h = (has_cells change h.0.2, pages_have_cells llsn items h.1)
pages_have_cells llsn (Commit id cts ∷ items) h = absurd h.0

pub records_have_cells : (llsn : ℕ) (items : List Record) → AreRecords llsn items → AllByRecursion RecordHasCells items
records_have_cells llsn [] h = tt
records_have_cells llsn (Commit id cts ∷ []) h = (tt, tt)
records_have_cells llsn (Page page prev change ∷ items) h = pages_have_cells llsn (Page page prev change ∷ items) h.2
records_have_cells llsn (Commit id cts ∷ x ∷ items) h = absurd h.2.0

pub records_most : (llsn : ℕ) (items : List Record) → AreRecords llsn items → length items ≤ 20
records_most llsn [] h = h.1
records_most llsn (Commit id cts ∷ []) h = omega arith
records_most llsn (Page page prev change ∷ items) h = h.1
records_most llsn (Commit id cts ∷ x ∷ items) h = h.1

-- the front of an mtr and its records
mtr_whole : (mtr : Mtr) → mtr_bytes mtr ≡ (mtr.node ∷ length mtr.records ∷ little_bytes 8 mtr.llsn) ++ flat_map record_bytes mtr.records
unfolding mtr_bytes
mtr_whole mtr = refl

pub mtr_length : (mtr : Mtr) → length (mtr_bytes mtr) ≡ 10 + length (flat_map record_bytes mtr.records)
mtr_length mtr =
    let front : length (mtr.node ∷ length mtr.records ∷ little_bytes 8 mtr.llsn) ≡ 10 = refl in
    ap length (mtr_whole mtr) ∙ length-append (mtr.node ∷ length mtr.records ∷ little_bytes 8 mtr.llsn) (flat_map record_bytes mtr.records)

pub mtr_room : (mtr : Mtr) (x : Listed ℕ) → length (mtr_bytes mtr) ≤ x.spare → 10 ≤ x.spare
mtr_room mtr x room = omega (arith, room, mtr_length mtr)

pub mtr_rest : (mtr : Mtr) (x y : Listed ℕ) (count : ℕ) (items : List Record) → count ≡ length mtr.records → items ≡ mtr.records → length (mtr_bytes mtr) ≤ x.spare → Puts (mtr.node ∷ count ∷ little_bytes 8 mtr.llsn) x y → length (flat_map record_bytes items) ≤ y.spare
mtr_rest mtr x y count items is_count are_items room put =
    let front : length (mtr.node ∷ count ∷ little_bytes 8 mtr.llsn) ≡ 10 = refl in
    let e : length (flat_map record_bytes items) ≡ length (flat_map record_bytes mtr.records) = ap (λ (xs : List Record). length (flat_map record_bytes xs)) are_items in
    omega (arith, room, mtr_length mtr, put.spare, front, e)

pub mtr_puts : (mtr : Mtr) (x y z : Listed ℕ) (count : ℕ) (items : List Record) → count ≡ length mtr.records → items ≡ mtr.records → Puts (mtr.node ∷ count ∷ little_bytes 8 mtr.llsn) x y → Puts (flat_map record_bytes items) y z → Puts (mtr_bytes mtr) x z
mtr_puts mtr x y z count items is_count are_items head records =
    let e : mtr_bytes mtr ≡ (mtr.node ∷ count ∷ little_bytes 8 mtr.llsn) ++ flat_map record_bytes items =
    mtr_whole mtr ∙ ap (λ (n : ℕ). (mtr.node ∷ n ∷ little_bytes 8 mtr.llsn) ++ flat_map record_bytes mtr.records) (sym is_count) ∙ ap (λ (xs : List Record). (mtr.node ∷ count ∷ little_bytes 8 mtr.llsn) ++ flat_map record_bytes xs) (sym are_items) in
    rw e (puts_both (mtr.node ∷ count ∷ little_bytes 8 mtr.llsn) (flat_map record_bytes items) x y z head records)

-- the front of a Make record and its cells
pub make_puts : (low high n m : ℕ) (cells others : List ℕ) (x y z : Listed ℕ) → m ≡ n → others ≡ cells → Puts (little_bytes 8 low ++ (little_bytes 8 high ++ m ∷ [])) x y → Puts others y z → Puts (little_bytes 8 low ++ (little_bytes 8 high ++ n ∷ cells)) x z
make_puts low high n m cells others x y z same are_cells head put =
    subst (λ (k : ℕ). Puts (little_bytes 8 low ++ (little_bytes 8 high ++ k ∷ cells)) x z) same
    (subst (λ (rest : List ℕ). Puts (little_bytes 8 low ++ (little_bytes 8 high ++ m ∷ rest)) x z) are_cells
    (puts_both (little_bytes 8 low ++ (little_bytes 8 high ++ m ∷ [])) others x y z head put))

-- ---- how long they are at most

rows_most : (low high : ℕ) (rows : List Row) → is_leaf low high rows ≡ true → length rows ≤ 15
rows_most low high rows h = (leaf_ranges low high rows h).most

children_most : (low high : ℕ) (children : List Child) → is_inner low high children ≡ true → length children ≤ 124
children_most low high children h = (inner_ranges low high children h).most

change_most : (change : Change) → IsChange change → change_length change ≤ 1009
change_most (MakeLeaf low high rows) h = omega (arith, rows_most low high rows h.0)
change_most (MakeInner low high children) h = omega (arith, children_most low high children h.0)
change_most MakeUndo h = omega arith
change_most (PutRow row) h = omega arith
change_most (RestoreRow row) h = omega arith
change_most (Cut from) h = omega arith
change_most (PutChild child) h = omega arith
change_most (PutUndo row) h = omega arith
change_most (TakePage number) h = omega arith

record_length : (page prev : ℕ) (change : Change) → length (record_bytes (Page page prev change)) ≡ 11 + length (change_bytes change)
record_length page prev change = let e : length (record_bytes (Page page prev change)) ≡ suc (suc (suc (suc (suc (suc (suc (suc (suc (suc (suc (length (change_bytes change)))))))))))) = refl in omega (arith, e)

pages_most : (llsn : ℕ) (items : List Record) → AllByRecursion (IsPageRecord llsn) items → length (flat_map record_bytes items) ≤ 1020 * length items
pages_most llsn [] h = omega arith
pages_most llsn (Page page prev change ∷ items) h =
    omega (arith, pages_most llsn items h.1, length-append (record_bytes (Page page prev change)) (flat_map record_bytes items), record_length page prev change, sym (change_is_long change (has_cells change h.0.2)), change_most change h.0.2)
pages_most llsn (Commit id cts ∷ items) h = absurd h.0

records_long : (llsn : ℕ) (items : List Record) → AreRecords llsn items → length (flat_map record_bytes items) ≤ 20400
records_long llsn [] h = omega arith
records_long llsn (Commit id cts ∷ []) h = omega arith
records_long llsn (Page page prev change ∷ items) h = omega (arith, pages_most llsn (Page page prev change ∷ items) h.2, h.1)
records_long llsn (Commit id cts ∷ x ∷ items) h = absurd h.2.0

pub mtr_most : (mtr : Mtr) → IsMtr mtr → length (mtr_bytes mtr) ≤ 20410
mtr_most mtr h = omega (arith, mtr_length mtr, records_long mtr.llsn mtr.records h.records)
