-- What a field is read as is spelled so, and what is spelled so is read: numbers, cells and ids.
use Rattle.std.proofs.Common.{◌≡◌, ℕ, ◌+◌, ◌^◌, ◌<◌, ◌≤◌, ◌==◌, ◌&&◌, nat_le, Bool, true, false, List, [], ◌∷◌, ◌++◌, length, take, drop, get_or, Ok, Err, Some, refl, sym, ap, subst, ◌∙◌, arith}
use Rattle.std.proofs.lemmas.Bool.{and_parts, and_from, leb-true, le-leb, eqb-true}
use Rattle.std.proofs.lemmas.List.{drop-drop, take-append-drop, drop_at, length-append, length-drop, get_or-drop}
use Rattle.byteorder.specs.Endian.{little_bytes, little_number}
use Rattle.byteorder.specs.Numbers.{little_number-reads_back, length-bytes_low_first}
use Rattle.mp_model.specs.declared.ids.TrxId.{TrxId}
use Rattle.mp_cells.specs.declared.rows.Row.{Row}
use Rattle.mp_cells.specs.declared.children.Child.{Child}
use Rattle.mp_cells.specs.Numbers.{number_at}
use Rattle.mp_cells.specs.Rows.{IsRow, is_writer}
use Rattle.mp_cells.specs.Children.{IsChild}
use Rattle.mp_cells.specs.RowCell.{row_cell, row_of, is_row_cell, writer_bytes}
use Rattle.mp_cells.specs.ChildCell.{child_cell, child_of, is_child_cell}
use Rattle.mp_cells.proofs.NumberBytes.{written_again}
use Rattle.mp_cells.proofs.RowSpelling.{row_of-row_cell, is_row_cell-row_cell, row_cell-row_of, length-row_cell, values_fit, writer_ranges}
use Rattle.mp_cells.proofs.ChildSpelling.{child_of-child_cell, is_child_cell-child_cell, child_cell-child_of, length-child_cell}
use Rattle.mp_redo.specs.Reading.{Read, and_then, field, is_whole, number, row_at, child_at, id_of, id_at}

-- all are bytes
abbrev pub AreBytes : List ℕ → Type 0
AreBytes bytes = (i : ℕ) → get_or bytes i 0 < 256

pub AreBytes-drop : (n : ℕ) (bytes : List ℕ) → AreBytes bytes → AreBytes (drop n bytes)
AreBytes-drop n bytes h i = rw get_or-drop (h (n + i))

-- what two readers gave, the one after the other
pub both_read : {A B : Type 0} (r : Read A) (next : A → Read B) (y : B) → and_then r next ≡ Ok y → (x : A) × (r ≡ Ok x) × (next x ≡ Ok y)
both_read (Ok x) next y h = (x, refl, h)
both_read (Err place) next y h = absurd cc

pub both_again : {A B : Type 0} (r : Read A) (next : A → Read B) (x : A) (y : Read B) → r ≡ Ok x → next x ≡ y → and_then r next ≡ y
both_again r next x y h e = ap (λ z. and_then z next) h ∙ e

pub field_read : {A : Type 0} (at : ℕ) (test : Bool) (x y : A) → field at test x ≡ Ok y → (test ≡ true) × (x ≡ y)
field_read at true x y h = (refl, cc)
field_read at false x y h = absurd cc

pub field_again : {A : Type 0} (at : ℕ) (test : Bool) (x y : A) → test ≡ true → x ≡ y → field at test x ≡ Ok y
field_again at test x y h e = rw (h, e) refl

-- the bytes behind a part
pub behind : (at width : ℕ) (bytes part rest : List ℕ) → drop at bytes ≡ part ++ rest → length part ≡ width → drop (at + width) bytes ≡ rest
behind at width bytes part rest h e = sym (drop-drop width at bytes) ∙ ap (drop width) h ∙ drop_at part rest width e

-- and their count
pub long_enough : (at width : ℕ) (bytes part rest : List ℕ) → drop at bytes ≡ part ++ rest → length part ≡ width → 1 ≤ width → at + width ≤ length bytes
long_enough at width bytes part rest h e least =
    let n = length-drop at bytes in
    let m = ap length h ∙ length-append part rest in
    omega (arith, n, m, e, least)

-- how a field of a width is read and written
pub record IsField {X : Type 0} (read : List ℕ → ℕ → Read X) (width : ℕ) (spell : X → List ℕ) (Good : X → Type 0) : Type 0 where
  pub reads : (bytes : List ℕ) (at : ℕ) (x : X) → AreBytes bytes → read bytes at ≡ Ok x → Good x × (at + width ≤ length bytes) × (drop at bytes ≡ spell x ++ drop (at + width) bytes)
  pub again : (bytes rest : List ℕ) (at : ℕ) (x : X) → Good x → drop at bytes ≡ spell x ++ rest → (read bytes at ≡ Ok x) × (drop (at + width) bytes ≡ rest)
  pub count : (x : X) → Good x → length (spell x) ≡ width

-- the front of what is left, and the bytes behind it
split : (at width : ℕ) (bytes part : List ℕ) → take width (drop at bytes) ≡ part → drop at bytes ≡ part ++ drop (at + width) bytes
split at width bytes part e =
    sym (take-append-drop width (drop at bytes)) ∙ ap (λ (front : List ℕ). front ++ drop width (drop at bytes)) e ∙ ap (λ (back : List ℕ). part ++ back) (drop-drop width at bytes)

left : (at width : ℕ) (bytes : List ℕ) → at + width ≤ length bytes → width ≤ length (drop at bytes)
left at width bytes h = omega (arith, length-drop at bytes)

-- a number of a range
pub record InRange (least most n : ℕ) : Type 0 where
  pub from : least ≤ n
  pub until : n ≤ most

number_reads : (width least most : ℕ) (bytes : List ℕ) (at n : ℕ) → AreBytes bytes → number width least most bytes at ≡ Ok n → InRange least most n × (at + width ≤ length bytes) × (drop at bytes ≡ little_bytes width n ++ drop (at + width) bytes)
unfolding number number_at
number_reads width least most bytes at n fits h =
    let a = field_read at _ (number_at at width bytes) n h in
    let b = and_parts (is_whole width bytes at) _ a.0 in
    let c = and_parts (nat_le least (number_at at width bytes)) (nat_le (number_at at width bytes) most) b.1 in
    let room = leb-true (at + width) (length bytes) b.0 in
    let spelled : little_bytes width (little_number width (drop at bytes)) ≡ take width (drop at bytes) = written_again width (drop at bytes) (AreBytes-drop at bytes fits) (left at width bytes room) in (
      record { from = subst (λ (m : ℕ). least ≤ m) a.1 (leb-true least (number_at at width bytes) c.0); until = subst (λ (m : ℕ). m ≤ most) a.1 (leb-true (number_at at width bytes) most c.1) },
      room,
      split at width bytes (little_bytes width n) (sym spelled ∙ ap (little_bytes width) a.1),
    )

number_again : (width least most : ℕ) (bytes rest : List ℕ) (at n : ℕ) → 1 ≤ width → n < 256 ^ width → InRange least most n → drop at bytes ≡ little_bytes width n ++ rest → (number width least most bytes at ≡ Ok n) × (drop (at + width) bytes ≡ rest)
unfolding number number_at
number_again width least most bytes rest at n wide fits range h =
    let count = length-bytes_low_first 0 width n in
    let room = long_enough at width bytes (little_bytes width n) rest h count wide in
    let value : little_number width (drop at bytes) ≡ n = ap (little_number width) h ∙ little_number-reads_back width n rest fits in
    let test : (is_whole width bytes at && (nat_le least n && nat_le n most)) ≡ true = and_from _ _ (le-leb (at + width) (length bytes) room) (and_from _ _ (le-leb least n range.from) (le-leb n most range.until)) in
    (field_again at _ (little_number width (drop at bytes)) n (ap (λ (m : ℕ). is_whole width bytes at && (nat_le least m && nat_le m most)) value ∙ test) value, behind at width bytes (little_bytes width n) rest h count)

pub number_field : (width least most : ℕ) → 1 ≤ width → most < 256 ^ width → IsField (number width least most) width (little_bytes width) (InRange least most)
number_field width least most wide fits = record {
  reads = λ bytes at n. number_reads width least most bytes at n;
  again = λ bytes rest at n range. number_again width least most bytes rest at n wide (omega (arith, range.until, fits)) range;
  count = λ n range. length-bytes_low_first 0 width n;
}

-- a row's cell
row_reads : (bytes : List ℕ) (at : ℕ) (row : Row) → AreBytes bytes → row_at bytes at ≡ Ok row → IsRow row × (at + 64 ≤ length bytes) × (drop at bytes ≡ row_cell row ++ drop (at + 64) bytes)
unfolding row_at
row_reads bytes at row fits h =
    let a = field_read at _ (row_of (drop at bytes)) row h in
    let b = and_parts (is_whole 64 bytes at) _ a.0 in
    let c = row_cell-row_of (drop at bytes) (AreBytes-drop at bytes fits) b.1 in
    (subst IsRow a.1 c.0, leb-true (at + 64) (length bytes) b.0, split at 64 bytes (row_cell row) (c.1 ∙ ap row_cell a.1))

row_again : (bytes rest : List ℕ) (at : ℕ) (row : Row) → IsRow row → drop at bytes ≡ row_cell row ++ rest → (row_at bytes at ≡ Ok row) × (drop (at + 64) bytes ≡ rest)
unfolding row_at
row_again bytes rest at row kept h =
    let count = length-row_cell row (values_fit row.value kept.value) in
    let room = long_enough at 64 bytes (row_cell row) rest h count (omega arith) in
    let test = and_from _ _ (le-leb (at + 64) (length bytes) room) (ap is_row_cell h ∙ is_row_cell-row_cell row rest kept) in
    (field_again at _ (row_of (drop at bytes)) row test (ap row_of h ∙ row_of-row_cell row rest kept), behind at 64 bytes (row_cell row) rest h count)

pub row_field : IsField row_at 64 row_cell IsRow
row_field = record { reads = row_reads; again = row_again; count = λ row kept. length-row_cell row (values_fit row.value kept.value) }

-- a child's cell
child_reads : (bytes : List ℕ) (at : ℕ) (child : Child) → AreBytes bytes → child_at bytes at ≡ Ok child → IsChild child × (at + 8 ≤ length bytes) × (drop at bytes ≡ child_cell child ++ drop (at + 8) bytes)
unfolding child_at
child_reads bytes at child fits h =
    let a = field_read at _ (child_of (drop at bytes)) child h in
    let b = and_parts (is_whole 8 bytes at) _ a.0 in
    let room = leb-true (at + 8) (length bytes) b.0 in
    let c = child_cell-child_of (drop at bytes) (left at 8 bytes room) (AreBytes-drop at bytes fits) b.1 in
    (subst IsChild a.1 c.0, room, split at 8 bytes (child_cell child) (c.1 ∙ ap child_cell a.1))

child_again : (bytes rest : List ℕ) (at : ℕ) (child : Child) → IsChild child → drop at bytes ≡ child_cell child ++ rest → (child_at bytes at ≡ Ok child) × (drop (at + 8) bytes ≡ rest)
unfolding child_at
child_again bytes rest at child kept h =
    let count = length-child_cell child in
    let room = long_enough at 8 bytes (child_cell child) rest h count (omega arith) in
    let test = and_from _ _ (le-leb (at + 8) (length bytes) room) (ap is_child_cell h ∙ is_child_cell-child_cell child rest kept) in
    (field_again at _ (child_of (drop at bytes)) child test (ap child_of h ∙ child_of-child_cell child rest kept), behind at 8 bytes (child_cell child) rest h count)

pub child_field : IsField child_at 8 child_cell IsChild
child_field = record { reads = child_reads; again = child_again; count = λ child kept. length-child_cell child }

-- a writer's id
eight : (bytes : List ℕ) → 8 ≤ length bytes → take 8 bytes ≡ get_or bytes 0 0 ∷ get_or bytes 1 0 ∷ (take 2 (drop 2 bytes) ++ take 4 (drop 4 bytes))
eight [] h = absurd (omega arith)
eight (a ∷ []) h = absurd (omega arith)
eight (a ∷ b ∷ []) h = absurd (omega arith)
eight (a ∷ b ∷ c ∷ []) h = absurd (omega arith)
eight (a ∷ b ∷ c ∷ d ∷ []) h = absurd (omega arith)
eight (a ∷ b ∷ c ∷ d ∷ e ∷ []) h = absurd (omega arith)
eight (a ∷ b ∷ c ∷ d ∷ e ∷ f ∷ []) h = absurd (omega arith)
eight (a ∷ b ∷ c ∷ d ∷ e ∷ f ∷ g ∷ []) h = absurd (omega arith)
eight (a ∷ b ∷ c ∷ d ∷ e ∷ f ∷ g ∷ i ∷ rest) h = refl

id_spelled : (bytes : List ℕ) → 8 ≤ length bytes → AreBytes bytes → get_or bytes 1 0 ≡ 0 → take 8 bytes ≡ writer_bytes (Some (id_of bytes))
unfolding number_at
id_spelled bytes long fits zero_byte =
    let slot : little_bytes 2 (number_at 2 2 bytes) ≡ take 2 (drop 2 bytes) = written_again 2 (drop 2 bytes) (AreBytes-drop 2 bytes fits) (omega (arith, length-drop 2 bytes)) in
    let version : little_bytes 4 (number_at 4 4 bytes) ≡ take 4 (drop 4 bytes) = written_again 4 (drop 4 bytes) (AreBytes-drop 4 bytes fits) (omega (arith, length-drop 4 bytes)) in
    eight bytes long
    ∙ ap (λ (x : ℕ). get_or bytes 0 0 ∷ x ∷ (take 2 (drop 2 bytes) ++ take 4 (drop 4 bytes))) zero_byte
    ∙ ap (λ (x : List ℕ). get_or bytes 0 0 ∷ 0 ∷ (x ++ take 4 (drop 4 bytes))) (sym slot)
    ∙ ap (λ (x : List ℕ). get_or bytes 0 0 ∷ 0 ∷ (little_bytes 2 (number_at 2 2 bytes) ++ x)) (sym version)

id_reads : (bytes : List ℕ) (at : ℕ) (id : TrxId) → AreBytes bytes → id_at bytes at ≡ Ok id → (is_writer id ≡ true) × (at + 8 ≤ length bytes) × (drop at bytes ≡ writer_bytes (Some id) ++ drop (at + 8) bytes)
unfolding id_at
id_reads bytes at id fits h =
    let cell = drop at bytes in
    let a = field_read at _ (id_of cell) id h in
    let b = and_parts (is_whole 8 bytes at) _ a.0 in
    let c = and_parts (get_or cell 1 0 == 0) (is_writer (id_of cell)) b.1 in
    let room = leb-true (at + 8) (length bytes) b.0 in
    let spelled = id_spelled cell (left at 8 bytes room) (AreBytes-drop at bytes fits) (eqb-true (get_or cell 1 0) 0 c.0) in
    (ap is_writer (sym a.1) ∙ c.1, room, split at 8 bytes (writer_bytes (Some id)) (spelled ∙ ap (λ (i : TrxId). writer_bytes (Some i)) a.1))

id_of-writer_bytes : (id : TrxId) (rest : List ℕ) → is_writer id ≡ true → id_of (writer_bytes (Some id) ++ rest) ≡ id
unfolding number_at
id_of-writer_bytes id rest h =
    let w = writer_ranges id h in
    ap (λ (slot : ℕ). record { node = id.node; slot = slot; version = number_at 4 4 (writer_bytes (Some id) ++ rest) }) (little_number-reads_back 2 id.slot (little_bytes 4 id.version ++ rest) (omega (arith, w.slot)))
    ∙ ap (λ (version : ℕ). record { node = id.node; slot = id.slot; version = version }) (little_number-reads_back 4 id.version rest (omega (arith, w.version)))

id_again : (bytes rest : List ℕ) (at : ℕ) (id : TrxId) → is_writer id ≡ true → drop at bytes ≡ writer_bytes (Some id) ++ rest → (id_at bytes at ≡ Ok id) × (drop (at + 8) bytes ≡ rest)
unfolding id_at
id_again bytes rest at id kept h =
    let room = long_enough at 8 bytes (writer_bytes (Some id)) rest h refl (omega arith) in
    let value : id_of (drop at bytes) ≡ id = ap id_of h ∙ id_of-writer_bytes id rest kept in
    let zeros : (get_or (drop at bytes) 1 0 == 0) ≡ true = ap (λ (cell : List ℕ). get_or cell 1 0 == 0) h in
    let test = and_from _ _ (le-leb (at + 8) (length bytes) room) (and_from _ _ zeros (ap is_writer value ∙ kept)) in
    (field_again at _ (id_of (drop at bytes)) id test value, behind at 8 bytes (writer_bytes (Some id)) rest h refl)

pub id_field : IsField id_at 8 (λ id. writer_bytes (Some id)) (λ id. is_writer id ≡ true)
id_field = record { reads = id_reads; again = id_again; count = λ id kept. refl }
