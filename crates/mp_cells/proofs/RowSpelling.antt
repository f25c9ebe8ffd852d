-- A row's cell is read as the row, and a cell that is read as a row is the cell of that row.
use Rattle.std.proofs.Common.{◌≡◌, ℕ, ◌+◌, ◌*◌, ◌/◌, ◌%◌, ◌^◌, ◌-◌, ◌<◌, ◌≤◌, ◌||◌, Bool, true, false, cond, eqb, leb, List, [], ◌++◌, length, take, drop, get_or, replicate, Option, Some, None, refl, sym, ap, ◌∙◌, arith}
use mathlib.Core.Bool.{false≢true}
use Rattle.std.specs.Prelude.{IsTrue, IfSome}
use Rattle.std.proofs.lemmas.Bool.{and_parts, and_from, leb-true, ltb-true}
use Rattle.std.proofs.lemmas.Bool.Decides.{nat_tests}
use Rattle.std.proofs.lemmas.List.{length-append, length-replicate, take-take, take_at, drop_at, take-append-drop, append_assoc}
use Rattle.std.proofs.lemmas.Slice.Eq.{bytes_eq-Decides}
use borrow.Rule.Slice.PartMut.{put_mid}
use Rattle.byteorder.specs.Numbers.{little_number-reads_back, little_from-lt}
use Rattle.mp_model.specs.declared.ids.TrxId.{TrxId}
use Rattle.mp_model.specs.Padded.{padded}
use Rattle.mp_model.specs.Values.{is_value}
use Rattle.mp_cells.specs.declared.rows.Link.{Link}
use Rattle.mp_cells.specs.declared.rows.Row.{Row}
use Rattle.mp_cells.specs.Numbers.{number_at}
use Rattle.mp_cells.specs.Rows.{IsRow, is_origin, is_writer, is_link}
use Rattle.mp_cells.specs.RowCell.{row_cell, row_head, value_bytes, tail_bytes, row_of, value_of, writer_of, link_of, is_row_cell}

-- the ranges of a writer's id
pub record WriterRanges (id : TrxId) : Type 0 where
  pub node_least : 1 ≤ id.node
  pub node_most : id.node ≤ 8
  pub slot : id.slot < 8192
  pub version_least : 1 ≤ id.version
  pub version : id.version < 2 ^ 24

pub writer_ranges : (id : TrxId) → is_writer id ≡ true → WriterRanges id
writer_ranges id h =
    let a = and_parts _ _ h in
    let b = and_parts _ _ a.0 in
    let c = and_parts _ _ b.0 in
    let d = and_parts _ _ c.0 in
    record { node_least = leb-true _ _ d.0; node_most = leb-true _ _ d.1; slot = ltb-true _ _ c.1; version_least = leb-true _ _ b.1; version = ltb-true _ _ a.1 }

-- the ranges of a link
pub record LinkRanges (link : Link) : Type 0 where
  pub page_least : 2 ≤ link.page
  pub page : link.page < 4096
  pub index : link.index < 15

pub link_ranges : (link : Link) → is_link link ≡ true → LinkRanges link
link_ranges link h =
    let a = and_parts _ _ h in
    let b = and_parts _ _ a.0 in
    record { page_least = leb-true _ _ b.0; page = ltb-true _ _ b.1; index = ltb-true _ _ a.1 }

-- a value has at most 32 bytes
pub value_most : (value : List ℕ) → is_value value ≡ true → length value ≤ 32
value_most value h = leb-true _ _ (and_parts _ _ (and_parts _ _ h).0).1

-- what each field is read as, from its bytes
value_none : (cell : List ℕ) → get_or cell 5 0 ≡ 0 → value_of cell ≡ None
value_none cell e = rw e refl

value_some : (cell value : List ℕ) → take (get_or cell 5 0) (take 32 (drop 24 cell)) ≡ value → is_value value ≡ true → value_of cell ≡ Some value
value_some cell value e h = rw (e, h) refl

writer_none : (cell : List ℕ) → get_or cell 8 0 ≡ 0 → writer_of cell ≡ None
writer_none cell e = rw e refl

writer_some : (cell : List ℕ) (id : TrxId) → get_or cell 8 0 ≡ id.node → number_at 10 2 cell ≡ id.slot → number_at 12 4 cell ≡ id.version → 1 ≤ id.node → writer_of cell ≡ Some id
writer_some cell id node slot version least =
    let some : eqb id.node 0 ≡ false = grind (arith, nat_tests) in
    rw (node, slot, version, some) refl

link_none : (cell : List ℕ) → number_at 16 4 cell ≡ 0 → link_of cell ≡ None
link_none cell e = rw e refl

link_word : (word : ℕ) (link : Link) → word ≡ 16 * link.page + link.index → LinkRanges link → cond (eqb word 0 || leb 65536 word) None (Some (record { page = word / 16; index = word % 16 })) ≡ Some link
link_word word link e h =
    let index : link.index < 15 = h.index in
    let some : eqb word 0 ≡ false = grind (arith, nat_tests, h.page_least) in
    let fits : leb 65536 word ≡ false = grind (arith, nat_tests, h.page, h.index) in
    let page : word / 16 ≡ link.page = omega (arith, h.index) in
    let rest : word % 16 ≡ link.index = omega (arith, h.index) in
    rw (some, fits, page, rest) refl

link_some : (cell : List ℕ) (link : Link) → number_at 16 4 cell ≡ 16 * link.page + link.index → LinkRanges link → link_of cell ≡ Some link
link_some cell link e h = link_word (number_at 16 4 cell) link e h

-- the value stands in front of its field
value_front : (value tail rest : List ℕ) → length value ≤ 32 → take (length value) (take 32 ((padded 32 0 value ++ tail) ++ rest)) ≡ value
value_front value tail rest le =
    take-take (length value) 32 ((padded 32 0 value ++ tail) ++ rest) le
    ∙ ap (take (length value)) (append_assoc (padded 32 0 value) tail rest ∙ append_assoc value (replicate (32 - length value) 0) (tail ++ rest))
    ∙ take_at value (replicate (32 - length value) 0 ++ (tail ++ rest)) (length value) refl

-- so a row, by its fields
row_of_is : (cell : List ℕ) (row : Row) → number_at 0 4 cell ≡ row.key → value_of cell ≡ row.value → writer_of cell ≡ row.writer → link_of cell ≡ row.link → row_of cell ≡ row
unfolding row_of
row_of_is cell row k v w l =
    ap (λ (key : ℕ). record { key = key; value = value_of cell; writer = writer_of cell; link = link_of cell }) k
    ∙ ap (λ (value : Option (List ℕ)). record { key = row.key; value = value; writer = writer_of cell; link = link_of cell }) v
    ∙ ap (λ (writer : Option TrxId). record { key = row.key; value = row.value; writer = writer; link = link_of cell }) w
    ∙ ap (λ (link : Option Link). record { key = row.key; value = row.value; writer = row.writer; link = link }) l

-- a row's cell is read as the row
again : (key : ℕ) (value : Option (List ℕ)) (writer : Option TrxId) (link : Option Link) (rest : List ℕ) → key < 2 ^ 32 → IfSome value (λ v. IsTrue (is_value v)) → IsTrue (is_origin writer link)
    → row_of (row_cell (record { key = key; value = value; writer = writer; link = link }) ++ rest) ≡ record { key = key; value = value; writer = writer; link = link }
unfolding row_cell row_head number_at
again key None None None rest k v o =
    let row : Row = record { key = key; value = None; writer = None; link = None } in
    let cell = row_cell row ++ rest in
    row_of_is cell row (little_number-reads_back 4 key [] k) (value_none cell refl) (writer_none cell refl) (link_none cell refl)
again key None (Some id) (Some link) rest k v o =
    let row : Row = record { key = key; value = None; writer = Some id; link = Some link } in
    let cell = row_cell row ++ rest in
    let both = and_parts _ _ o in
    let w = writer_ranges id both.0 in
    let l = link_ranges link both.1 in
    row_of_is cell row (little_number-reads_back 4 key [] k) (value_none cell refl)
    (writer_some cell id refl (little_number-reads_back 2 id.slot [] (omega (arith, w.slot))) (little_number-reads_back 4 id.version [] (omega (arith, w.version))) w.node_least)
    (link_some cell link (little_number-reads_back 4 (16 * link.page + link.index) [] (omega (arith, l.page, l.index))) l)
again key (Some value) None None rest k v o =
    let row : Row = record { key = key; value = Some value; writer = None; link = None } in
    let cell = row_cell row ++ rest in
    row_of_is cell row (little_number-reads_back 4 key [] k) (value_some cell value (value_front value tail_bytes rest (value_most value v)) v) (writer_none cell refl) (link_none cell refl)
again key (Some value) (Some id) (Some link) rest k v o =
    let row : Row = record { key = key; value = Some value; writer = Some id; link = Some link } in
    let cell = row_cell row ++ rest in
    let both = and_parts _ _ o in
    let w = writer_ranges id both.0 in
    let l = link_ranges link both.1 in
    row_of_is cell row (little_number-reads_back 4 key [] k) (value_some cell value (value_front value tail_bytes rest (value_most value v)) v)
    (writer_some cell id refl (little_number-reads_back 2 id.slot [] (omega (arith, w.slot))) (little_number-reads_back 4 id.version [] (omega (arith, w.version))) w.node_least)
    (link_some cell link (little_number-reads_back 4 (16 * link.page + link.index) [] (omega (arith, l.page, l.index))) l)
again key value (Some id) None rest k v o = absurd (false≢true o)
again key value None (Some link) rest k v o = absurd (false≢true o)

pub row_of-row_cell : (row : Row) (rest : List ℕ) → IsRow row → row_of (row_cell row ++ rest) ≡ row
row_of-row_cell row rest h = again row.key row.value row.writer row.link rest h.key h.value h.origin

-- a cell has 64 bytes
length-row_head : (key : ℕ) (value : Option (List ℕ)) (writer : Option TrxId) (link : Option Link) → length (row_head (record { key = key; value = value; writer = writer; link = link })) ≡ 24
unfolding row_head
length-row_head key None None None = refl
length-row_head key None None (Some link) = refl
length-row_head key None (Some id) None = refl
length-row_head key None (Some id) (Some link) = refl
length-row_head key (Some value) None None = refl
length-row_head key (Some value) None (Some link) = refl
length-row_head key (Some value) (Some id) None = refl
length-row_head key (Some value) (Some id) (Some link) = refl

length-value_bytes : (value : Option (List ℕ)) → IfSome value (λ v. length v ≤ 32) → length (value_bytes value) ≡ 32
length-value_bytes None h = refl
length-value_bytes (Some value) h = omega (arith, length-append value (replicate (32 - length value) 0), length-replicate {A = ℕ} (32 - length value) 0)

pub length-row_cell : (row : Row) → IfSome row.value (λ v. length v ≤ 32) → length (row_cell row) ≡ 64
unfolding row_cell
length-row_cell row h =
    let tail : length tail_bytes ≡ 8 = refl in
    omega (arith, length-append (row_head row) (value_bytes row.value ++ tail_bytes), length-append (value_bytes row.value) tail_bytes, length-row_head row.key row.value row.writer row.link, length-value_bytes row.value h)

-- the values of rows are short enough
pub values_fit : (value : Option (List ℕ)) → IfSome value (λ v. IsTrue (is_value v)) → IfSome value (λ v. length v ≤ 32)
values_fit None h = tt
values_fit (Some value) h = value_most value h

-- what is read as a value is one
read_value : (b : Bool) (value : List ℕ) → is_value value ≡ b → IfSome (cond b (Some value) None) (λ v. IsTrue (is_value v))
read_value true value e = e
read_value false value e = tt

-- a cell that is read as a row is the cell of that row
pub row_cell-row_of : (bytes : List ℕ) → ((i : ℕ) → get_or bytes i 0 < 256) → is_row_cell bytes ≡ true → IsRow (row_of bytes) × (take 64 bytes ≡ row_cell (row_of bytes))
unfolding is_row_cell row_of number_at
row_cell-row_of bytes fits h =
    let parts = and_parts _ _ h in (
      record {
        key = little_from-lt 0 4 bytes fits;
        value = read_value _ (take (get_or bytes 5 0) (take 32 (drop 24 bytes))) refl;
        origin = parts.0;
      },
      (bytes_eq-Decides _ _).0 parts.1,
    )

-- and a row's cell is read as one
pub is_row_cell-row_cell : (row : Row) (rest : List ℕ) → IsRow row → is_row_cell (row_cell row ++ rest) ≡ true
unfolding is_row_cell row_of
is_row_cell-row_cell row rest h =
    let read = row_of-row_cell row rest h in
    let count = length-row_cell row (values_fit row.value h.value) in
    let origin : is_origin (writer_of (row_cell row ++ rest)) (link_of (row_cell row ++ rest)) ≡ true = fields (row_cell row ++ rest) row read ∙ h.origin in
    let front : take 64 (row_cell row ++ rest) ≡ row_cell (row_of (row_cell row ++ rest)) = take_at (row_cell row) rest 64 count ∙ ap row_cell (sym read) in
    and_from _ _ origin ((bytes_eq-Decides _ _).1 front)
  where
    fields : (cell : List ℕ) (r : Row) → row_of cell ≡ r → is_origin (writer_of cell) (link_of cell) ≡ is_origin r.writer r.link
    fields cell r e = ap (λ (x : Row). is_origin x.writer x.link) e

-- a cell is written in three parts
pub cell_parts : (row : Row) (head value : List ℕ) → length head ≡ 24 → length value ≡ 32 → head ≡ row_head row → value ≡ value_bytes row.value → put_mid 24 32 (head ++ replicate 40 0) value ≡ row_cell row
unfolding row_cell
cell_parts row head value h v is_head is_value =
    let front : take 24 (head ++ replicate 40 0) ≡ head = take_at head (replicate 40 0) 24 h in
    let back : drop 24 (head ++ replicate 40 0) ≡ replicate 40 0 = drop_at head (replicate 40 0) 24 h in
    rw (front, back, is_head, is_value) refl

pub cell_whole : (head value : List ℕ) → length head ≡ 24 → length value ≡ 32 → length (put_mid 24 32 (head ++ replicate 40 0) value) ≡ 64
cell_whole head value h v =
    let front : take 24 (head ++ replicate 40 0) ≡ head = take_at head (replicate 40 0) 24 h in
    let back : drop 24 (head ++ replicate 40 0) ≡ replicate 40 0 = drop_at head (replicate 40 0) 24 h in
    let tail : length (replicate {A = ℕ} 8 0) ≡ 8 = refl in
    rw (front, back) (omega (arith, length-append head (value ++ replicate 8 0), length-append value (replicate 8 0)))

-- what read_row answers, for a test and its outcome
pub found : (bytes : List ℕ) → ((i : ℕ) → get_or bytes i 0 < 256) → is_row_cell bytes ≡ true → (row : Row) → row ≡ row_of bytes → IsRow row × (take 64 bytes ≡ row_cell row)
found bytes fits h row e = rw e (row_cell-row_of bytes fits h)

pub reads_only : (bytes : List ℕ) (row : Row) → IsRow row → take 64 bytes ≡ row_cell row → (row_of bytes ≡ row) × (is_row_cell bytes ≡ true)
reads_only bytes row h spelled =
    let whole : bytes ≡ row_cell row ++ drop 64 bytes = sym (take-append-drop 64 bytes) ∙ ap (λ (front : List ℕ). front ++ drop 64 bytes) spelled in
    (ap row_of whole ∙ row_of-row_cell row (drop 64 bytes) h, ap is_row_cell whole ∙ is_row_cell-row_cell row (drop 64 bytes) h)
