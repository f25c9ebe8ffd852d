-- Bytes without a fault are the spelling of the page that they are read as, and a page's spelling has no fault and is
-- read as the page.
use Rattle.std.proofs.Common.{◌≡◌, ℕ, zero, suc, ◌+◌, ◌-◌, ◌^◌, ◌<◌, ◌≤◌, ◌==◌, ◌&&◌, nat_le, Bool, true, false, cond, List, [], ◌∷◌, ◌++◌, length, take, drop, get_or, replicate, Some, None, refl, sym, ap, ◌∙◌, inl, inr, arith}
use Rattle.std.proofs.lemmas.Bool.{and_parts, and_from, leb-true, le-leb, ltb-true, eqb-true, eq-eqb, cases_lt}
use Rattle.std.proofs.lemmas.List.{length-take, length-take-le, length-drop, drop-drop, take-append-drop, get_or-take, get_or_past}
use Rattle.std.proofs.Math.Seq.{take-add}
use Rattle.byteorder.specs.Endian.{little_bytes}
use Rattle.byteorder.specs.Numbers.{little_number-reads_back}
use Rattle.mp_model.specs.Padded.{padded}
use Rattle.mp_cells.specs.declared.kinds.Kind.{Kind}
use Rattle.mp_cells.specs.declared.kinds.Kind.TheVariants.{Blank, Meta, Leaf, Inner, Undo}
use Rattle.mp_cells.specs.declared.faults.Fault.TheVariants as faults
use Rattle.mp_cells.specs.declared.rows.Row.{Row}
use Rattle.mp_cells.specs.declared.children.Child.{Child}
use Rattle.mp_cells.specs.Numbers.{number_at}
use Rattle.mp_cells.specs.Rows.{IsRow}
use Rattle.mp_cells.specs.Children.{IsChild}
use Rattle.mp_cells.specs.RowCell.{row_cell, row_of, is_row_cell}
use Rattle.mp_cells.specs.ChildCell.{child_cell, child_of, is_child_cell}
use Rattle.mp_cells.specs.PageView.{PageView, begins_at, HasContent, IsPage, kind_number, count_of, bits_set}
use Rattle.mp_cells.proofs.NumberBytes.{written_again}
use Rattle.mp_cells.proofs.KeyOrder.{test-from_Rises}
use Rattle.mp_page.specs.Grammar.{page_format, header_bytes, page_header, page_cells, spelling, kind_numbered, read_as, page_of, padding_fault, is_page_count, has_fences, cell_key, keyed_fault, cells_fault, cells_length, header_fault, body_fault, page_bytes_fault, unless, rows_of, children_of}
use Rattle.mp_page.proofs.Checks.{HeaderSound, header_sound, cells_end, passes, finds_none, found_none}
use Rattle.mp_page.proofs.Codecs.{AreBytes, AreBytes-drop, row_codec, child_codec, keyed_sound, undo_sound}

-- bytes without a padding fault are zeros
pub are_zeros : (place : ℕ) (bytes : List ℕ) → padding_fault place bytes ≡ None → bytes ≡ replicate (length bytes) 0
are_zeros place [] h = refl
are_zeros place (byte ∷ bytes) h = split (byte == 0) refl h (λ rest. are_zeros (place + 1) bytes rest)
  where
    split : (test : Bool) → (byte == 0) ≡ test → cond test (padding_fault (place + 1) bytes) (Some (record { fault = faults.Padding; offset = place })) ≡ None → (padding_fault (place + 1) bytes ≡ None → bytes ≡ replicate (length bytes) 0) → byte ∷ bytes ≡ 0 ∷ replicate (length bytes) 0
    split true e h later = rw (eqb-true byte 0 e) (ap (λ (rest : List ℕ). 0 ∷ rest) (later h))
    split false e h later = absurd cc

pub zeros_pass : (n place : ℕ) → padding_fault place (replicate n 0) ≡ None
zeros_pass zero place = refl
zeros_pass (suc n) place = zeros_pass n (place + 1)

-- ---- the header

number_again : (place width : ℕ) (bytes : List ℕ) → place + width ≤ length bytes → AreBytes bytes → little_bytes width (number_at place width bytes) ≡ take width (drop place bytes)
unfolding number_at
number_again place width bytes long fits = written_again width (drop place bytes) (AreBytes-drop place bytes fits) (omega (arith, length-drop place bytes))

-- 32 bytes, field by field
fields : (bytes : List ℕ) → 32 ≤ length bytes → take 32 bytes ≡ get_or bytes 0 0 ∷ get_or bytes 1 0 ∷ (take 2 (drop 2 bytes) ++ (take 4 (drop 4 bytes) ++ (take 8 (drop 8 bytes) ++ (take 8 (drop 16 bytes) ++ take 8 (drop 24 bytes)))))
fields [] h = absurd (omega arith)
fields (a ∷ []) h = absurd (omega arith)
fields (a ∷ b ∷ bytes) h =
    let tail : take 30 bytes ≡ take 2 bytes ++ (take 4 (drop 2 bytes) ++ (take 8 (drop 6 bytes) ++ (take 8 (drop 14 bytes) ++ take 8 (drop 22 bytes)))) =
    take-add 2 28 bytes ∙ ap (λ (x : List ℕ). take 2 bytes ++ x) (take-add 4 24 (drop 2 bytes)
    ∙ ap (λ (x : List ℕ). take 4 (drop 2 bytes) ++ x) (ap (take 24) (drop-drop 4 2 bytes) ∙ take-add 8 16 (drop 6 bytes)
    ∙ ap (λ (x : List ℕ). take 8 (drop 6 bytes) ++ x) (ap (take 16) (drop-drop 8 6 bytes) ∙ take-add 8 8 (drop 14 bytes)
    ∙ ap (λ (x : List ℕ). take 8 (drop 14 bytes) ++ x) (ap (take 8) (drop-drop 8 14 bytes))))) in
    ap (λ (x : List ℕ). a ∷ b ∷ x) tail

header_again : (bytes : List ℕ) → length bytes ≡ 1024 → AreBytes bytes → (get_or bytes 1 0 == page_format) ≡ true → padding_fault 4 (take 4 (drop 4 bytes)) ≡ None
    → take 32 bytes ≡ header_bytes (get_or bytes 0 0) (number_at 2 2 bytes) (number_at 8 8 bytes) (number_at 16 8 bytes) (number_at 24 8 bytes)
unfolding header_bytes
header_again bytes long fits format zeros =
    let f : get_or bytes 1 0 ≡ page_format = eqb-true (get_or bytes 1 0) page_format format in
    let four : length (take 4 (drop 4 bytes)) ≡ 4 = length-take-le 4 (drop 4 bytes) (omega (arith, length-drop 4 bytes)) in
    let z : take 4 (drop 4 bytes) ≡ replicate 4 0 = are_zeros 4 (take 4 (drop 4 bytes)) zeros ∙ ap (λ (n : ℕ). replicate n 0) four in
    let count = number_again 2 2 bytes (omega arith) fits in
    let llsn = number_again 8 8 bytes (omega arith) fits in
    let low = number_again 16 8 bytes (omega arith) fits in
    let high = number_again 24 8 bytes (omega arith) fits in
    fields bytes (omega arith)
    ∙ ap (λ (x : ℕ). get_or bytes 0 0 ∷ x ∷ (take 2 (drop 2 bytes) ++ (take 4 (drop 4 bytes) ++ (take 8 (drop 8 bytes) ++ (take 8 (drop 16 bytes) ++ take 8 (drop 24 bytes)))))) f
    ∙ ap (λ (x : List ℕ). get_or bytes 0 0 ∷ page_format ∷ (x ++ (take 4 (drop 4 bytes) ++ (take 8 (drop 8 bytes) ++ (take 8 (drop 16 bytes) ++ take 8 (drop 24 bytes)))))) (sym count)
    ∙ ap (λ (x : List ℕ). get_or bytes 0 0 ∷ page_format ∷ (little_bytes 2 (number_at 2 2 bytes) ++ (x ++ (take 8 (drop 8 bytes) ++ (take 8 (drop 16 bytes) ++ take 8 (drop 24 bytes)))))) z
    ∙ ap (λ (x : List ℕ). get_or bytes 0 0 ∷ page_format ∷ (little_bytes 2 (number_at 2 2 bytes) ++ (replicate 4 0 ++ (x ++ (take 8 (drop 16 bytes) ++ take 8 (drop 24 bytes)))))) (sym llsn)
    ∙ ap (λ (x : List ℕ). get_or bytes 0 0 ∷ page_format ∷ (little_bytes 2 (number_at 2 2 bytes) ++ (replicate 4 0 ++ (little_bytes 8 (number_at 8 8 bytes) ++ (x ++ take 8 (drop 24 bytes)))))) (sym low)
    ∙ ap (λ (x : List ℕ). get_or bytes 0 0 ∷ page_format ∷ (little_bytes 2 (number_at 2 2 bytes) ++ (replicate 4 0 ++ (little_bytes 8 (number_at 8 8 bytes) ++ (little_bytes 8 (number_at 16 8 bytes) ++ x))))) (sym high)

-- what a header is read as
pub record HeaderReads (bytes : List ℕ) (kind count llsn low high : ℕ) : Type 0 where
  pub kind_is : get_or bytes 0 0 ≡ kind
  pub format_is : get_or bytes 1 0 ≡ page_format
  pub count_is : number_at 2 2 bytes ≡ count
  pub zeros_are : take 4 (drop 4 bytes) ≡ replicate 4 0
  pub llsn_is : number_at 8 8 bytes ≡ llsn
  pub low_is : number_at 16 8 bytes ≡ low
  pub high_is : number_at 24 8 bytes ≡ high
  pub body_is : (body : List ℕ) → bytes ≡ header_bytes kind count llsn low high ++ body → drop 32 bytes ≡ body

pub header_reads : (kind count llsn low high : ℕ) (body : List ℕ) → count < 65536 → llsn < 2 ^ 64 → low < 2 ^ 64 → high < 2 ^ 64 → HeaderReads (header_bytes kind count llsn low high ++ body) kind count llsn low high
unfolding header_bytes number_at
header_reads kind count llsn low high body c n l h = record {
  kind_is = refl;
  format_is = refl;
  count_is = little_number-reads_back 2 count [] c;
  zeros_are = refl;
  llsn_is = little_number-reads_back 8 llsn [] n;
  low_is = little_number-reads_back 8 low [] l;
  high_is = little_number-reads_back 8 high [] h;
  body_is = λ other e. ap (drop 32) e;
}

pub length-header : (kind count llsn low high : ℕ) → length (header_bytes kind count llsn low high) ≡ 32
unfolding header_bytes
length-header kind count llsn low high = refl

-- ---- the body, by kind

-- what a body without a fault is
pub record BodyReads (kind : Kind) (count llsn low high : ℕ) (body : List ℕ) (page : PageView) : Type 0 where
  pub kind_is : page.kind ≡ kind
  pub count_is : count_of page ≡ count
  pub llsn_is : page.llsn ≡ llsn
  pub low_is : page.low ≡ low
  pub high_is : page.high ≡ high
  pub cells : take (cells_length kind count) body ≡ page_cells page
  pub content : HasContent page.kind page

-- fences of zeros
no_fences : (low high : ℕ) → (low == 0 && high == 0) ≡ true → (low ≡ 0) × (high ≡ 0)
no_fences low high h = let p = and_parts (low == 0) (high == 0) h in (eqb-true low 0 p.0, eqb-true high 0 p.1)

AreBytes-take : (n : ℕ) (bytes : List ℕ) → AreBytes bytes → AreBytes (take n bytes)
AreBytes-take n bytes h i =
    elim (cases_lt i n) [
      | inl lt ↦ rw (get_or-take n bytes i 0 lt) (h i)
      | inr le ↦ rw (get_or_past (take n bytes) i 0 (omega (arith, length-take n bytes))) (omega arith)
    ]

-- the first child of an inner page has its low fence
first_child : (count low : ℕ) (body : List ℕ) → 1 ≤ count → cell_key body ≡ low → begins_at low (children_of count body) ≡ true
first_child zero low body h e = absurd (omega arith)
first_child (suc n) low body h e = eq-eqb _ low (child_codec.keyed body ∙ e)

body_reads : (kind : Kind) (count llsn low high : ℕ) (body : List ℕ) → length body ≡ 992 → AreBytes body → is_page_count kind count body ≡ true → has_fences kind low high ≡ true → cells_fault kind count low high body ≡ None
    → BodyReads kind count llsn low high body (read_as kind count llsn low high body)
body_reads Blank count llsn low high body long fits is_page_count fences cells =
    let no = no_fences low high fences in
    record { kind_is = refl; count_is = sym (eqb-true count 0 is_page_count); llsn_is = refl; low_is = sym no.0; high_is = sym no.1; cells = refl; content = refl }
body_reads Meta count llsn low high body long fits is_page_count fences cells =
    let no = no_fences low high fences in
    record {
      kind_is = refl;
      count_is = sym (eqb-true count (bits_set (take 512 body)) is_page_count);
      llsn_is = refl;
      low_is = sym no.0;
      high_is = sym no.1;
      cells = refl;
      content = (refl, record { count = length-take-le 512 body (omega arith); bytes = AreBytes-take 512 body fits });
    }
body_reads Leaf count llsn low high body long fits is_page_count fences cells =
    let most = leb-true count 15 is_page_count in
    let s = keyed_sound is_row_cell 64 row_of row_cell IsRow (λ row. row.key) row_codec low high count 32 0 body (omega arith) fits cells in
    let at_most : nat_le (length (rows_of count body)) 15 ≡ true = le-leb _ 15 (omega (arith, s.0.count)) in
    record {
      kind_is = refl;
      count_is = s.0.count;
      llsn_is = refl;
      low_is = refl;
      high_is = refl;
      cells = s.0.spelled;
      content = (refl, and_from _ _ (and_from _ _ fences at_most) (test-from_Rises (λ (row : Row). row.key) low high (rows_of count body) s.2), s.0.kept);
    }
body_reads Inner count llsn low high body long fits is_page_count fences cells =
    let range = and_parts (nat_le 1 count) (nat_le count 124) is_page_count in
    let least = leb-true 1 count range.0 in
    let most = leb-true count 124 range.1 in
    let a = passes (is_child_cell body) faults.Cell 32 (unless (cell_key body == low) faults.Fence 32 ∷ keyed_fault is_child_cell 8 low high count 32 0 body ∷ []) cells in
    let b = passes (cell_key body == low) faults.Fence 32 (keyed_fault is_child_cell 8 low high count 32 0 body ∷ []) a.1 in
    let c = finds_none (keyed_fault is_child_cell 8 low high count 32 0 body) [] b.1 in
    let s = keyed_sound is_child_cell 8 child_of child_cell IsChild (λ child. child.low) child_codec low high count 32 0 body (omega arith) fits c.0 in
    let first = first_child count low body least (eqb-true (cell_key body) low b.0) in
    let at_most : nat_le (length (children_of count body)) 124 ≡ true = le-leb _ 124 (omega (arith, s.0.count)) in
    record {
      kind_is = refl;
      count_is = s.0.count;
      llsn_is = refl;
      low_is = refl;
      high_is = refl;
      cells = s.0.spelled;
      content = (refl, and_from _ _ (and_from _ _ (and_from _ _ fences first) at_most) (test-from_Rises (λ (child : Child). child.low) low high (children_of count body) s.2), s.0.kept);
    }
body_reads Undo count llsn low high body long fits is_page_count fences cells =
    let most = leb-true count 15 is_page_count in
    let no = no_fences low high fences in
    let s = undo_sound count 32 body (omega arith) fits cells in
    record {
      kind_is = refl;
      count_is = s.count;
      llsn_is = refl;
      low_is = sym no.0;
      high_is = sym no.1;
      cells = s.spelled;
      content = (refl, omega (arith, s.count), s.kept);
    }

-- ---- both ways

kind_number-kind_numbered : (n : ℕ) → n ≤ 4 → kind_number (kind_numbered n) ≡ n
kind_number-kind_numbered zero h = refl
kind_number-kind_numbered (suc zero) h = refl
kind_number-kind_numbered (suc (suc zero)) h = refl
kind_number-kind_numbered (suc (suc (suc zero))) h = refl
kind_number-kind_numbered (suc (suc (suc (suc zero)))) h = refl
kind_number-kind_numbered (suc (suc (suc (suc (suc n))))) h = absurd (omega arith)

pub kind_numbered-kind_number : (kind : Kind) → kind_numbered (kind_number kind) ≡ kind
kind_numbered-kind_number Blank = refl
kind_numbered-kind_number Meta = refl
kind_numbered-kind_number Leaf = refl
kind_numbered-kind_number Inner = refl
kind_numbered-kind_number Undo = refl

-- where the cells end, the rest are zeros
pub record BodySound (bytes : List ℕ) : Type 0 where
  pub cells : cells_fault (kind_numbered (get_or bytes 0 0)) (number_at 2 2 bytes) (number_at 16 8 bytes) (number_at 24 8 bytes) (drop 32 bytes) ≡ None
  pub rest : padding_fault (32 + cells_length (kind_numbered (get_or bytes 0 0)) (number_at 2 2 bytes)) (drop (32 + cells_length (kind_numbered (get_or bytes 0 0)) (number_at 2 2 bytes)) bytes) ≡ None

body_sound : (bytes : List ℕ) → body_fault bytes ≡ None → BodySound bytes
unfolding body_fault
body_sound bytes h =
    let a = finds_none (cells_fault (kind_numbered (get_or bytes 0 0)) (number_at 2 2 bytes) (number_at 16 8 bytes) (number_at 24 8 bytes) (drop 32 bytes)) _ h in
    let b = finds_none (padding_fault (32 + cells_length (kind_numbered (get_or bytes 0 0)) (number_at 2 2 bytes)) (drop (32 + cells_length (kind_numbered (get_or bytes 0 0)) (number_at 2 2 bytes)) bytes)) [] a.1 in
    record { cells = a.0; rest = b.0 }

pub body_none : (bytes : List ℕ) → BodySound bytes → body_fault bytes ≡ None
unfolding body_fault
body_none bytes h = found_none _ _ h.cells (found_none _ _ h.rest refl)

pub faults_none : (bytes : List ℕ) → page_bytes_fault bytes ≡ None → HeaderSound bytes × BodySound bytes
unfolding page_bytes_fault
faults_none bytes h =
    let a = finds_none (header_fault bytes) (body_fault bytes ∷ []) h in
    let b = finds_none (body_fault bytes) [] a.1 in
    (header_sound bytes a.0, body_sound bytes b.0)

-- bytes of such a header and body are the spelling of the page
spelled : (bytes : List ℕ) (page : PageView) → take 32 bytes ≡ page_header page → drop 32 bytes ≡ padded 992 0 (page_cells page) → bytes ≡ spelling page
unfolding spelling
spelled bytes page front back =
    sym (take-append-drop 32 bytes) ∙ ap (λ (x : List ℕ). x ++ drop 32 bytes) front ∙ ap (λ (x : List ℕ). page_header page ++ x) back

body_spelled : (body cells : List ℕ) (end place : ℕ) → length body ≡ 992 → end ≤ 992 → take end body ≡ cells → padding_fault place (drop end body) ≡ None → body ≡ padded 992 0 cells
body_spelled body cells end place size within front rest =
    let count : length cells ≡ end = ap length (sym front) ∙ length-take-le end body (omega arith) in
    let left : length (drop end body) ≡ 992 - length cells = omega (arith, length-drop end body) in
    let tail : drop end body ≡ replicate (992 - length cells) 0 = are_zeros place (drop end body) rest ∙ ap (λ (n : ℕ). replicate n 0) left in
    sym (take-append-drop end body) ∙ ap (λ (x : List ℕ). x ++ drop end body) front ∙ ap (λ (x : List ℕ). cells ++ x) tail

page_sound : (bytes : List ℕ) (page : PageView) → length bytes ≡ 1024 → AreBytes bytes → HeaderSound bytes → BodySound bytes
    → BodyReads (kind_numbered (get_or bytes 0 0)) (number_at 2 2 bytes) (number_at 8 8 bytes) (number_at 16 8 bytes) (number_at 24 8 bytes) (drop 32 bytes) page
    → IsPage page × (bytes ≡ spelling page)
page_sound bytes page long fits header body reads =
    let end = cells_length (kind_numbered (get_or bytes 0 0)) (number_at 2 2 bytes) in
    let size : length (drop 32 bytes) ≡ 992 = omega (arith, length-drop 32 bytes) in
    let within = cells_end (kind_numbered (get_or bytes 0 0)) (number_at 2 2 bytes) (drop 32 bytes) header.count in
    let number : kind_number page.kind ≡ get_or bytes 0 0 = ap kind_number reads.kind_is ∙ kind_number-kind_numbered (get_or bytes 0 0) (leb-true (get_or bytes 0 0) 4 header.kind) in
    let front : take 32 bytes ≡ page_header page = header_again bytes long fits header.format header.zeros ∙ rw (number, reads.count_is, reads.llsn_is, reads.low_is, reads.high_is) refl in
    let rest : padding_fault (32 + end) (drop end (drop 32 bytes)) ≡ None = ap (padding_fault (32 + end)) (drop-drop end 32 bytes) ∙ body.rest in
    let back = body_spelled (drop 32 bytes) (page_cells page) end (32 + end) size within reads.cells rest in
    (record { llsn = rw reads.llsn_is (ltb-true (number_at 8 8 bytes) (2 ^ 62) header.llsn); content = reads.content }, spelled bytes page front back)

-- bytes without a fault are read as a page, and are its spelling
pub page_of-sound : (bytes : List ℕ) → length bytes ≡ 1024 → AreBytes bytes → page_bytes_fault bytes ≡ None → IsPage (page_of bytes) × (bytes ≡ spelling (page_of bytes))
unfolding page_of
page_of-sound bytes long fits h =
    let sound = faults_none bytes h in
    let size : length (drop 32 bytes) ≡ 992 = omega (arith, length-drop 32 bytes) in
    page_sound bytes (page_of bytes) long fits sound.0 sound.1
    (body_reads (kind_numbered (get_or bytes 0 0)) (number_at 2 2 bytes) (number_at 8 8 bytes) (number_at 16 8 bytes) (number_at 24 8 bytes) (drop 32 bytes) size (AreBytes-drop 32 bytes fits) sound.0.count sound.0.fences sound.1.cells)
