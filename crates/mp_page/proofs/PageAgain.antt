-- A page's spelling has no fault, and is read as the page.
use Rattle.std.proofs.Common.{◌≡◌, ℕ, suc, ◌+◌, ◌-◌, ◌*◌, ◌^◌, ◌<◌, ◌≤◌, nat_le, true, List, [], ◌∷◌, ◌++◌, length, take, drop, get_or, replicate, None, refl, sym, ap, ◌∙◌, arith}
use mathlib.Core.Bool.{false≢true}
use Rattle.std.specs.Prelude.{count_ones}
use Rattle.std.specs.List.{flat_map, AllByRecursion}
use Rattle.std.proofs.lemmas.Bool.{and_from, le-leb, lt-ltb, eqb-true, eq-eqb}
use Rattle.std.proofs.lemmas.List.{append_assoc, drop_at, take_at, drop-drop}
use Rattle.std.proofs.lemmas.List.Sums.{sum_by-cons}
use borrow.Author.Numbers.{ones_of_8}
use Rattle.mp_model.specs.Padded.{padded}
use Rattle.mp_cells.specs.declared.kinds.Kind.{Kind}
use Rattle.mp_cells.specs.declared.kinds.Kind.TheVariants.{Blank, Meta, Leaf, Inner, Undo}
use Rattle.mp_cells.specs.declared.rows.Row.{Row}
use Rattle.mp_cells.specs.declared.children.Child.{Child}
use Rattle.mp_cells.specs.Rows.{IsRow}
use Rattle.mp_cells.specs.Children.{IsChild}
use Rattle.mp_cells.specs.RowCell.{row_cell, row_of, is_row_cell}
use Rattle.mp_cells.specs.ChildCell.{child_cell, child_of, is_child_cell}
use Rattle.mp_cells.specs.PageView.{PageView, blank_page, meta_page, leaf_page, inner_page, undo_page, is_leaf, is_inner, begins_at, AreBits, HasContent, IsPage, kind_number, count_of, bits_set}
use Rattle.mp_cells.proofs.KeyOrder.{Rises-wider}
use Rattle.mp_cells.proofs.PageRanges.{leaf_ranges, inner_ranges}
use Rattle.mp_page.specs.Grammar.{page_format, page_header, page_cells, spelling, kind_numbered, read_as, page_of, is_page_count, has_fences, cell_key, cells_fault, cells_length, header_fault, body_fault, page_bytes_fault}
use Rattle.mp_page.proofs.Checks.{header_none, passed, found_none}
use Rattle.mp_page.proofs.Codecs.{AreBytes, row_codec, child_codec, keyed_none, undo_none, cells_again, length-cells}
use Rattle.mp_page.proofs.PageSpelling.{zeros_pass, HeaderReads, header_reads, body_none, kind_numbered-kind_number}

-- what is written of a page's body
pub record BodyWritten (page : PageView) : Type 0 where
  pub count_fits : count_of page < 65536
  pub low_fits : page.low < 2 ^ 64
  pub high_fits : page.high < 2 ^ 64
  pub is_counted : is_page_count page.kind (count_of page) (padded 992 0 (page_cells page)) ≡ true
  pub is_fenced : has_fences page.kind page.low page.high ≡ true
  pub cells : cells_fault page.kind (count_of page) page.low page.high (padded 992 0 (page_cells page)) ≡ None
  pub end : cells_length page.kind (count_of page) ≡ length (page_cells page)
  pub again : read_as page.kind (count_of page) page.llsn page.low page.high (padded 992 0 (page_cells page)) ≡ page

-- eight bits a byte
bits_most : (bits : List ℕ) → AreBytes bits → bits_set bits ≤ 8 * length bits
bits_most [] h = omega arith
bits_most (b ∷ bits) h =
    let fits : b < 2 ^ 8 = h 0 in
    omega (arith, sum_by-cons count_ones b bits, ones_of_8 b fits, bits_most bits (λ i. h (suc i)))

blank_written : (llsn : ℕ) → BodyWritten (blank_page llsn)
blank_written llsn = record { count_fits = omega arith; low_fits = omega arith; high_fits = omega arith; is_counted = refl; is_fenced = refl; cells = refl; end = refl; again = refl }

meta_written : (llsn : ℕ) (bits : List ℕ) → AreBits bits → BodyWritten (meta_page llsn bits)
meta_written llsn bits h =
    let front : take 512 (padded 992 0 bits) ≡ bits = take_at bits (replicate (992 - length bits) 0) 512 h.count in
    record {
      count_fits = omega (arith, bits_most bits h.bytes, h.count);
      low_fits = omega arith;
      high_fits = omega arith;
      is_counted = eq-eqb (bits_set bits) (bits_set (take 512 (padded 992 0 bits))) (ap bits_set (sym front));
      is_fenced = refl;
      cells = refl;
      end = sym h.count;
      again = ap (meta_page llsn) front;
    }

leaf_written : (llsn low high : ℕ) (rows : List Row) → is_leaf low high rows ≡ true → AllByRecursion IsRow rows → BodyWritten (leaf_page llsn low high rows)
leaf_written llsn low high rows h kept =
    let r = leaf_ranges low high rows h in
    let zeros = replicate (992 - length (flat_map row_cell rows)) 0 in
    record {
      count_fits = omega (arith, r.most);
      low_fits = omega (arith, r.low_below, r.high_most);
      high_fits = omega (arith, r.high_most);
      is_counted = le-leb (length rows) 15 r.most;
      is_fenced = r.fences;
      cells = keyed_none is_row_cell 64 row_of row_cell IsRow (λ row. row.key) row_codec low high rows 32 0 zeros kept r.rises (Rises-wider (λ (row : Row). row.key) low high 0 high rows (omega arith) (omega arith) r.rises);
      end = sym (length-cells is_row_cell 64 row_of row_cell IsRow (λ row. row.key) row_codec rows kept);
      again = ap (leaf_page llsn low high) (cells_again is_row_cell 64 row_of row_cell IsRow (λ row. row.key) row_codec rows zeros kept);
    }

undo_written : (llsn : ℕ) (rows : List Row) → length rows ≤ 15 → AllByRecursion IsRow rows → BodyWritten (undo_page llsn rows)
undo_written llsn rows most kept =
    let zeros = replicate (992 - length (flat_map row_cell rows)) 0 in
    record {
      count_fits = omega arith;
      low_fits = omega arith;
      high_fits = omega arith;
      is_counted = le-leb (length rows) 15 most;
      is_fenced = refl;
      cells = undo_none rows 32 zeros kept;
      end = sym (length-cells is_row_cell 64 row_of row_cell IsRow (λ row. row.key) row_codec rows kept);
      again = ap (undo_page llsn) (cells_again is_row_cell 64 row_of row_cell IsRow (λ row. row.key) row_codec rows zeros kept);
    }

-- the first cell of a list of children
first_cell : (low : ℕ) (children : List Child) (rest : List ℕ) → AllByRecursion IsChild children → begins_at low children ≡ true
    → (is_child_cell (flat_map child_cell children ++ rest) ≡ true) × (cell_key (flat_map child_cell children ++ rest) ≡ low) × (1 ≤ length children)
first_cell low [] rest kept h = absurd (false≢true h)
first_cell low (child ∷ children) rest kept h =
    let whole : flat_map child_cell (child ∷ children) ++ rest ≡ child_cell child ++ (flat_map child_cell children ++ rest) = append_assoc (child_cell child) (flat_map child_cell children) rest in
    let again = child_codec.again child (flat_map child_cell children ++ rest) kept.0 in
    let key : cell_key (child_cell child ++ (flat_map child_cell children ++ rest)) ≡ low = sym (child_codec.keyed (child_cell child ++ (flat_map child_cell children ++ rest))) ∙ ap (λ (c : Child). c.low) again.0 ∙ eqb-true child.low low h in
    (ap is_child_cell whole ∙ again.1, ap cell_key whole ∙ key, omega arith)

inner_written : (llsn low high : ℕ) (children : List Child) → is_inner low high children ≡ true → AllByRecursion IsChild children → BodyWritten (inner_page llsn low high children)
inner_written llsn low high children h kept =
    let r = inner_ranges low high children h in
    let zeros = replicate (992 - length (flat_map child_cell children)) 0 in
    let first = first_cell low children zeros kept r.first in
    record {
      count_fits = omega (arith, r.most);
      low_fits = omega (arith, r.low_below, r.high_most);
      high_fits = omega (arith, r.high_most);
      is_counted = and_from _ _ (le-leb 1 (length children) first.2) (le-leb (length children) 124 r.most);
      is_fenced = r.fences;
      cells = passed _ _ _ _ first.0 (passed _ _ _ _ (eq-eqb _ low first.1) (found_none _ _ (keyed_none is_child_cell 8 child_of child_cell IsChild (λ child. child.low) child_codec low high children 32 0 zeros kept r.rises (Rises-wider (λ (child : Child). child.low) low high 0 high children (omega arith) (omega arith) r.rises)) refl));
      end = sym (length-cells is_child_cell 8 child_of child_cell IsChild (λ child. child.low) child_codec children kept);
      again = ap (inner_page llsn low high) (cells_again is_child_cell 8 child_of child_cell IsChild (λ child. child.low) child_codec children zeros kept);
    }

written : (kind : Kind) (page : PageView) → HasContent kind page → BodyWritten page
written Blank page h = rw h (blank_written page.llsn)
written Meta page h = rw h.0 (meta_written page.llsn page.bits h.1)
written Leaf page h = rw h.0 (leaf_written page.llsn page.low page.high page.rows h.1 h.2)
written Inner page h = rw h.0 (inner_written page.llsn page.low page.high page.children h.1 h.2)
written Undo page h = rw h.0 (undo_written page.llsn page.rows h.1 h.2)

-- the header's first byte
kind_range : (kind : Kind) → nat_le (kind_number kind) 4 ≡ true
kind_range Blank = refl
kind_range Meta = refl
kind_range Leaf = refl
kind_range Inner = refl
kind_range Undo = refl

sound_again : (bytes : List ℕ) (page : PageView) → page.llsn < 2 ^ 62 → BodyWritten page → HeaderReads bytes (kind_number page.kind) (count_of page) page.llsn page.low page.high → drop 32 bytes ≡ padded 992 0 (page_cells page)
    → (header_fault bytes ≡ None) × (body_fault bytes ≡ None) × (page_of bytes ≡ page)
unfolding page_of
sound_again bytes page llsn w h body =
    let kind : kind_numbered (get_or bytes 0 0) ≡ page.kind = ap kind_numbered h.kind_is ∙ kind_numbered-kind_number page.kind in
    let rest : drop (32 + length (page_cells page)) bytes ≡ replicate (992 - length (page_cells page)) 0 =
    sym (drop-drop (length (page_cells page)) 32 bytes) ∙ ap (drop (length (page_cells page))) body ∙ drop_at (page_cells page) (replicate (992 - length (page_cells page)) 0) (length (page_cells page)) refl in (
      header_none bytes (record {
        kind = rw h.kind_is (kind_range page.kind);
        format = eq-eqb (get_or bytes 1 0) page_format h.format_is;
        count = rw (kind, h.count_is, body) w.is_counted;
        zeros = rw h.zeros_are (zeros_pass 4 4);
        llsn = rw h.llsn_is (lt-ltb page.llsn (2 ^ 62) llsn);
        fences = rw (kind, h.low_is, h.high_is) w.is_fenced;
      }),
      body_none bytes (record {
        cells = rw (kind, h.count_is, h.low_is, h.high_is, body) w.cells;
        rest = rw (kind, h.count_is, w.end, rest) (zeros_pass (992 - length (page_cells page)) (32 + length (page_cells page)));
      }),
      rw (kind, h.count_is, h.llsn_is, h.low_is, h.high_is, body) w.again,
    )

-- a page's spelling
pub spelling-sound : (page : PageView) → IsPage page → (page_bytes_fault (spelling page) ≡ None) × (page_of (spelling page) ≡ page)
unfolding page_bytes_fault spelling
spelling-sound page h =
    let w = written page.kind page h.content in
    let reads = header_reads (kind_number page.kind) (count_of page) page.llsn page.low page.high (padded 992 0 (page_cells page)) w.count_fits (omega (arith, h.llsn)) w.low_fits w.high_fits in
    let body = reads.body_is (padded 992 0 (page_cells page)) refl in
    let both = sound_again (page_header page ++ padded 992 0 (page_cells page)) page h.llsn w reads body in
    (found_none _ _ both.0 (found_none _ _ both.1 refl), both.2)

-- so bytes that spell a page are read as it, and have no fault
pub spelled_so : (bytes : List ℕ) (page : PageView) → IsPage page → bytes ≡ spelling page → (page_bytes_fault bytes ≡ None) × (page_of bytes ≡ page)
spelled_so bytes page h e = rw e (spelling-sound page h)
