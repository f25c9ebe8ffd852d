-- Settling page by page.
use Rattle.std.proofs.Common.{◌≡◌, ◌≢◌, ℕ, zero, suc, ◌+◌, ◌<◌, ◌≤◌, ◌==◌, Bool, true, false, cond, IsTrue, List, [], ◌∷◌, length, Option, Some, None, refl, sym, ap, subst, ◌∙◌, inl, inr, arith}
use Rattle.std.specs.Prelude.{nat_lt, not, filter, ◌++◌, take, get_or, slice_get}
use Rattle.std.proofs.lemmas.Bool.{cases_Bool, cases_lt, cases_eq, lt-ltb, le-ltb, eqb-true}
use Rattle.std.proofs.lemmas.List.{length-map, length-append, length-take-le, map-append, take_more}
use Rattle.std.proofs.lemmas.List.Elements.{filter_more}
use Rattle.std.proofs.lemmas.Option.{slice_get_past, slice_get_within, get_or_from_slice_get}
use Rattle.mp_model.specs.declared.ids.TrxId.{TrxId}
use Rattle.mp_cells.specs.declared.kinds.Kind.{Kind}
use Rattle.mp_cells.specs.declared.kinds.Kind.TheVariants.{Blank, Meta, Leaf, Inner, Undo}
use Rattle.mp_cells.specs.declared.rows.Row.{Row}
use Rattle.mp_cells.specs.Keys.{rises}
use Rattle.mp_cells.specs.Rows.{IsRow}
use Rattle.mp_cells.specs.PageView.{PageView, blank_page, is_of, kind_number, is_leaf, without_bit, leaf_page, IsPage, count_of}
use Rattle.mp_cells.specs.Plans.{with_page}
use Rattle.mp_cells.specs.PageMaps.{page_at}
use Rattle.mp_cells.specs.Trees.{PageMap}
use Rattle.mp_cells.specs.Writes.{record_in, undo_at}
use Rattle.mp_cells.proofs.Spare.{content_of, leaf_facts}
use Rattle.mp_histories.specs.Chains.{UndoMap}
use Rattle.mp_recover.specs.Settled.{is_counted, without_writer}
use Rattle.mp_recover.specs.Settling.{of_same_key, linked_record, version_below, row_or, step_down, steps_down, most_steps, row_settled, rows_settled, leaf_settled, leaves_settled, bits_freed, map_freed, bit_freed, one_freed, undo_freed, undo_pages_freed, undone_in, undone_below}
use Rattle.mp_recover.proofs.Redone.{same_maps, test_here, test_other}

-- ---- kinds

leaf_is_leaf : (kind : Kind) → (kind_number kind == 2) ≡ true → kind ≡ Leaf
leaf_is_leaf Blank h = absurd (cc)
leaf_is_leaf Meta h = absurd (cc)
leaf_is_leaf Leaf h = refl
leaf_is_leaf Inner h = absurd (cc)
leaf_is_leaf Undo h = absurd (cc)

undo_is_undo : (kind : Kind) → (kind_number kind == 4) ≡ true → kind ≡ Undo
undo_is_undo Blank h = absurd (cc)
undo_is_undo Meta h = absurd (cc)
undo_is_undo Leaf h = absurd (cc)
undo_is_undo Inner h = absurd (cc)
undo_is_undo Undo h = refl

pub leaf_kind : (page : PageView) → is_of Leaf page ≡ true → page.kind ≡ Leaf
leaf_kind page h = leaf_is_leaf page.kind h

pub undo_kind : (page : PageView) → is_of Undo page ≡ true → page.kind ≡ Undo
undo_kind page h = undo_is_undo page.kind h

leaf_no_undo : (kind : Kind) → kind ≡ Leaf → (kind_number kind == 4) ≡ false
leaf_no_undo kind e = rw e refl

meta_no_undo : (kind : Kind) → (kind_number kind == 1) ≡ true → (kind_number kind == 4) ≡ false
meta_no_undo Blank h = refl
meta_no_undo Meta h = refl
meta_no_undo Leaf h = refl
meta_no_undo Inner h = refl
meta_no_undo Undo h = absurd (cc)

leaf_count_is : (kind : Kind) (page : PageView) → page.kind ≡ kind → kind ≡ Leaf → count_of page ≡ length page.rows
leaf_count_is kind page e is = rw (e ∙ is) refl

pub leaf_count : (page : PageView) → is_of Leaf page ≡ true → count_of page ≡ length page.rows
leaf_count page h = leaf_count_is page.kind page refl (leaf_kind page h)

pub undo_count : (page : PageView) → page.kind ≡ Undo → count_of page ≡ length page.rows
undo_count page e = rw e refl

-- ---- leaves, one after another

pub settled_record : (ids : List TrxId) (undo : UndoMap) (page : PageView) (index : ℕ) → record_in (leaf_settled ids undo page) index ≡ record_in page index
settled_record ids undo page index = elim (cases_Bool (is_of Leaf page)) [
  | inl leaf ↦ rw (leaf, leaf_no_undo page.kind (leaf_kind page leaf)) refl
  | inr other ↦ rw other refl
]

-- the pages with the leaves below a number settled
abbrev pub settled_to : ℕ → List TrxId → PageMap → PageMap
settled_to all ids pages n = cond (nat_lt n all) (leaf_settled ids (undo_at pages) (pages n)) (pages n)

record_to : (b : Bool) (ids : List TrxId) (undo : UndoMap) (page : PageView) (index : ℕ) → record_in (cond b (leaf_settled ids undo page) page) index ≡ record_in page index
record_to true ids undo page index = settled_record ids undo page index
record_to false ids undo page index = refl

pub settled_undo : (all : ℕ) (ids : List TrxId) (pages : PageMap) → undo_at (settled_to all ids pages) ≡ undo_at pages
settled_undo all ids pages = λ i. λ link. record_to (nat_lt link.page all) ids (undo_at pages) (pages link.page) link.index i

not_yet : (all : ℕ) (ids : List TrxId) (pages : PageMap) → settled_to all ids pages all ≡ pages all
not_yet all ids pages = rw (le-ltb all all (omega arith)) refl

pub settle_next : (ids : List TrxId) (all : ℕ) (pages cur new : PageMap) → cur ≡ settled_to all ids pages
    → new ≡ with_page cur all (leaf_settled ids (undo_at cur) (cur all)) → new ≡ settled_to (all + 1) ids pages
settle_next ids all pages cur new is step =
    step ∙ ap (λ (m : PageMap). with_page m all (leaf_settled ids (undo_at m) (m all))) is
    ∙ ap (λ (undo : UndoMap). with_page (settled_to all ids pages) all (leaf_settled ids undo (settled_to all ids pages all))) (settled_undo all ids pages)
    ∙ ap (λ (p : PageView). with_page (settled_to all ids pages) all (leaf_settled ids (undo_at pages) p)) (not_yet all ids pages)
    ∙ same_maps _ _ each
  where
    each : (n : ℕ) → with_page (settled_to all ids pages) all (leaf_settled ids (undo_at pages) (pages all)) n ≡ settled_to (all + 1) ids pages n
    each n = elim (cases_eq n all) [
      | inl e ↦ rw (e, test_here all all refl, lt-ltb all (all + 1) (omega arith)) refl
      | inr apart ↦ elim (cases_lt n all) [
        | inl lt ↦ rw (test_other n all apart, lt-ltb n all lt, lt-ltb n (all + 1) (omega (arith, lt))) refl
        | inr ge ↦ rw (test_other n all apart, le-ltb n all ge, le-ltb n (all + 1) (omega (arith, ge, apart))) refl
      ]
    ]

undone_more : (ids : List TrxId) (all : ℕ) (pages : PageMap) → undone_below (all + 1) ids pages ≡ undone_below all ids pages + undone_in ids (pages all)
unfolding undone_below
undone_more ids all pages = let e : all + 1 ≡ suc all = omega arith in ap (λ (n : ℕ). undone_below n ids pages) e

pub undone_none : (ids : List TrxId) (pages : PageMap) → undone_below 0 ids pages ≡ 0
unfolding undone_below
undone_none ids pages = refl

pub undone_next : (ids : List TrxId) (all more undone : ℕ) (pages cur : PageMap) → cur ≡ settled_to all ids pages → undone ≡ undone_below all ids pages
    → more ≡ undone_in ids (cur all) → undone + more ≡ undone_below (all + 1) ids pages
undone_next ids all more undone pages cur is so_far this =
    let here : cur all ≡ pages all = ap (λ (m : PageMap). m all) is ∙ not_yet all ids pages in
    ap (λ (k : ℕ). k + more) so_far ∙ ap (λ (k : ℕ). undone_below all ids pages + k) (this ∙ ap (undone_in ids) here) ∙ sym (undone_more ids all pages)

pub settle_none : (ids : List TrxId) (pages : PageMap) → pages ≡ settled_to 0 ids pages
settle_none ids pages = same_maps _ _ (λ n. rw (le-ltb n 0 (omega arith)) refl)

pub settle_all : (ids : List TrxId) (items : List PageView) (n : ℕ) → length items ≡ 4096 → settled_to 4096 ids (page_at items) n ≡ leaves_settled ids (page_at items) n
settle_all ids items n count = elim (cases_lt n 4096) [
  | inl lt ↦ rw (lt-ltb n 4096 lt) refl
  | inr ge ↦ rw (le-ltb n 4096 ge, slice_get_past items n (omega (arith, count, ge))) refl
]

-- ---- undo pages, one after another

bits_more : (n : ℕ) (pages : PageMap) (bits : List ℕ) → bits_freed (n + 1) pages bits ≡ cond (is_of Undo (pages n)) (without_bit (bits_freed n pages bits) n) (bits_freed n pages bits)
unfolding bits_freed
bits_more n pages bits = let e : n + 1 ≡ suc n = omega arith in ap (λ (k : ℕ). bits_freed k pages bits) e

bits_one : (pages : PageMap) (bits : List ℕ) → bits_freed 1 pages bits ≡ cond (is_of Undo (pages 0)) (without_bit bits 0) bits
unfolding bits_freed
bits_one pages bits = refl

pub free_none : (pages : PageMap) → pages ≡ undo_pages_freed 1 pages
free_none pages = same_maps _ _ each
  where
    root_map : (page : PageView) → is_of Undo page ≡ is_of Undo (pages 0) → page ≡ cond (is_of Meta page) (record page { bits = cond (is_of Undo page) (without_bit page.bits 0) page.bits }) page
    root_map page e = elim (cases_Bool (is_of Meta page)) [
      | inl meta ↦ rw (meta, meta_no_undo page.kind meta) refl
      | inr other ↦ rw other refl
    ]

    each : (n : ℕ) → pages n ≡ undo_pages_freed 1 pages n
    each zero = root_map (pages 0) refl ∙ ap (λ (bits : List ℕ). cond (is_of Meta (pages 0)) (record (pages 0) { bits = bits }) (pages 0)) (sym (bits_one pages (pages 0).bits))
    each (suc n) = rw (test_other (suc n) 0 (λ e. omega (arith, e)), le-ltb (suc n) 1 (omega arith)) refl

map_then : (all : ℕ) (pages : PageMap) (page : PageView) → is_of Meta page ≡ true → map_freed all pages page ≡ record page { bits = bits_freed all pages page.bits }
map_then all pages page meta = rw meta refl

bit_then : (number : ℕ) (page : PageView) → is_of Meta page ≡ true → bit_freed number page ≡ record page { bits = without_bit page.bits number }
bit_then number page meta = rw meta refl

map_stays : (all : ℕ) (pages : PageMap) (page : PageView) → is_of Meta page ≡ false → map_freed all pages page ≡ page
map_stays all pages page other = rw other refl

bit_stays : (number : ℕ) (page : PageView) → is_of Meta page ≡ false → bit_freed number page ≡ page
bit_stays number page other = rw other refl

bits_next : (number : ℕ) (pages : PageMap) (page : PageView) → is_of Undo (pages number) ≡ true → bit_freed number (map_freed number pages page) ≡ map_freed (number + 1) pages page
bits_next number pages page undo = elim (cases_Bool (is_of Meta page)) [
  | inl meta ↦
      ap (bit_freed number) (map_then number pages page meta) ∙ bit_then number (record page { bits = bits_freed number pages page.bits }) meta
      ∙ ap (λ (bits : List ℕ). record page { bits = bits }) (sym (bits_more number pages page.bits ∙ ap (λ (b : Bool). cond b (without_bit (bits_freed number pages page.bits) number) (bits_freed number pages page.bits)) undo))
      ∙ sym (map_then (number + 1) pages page meta)
  | inr other ↦ ap (bit_freed number) (map_stays number pages page other) ∙ bit_stays number page other ∙ sym (map_stays (number + 1) pages page other)
]

bits_stay : (number : ℕ) (pages : PageMap) (page : PageView) → is_of Undo (pages number) ≡ false → map_freed number pages page ≡ map_freed (number + 1) pages page
bits_stay number pages page none =
    ap (λ (bits : List ℕ). cond (is_of Meta page) (record page { bits = bits }) page)
    (sym (bits_more number pages page.bits ∙ ap (λ (b : Bool). cond b (without_bit (bits_freed number pages page.bits) number) (bits_freed number pages page.bits)) none))

later_there : (number : ℕ) (pages : PageMap) → 1 ≤ number → undo_pages_freed number pages number ≡ pages number
later_there number pages least = rw (test_other number 0 (λ e. omega (arith, e, least)), le-ltb number number (omega arith)) refl

freed_there : (number n : ℕ) (pages : PageMap) → n ≢ 0 → n < number → undo_pages_freed number pages n ≡ undo_freed (pages n)
freed_there number n pages apart lt = rw (test_other n 0 apart, lt-ltb n number lt) refl

kept_there : (number n : ℕ) (pages : PageMap) → n ≢ 0 → number ≤ n → undo_pages_freed number pages n ≡ pages n
kept_there number n pages apart ge = rw (test_other n 0 apart, le-ltb n number ge) refl

same_there : (number n : ℕ) (pages : PageMap) → n ≢ 0 → n ≢ number → undo_pages_freed number pages n ≡ undo_pages_freed (number + 1) pages n
same_there number n pages apart other = elim (cases_lt n number) [
  | inl lt ↦ freed_there number n pages apart lt ∙ sym (freed_there (number + 1) n pages apart (omega (arith, lt)))
  | inr ge ↦ kept_there number n pages apart ge ∙ sym (kept_there (number + 1) n pages apart (omega (arith, ge, other)))
]

freed_page : (page : PageView) → is_of Undo page ≡ true → undo_freed page ≡ blank_page page.llsn
freed_page page undo = rw undo refl

kept_page : (page : PageView) → is_of Undo page ≡ false → undo_freed page ≡ page
kept_page page none = rw none refl

-- the pages with one of them freed, which is an undo page
abbrev with_freed : ℕ → PageMap → PageView → PageMap
with_freed number pages page = with_page (with_page pages number (blank_page page.llsn)) 0 (bit_freed number (pages 0))

at_freed : (number : ℕ) (pages : PageMap) → 1 ≤ number → is_of Undo (pages number) ≡ true → (n : ℕ) → with_freed number (undo_pages_freed number pages) (pages number) n ≡ undo_pages_freed (number + 1) pages n
at_freed number pages least undo n = elim (cases_eq n 0) [
  | inl e ↦ subst (λ (k : ℕ). with_freed number (undo_pages_freed number pages) (pages number) k ≡ undo_pages_freed (number + 1) pages k) (sym e) (bits_next number pages (pages 0) undo)
  | inr apart ↦
      ap (λ (b : Bool). cond b (bit_freed number (undo_pages_freed number pages 0)) (cond (n == number) (blank_page (pages number).llsn) (undo_pages_freed number pages n))) (test_other n 0 apart)
      ∙ elim (cases_eq n number) [
        | inl e ↦
            ap (λ (b : Bool). cond b (blank_page (pages number).llsn) (undo_pages_freed number pages n)) (test_here n number e)
            ∙ sym (ap (undo_pages_freed (number + 1) pages) e ∙ freed_there (number + 1) number pages (λ z. omega (arith, z, least)) (omega arith) ∙ freed_page (pages number) undo)
        | inr other ↦ ap (λ (b : Bool). cond b (blank_page (pages number).llsn) (undo_pages_freed number pages n)) (test_other n number other) ∙ same_there number n pages apart other
      ]
]

at_kept : (number : ℕ) (pages : PageMap) → 1 ≤ number → is_of Undo (pages number) ≡ false → (n : ℕ) → undo_pages_freed number pages n ≡ undo_pages_freed (number + 1) pages n
at_kept number pages least none n = elim (cases_eq n 0) [
  | inl e ↦ subst (λ (k : ℕ). undo_pages_freed number pages k ≡ undo_pages_freed (number + 1) pages k) (sym e) (bits_stay number pages (pages 0) none)
  | inr apart ↦ elim (cases_eq n number) [
    | inl e ↦
        subst (λ (k : ℕ). undo_pages_freed number pages k ≡ undo_pages_freed (number + 1) pages k) (sym e)
        (later_there number pages least ∙ sym (freed_there (number + 1) number pages (λ z. omega (arith, z, least)) (omega arith) ∙ kept_page (pages number) none))
    | inr other ↦ same_there number n pages apart other
  ]
]

one_next : (number : ℕ) (pages : PageMap) → 1 ≤ number → one_freed number (undo_pages_freed number pages) ≡ undo_pages_freed (number + 1) pages
one_next number pages least =
    ap (λ (p : PageView). cond (is_of Undo p) (with_freed number (undo_pages_freed number pages) p) (undo_pages_freed number pages)) (later_there number pages least)
    ∙ elim (cases_Bool (is_of Undo (pages number))) [
      | inl undo ↦
          ap (λ (b : Bool). cond b (with_freed number (undo_pages_freed number pages) (pages number)) (undo_pages_freed number pages)) undo
          ∙ same_maps (with_freed number (undo_pages_freed number pages) (pages number)) (undo_pages_freed (number + 1) pages) (at_freed number pages least undo)
      | inr none ↦
          ap (λ (b : Bool). cond b (with_freed number (undo_pages_freed number pages) (pages number)) (undo_pages_freed number pages)) none
          ∙ same_maps (undo_pages_freed number pages) (undo_pages_freed (number + 1) pages) (at_kept number pages least none)
    ]

pub free_next : (number : ℕ) (pages cur new : PageMap) → 1 ≤ number → cur ≡ undo_pages_freed number pages → new ≡ one_freed number cur → new ≡ undo_pages_freed (number + 1) pages
free_next number pages cur new least is step = step ∙ ap (one_freed number) is ∙ one_next number pages least

-- ---- one row

pub row_kept : (row : Row) → IsRow row → IsRow (without_writer row)
row_kept row is = record { key = is.key; value = is.value; origin = refl }

below_key : (key : ℕ) (found : Option Row) (row : Row) → row.key ≡ key → (row_or row (of_same_key key found)).key ≡ key
below_key key None row e = e
below_key key (Some below) row e = elim (cases_Bool (below.key == key)) [
  | inl same ↦ rw same (eqb-true below.key key same)
  | inr other ↦ rw other e
]

step_key : (ids : List TrxId) (undo : UndoMap) (row : Row) → (step_down ids undo row).key ≡ row.key
step_key ids undo row = elim (cases_Bool (is_counted ids row.writer)) [
  | inl counts ↦ rw counts refl
  | inr other ↦ rw other (below_key row.key (linked_record undo row.link) row refl)
]

steps_key : (steps : ℕ) (ids : List TrxId) (undo : UndoMap) (row : Row) → (steps_down steps ids undo row).key ≡ row.key
steps_key zero ids undo row = refl
steps_key (suc steps) ids undo row = steps_key steps ids undo (step_down ids undo row) ∙ step_key ids undo row

pub settled_key : (ids : List TrxId) (undo : UndoMap) (row : Row) → (row_settled ids undo row).key ≡ row.key
settled_key ids undo row = steps_key most_steps ids undo row

pub steps_fixed : (steps : ℕ) (ids : List TrxId) (undo : UndoMap) (row : Row) → step_down ids undo row ≡ row → steps_down steps ids undo row ≡ row
steps_fixed zero ids undo row fixed = refl
steps_fixed (suc steps) ids undo row fixed = ap (steps_down steps ids undo) fixed ∙ steps_fixed steps ids undo row fixed

-- the keys of settled rows rise as before
pub settled_rises : (ids : List TrxId) (undo : UndoMap) (low high : ℕ) (rows : List Row) → rises (λ row. row.key) low high (rows_settled ids undo rows) ≡ rises (λ row. row.key) low high rows
settled_rises ids undo low high [] = refl
settled_rises ids undo low high (row ∷ rows) = rw (settled_key ids undo row, settled_rises ids undo (row.key + 1) high rows) refl

pub settled_leaf : (ids : List TrxId) (undo : UndoMap) (low high : ℕ) (rows : List Row) → is_leaf low high (rows_settled ids undo rows) ≡ is_leaf low high rows
settled_leaf ids undo low high rows = rw (length-map rows (λ row. row_settled ids undo row), settled_rises ids undo low high rows) refl

pub page_is_leaf : (page : PageView) → IsPage page → is_of Leaf page ≡ true → IsTrue (is_leaf page.low page.high page.rows)
page_is_leaf page is leaf = (content_of Leaf page is (leaf_kind page leaf)).1

-- a leaf with its rows settled
pub leaf_made : (ids : List TrxId) (undo : UndoMap) (page : PageView) → IsPage page → is_of Leaf page ≡ true
    → leaf_page page.llsn page.low page.high (rows_settled ids undo page.rows) ≡ leaf_settled ids undo page
leaf_made ids undo page is leaf =
    rw leaf (ap (λ (p : PageView). record p { rows = rows_settled ids undo page.rows }) (sym (content_of Leaf page is (leaf_kind page leaf)).0))

-- ---- the rows of a leaf, one after another

pub leaf_most : (page : PageView) → IsPage page → is_of Leaf page ≡ true → length page.rows ≤ 15
leaf_most page is leaf = (leaf_facts page is (leaf_kind page leaf)).most

row_there : (rows : List Row) (i : ℕ) (row : Row) → slice_get rows i ≡ Some row → (i < length rows) × (get_or rows i row ≡ row)
row_there rows i row is = (slice_get_within rows i row is, get_or_from_slice_get rows i row row is)

pub counted_next : (ids : List TrxId) (rows : List Row) (i undone one : ℕ) (row : Row) → slice_get rows i ≡ Some row → undone ≡ length (filter (λ (r : Row). not (is_counted ids r.writer)) (take i rows))
    → one ≡ cond (is_counted ids row.writer) 0 1 → undone + one ≡ length (filter (λ (r : Row). not (is_counted ids r.writer)) (take (i + 1) rows))
counted_next ids rows i undone one row is so_far this =
    let there = row_there rows i row is in
    let p : Row → Bool = λ r. not (is_counted ids r.writer) in
    let more = filter_more p rows i row there.0 in
    let at : cond (p (get_or rows i row)) (get_or rows i row ∷ []) [] ≡ cond (p row) (row ∷ []) [] = ap (λ (r : Row). cond (p r) (r ∷ []) []) there.1 in
    ap (λ (n : ℕ). n + one) so_far ∙ ap (λ (n : ℕ). length (filter p (take i rows)) + n) (this ∙ count (is_counted ids row.writer))
    ∙ sym (length-append (filter p (take i rows)) (cond (p row) (row ∷ []) [])) ∙ ap length (ap (λ (xs : List Row). filter p (take i rows) ++ xs) (sym at) ∙ sym more)
  where
    count : (b : Bool) → cond b 0 1 ≡ length (cond (not b) (row ∷ []) [])
    count true = refl
    count false = refl

pub cells_next : (ids : List TrxId) (undo : UndoMap) (rows cells new : List Row) (i : ℕ) (row settled : Row) → slice_get rows i ≡ Some row → cells ≡ rows_settled ids undo (take i rows)
    → settled ≡ row_settled ids undo row → new ≡ cells ++ settled ∷ [] → new ≡ rows_settled ids undo (take (i + 1) rows)
cells_next ids undo rows cells new i row settled is so_far this pushed =
    let there = row_there rows i row is in
    pushed ∙ ap (λ (xs : List Row). xs ++ settled ∷ []) so_far ∙ ap (λ (r : Row). rows_settled ids undo (take i rows) ++ r ∷ []) (this ∙ ap (row_settled ids undo) (sym there.1))
    ∙ sym (map-append (row_settled ids undo) (take i rows) (get_or rows i row ∷ [])) ∙ ap (rows_settled ids undo) (sym (take_more rows i row there.0))

pub cells_room : (ids : List TrxId) (undo : UndoMap) (rows cells : List Row) (i : ℕ) → cells ≡ rows_settled ids undo (take i rows) → i ≤ length rows → length cells ≡ i
cells_room ids undo rows cells i so_far le = ap length so_far ∙ length-map (take i rows) (λ row. row_settled ids undo row) ∙ length-take-le i rows le

-- ---- steps

pub fixed_counted : (ids : List TrxId) (undo : UndoMap) (row : Row) → is_counted ids row.writer ≡ true → step_down ids undo row ≡ row
fixed_counted ids undo row counts = rw counts refl

pub fixed_last : (ids : List TrxId) (undo : UndoMap) (row : Row) → version_below undo row ≡ None → step_down ids undo row ≡ row
fixed_last ids undo row none = elim (cases_Bool (is_counted ids row.writer)) [
  | inl counts ↦ rw counts refl
  | inr other ↦ ap (λ (b : Bool). cond b row (row_or row (version_below undo row))) other ∙ ap (row_or row) none
]

pub moves_down : (ids : List TrxId) (undo : UndoMap) (row below : Row) → is_counted ids row.writer ≡ false → version_below undo row ≡ Some below → step_down ids undo row ≡ below
moves_down ids undo row below other some_ = ap (λ (b : Bool). cond b row (row_or row (version_below undo row))) other ∙ ap (row_or row) some_

pub left_next : (ids : List TrxId) (undo : UndoMap) (step left : ℕ) (row below all : Row) → step < 65537 → step + left ≡ 65537 → steps_down left ids undo row ≡ all → step_down ids undo row ≡ below
    → (rest : ℕ) × (step + 1 + rest ≡ 65537) × (steps_down rest ids undo below ≡ all)
left_next ids undo step zero row below all lt sum leads down = absurd (omega (arith, lt, sum))
left_next ids undo step (suc left) row below all lt sum leads down = (left, omega (arith, sum), ap (steps_down left ids undo) (sym down) ∙ leads)

pub left_none : (ids : List TrxId) (undo : UndoMap) (step left : ℕ) (row all : Row) → 65537 ≤ step → step + left ≡ 65537 → steps_down left ids undo row ≡ all → row ≡ all
left_none ids undo step zero row all ge sum leads = leads
left_none ids undo step (suc left) row all ge sum leads = absurd (omega (arith, ge, sum))

pub steps_are : most_steps ≡ 65537
unfolding most_steps
steps_are = refl
