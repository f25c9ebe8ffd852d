-- Settled pages of a tree are a clean tree.
use Rattle.std.proofs.Common.{◌≡◌, ◌≢◌, ◌⊎◌, ℕ, zero, suc, ◌+◌, ◌<◌, ◌≤◌, ◌==◌, Bool, true, false, cond, List, [], ◌∷◌, length, slice_get, Option, Some, None, refl, sym, ap, subst, ◌∙◌, inl, inr, arith}
use Rattle.std.specs.List.{AllByRecursion}
use Rattle.std.proofs.lemmas.Bool.{cases_Bool, cases_lt, cases_eq, lt-ltb, le-ltb}
use Rattle.std.proofs.lemmas.List.{length-map}
use Rattle.std.proofs.lemmas.Nat.Bits.{bit_at-lt}
use Rattle.mp_model.specs.declared.ids.TrxId.{TrxId}
use Rattle.mp_cells.specs.declared.kinds.Kind.{Kind}
use Rattle.mp_cells.specs.declared.kinds.Kind.TheVariants.{Blank, Meta, Leaf, Inner, Undo}
use Rattle.mp_cells.specs.declared.rows.Link.{Link}
use Rattle.mp_cells.specs.declared.rows.Row.{Row}
use Rattle.mp_cells.specs.Rows.{IsRow}
use Rattle.mp_cells.specs.PageView.{PageView, IsPage, AreBits, HasContent, blank_page, bit_of, without_bit, is_of, kind_number}
use Rattle.mp_cells.specs.Trees.{PageMap, IsTree, IsUnwritten, one_if}
use Rattle.mp_cells.specs.Writes.{record_in, undo_at}
use Rattle.mp_cells.proofs.Bits.{without_bit-any, bits_without}
use Rattle.mp_cells.proofs.Spare.{with_none, of_none, content_of}
use Rattle.mp_cells.proofs.Uses.{one_if-same}
use Rattle.mp_cells.proofs.Shapes.{SameNode, SameShape, kept_tree}
use Rattle.mp_histories.specs.Chains.{UndoMap}
use Rattle.mp_recover.specs.Settled.{is_counted}
use Rattle.mp_recover.specs.Settling.{linked_record, of_same_key, version_below, row_or, step_down, steps_down, most_steps, row_settled, rows_settled, leaf_settled, leaves_settled, bits_freed, map_freed, undo_freed, pages_settled}
use Rattle.mp_recover.proofs.Redone.{test_here, test_other}
use Rattle.mp_recover.proofs.SettledPages.{leaf_kind, undo_kind, row_kept, settled_leaf, leaf_made}
use Rattle.mp_recover.proofs.SettledChains.{SoundUndo, linked_row}

-- ---- rows

all_rows_at : (rows : List Row) (index : ℕ) (row : Row) → AllByRecursion IsRow rows → slice_get rows index ≡ Some row → IsRow row
all_rows_at [] index row all e = absurd (cc)
all_rows_at (r ∷ rows) zero row all e = subst IsRow (first r row e) all.0
  where
    first : (a b : Row) → Some a ≡ Some b → a ≡ b
    first a b h = cc
all_rows_at (r ∷ rows) (suc index) row all e = all_rows_at rows index row all.1 e

record_row : (page : PageView) (index : ℕ) (row : Row) → IsPage page → record_in page index ≡ Some row → IsRow row
record_row page index row is e = elim (cases_Bool (is_of Undo page)) [
  | inl undo ↦ (let there : slice_get page.rows index ≡ Some row = sym (rw undo refl) ∙ e in all_rows_at page.rows index row (content_of Undo page is (undo_kind page undo)).2 there)
  | inr other ↦ (let none : ◌≡◌ {A = Option Row} None (Some row) = sym (rw other refl) ∙ e in absurd cc)
]

pub tree_undo : (pages : PageMap) → ((n : ℕ) → n < 4096 → IsPage (pages n)) → SoundUndo (undo_at pages)
tree_undo pages sound link row lt e = record_row (pages link.page) link.index row (sound link.page lt) e

below_row : (key : ℕ) (found : Option Row) (row : Row) → IsRow row → ((next : Row) → found ≡ Some next → IsRow next) → IsRow (row_or row (of_same_key key found))
below_row key None row is sound = is
below_row key (Some next) row is sound = elim (cases_Bool (next.key == key)) [
  | inl same ↦ subst (λ (b : Bool). IsRow (row_or row (cond b (Some next) None))) (sym same) (sound next refl)
  | inr other ↦ subst (λ (b : Bool). IsRow (row_or row (cond b (Some next) None))) (sym other) is
]

linked_sound : (undo : UndoMap) (row : Row) → SoundUndo undo → IsRow row → (link : Option Link) → row.link ≡ link → (next : Row) → linked_record undo link ≡ Some next → IsRow next
linked_sound undo row sound is None e next there = absurd cc
linked_sound undo row sound is (Some link) e next there = sound link next (linked_row row link is e).page there

step_row : (ids : List TrxId) (undo : UndoMap) (row : Row) → SoundUndo undo → IsRow row → IsRow (step_down ids undo row)
step_row ids undo row sound is = elim (cases_Bool (is_counted ids row.writer)) [
  | inl counts ↦ subst (λ (b : Bool). IsRow (cond b row (row_or row (version_below undo row)))) (sym counts) is
  | inr other ↦ subst (λ (b : Bool). IsRow (cond b row (row_or row (version_below undo row)))) (sym other)
      (below_row row.key (linked_record undo row.link) row is (linked_sound undo row sound is row.link refl))
]

steps_row : (steps : ℕ) (ids : List TrxId) (undo : UndoMap) (row : Row) → SoundUndo undo → IsRow row → IsRow (steps_down steps ids undo row)
steps_row zero ids undo row sound is = is
steps_row (suc steps) ids undo row sound is = steps_row steps ids undo (step_down ids undo row) sound (step_row ids undo row sound is)

pub settled_row_is : (ids : List TrxId) (undo : UndoMap) (row : Row) → SoundUndo undo → IsRow row → IsRow (row_settled ids undo row)
settled_row_is ids undo row sound is = row_kept (steps_down most_steps ids undo row) (steps_row most_steps ids undo row sound is)

settled_rows_are : (ids : List TrxId) (undo : UndoMap) (rows : List Row) → SoundUndo undo → AllByRecursion IsRow rows → AllByRecursion IsRow (rows_settled ids undo rows)
settled_rows_are ids undo [] sound all = tt
settled_rows_are ids undo (row ∷ rows) sound all = (settled_row_is ids undo row sound all.0, settled_rows_are ids undo rows sound all.1)

pub settled_unwritten : (ids : List TrxId) (undo : UndoMap) (rows : List Row) → AllByRecursion IsUnwritten (rows_settled ids undo rows)
settled_unwritten ids undo [] = tt
settled_unwritten ids undo (row ∷ rows) = (refl, settled_unwritten ids undo rows)

-- ---- bits

pub freed_bits : (all : ℕ) (pages : PageMap) (bits : List ℕ) → all ≤ 4096 → AreBits bits → AreBits (bits_freed all pages bits)
unfolding bits_freed
freed_bits zero pages bits le are = are
freed_bits (suc n) pages bits le are = elim (cases_Bool (is_of Undo (pages n))) [
  | inl undo ↦ subst (λ (b : Bool). AreBits (cond b (without_bit (bits_freed n pages bits) n) (bits_freed n pages bits))) (sym undo) (bits_without (bits_freed n pages bits) n (omega (arith, le)) (freed_bits n pages bits (omega (arith, le)) are))
  | inr other ↦ subst (λ (b : Bool). AreBits (cond b (without_bit (bits_freed n pages bits) n) (bits_freed n pages bits))) (sym other) (freed_bits n pages bits (omega (arith, le)) are)
]

-- a bit above those that were looked at stays; one below is clear where its page is an undo page, and stays otherwise
pub bit_above : (all : ℕ) (pages : PageMap) (bits : List ℕ) (m : ℕ) → all ≤ 4096 → AreBits bits → all ≤ m → bit_of (bits_freed all pages bits) m ≡ bit_of bits m
unfolding bits_freed
bit_above zero pages bits m le are above = refl
bit_above (suc n) pages bits m le are above = elim (cases_Bool (is_of Undo (pages n))) [
  | inl undo ↦
      rw undo (without_bit-any (bits_freed n pages bits) n m (freed_bits n pages bits (omega (arith, le)) are) (omega (arith, le)) ∙ rw (test_other m n (λ e. omega (arith, e, above))) (bit_above n pages bits m (omega (arith, le)) are (omega (arith, above))))
  | inr other ↦ rw other (bit_above n pages bits m (omega (arith, le)) are (omega (arith, above)))
]

bit_here : (n : ℕ) (pages : PageMap) (bits : List ℕ) → suc n ≤ 4096 → AreBits bits → bit_of (bits_freed (suc n) pages bits) n ≡ cond (is_of Undo (pages n)) 0 (bit_of bits n)
unfolding bits_freed
bit_here n pages bits le are = elim (cases_Bool (is_of Undo (pages n))) [
  | inl undo ↦ rw undo (without_bit-any (bits_freed n pages bits) n n (freed_bits n pages bits (omega (arith, le)) are) (omega (arith, le)) ∙ rw (test_here n n refl) refl)
  | inr other ↦ rw other (bit_above n pages bits n (omega (arith, le)) are (omega arith))
]

pub bit_below : (all : ℕ) (pages : PageMap) (bits : List ℕ) (m : ℕ) → all ≤ 4096 → AreBits bits → m < all → bit_of (bits_freed all pages bits) m ≡ cond (is_of Undo (pages m)) 0 (bit_of bits m)
unfolding bits_freed
bit_below zero pages bits m le are below = absurd (omega (arith, below))
bit_below (suc n) pages bits m le are below = elim (cases_eq m n) [
  | inl e ↦ subst (λ (k : ℕ). bit_of (bits_freed (suc n) pages bits) k ≡ cond (is_of Undo (pages k)) 0 (bit_of bits k)) (sym e) (bit_here n pages bits le are)
  | inr apart ↦
      (let rest = bit_below n pages bits m (omega (arith, le)) are (omega (arith, below, apart)) in
      elim (cases_Bool (is_of Undo (pages n))) [
        | inl undo ↦ rw undo (without_bit-any (bits_freed n pages bits) n m (freed_bits n pages bits (omega (arith, le)) are) (omega (arith, le)) ∙ rw (test_other m n apart) rest)
        | inr other ↦ rw other rest
      ])
]

-- ---- pages

pub kind_settled : (ids : List TrxId) (undo : UndoMap) (page : PageView) → (leaf_settled ids undo page).kind ≡ page.kind
kind_settled ids undo page = elim (cases_Bool (is_of Leaf page)) [ inl leaf ↦ rw leaf refl | inr other ↦ rw other refl ]

undo_settled : (ids : List TrxId) (undo : UndoMap) (page : PageView) → is_of Undo (leaf_settled ids undo page) ≡ is_of Undo page
undo_settled ids undo page = ap (λ (k : Kind). kind_number k == 4) (kind_settled ids undo page)

module _ (ids : List TrxId) (pages : PageMap) where
  -- a page of the tree
  pub tree_page : (n : ℕ) → n ≢ 0 → is_of Undo (pages n) ≡ false → pages_settled ids pages n ≡ leaf_settled ids (undo_at pages) (pages n)
  tree_page n apart none = elim (cases_lt n 4096) [
    | inl lt ↦ rw (test_other n 0 apart, lt-ltb n 4096 lt, undo_settled ids (undo_at pages) (pages n) ∙ none) refl
    | inr ge ↦ rw (test_other n 0 apart, le-ltb n 4096 ge) refl
  ]

  pub undo_page_freed : (n : ℕ) → n ≢ 0 → n < 4096 → is_of Undo (pages n) ≡ true → pages_settled ids pages n ≡ blank_page (pages n).llsn
  undo_page_freed n apart lt undo =
      let no_leaf : is_of Leaf (pages n) ≡ false = rw (undo_kind (pages n) undo) refl in
      let same : leaf_settled ids (undo_at pages) (pages n) ≡ pages n = rw no_leaf refl in
      rw (test_other n 0 apart, lt-ltb n 4096 lt) (ap undo_freed same ∙ freed undo)
    where
      freed : is_of Undo (pages n) ≡ true → undo_freed (pages n) ≡ blank_page (pages n).llsn
      freed e = rw e refl

  pub map_settled : (pages 0).kind ≡ Meta → pages_settled ids pages 0 ≡ record (pages 0) { bits = bits_freed 4096 (leaves_settled ids pages) (pages 0).bits }
  map_settled meta =
      let no_leaf : is_of Leaf (pages 0) ≡ false = rw meta refl in
      let same : leaf_settled ids (undo_at pages) (pages 0) ≡ pages 0 = rw no_leaf refl in
      let is_meta : is_of Meta (pages 0) ≡ true = rw meta refl in
      let freed : map_freed 4096 (leaves_settled ids pages) (pages 0) ≡ record (pages 0) { bits = bits_freed 4096 (leaves_settled ids pages) (pages 0).bits } = rw is_meta refl in
      ap (map_freed 4096 (leaves_settled ids pages)) same ∙ freed

  pub either_page : (n : ℕ) → n ≢ 0 → (pages_settled ids pages n ≡ leaf_settled ids (undo_at pages) (pages n)) ⊎ (pages_settled ids pages n ≡ blank_page (pages n).llsn)
  either_page n apart = elim (cases_Bool (is_of Undo (pages n))) [
    | inr none ↦ inl (tree_page n apart none)
    | inl undo ↦ elim (cases_lt n 4096) [
      | inl lt ↦ inr (undo_page_freed n apart lt undo)
      | inr ge ↦ inl (rw (test_other n 0 apart, le-ltb n 4096 ge) refl)
    ]
  ]

node_settled : (ids : List TrxId) (undo : UndoMap) (page : PageView) → SameNode page (leaf_settled ids undo page)
node_settled ids undo page = elim (cases_Bool (is_of Leaf page)) [
  | inl leaf ↦ rw leaf (record { kind = refl; low = refl; high = refl; children = refl })
  | inr other ↦ rw other (record { kind = refl; low = refl; high = refl; children = refl })
]

pub page_settled_is : (ids : List TrxId) (undo : UndoMap) (page : PageView) → SoundUndo undo → IsPage page → IsPage (leaf_settled ids undo page)
page_settled_is ids undo page sound is = elim (cases_Bool (is_of Leaf page)) [
  | inl leaf ↦
      (let content = content_of Leaf page is (leaf_kind page leaf) in
      subst IsPage (leaf_made ids undo page is leaf) (record {
        llsn = is.llsn;
        content = (refl, settled_leaf ids undo page.low page.high page.rows ∙ content.1, settled_rows_are ids undo page.rows sound content.2);
      }))
  | inr other ↦ rw other is
]

length_settled : (ids : List TrxId) (undo : UndoMap) (page : PageView) → length (leaf_settled ids undo page).rows ≡ length page.rows
length_settled ids undo page = elim (cases_Bool (is_of Leaf page)) [
  | inl leaf ↦ rw leaf (length-map page.rows (λ row. row_settled ids undo row))
  | inr other ↦ rw other refl
]

no_blank_leaf : Blank ≡ Leaf → ⊥
no_blank_leaf e = absurd cc

no_blank_inner : Blank ≡ Inner → ⊥
no_blank_inner e = absurd cc

kind_not_undo : (page : PageView) (kind : Kind) → page.kind ≡ kind → (kind_number kind == 4) ≡ false → is_of Undo page ≡ false
kind_not_undo page kind e test = rw e test

module _ (ids : List TrxId) (pages : PageMap) (height : ℕ) (tree : IsTree pages height) where
  undo_sound : SoundUndo (undo_at pages)
  undo_sound = tree_undo pages tree.sound

  root_bits : AreBits (pages 0).bits
  root_bits = (content_of Meta (pages 0) (tree.sound 0 (omega arith)) tree.meta).1

  root_no_undo : is_of Undo (pages 0) ≡ false
  root_no_undo = kind_not_undo (pages 0) Meta tree.meta refl

  not_root : (n : ℕ) (kind : Kind) → (pages n).kind ≡ kind → kind ≢ Meta → n ≢ 0
  not_root n kind e apart z = apart (sym e ∙ ap (λ (m : ℕ). (pages m).kind) z ∙ tree.meta)

  pub settled_leaf_page : (n : ℕ) → (pages n).kind ≡ Leaf → pages_settled ids pages n ≡ leaf_settled ids (undo_at pages) (pages n)
  settled_leaf_page n kind = tree_page ids pages n (not_root n Leaf kind (λ e. absurd cc)) (kind_not_undo (pages n) Leaf kind refl)

  settled_inner_page : (n : ℕ) → (pages n).kind ≡ Inner → pages_settled ids pages n ≡ leaf_settled ids (undo_at pages) (pages n)
  settled_inner_page n kind = tree_page ids pages n (not_root n Inner kind (λ e. absurd cc)) (kind_not_undo (pages n) Inner kind refl)

  pub same_shape : SameShape pages (pages_settled ids pages)
  same_shape = record {
    leaf = λ n kind. subst (SameNode (pages n)) (sym (settled_leaf_page n kind)) (node_settled ids (undo_at pages) (pages n));
    inner = λ n kind. subst (SameNode (pages n)) (sym (settled_inner_page n kind)) (node_settled ids (undo_at pages) (pages n));
  }

  new_root : pages_settled ids pages 0 ≡ record (pages 0) { bits = bits_freed 4096 (leaves_settled ids pages) (pages 0).bits }
  new_root = map_settled ids pages tree.meta

  pub new_sound : (n : ℕ) → n < 4096 → IsPage (pages_settled ids pages n)
  new_sound zero lt = subst IsPage (sym new_root) (record {
    llsn = (tree.sound 0 lt).llsn;
    content = subst (λ (k : Kind). HasContent k (record (pages 0) { bits = bits_freed 4096 (leaves_settled ids pages) (pages 0).bits })) (sym tree.meta) (
      ap (λ (p : PageView). record p { bits = bits_freed 4096 (leaves_settled ids pages) (pages 0).bits }) (content_of Meta (pages 0) (tree.sound 0 lt) tree.meta).0,
      freed_bits 4096 (leaves_settled ids pages) (pages 0).bits (omega arith) root_bits,
    );
  })
  new_sound (suc n) lt = elim (either_page ids pages (suc n) (λ e. omega (arith, e))) [
    | inl e ↦ subst IsPage (sym e) (page_settled_is ids (undo_at pages) (pages (suc n)) undo_sound (tree.sound (suc n) lt))
    | inr e ↦ subst IsPage (sym e) (record { llsn = (tree.sound (suc n) lt).llsn; content = refl })
  ]

  new_kind : (n : ℕ) (kind : Kind) → kind ≢ Meta → kind ≢ Blank → (pages_settled ids pages n).kind ≡ kind → (pages n).kind ≡ kind
  new_kind zero kind meta blank e = absurd (meta (sym e ∙ ap (λ (p : PageView). p.kind) new_root ∙ tree.meta))
  new_kind (suc n) kind meta blank e = elim (either_page ids pages (suc n) (λ z. omega (arith, z))) [
    | inl same ↦ sym (kind_settled ids (undo_at pages) (pages (suc n))) ∙ ap (λ (p : PageView). p.kind) (sym same) ∙ e
    | inr freed ↦ absurd (blank (sym e ∙ ap (λ (p : PageView). p.kind) freed))
  ]

  pub new_bit : (n : ℕ) → n < 4096 → bit_of (pages_settled ids pages 0).bits n ≡ cond (is_of Undo (pages n)) 0 (bit_of (pages 0).bits n)
  new_bit n lt =
      ap (λ (p : PageView). bit_of p.bits n) new_root ∙ bit_below 4096 (leaves_settled ids pages) (pages 0).bits n (omega arith) root_bits lt
      ∙ ap (λ (b : Bool). cond b 0 (bit_of (pages 0).bits n)) (undo_settled ids (undo_at pages) (pages n))

  pub new_no_undo : (n : ℕ) → n < 4096 → is_of Undo (pages_settled ids pages n) ≡ false
  new_no_undo zero lt = kind_not_undo (pages_settled ids pages 0) Meta (ap (λ (p : PageView). p.kind) new_root ∙ tree.meta) refl
  new_no_undo (suc n) lt = elim (cases_Bool (is_of Undo (pages (suc n)))) [
    | inl undo ↦ ap (λ (p : PageView). is_of Undo p) (undo_page_freed ids pages (suc n) (λ z. omega (arith, z)) lt undo)
    | inr none ↦ ap (λ (p : PageView). is_of Undo p) (tree_page ids pages (suc n) (λ z. omega (arith, z)) none) ∙ undo_settled ids (undo_at pages) (pages (suc n)) ∙ none
  ]

  bits_kept : (n : ℕ) → n < 4096 → (undo : Bool) → is_of Undo (pages n) ≡ undo → bit_of (pages_settled ids pages 0).bits n + one_if (is_of Undo (pages n)) ≡ bit_of (pages 0).bits n + one_if (is_of Undo (pages_settled ids pages n))
  bits_kept n lt true is =
      let gone : bit_of (pages_settled ids pages 0).bits n ≡ 0 = new_bit n lt ∙ ap (λ (b : Bool). cond b 0 (bit_of (pages 0).bits n)) is in
      omega (arith, gone, ap one_if is, ap one_if (new_no_undo n lt), tree.bits n lt, bit_at-lt)
  bits_kept n lt false is =
      let stays : bit_of (pages_settled ids pages 0).bits n ≡ bit_of (pages 0).bits n = new_bit n lt ∙ ap (λ (b : Bool). cond b 0 (bit_of (pages 0).bits n)) is in
      omega (arith, stays, ap one_if is, ap one_if (new_no_undo n lt))

  new_blank : (n : ℕ) → n < 4096 → bit_of (pages_settled ids pages 0).bits n ≡ 0 → (pages_settled ids pages n).kind ≡ Blank
  new_blank zero lt e =
      let stays : bit_of (pages_settled ids pages 0).bits 0 ≡ bit_of (pages 0).bits 0 = new_bit 0 lt ∙ ap (λ (b : Bool). cond b 0 (bit_of (pages 0).bits 0)) root_no_undo in
      absurd (omega (arith, e, stays, tree.bits 0 lt, one_if-same 0))
  new_blank (suc n) lt e = elim (cases_Bool (is_of Undo (pages (suc n)))) [
    | inl undo ↦ ap (λ (p : PageView). p.kind) (undo_page_freed ids pages (suc n) (λ z. omega (arith, z)) lt undo)
    | inr none ↦
        (let stays : bit_of (pages_settled ids pages 0).bits (suc n) ≡ bit_of (pages 0).bits (suc n) = new_bit (suc n) lt ∙ ap (λ (b : Bool). cond b 0 (bit_of (pages 0).bits (suc n))) none in
        ap (λ (p : PageView). p.kind) (tree_page ids pages (suc n) (λ z. omega (arith, z)) none) ∙ kind_settled ids (undo_at pages) (pages (suc n)) ∙ tree.blank (suc n) lt (sym stays ∙ e))
  ]

  pub settled_tree : IsTree (pages_settled ids pages) height
  settled_tree = of_none (pages_settled ids pages) height (kept_tree [] [] pages (pages_settled ids pages) height (record {
    shape = same_shape;
    sound = new_sound;
    meta = ap (λ (p : PageView). p.kind) new_root ∙ tree.meta;
    leaf_before = λ n e. new_kind n Leaf (λ z. absurd cc) (λ z. absurd cc) e;
    inner_before = λ n e. new_kind n Inner (λ z. absurd cc) (λ z. absurd cc) e;
    rows = λ n e. omega (arith, ap (λ (p : PageView). length p.rows) (settled_leaf_page n e), length_settled ids (undo_at pages) (pages n));
    bits = λ n lt. (let same = bits_kept n lt (is_of Undo (pages n)) refl in omega (arith, same));
    blank = new_blank;
    unused = λ n lt h. absurd (omega (arith, h));
  }) (with_none pages height tree))

  -- no row of it has a writer
  pub settled_no_writers : (n : ℕ) → (pages_settled ids pages n).kind ≡ Leaf → AllByRecursion IsUnwritten (pages_settled ids pages n).rows
  settled_no_writers n e =
      let kind = new_kind n Leaf (λ z. absurd cc) (λ z. absurd cc) e in
      subst (λ (p : PageView). AllByRecursion IsUnwritten p.rows) (sym (settled_leaf_page n kind ∙ leaf_is (rw kind refl))) (settled_unwritten ids (undo_at pages) (pages n).rows)
    where
      leaf_is : is_of Leaf (pages n) ≡ true → leaf_settled ids (undo_at pages) (pages n) ≡ record (pages n) { rows = rows_settled ids (undo_at pages) (pages n).rows }
      leaf_is h = rw h refl
