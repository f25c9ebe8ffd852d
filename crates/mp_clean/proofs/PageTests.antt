-- What the tests of pages say, and when they hold.
use Rattle.std.proofs.Common.{◌≡◌, ◌≢◌, ℕ, ◌≤◌, ◌==◌, not, nat_le, Bool, true, false, cond, List, [], ◌∷◌, length, Option, Some, None, refl, sym, ap, subst, ◌∙◌, inl, inr, ◌⊎◌, arith}
use Rattle.std.specs.Prelude.{is_none}
use Rattle.std.specs.List.{AllByRecursion, list_all}
use Rattle.std.proofs.lemmas.Bool.{cases_eq, eqb-true, eq-eqb, ne_eqb, leb-true, le-leb, and_parts, and_from, or_cases, or_left, or_right, not-true, not_from_false, eqb-false}
use Rattle.std.proofs.lemmas.Nat.Bits.{bit_at-lt}
use Rattle.mp_model.specs.declared.ids.TrxId.{TrxId}
use Rattle.mp_cells.specs.declared.kinds.Kind.{Kind}
use Rattle.mp_cells.specs.declared.kinds.Kind.TheVariants.{Blank, Leaf}
use Rattle.mp_cells.specs.declared.rows.Row.{Row}
use Rattle.mp_cells.specs.declared.children.Child.{Child}
use Rattle.mp_cells.specs.PageView.{PageView, kind_number, is_of, bit_of}
use Rattle.mp_cells.specs.Trees.{PageMap, root, low_of, Fits, leaf_at, IsUnwritten}
use Rattle.mp_page.specs.Grammar.{kind_numbered}
use Rattle.mp_page.proofs.PageSpelling.{kind_numbered-kind_number}
use Rattle.mp_clean.specs.CleanPages.{kind_above, fits_child, fit_children, is_reached, least_rows, least_children, is_unwritten, is_clean_leaf, is_clean_inner, is_in_place, has_own_bit, is_clean_page}

-- ---- kinds and fences

pub of_kind : (kind : Kind) (page : PageView) → is_of kind page ≡ true → page.kind ≡ kind
of_kind kind page h = sym (kind_numbered-kind_number page.kind) ∙ ap kind_numbered (eqb-true (kind_number page.kind) (kind_number kind) h) ∙ kind_numbered-kind_number kind

pub is_of_kind : (kind : Kind) (page : PageView) → page.kind ≡ kind → is_of kind page ≡ true
is_of_kind kind page e = eq-eqb (kind_number page.kind) (kind_number kind) (ap kind_number e)

-- a child's page of this kind, with these fences
pub record Fenced (pages : PageMap) (kind : Kind) (high : ℕ) (child : Child) : Type 0 where
  pub kind_is : (pages child.page).kind ≡ kind
  pub low_is : (pages child.page).low ≡ child.low
  pub high_is : (pages child.page).high ≡ high

pub fenced : (pages : PageMap) (kind : Kind) (high : ℕ) (child : Child) → fits_child pages kind high child ≡ true → Fenced pages kind high child
fenced pages kind high child h =
    let a = and_parts _ _ h in
    let b = and_parts _ _ a.0 in
    record { kind_is = of_kind kind (pages child.page) b.0; low_is = eqb-true _ _ b.1; high_is = eqb-true _ _ a.1 }

pub fenced_test : (pages : PageMap) (kind : Kind) (high : ℕ) (child : Child) → Fenced pages kind high child → fits_child pages kind high child ≡ true
fenced_test pages kind high child h =
    and_from _ _ (and_from _ _ (is_of_kind kind (pages child.page) h.kind_is) (eq-eqb _ _ h.low_is)) (eq-eqb _ _ h.high_is)

pub fit : (pages : PageMap) (kind : Kind) (high : ℕ) (children : List Child) → fit_children pages kind high children ≡ true → Fits pages kind high children
fit pages kind high [] h = tt
fit pages kind high (child ∷ children) h =
    let a = and_parts _ _ h in
    let b = fenced pages kind (low_of children high) child a.0 in
    (b.kind_is, b.low_is, b.high_is, fit pages kind high children a.1)

pub fit_test : (pages : PageMap) (kind : Kind) (high : ℕ) (children : List Child) → Fits pages kind high children → fit_children pages kind high children ≡ true
fit_test pages kind high [] f = refl
fit_test pages kind high (child ∷ children) f =
    and_from _ _ (fenced_test pages kind (low_of children high) child (record { kind_is = f.0; low_is = f.1; high_is = f.2 })) (fit_test pages kind high children f.3)

-- ---- rows

no_writer : (writer : Option TrxId) → is_none writer ≡ true → writer ≡ None
no_writer None h = refl
no_writer (Some id) h = absurd cc

pub unwritten : (rows : List Row) → list_all is_unwritten rows ≡ true → AllByRecursion IsUnwritten rows
unwritten [] h = tt
unwritten (row ∷ rows) h = let a = and_parts _ _ h in (no_writer row.writer a.0, unwritten rows a.1)

pub unwritten_test : (rows : List Row) → AllByRecursion IsUnwritten rows → list_all is_unwritten rows ≡ true
unwritten_test [] h = refl
unwritten_test (row ∷ rows) h = and_from _ _ (ap is_none h.0) (unwritten_test rows h.1)

-- ---- counts

pub rows_enough : (n count : ℕ) → nat_le (least_rows n) count ≡ true → n ≢ 1 → 7 ≤ count
rows_enough n count h other = leb-true 7 count (sym (ap (λ (b : Bool). nat_le (cond b 0 7) count) (ne_eqb n 1 other)) ∙ h)

pub rows_test : (n count : ℕ) → (n ≢ 1 → 7 ≤ count) → nat_le (least_rows n) count ≡ true
rows_test n count h = elim (cases_eq n 1) [
  | inl same ↦ ap (λ (b : Bool). nat_le (cond b 0 7) count) (eq-eqb n 1 same) ∙ le-leb 0 count (omega arith)
  | inr other ↦ ap (λ (b : Bool). nat_le (cond b 0 7) count) (ne_eqb n 1 other) ∙ le-leb 7 count (h other)
]

pub children_enough : (n count : ℕ) → nat_le (least_children n) count ≡ true → n ≢ 1 → 62 ≤ count
children_enough n count h other = leb-true 62 count (sym (ap (λ (b : Bool). nat_le (cond b 2 62) count) (ne_eqb n 1 other)) ∙ h)

pub children_test : (n count : ℕ) → (n ≡ 1 → 2 ≤ count) → (n ≢ 1 → 62 ≤ count) → nat_le (least_children n) count ≡ true
children_test n count one more = elim (cases_eq n 1) [
  | inl same ↦ ap (λ (b : Bool). nat_le (cond b 2 62) count) (eq-eqb n 1 same) ∙ le-leb 2 count (one same)
  | inr other ↦ ap (λ (b : Bool). nat_le (cond b 2 62) count) (ne_eqb n 1 other) ∙ le-leb 62 count (more other)
]

-- ---- bits

pub bit_set : (pages : PageMap) (n : ℕ) (kind : Kind) → (pages n).kind ≡ kind → (kind_number kind == 0) ≡ false → has_own_bit pages n ≡ true → bit_of (pages 0).bits n ≡ 1
bit_set pages n kind e test h =
    let bit = bit_of (pages 0).bits n in
    let same : has_own_bit pages n ≡ (bit == 1) = ap (λ (k : Kind). cond (kind_number k == 0) (not (bit == 1)) (bit == 1)) e ∙ ap (λ (b : Bool). cond b (not (bit == 1)) (bit == 1)) test in
    eqb-true bit 1 (sym same ∙ h)

pub bit_clear : (pages : PageMap) (n : ℕ) → (pages n).kind ≡ Blank → has_own_bit pages n ≡ true → bit_of (pages 0).bits n ≡ 0
bit_clear pages n e h =
    let bit = bit_of (pages 0).bits n in
    let same : has_own_bit pages n ≡ not (bit == 1) = ap (λ (k : Kind). cond (kind_number k == 0) (not (bit == 1)) (bit == 1)) e in
    let apart : bit ≡ 1 → ⊥ = eqb-false bit 1 (not-true (bit == 1) (sym same ∙ h)) in
    omega (arith, apart, bit_at-lt)

pub set_test : (pages : PageMap) (n : ℕ) (kind : Kind) → (pages n).kind ≡ kind → (kind_number kind == 0) ≡ false → bit_of (pages 0).bits n ≡ 1 → has_own_bit pages n ≡ true
set_test pages n kind e test h =
    let bit = bit_of (pages 0).bits n in
    ap (λ (k : Kind). cond (kind_number k == 0) (not (bit == 1)) (bit == 1)) e ∙ ap (λ (b : Bool). cond b (not (bit == 1)) (bit == 1)) test ∙ eq-eqb bit 1 h

pub clear_test : (pages : PageMap) (n : ℕ) → (pages n).kind ≡ Blank → bit_of (pages 0).bits n ≡ 0 → has_own_bit pages n ≡ true
clear_test pages n e h =
    let bit = bit_of (pages 0).bits n in
    ap (λ (k : Kind). cond (kind_number k == 0) (not (bit == 1)) (bit == 1)) e ∙ not_from_false (bit == 1) (ne_eqb bit 1 (λ (one : bit ≡ 1). absurd (omega (arith, one, h))))

-- ---- pages

pub record PageTests (base height : ℕ) (pages : PageMap) (n : ℕ) : Type 0 where
  pub place : is_in_place (pages n).kind height pages n ≡ true
  pub llsn : (pages n).llsn ≤ base
  pub bit : has_own_bit pages n ≡ true

pub page_tests : (base height : ℕ) (pages : PageMap) (n : ℕ) → is_clean_page base height pages n ≡ true → PageTests base height pages n
page_tests base height pages n h =
    let a = and_parts _ _ h in
    let b = and_parts _ _ a.0 in
    record { place = b.0; llsn = leb-true _ _ b.1; bit = a.1 }

pub tests_page : (base height : ℕ) (pages : PageMap) (n : ℕ) → PageTests base height pages n → is_clean_page base height pages n ≡ true
tests_page base height pages n h = and_from _ _ (and_from _ _ h.place (le-leb _ _ h.llsn)) h.bit

pub placed_as : (height : ℕ) (pages : PageMap) (n : ℕ) (kind : Kind) → (pages n).kind ≡ kind → is_in_place (pages n).kind height pages n ≡ true → is_in_place kind height pages n ≡ true
placed_as height pages n kind e h = subst (λ (k : Kind). is_in_place k height pages n ≡ true) e h

pub as_placed : (height : ℕ) (pages : PageMap) (n : ℕ) (kind : Kind) → (pages n).kind ≡ kind → is_in_place kind height pages n ≡ true → is_in_place (pages n).kind height pages n ≡ true
as_placed height pages n kind e h = subst (λ (k : Kind). is_in_place k height pages n ≡ true) (sym e) h

pub reached : (pages : PageMap) (depth n : ℕ) → is_reached pages depth n ≡ true → (n ≡ 1) ⊎ ((leaf_at pages depth (pages n).low root).page ≡ n)
reached pages depth n h = elim (or_cases (n == 1) ((leaf_at pages depth (pages n).low root).page == n) h) [
  | inl one ↦ inl (eqb-true n 1 one)
  | inr found ↦ inr (eqb-true _ _ found)
]

pub root_test : (pages : PageMap) (depth n : ℕ) → n ≡ 1 → is_reached pages depth n ≡ true
root_test pages depth n e = or_left (n == 1) ((leaf_at pages depth (pages n).low root).page == n) (eq-eqb n 1 e)

pub reached_test : (pages : PageMap) (depth n : ℕ) → (leaf_at pages depth (pages n).low root).page ≡ n → is_reached pages depth n ≡ true
reached_test pages depth n e = or_right (n == 1) ((leaf_at pages depth (pages n).low root).page == n) (eq-eqb _ _ e)

pub record LeafTests (height : ℕ) (pages : PageMap) (n : ℕ) : Type 0 where
  pub place : is_reached pages height n ≡ true
  pub count : nat_le (least_rows n) (length (pages n).rows) ≡ true
  pub rows : list_all is_unwritten (pages n).rows ≡ true

pub leaf_tests : (height : ℕ) (pages : PageMap) (n : ℕ) → is_clean_leaf height pages n ≡ true → LeafTests height pages n
leaf_tests height pages n h =
    let a = and_parts _ _ h in
    let b = and_parts _ _ a.0 in
    record { place = b.0; count = b.1; rows = a.1 }

pub tests_leaf : (height : ℕ) (pages : PageMap) (n : ℕ) → LeafTests height pages n → is_clean_leaf height pages n ≡ true
tests_leaf height pages n h = and_from _ _ (and_from _ _ h.place h.count) h.rows

-- the kind of the pages under an inner page
abbrev pub kind_under : ℕ → ℕ → Kind
kind_under under n = kind_above (cond (n == 1) under 0)

pub record InnerTests (under : ℕ) (pages : PageMap) (n : ℕ) : Type 0 where
  pub place : is_reached pages under n ≡ true
  pub count : nat_le (least_children n) (length (pages n).children) ≡ true
  pub children : Fits pages (kind_under under n) (pages n).high (pages n).children

pub inner_tests : (under : ℕ) (pages : PageMap) (n : ℕ) → is_clean_inner under pages n ≡ true → InnerTests under pages n
inner_tests under pages n h =
    let a = and_parts _ _ h in
    let b = and_parts _ _ a.0 in
    record { place = b.0; count = b.1; children = fit pages (kind_under under n) (pages n).high (pages n).children a.1 }

pub tests_inner : (under : ℕ) (pages : PageMap) (n : ℕ) → InnerTests under pages n → is_clean_inner under pages n ≡ true
tests_inner under pages n h = and_from _ _ (and_from _ _ h.place h.count) (fit_test pages (kind_under under n) (pages n).high (pages n).children h.children)

pub under_other : (under n : ℕ) → n ≢ 1 → kind_under under n ≡ Leaf
under_other under n other = ap (λ (b : Bool). kind_above (cond b under 0)) (ne_eqb n 1 other)

pub under_root : (under n : ℕ) → n ≡ 1 → kind_under under n ≡ kind_above under
under_root under n e = ap (λ (b : Bool). kind_above (cond b under 0)) (eq-eqb n 1 e)
