-- The steps of a plan that keep the shape of a tree: a page is taken, becomes an undo page, gets a record; a leaf's row
-- is put.
use Rattle.std.proofs.Common.{◌≡◌, ◌≢◌, ℕ, zero, suc, ◌+◌, ◌<◌, ◌≤◌, ◌==◌, ◌&&◌, Bool, true, false, cond, List, [], ◌∷◌, ◌++◌, length, Some, None, refl, sym, ap, subst, ◌∙◌, inl, inr, arith}
use Rattle.std.specs.List.{slice_get}
use Rattle.std.proofs.lemmas.Bool.{and_from, cases_eq, eq-eqb, le-leb, lt-ltb}
use Rattle.std.proofs.lemmas.Bool.Decides.{nat_tests}
use Rattle.std.proofs.lemmas.List.{length-append}
use Rattle.std.proofs.lemmas.List.Concat.{flat_map-append}
use Rattle.std.proofs.lemmas.Nat.Bits.{bit_at-lt}
use Rattle.std.proofs.lemmas.Option.{slice_get_past}
use Rattle.mp_cells.specs.declared.changes.Change.TheVariants.{MakeUndo, PutUndo, TakePage}
use Rattle.mp_cells.specs.declared.kinds.Kind.{Kind}
use Rattle.mp_cells.specs.declared.kinds.Kind.TheVariants.{Blank, Meta, Leaf, Inner, Undo}
use Rattle.mp_cells.specs.declared.rows.Link.{Link}
use Rattle.mp_cells.specs.declared.rows.Row.{Row}
use Rattle.mp_cells.specs.declared.children.Child.{Child}
use Rattle.mp_cells.specs.PageView.{PageView, IsPage, undo_page, kind_number, is_of, bit_of, with_bit}
use Rattle.mp_cells.specs.Keys.{with_cell}
use Rattle.mp_cells.specs.Rows.{IsRow}
use Rattle.mp_cells.specs.Changes.{applied, takes_page}
use Rattle.mp_cells.specs.Trees.{PageMap, top, low_of, one_if, uses, rows_under, tree_rows}
use Rattle.mp_cells.proofs.KeyEdits.{length-with_cell}
use Rattle.mp_cells.proofs.AppliedPages.{applied-page}
use Rattle.mp_cells.specs.Plans.{with_page, after_plan, Meets}
use Rattle.mp_cells.specs.Writes.{record_in, undo_at, same_link}
use Rattle.mp_cells.proofs.ByPage.{with_page-here, with_page-other}
use Rattle.mp_cells.proofs.Uses.{one_if-same, one_if-other, uses-head}
use Rattle.mp_cells.proofs.Heights.{numbers}
use Rattle.mp_cells.proofs.Bits.{with_bit-same, with_bit-other}
use Rattle.mp_cells.proofs.Spare.{TreeWith, content_of, leaf_facts, not_undo, kind_apart}
use Rattle.mp_cells.proofs.Stretches.{with_cell-middle}
use Rattle.mp_cells.proofs.Places.{leaf_place}
use Rattle.mp_cells.proofs.Shapes.{SameNode, Keeps, kept_tree, kept_leaves, kept_rows}
use Rattle.mp_plans.proofs.Reshaping.{can_apply, changed_is, at_page, no_record, undo_kept, Reshapes}

-- a test of a kind
pub kind_test : (kind : Kind) (page : PageView) → page.kind ≡ kind → is_of kind page ≡ true
kind_test kind page e = ap (λ (k : Kind). kind_number k == kind_number kind) e ∙ eq-eqb (kind_number kind) (kind_number kind) refl

pub kind_other : (kind other : Kind) (page : PageView) → page.kind ≡ other → (kind_number other == kind_number kind) ≡ false → is_of kind page ≡ false
kind_other kind other page e test = ap (λ (k : Kind). kind_number k == kind_number kind) e ∙ test

pub same_node : (page : PageView) → SameNode page page
same_node page = record { kind = refl; low = refl; high = refl; children = refl }

-- ---- a page that keeps what its parent and its children see of it

content_keeps : (spare : List ℕ) (pages : PageMap) (height m : ℕ) (page : PageView) → TreeWith spare pages height → IsPage page → SameNode (pages m) page → (pages m).kind ≢ Meta → length (pages m).rows ≤ length page.rows → Keeps spare spare pages (with_page pages m page)
content_keeps spare pages height m page tree is_page same meta more =
    let new = with_page pages m page in
    let kinds : (n : ℕ) → (new n).kind ≡ (pages n).kind = at_page pages m page (λ n view. view.kind ≡ (pages n).kind) same.kind (λ n other. refl) in
    let nodes : (n : ℕ) → SameNode (pages n) (new n) = at_page pages m page (λ n view. SameNode (pages n) view) same (λ n other. same_node (pages n)) in
    let apart : 0 ≢ m = λ (e : 0 ≡ m). meta (ap (λ (k : ℕ). (pages k).kind) (sym e) ∙ tree.meta) in
    let zero_page : new 0 ≡ pages 0 = with_page-other pages m page 0 apart in
    record {
      shape = record { leaf = λ n e. nodes n; inner = λ n e. nodes n };
      sound = λ n lt. at_page pages m page (λ k view. k < 4096 → IsPage view) (λ h. is_page) (λ k other. tree.sound k) n lt;
      meta = kinds 0 ∙ tree.meta;
      leaf_before = λ n e. sym (kinds n) ∙ e;
      inner_before = λ n e. sym (kinds n) ∙ e;
      rows = λ n e. at_page pages m page (λ k view. length (pages k).rows ≤ length view.rows) more (λ k other. omega arith) n;
      bits = λ n lt. let undo : one_if (is_of Undo (new n)) ≡ one_if (is_of Undo (pages n)) = ap (λ (k : Kind). one_if (kind_number k == 4)) (kinds n) in omega (arith, undo, ap (λ (p : PageView). bit_of p.bits n) zero_page);
      blank = λ n lt e. kinds n ∙ tree.blank n lt (sym (ap (λ (p : PageView). bit_of p.bits n) zero_page) ∙ e);
      unused = λ n lt h. kinds n ∙ tree.unused n lt h;
    }

-- ---- a page is taken

pub take_step : (spare : List ℕ) (pages : PageMap) (height n : ℕ) → TreeWith spare pages height → 2 ≤ n → n < 4096 → bit_of (pages 0).bits n ≡ 0 → Reshapes spare (n ∷ spare) ((0, TakePage n) ∷ []) pages height height
take_step spare pages height n tree least most clear =
    let old = pages 0 in
    let page : PageView = record old { bits = with_bit old.bits n } in
    let test : takes_page n old ≡ true = and_from _ _ (and_from _ _ (and_from _ _ (kind_test Meta old tree.meta) (le-leb 2 n least)) (lt-ltb n 4096 most)) (eq-eqb (bit_of old.bits n) 0 clear) in
    let is : applied (TakePage n) old ≡ Some page = ap (λ (b : Bool). cond b (Some page) None) test in
    let bits = (content_of Meta old (tree.sound 0 (omega arith)) tree.meta).1 in
    let new = with_page pages 0 page in
    let after : after_plan ((0, TakePage n) ∷ []) pages ≡ new = ap (with_page pages 0) (changed_is (TakePage n) old page is) in
    let kinds : (k : ℕ) → (new k).kind ≡ (pages k).kind = at_page pages 0 page (λ k view. view.kind ≡ (pages k).kind) refl (λ k other. refl) in
    let nodes : (k : ℕ) → SameNode (pages k) (new k) = at_page pages 0 page (λ k view. SameNode (pages k) view) (record { kind = refl; low = refl; high = refl; children = refl }) (λ k other. same_node (pages k)) in
    let rows : (k : ℕ) → (new k).rows ≡ (pages k).rows = at_page pages 0 page (λ k view. view.rows ≡ (pages k).rows) refl (λ k other. refl) in
    let here : new 0 ≡ page = with_page-here pages 0 page in
    let counts : (k : ℕ) → k < 4096 → bit_of (new 0).bits k ≡ bit_of old.bits k + one_if (n == k) = λ k lt. ap (λ (p : PageView). bit_of p.bits k) here ∙ (elim (cases_eq k n) [
      | inl same ↦ rw same (omega (arith, with_bit-same old.bits n most bits, clear, one_if-same n))
      | inr other ↦ let apart : n ≢ k = λ (e : n ≡ k). other (sym e) in omega (arith, with_bit-other old.bits n k most bits other, one_if-other n k apart)
    ]) in
    let keeps : Keeps spare (n ∷ spare) pages new = record {
      shape = record { leaf = λ k e. nodes k; inner = λ k e. nodes k };
      sound = λ k lt. at_page pages 0 page (λ j view. j < 4096 → IsPage view) (λ h. applied-page (TakePage n) old page (tree.sound 0 (omega arith)) tt is) (λ j other. tree.sound j) k lt;
      meta = kinds 0 ∙ tree.meta;
      leaf_before = λ k e. sym (kinds k) ∙ e;
      inner_before = λ k e. sym (kinds k) ∙ e;
      rows = λ k e. omega (arith, ap (λ (xs : List Row). length xs) (rows k));
      bits = λ k lt. let undo : one_if (is_of Undo (new k)) ≡ one_if (is_of Undo (pages k)) = ap (λ (j : Kind). one_if (kind_number j == 4)) (kinds k) in omega (arith, undo, counts k lt);
      blank = λ k lt e. kinds k ∙ tree.blank k lt (omega (arith, e, counts k lt));
      unused = λ k lt h. kinds k ∙ (elim (cases_eq n k) [
        | inl same ↦ tree.blank k lt (ap (bit_of old.bits) (sym same) ∙ clear)
        | inr other ↦ tree.unused k lt (omega (arith, h, one_if-other n k other))
      ]);
    } in
    record {
      changes = ((omega arith, and_from _ _ (le-leb 2 n least) (lt-ltb n 4096 most)), tt);
      meets = (can_apply (TakePage n) old page is, tt);
      tree = subst (λ (m : PageMap). TreeWith (n ∷ spare) m height) (sym after) (kept_tree spare (n ∷ spare) pages new height keeps tree);
      rows = ap (λ (m : PageMap). tree_rows m height) after ∙ kept_rows spare pages new height keeps.shape tree (λ k e. rows k);
      undo = λ link. ap (λ (m : PageMap). undo_at m link) after ∙ undo_kept pages 0 page (λ index. refl) link;
    }

-- ---- a spare page becomes an undo page

pub undo_step : (spare spare' : List ℕ) (pages : PageMap) (height u : ℕ) → TreeWith spare pages height → u < 4096 → ((n : ℕ) → uses n spare ≡ uses n spare' + one_if (u == n)) → Reshapes spare spare' ((u, MakeUndo) ∷ []) pages height height
undo_step spare spare' pages height u tree lt counts =
    let old = pages u in
    let page : PageView = undo_page old.llsn [] in
    let kind : old.kind ≡ Blank = tree.unused u lt (omega (arith, counts u, one_if-same u)) in
    let is : applied MakeUndo old ≡ Some page = ap (λ (b : Bool). cond b (Some page) None) (kind_test Blank old kind) in
    let new = with_page pages u page in
    let after : after_plan ((u, MakeUndo) ∷ []) pages ≡ new = ap (with_page pages u) (changed_is MakeUndo old page is) in
    let apart : 0 ≢ u = kind_apart pages 0 u Meta Blank tree.meta kind (λ (e : Meta ≡ Blank). absurd cc) in
    let zero_page : new 0 ≡ pages 0 = with_page-other pages u page 0 apart in
    let leaf : (n : ℕ) → (pages n).kind ≡ Leaf → new n ≡ pages n = λ n e. with_page-other pages u page n (kind_apart pages n u Leaf Blank e kind (λ (x : Leaf ≡ Blank). absurd cc)) in
    let inner : (n : ℕ) → (pages n).kind ≡ Inner → new n ≡ pages n = λ n e. with_page-other pages u page n (kind_apart pages n u Inner Blank e kind (λ (x : Inner ≡ Blank). absurd cc)) in
    let keeps : Keeps spare spare' pages new = record {
      shape = record { leaf = λ n e. subst (SameNode (pages n)) (sym (leaf n e)) (same_node (pages n)); inner = λ n e. subst (SameNode (pages n)) (sym (inner n e)) (same_node (pages n)) };
      sound = λ n le. at_page pages u page (λ j view. j < 4096 → IsPage view) (λ h. applied-page MakeUndo old page (tree.sound u lt) tt is) (λ j other. tree.sound j) n le;
      meta = ap (λ (p : PageView). p.kind) zero_page ∙ tree.meta;
      leaf_before = at_page pages u page (λ n view. view.kind ≡ Leaf → (pages n).kind ≡ Leaf) (λ (e : Undo ≡ Leaf). absurd cc) (λ n other e. e);
      inner_before = at_page pages u page (λ n view. view.kind ≡ Inner → (pages n).kind ≡ Inner) (λ (e : Undo ≡ Inner). absurd cc) (λ n other e. e);
      rows = λ n e. omega (arith, ap (λ (p : PageView). length p.rows) (leaf n e));
      bits = λ n le. let bit : bit_of (new 0).bits n ≡ bit_of (pages 0).bits n = ap (λ (p : PageView). bit_of p.bits n) zero_page in
          at_page pages u page (λ k view. bit_of (new 0).bits n ≡ bit_of (pages 0).bits n → bit_of (new 0).bits n + one_if (is_of Undo (pages k)) + uses k spare ≡ bit_of (pages 0).bits n + one_if (is_of Undo view) + uses k spare')
          (λ e. omega (arith, e, not_undo old Blank kind refl, counts u, one_if-same u))
          (λ k other e. let far : u ≢ k = λ (x : u ≡ k). other (sym x) in omega (arith, e, counts k, one_if-other u k far)) n bit;
      blank = λ n le e. let bit : bit_of (pages 0).bits n ≡ 0 = sym (ap (λ (p : PageView). bit_of p.bits n) zero_page) ∙ e in
          at_page pages u page (λ k view. k < 4096 → bit_of (pages 0).bits k ≡ 0 → view.kind ≡ Blank)
          (λ k z. absurd (omega (arith, z, tree.bits u lt, counts u, one_if-same u)))
          (λ k other k_lt z. tree.blank k k_lt z) n le bit;
      unused = at_page pages u page (λ k view. k < 4096 → 1 ≤ uses k spare' → view.kind ≡ Blank)
          (λ k h. absurd (omega (arith, h, tree.bits u lt, bit_at-lt, counts u, one_if-same u)))
          (λ k other k_lt h. tree.unused k k_lt (omega (arith, h, counts k)));
    } in
    record {
      changes = ((lt, tt), tt);
      meets = (can_apply MakeUndo old page is, tt);
      tree = subst (λ (m : PageMap). TreeWith spare' m height) (sym after) (kept_tree spare spare' pages new height keeps tree);
      rows = ap (λ (m : PageMap). tree_rows m height) after ∙ kept_rows spare pages new height keeps.shape tree (λ n e. ap (λ (p : PageView). p.rows) (leaf n e));
      undo = λ link. ap (λ (m : PageMap). undo_at m link) after ∙ undo_kept pages u page (λ index. sym (no_record old index (kind_other Undo Blank old kind refl))) link;
    }

-- ---- an undo page gets a record

pub record AddsRecord (spare : List ℕ) (pages : PageMap) (height u : ℕ) (row : Row) : Type 0 where
  pub meets : Meets ((u, PutUndo row) ∷ []) pages
  pub tree : TreeWith spare (after_plan ((u, PutUndo row) ∷ []) pages) height
  pub rows : tree_rows (after_plan ((u, PutUndo row) ∷ []) pages) height ≡ tree_rows pages height
  pub fresh : undo_at pages (record { page = u; index = length (pages u).rows }) ≡ None
  pub added : (link : Link) → undo_at (after_plan ((u, PutUndo row) ∷ []) pages) link ≡ cond (same_link link (record { page = u; index = length (pages u).rows })) (Some row) (undo_at pages link)
  pub others : (n : ℕ) → n ≢ u → after_plan ((u, PutUndo row) ∷ []) pages n ≡ pages n

slice_get_push : {T : Type 0} (xs : List T) (x : T) (i : ℕ) → slice_get (xs ++ x ∷ []) i ≡ cond (i == length xs) (Some x) (slice_get xs i)
slice_get_push [] x zero = refl
slice_get_push [] x (suc i) = let test : (suc i == 0) ≡ false = grind (arith, nat_tests) in ap (λ (b : Bool). cond b (Some x) None) (sym test)
slice_get_push (y ∷ xs) x zero = let test : (0 == suc (length xs)) ≡ false = grind (arith, nat_tests) in ap (λ (b : Bool). cond b (Some x) (Some y)) (sym test)
slice_get_push (y ∷ xs) x (suc i) = slice_get_push xs x i ∙ ap (λ (b : Bool). cond b (Some x) (slice_get xs i)) (one_less i (length xs))
  where
    one_less : (a b : ℕ) → (a == b) ≡ (suc a == suc b)
    one_less a b = elim (cases_eq a b) [
      | inl same ↦ let one : (a == b) ≡ true = eq-eqb a b same in let two : (suc a == suc b) ≡ true = eq-eqb (suc a) (suc b) (ap suc same) in one ∙ sym two
      | inr other ↦
          let more : suc a ≢ suc b = λ (e : suc a ≡ suc b). other (omega (arith, e)) in
          let one : (a == b) ≡ false = grind (arith, nat_tests) in
          let two : (suc a == suc b) ≡ false = grind (arith, nat_tests) in
          one ∙ sym two
    ]

pub record_step : (spare : List ℕ) (pages : PageMap) (height u : ℕ) (row : Row) → TreeWith spare pages height → u < 4096 → (pages u).kind ≡ Undo → length (pages u).rows < 15 → IsRow row → AddsRecord spare pages height u row
record_step spare pages height u row tree lt kind room is_row =
    let old = pages u in
    let page : PageView = record old { rows = old.rows ++ row ∷ [] } in
    let is : applied (PutUndo row) old ≡ Some page = ap (λ (b : Bool). cond b (Some page) None) (and_from _ _ (kind_test Undo old kind) (lt-ltb (length old.rows) 15 room)) in
    let new = with_page pages u page in
    let after : after_plan ((u, PutUndo row) ∷ []) pages ≡ new = ap (with_page pages u) (changed_is (PutUndo row) old page is) in
    let meta : old.kind ≢ Meta = λ (e : old.kind ≡ Meta). let both : Undo ≡ Meta = sym kind ∙ e in absurd cc in
    let keeps = content_keeps spare pages height u page tree (applied-page (PutUndo row) old page (tree.sound u lt) is_row is) (record { kind = refl; low = refl; high = refl; children = refl }) meta (omega (arith, length-append old.rows (row ∷ []))) in
    let others : (n : ℕ) → n ≢ u → new n ≡ pages n = with_page-other pages u page in
    let here : (index : ℕ) → record_in page index ≡ cond (index == length old.rows) (Some row) (record_in old index) = λ index.
    let test : is_of Undo old ≡ true = kind_test Undo old kind in
    ap (λ (b : Bool). cond b (slice_get (old.rows ++ row ∷ []) index) None) test ∙ slice_get_push old.rows row index ∙ ap (λ (b : Bool). cond (index == length old.rows) (Some row) (cond b (slice_get old.rows index) None)) (sym test) in
    record {
      meets = (can_apply (PutUndo row) old page is, tt);
      tree = subst (λ (m : PageMap). TreeWith spare m height) (sym after) (kept_tree spare spare pages new height keeps tree);
      rows = ap (λ (m : PageMap). tree_rows m height) after ∙ kept_rows spare pages new height keeps.shape tree (λ n e. ap (λ (p : PageView). p.rows) (others n (kind_apart pages n u Leaf Undo e kind (λ (x : Leaf ≡ Undo). absurd cc))));
      fresh = ap (λ (b : Bool). cond b (slice_get old.rows (length old.rows)) None) (kind_test Undo old kind) ∙ slice_get_past old.rows (length old.rows) (omega arith);
      added = λ link. ap (λ (m : PageMap). undo_at m link) after ∙ at_page pages u page (λ n view. record_in view link.index ≡ cond ((n == u) && (link.index == length old.rows)) (Some row) (record_in (pages n) link.index))
          (here link.index ∙ ap (λ (b : Bool). cond (b && (link.index == length old.rows)) (Some row) (record_in old link.index)) (sym (eq-eqb u u refl)))
          (λ n other. let test : (n == u) ≡ false = grind (arith, nat_tests) in ap (λ (b : Bool). cond (b && (link.index == length old.rows)) (Some row) (record_in (pages n) link.index)) (sym test)) link.page;
      others = λ n other. ap (λ (m : PageMap). m n) after ∙ others n other;
    }

-- ---- a leaf's row is put

rows_apart : (pages : PageMap) (m : ℕ) (page : PageView) (level : List Child) → uses m (numbers level) ≡ 0 → rows_under (with_page pages m page) level ≡ rows_under pages level
rows_apart pages m page [] none = refl
rows_apart pages m page (child ∷ level) none =
    let parts = uses-head m child.page (numbers level) none in
    ap (λ (p : PageView). p.rows ++ rows_under (with_page pages m page) level) (with_page-other pages m page child.page parts.0) ∙ ap (λ (xs : List Row). (pages child.page).rows ++ xs) (rows_apart pages m page level parts.1)

-- a map whose leaf has a row put is a tree with that row put among all
pub record PutsRow (spare : List ℕ) (pages : PageMap) (height m : ℕ) (row : Row) (new : PageMap) : Type 0 where
  pub tree : TreeWith spare new height
  pub rows : tree_rows new height ≡ with_cell (λ r. r.key) row (tree_rows pages height)
  pub undo : (link : Link) → undo_at new link ≡ undo_at pages link

pub leaf_put : (spare : List ℕ) (pages : PageMap) (height m : ℕ) (row : Row) → TreeWith spare pages height → m < 4096 → (pages m).kind ≡ Leaf → (pages m).low ≤ row.key → row.key < (pages m).high → IsPage (record (pages m) { rows = with_cell (λ r. r.key) row (pages m).rows }) → PutsRow spare pages height m row (with_page pages m (record (pages m) { rows = with_cell (λ r. r.key) row (pages m).rows }))
leaf_put spare pages height m row tree lt kind from until is_page =
    let old = pages m in
    let page : PageView = record old { rows = with_cell (λ r. r.key) row old.rows } in
    let new = with_page pages m page in
    let meta : old.kind ≢ Meta = λ (e : old.kind ≡ Meta). let both : Leaf ≡ Meta = sym kind ∙ e in absurd cc in
    let facts = leaf_facts old (tree.sound m lt) kind in
    let count = length-with_cell (λ (r : Row). r.key) old.low old.high row old.rows facts.rises in
    let keeps = content_keeps spare pages height m page tree is_page (record { kind = refl; low = refl; high = refl; children = refl }) meta (omega (arith, count)) in
    let place = leaf_place spare pages height m tree lt kind in
    let front = rows_under pages place.before in
    let back = rows_under pages place.behind in
    let here : (new place.child.page).rows ≡ page.rows = ap (λ (n : ℕ). (new n).rows) place.page_is ∙ ap (λ (p : PageView). p.rows) (with_page-here pages m page) in
    let parts : rows_under new (place.before ++ place.child ∷ place.behind) ≡ front ++ (page.rows ++ back) =
    flat_map-append (λ (c : Child). (new c.page).rows) place.before (place.child ∷ place.behind)
    ∙ ap (λ (xs : List Row). xs ++ ((new place.child.page).rows ++ rows_under new place.behind)) (rows_apart pages m page place.before place.not_before)
    ∙ ap (λ (xs : List Row). front ++ ((new place.child.page).rows ++ xs)) (rows_apart pages m page place.behind place.not_behind)
    ∙ ap (λ (xs : List Row). front ++ (xs ++ back)) here in
    let none : (index : ℕ) → record_in page index ≡ record_in old index = λ index. no_record page index (kind_other Undo Leaf page kind refl) ∙ sym (no_record old index (kind_other Undo Leaf old kind refl)) in
    record {
      tree = kept_tree spare spare pages new height keeps tree;
      rows = ap (rows_under new) (kept_leaves spare pages new height keeps.shape tree ∙ place.whole) ∙ parts
          ∙ sym (with_cell-middle (λ (r : Row). r.key) row (low_of place.before place.child.low) old.low (low_of place.behind top) top front old.rows back place.front from place.back (omega (arith, until, place.next)))
          ∙ ap (with_cell (λ (r : Row). r.key) row) (sym place.rows);
      undo = undo_kept pages m page none;
    }
