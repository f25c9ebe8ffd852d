-- Pages after a rollback are settled.
use Rattle.std.proofs.Common.{◌≡◌, ◌≢◌, ℕ, ◌+◌, ◌<◌, ◌≤◌, true, List, [], ◌∷◌, Some, refl, sym, ap, subst, ◌∙◌, inl, inr, arith}
use Rattle.std.specs.List.{AllByRecursion}
use Rattle.std.proofs.lemmas.Bool.{cases_Bool, eq-eqb, ne_eqb}
use Rattle.mp_model.specs.declared.ids.TrxId.{TrxId}
use Rattle.mp_cells.specs.declared.kinds.Kind.TheVariants.{Meta, Leaf, Undo}
use Rattle.mp_cells.specs.declared.rows.Row.{Row}
use Rattle.mp_cells.specs.Rows.{IsRow}
use Rattle.mp_cells.specs.PageView.{PageView, is_of}
use Rattle.mp_cells.specs.Trees.{PageMap, IsTree, row_at, rows_in, height_of}
use Rattle.mp_cells.specs.Writes.{undo_at, version_of}
use Rattle.mp_cells.proofs.KeyOrder.{Rises}
use Rattle.mp_cells.proofs.Spare.{with_none, content_of, leaf_facts}
use Rattle.mp_cells.proofs.Places.{row_in_leaf}
use Rattle.mp_histories.specs.Chains.{row_over}
use Rattle.mp_recover.specs.KeptCommits.{KeptCommit}
use Rattle.mp_recover.specs.Settled.{without_writer, SettledRow, SettledRows, IsSettled}
use Rattle.mp_recover.specs.Settling.{most_steps, steps_down, row_settled, rows_settled, pages_settled}
use Rattle.mp_recover.specs.Standing.{ChainsStand}
use Rattle.mp_recover.proofs.SettledPages.{leaf_kind, undo_kind}
use Rattle.mp_recover.proofs.SettledChains.{chain_walked}
use Rattle.mp_recover.proofs.SettledTree.{tree_undo, map_settled, tree_page, undo_page_freed, settled_leaf_page, new_bit}

abbrev RowsRise : ℕ → ℕ → List Row → Type 0
RowsRise low high rows = Rises (λ (row : Row). row.key) low high rows

-- a row of rising rows is found by its key, between the bounds
abbrev IsFoundIn : ℕ → ℕ → List Row → Row → Type 0
IsFoundIn low high all row = (row_at row.key all ≡ Some row) × (low ≤ row.key) × (row.key < high)

found_later : (low high : ℕ) (first : Row) (all rows : List Row) → low ≤ first.key → AllByRecursion (IsFoundIn (first.key + 1) high all) rows → AllByRecursion (IsFoundIn low high (first ∷ all)) rows
found_later low high first all [] le found = tt
found_later low high first all (row ∷ rows) le found =
    let above : first.key + 1 ≤ row.key = found.0.1 in
    ((rw (ne_eqb first.key row.key (λ z. omega (arith, z, above))) found.0.0, omega (arith, le, above), found.0.2), found_later low high first all rows le found.1)

all_found : (low high : ℕ) (rows : List Row) → RowsRise low high rows → AllByRecursion (IsFoundIn low high rows) rows
all_found low high [] rise = tt
all_found low high (row ∷ rows) rise = ((rw (eq-eqb row.key row.key refl) refl, rise.0, rise.1), found_later low high row rows rows rise.0 (all_found (row.key + 1) high rows rise.2))

module _ (ids : List TrxId) (pages : PageMap) (tree : IsTree pages (height_of pages)) (commits : List KeptCommit) (last : ℕ → Row) (keys : (key : ℕ) → (last key).key ≡ key) (stands : ChainsStand commits pages last) where
  row_is : (n : ℕ) → n < 4096 → (pages n).kind ≡ Leaf → (row : Row) → IsRow row → IsFoundIn (pages n).low (pages n).high (pages n).rows row → SettledRow ids pages row (row_settled ids (undo_at pages) row)
  row_is n lt kind row is found =
      let key : row_at row.key (rows_in pages) ≡ Some row = row_in_leaf [] pages (height_of pages) n row.key (with_none pages (height_of pages) tree) lt kind found.1 found.2 ∙ found.0 in
      let chain = stands row.key is.key in
      let head : row ≡ row_over chain.versions (last row.key) = sym (ap (version_of row.key) key) ∙ chain.head in
      record {
        versions = chain.versions;
        last = last row.key;
        head = head;
        chain = chain.chain;
        unwritten = chain.stands.ends;
        new_is = ap (λ (r : Row). without_writer (steps_down most_steps ids (undo_at pages) r)) head
            ∙ ap without_writer (chain_walked ids (undo_at pages) row.key chain.versions (last row.key) (tree_undo pages tree.sound) (subst IsRow head is) chain.chain chain.keys (keys row.key) chain.stands.ends);
      }

  rows_are : (n : ℕ) → n < 4096 → (pages n).kind ≡ Leaf → (rows : List Row) → AllByRecursion IsRow rows → AllByRecursion (IsFoundIn (pages n).low (pages n).high (pages n).rows) rows
      → SettledRows ids pages rows (rows_settled ids (undo_at pages) rows)
  rows_are n lt kind [] are found = tt
  rows_are n lt kind (row ∷ rows) are found = (row_is n lt kind row are.0 found.0, rows_are n lt kind rows are.1 found.1)

  leaf_is : (n : ℕ) → (pages n).kind ≡ Leaf → pages_settled ids pages n ≡ record (pages n) { rows = rows_settled ids (undo_at pages) (pages n).rows }
  leaf_is n kind = (let is : is_of Leaf (pages n) ≡ true = rw kind refl in settled_leaf_page ids pages (height_of pages) tree n kind ∙ rw is refl)

  not_zero : (n : ℕ) → (pages n).kind ≡ Undo → n ≢ 0
  not_zero n kind z = (let both : Undo ≡ Meta = sym kind ∙ ap (λ (m : ℕ). (pages m).kind) z ∙ tree.meta in absurd cc)

  undo_test : (n : ℕ) → (pages n).kind ≡ Undo → is_of Undo (pages n) ≡ true
  undo_test n kind = rw kind refl

  other_is : (n : ℕ) → 1 ≤ n → (pages n).kind ≢ Leaf → (pages n).kind ≢ Undo → pages_settled ids pages n ≡ pages n
  other_is n le no_leaf no_undo = elim (cases_Bool (is_of Undo (pages n))) [
    | inl undo ↦ absurd (no_undo (undo_kind (pages n) undo))
    | inr none ↦ elim (cases_Bool (is_of Leaf (pages n))) [
      | inl leaf ↦ absurd (no_leaf (leaf_kind (pages n) leaf))
      | inr other ↦ tree_page ids pages n (λ z. omega (arith, z, le)) none ∙ rw other refl
    ]
  ]

  pub all_settled : IsSettled ids pages (pages_settled ids pages)
  all_settled = record {
    rows = λ n lt kind.
        subst (λ (p : PageView). SettledRows ids pages (pages n).rows p.rows) (sym (leaf_is n kind))
        (rows_are n lt kind (pages n).rows (content_of Leaf (pages n) (tree.sound n lt) kind).2 (all_found (pages n).low (pages n).high (pages n).rows (leaf_facts (pages n) (tree.sound n lt) kind).rises));
    leaf = λ n lt kind. leaf_is n kind ∙ ap (λ (p : PageView). record (pages n) { rows = p.rows }) (sym (leaf_is n kind));
    undo = λ n lt kind. undo_page_freed ids pages n (not_zero n kind) lt (undo_test n kind);
    bits = λ n lt. new_bit ids pages (height_of pages) tree n lt;
    map = λ no_leaf no_undo. map_settled ids pages tree.meta ∙ ap (λ (p : PageView). record (pages 0) { bits = p.bits }) (sym (map_settled ids pages tree.meta));
    same = λ n le lt no_leaf no_undo. other_is n le no_leaf no_undo;
  }
