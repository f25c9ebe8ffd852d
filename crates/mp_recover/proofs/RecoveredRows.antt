-- The rows of settled pages are the stored rows with the commits folded in.
use Rattle.std.proofs.Common.{◌≡◌, ◌≢◌, ℕ, ◌+◌, ◌<◌, ◌≤◌, ◌==◌, Bool, true, false, cond, List, [], ◌∷◌, ◌++◌, Option, Some, None, refl, sym, ap, subst, ◌∙◌, inl, inr, arith}
use Rattle.std.specs.List.{AllByRecursion}
use Rattle.std.proofs.lemmas.Bool.{cases_Bool, cases_lt, ne_eqb}
use Rattle.std.proofs.lemmas.List.{map-append}
use Rattle.mp_model.specs.declared.ids.TrxId.{TrxId}
use Rattle.mp_model.specs.Folded.{value_at}
use Rattle.mp_cells.specs.declared.kinds.Kind.TheVariants.{Leaf}
use Rattle.mp_cells.specs.declared.records.Mtr.{Mtr}
use Rattle.mp_cells.specs.declared.rows.Row.{Row}
use Rattle.mp_cells.specs.declared.children.Child.{Child}
use Rattle.mp_cells.specs.Mtrs.{IsMtr}
use Rattle.mp_cells.specs.Rows.{IsRow}
use Rattle.mp_cells.specs.PageView.{PageView, IsPage, is_of}
use Rattle.mp_cells.specs.Trees.{PageMap, top, root, Fits, leaves, rows_under, row_at, height_of, rows_in, tree_rows, IsTree}
use Rattle.mp_cells.specs.Writes.{undo_at, version_of}
use Rattle.mp_cells.specs.Orders.{sorted_by}
use Rattle.mp_cells.proofs.KeyEdits.{All-append}
use Rattle.mp_cells.proofs.KeyOrder.{Rises}
use Rattle.mp_cells.proofs.TreeSearch.{InRange, root_range, tree_rows_rise}
use Rattle.mp_cells.proofs.Places.{leaves_fit, leaves_in_range}
use Rattle.mp_cells.proofs.Spare.{with_none, content_of}
use Rattle.mp_cells.proofs.Shapes.{kept_leaves}
use Rattle.mp_histories.specs.Chains.{UndoMap, row_over, IsChain, row_of_key}
use Rattle.mp_histories.proofs.CleanRows.{version_key}
use Rattle.mp_histories.proofs.Lists.{none_some}
use Rattle.mp_recover.specs.KeptCommits.{KeptCommit, CommitsOnce, kept_commits, present, folded_in}
use Rattle.mp_recover.specs.Settled.{first_counted}
use Rattle.mp_recover.specs.Settling.{row_settled, rows_settled, most_steps, steps_down, pages_settled}
use Rattle.mp_recover.specs.Standing.{ChainStands, ChainsStand}
use Rattle.mp_recover.proofs.SettledPages.{settled_key}
use Rattle.mp_recover.proofs.SettledChains.{SoundUndo, linked_row, chain_rows, chain_walked}
use Rattle.mp_recover.proofs.SettledTree.{tree_undo, same_shape, settled_leaf_page, settled_tree}
use Rattle.mp_recover.proofs.LastWrites.{same_values, last_value, value_over, over_rises, present_rises, value_present}
use Rattle.mp_recover.proofs.PutKeys.{none_above}
use Rattle.mp_recover.proofs.LastCommits.{NoneWrote, ids_of, writes_of_all, none_value, rest_value, first_listed}

-- ---- the rows of settled leaves

rows_of_leaves : (ids : List TrxId) (pages : PageMap) (height : ℕ) (tree : IsTree pages height) (high : ℕ) (level : List Child) → Fits pages Leaf high level
    → rows_under (pages_settled ids pages) level ≡ rows_settled ids (undo_at pages) (rows_under pages level)
rows_of_leaves ids pages height tree high [] fits = refl
rows_of_leaves ids pages height tree high (child ∷ level) fits =
    let is_leaf : is_of Leaf (pages child.page) ≡ true = rw fits.0 refl in
    let page : pages_settled ids pages child.page ≡ record (pages child.page) { rows = rows_settled ids (undo_at pages) (pages child.page).rows } =
    settled_leaf_page ids pages height tree child.page fits.0 ∙ rw is_leaf refl in
    ap (λ (p : PageView). p.rows ++ rows_under (pages_settled ids pages) level) page
    ∙ ap (λ (xs : List Row). rows_settled ids (undo_at pages) (pages child.page).rows ++ xs) (rows_of_leaves ids pages height tree high level fits.3)
    ∙ sym (map-append (row_settled ids (undo_at pages)) (pages child.page).rows (rows_under pages level))

pub settled_rows_in : (ids : List TrxId) (pages : PageMap) (height : ℕ) → IsTree pages height → tree_rows (pages_settled ids pages) height ≡ rows_settled ids (undo_at pages) (tree_rows pages height)
settled_rows_in ids pages height tree =
    ap (rows_under (pages_settled ids pages)) (kept_leaves [] pages (pages_settled ids pages) height (same_shape ids pages height tree) (with_none pages height tree))
    ∙ rows_of_leaves ids pages height tree top (leaves pages height (root ∷ [])) (leaves_fit pages height (root ∷ []) tree.levels)

-- each row of a tree is a row that a page may keep
rows_all : (pages : PageMap) → ((n : ℕ) → n < 4096 → IsPage (pages n)) → (high : ℕ) (level : List Child) → InRange level → Fits pages Leaf high level → AllByRecursion IsRow (rows_under pages level)
rows_all pages sound high [] r f = tt
rows_all pages sound high (child ∷ level) r f =
    All-append IsRow (pages child.page).rows (rows_under pages level) (content_of Leaf (pages child.page) (sound child.page r.0) f.0).2 (rows_all pages sound high level r.1 f.3)

pub tree_rows_are : (pages : PageMap) (height : ℕ) → IsTree pages height → AllByRecursion IsRow (tree_rows pages height)
tree_rows_are pages height tree =
    rows_all pages tree.sound top (leaves pages height (root ∷ [])) (leaves_in_range pages tree.sound height (root ∷ []) root_range tree.levels) (leaves_fit pages height (root ∷ []) tree.levels)

-- ---- one key

row_found : (key : ℕ) (rows : List Row) (row : Row) → AllByRecursion IsRow rows → row_at key rows ≡ Some row → IsRow row
row_found key [] row all e = absurd (none_some row e)
row_found key (r ∷ rows) row all e = elim (cases_Bool (r.key == key)) [
  | inl same ↦ subst IsRow (some_row r row (sym (rw same refl) ∙ e)) all.0
  | inr other ↦ row_found key rows row all.1 (sym (rw other refl) ∙ e)
]
  where
    some_row : (a b : Row) → Some a ≡ Some b → a ≡ b
    some_row a b h = cc

abbrev mapped : (Row → Row) → Option Row → Option Row
mapped f None = None
mapped f (Some row) = Some (f row)

row_at_mapped : (ids : List TrxId) (undo : UndoMap) (key : ℕ) (rows : List Row) → row_at key (rows_settled ids undo rows) ≡ mapped (row_settled ids undo) (row_at key rows)
row_at_mapped ids undo key [] = refl
row_at_mapped ids undo key (row ∷ rows) = elim (cases_Bool (row.key == key)) [
  | inl same ↦ test true same ∙ sym (ap (λ (b : Bool). mapped (row_settled ids undo) (cond b (Some row) (row_at key rows))) same)
  | inr other ↦ test false other ∙ row_at_mapped ids undo key rows ∙ sym (ap (λ (b : Bool). mapped (row_settled ids undo) (cond b (Some row) (row_at key rows))) other)
]
  where
    test : (b : Bool) → (row.key == key) ≡ b → row_at key (rows_settled ids undo (row ∷ rows)) ≡ cond b (Some (row_settled ids undo row)) (row_at key (rows_settled ids undo rows))
    test b is =
        ap (λ (k : ℕ). cond (k == key) (Some (row_settled ids undo row)) (row_at key (rows_settled ids undo rows))) (settled_key ids undo row)
        ∙ ap (λ (c : Bool). cond c (Some (row_settled ids undo row)) (row_at key (rows_settled ids undo rows))) is

all_written : (undo : UndoMap) (versions : List Row) (last : Row) → AllByRecursion IsRow versions → IsChain undo versions last → AllByRecursion (λ (v : Row). v.writer ≢ None) versions
all_written undo [] last rows chain = tt
all_written undo (v ∷ vs) last rows chain = ((linked_row v chain.0.link rows.0 chain.0.linked).writer, all_written undo vs last rows.1 chain.1)

module _ (pages : PageMap) (tree : IsTree pages (height_of pages)) (commits : List KeptCommit) (once : CommitsOnce commits) (key : ℕ) (last : Row) (last_key : last.key ≡ key) (stands : ChainStands commits pages key last) where
  undo_sound : SoundUndo (undo_at pages)
  undo_sound = tree_undo pages tree.sound

  -- the value of the key's row, settled, is that of the first version that counts
  by_row : (found : Option Row) → row_at key (rows_in pages) ≡ found
      → ((version_of key (mapped (row_settled (ids_of commits) (undo_at pages)) found)).value ≡ (first_counted (ids_of commits) stands.versions last).value) × AllByRecursion (λ (v : Row). v.writer ≢ None) stands.versions
  by_row (Some row) e =
      let head : row ≡ row_over stands.versions last = sym (ap (version_of key) e) ∙ stands.head in
      let is : IsRow (row_over stands.versions last) = subst IsRow head (row_found key (rows_in pages) row (tree_rows_are pages (height_of pages) tree) e) in (
        ap (λ (r : Row). r.value) (ap (steps_down most_steps (ids_of commits) (undo_at pages)) head
            ∙ chain_walked (ids_of commits) (undo_at pages) key stands.versions last undo_sound is stands.chain stands.keys last_key stands.stands.ends),
        all_written (undo_at pages) stands.versions last (chain_rows (undo_at pages) stands.versions last undo_sound is stands.chain) stands.chain,
      )
  by_row None e = by_versions stands.versions stands.chain (sym (ap (version_of key) e) ∙ stands.head)
    where
      by_versions : (versions : List Row) → IsChain (undo_at pages) versions last → version_of key None ≡ row_over versions last
          → (◌≡◌ {A = Option (List ℕ)} None (first_counted (ids_of commits) versions last).value) × AllByRecursion (λ (v : Row). v.writer ≢ None) versions
      by_versions [] chain head = (ap (λ (r : Row). r.value) head, tt)
      by_versions (v ∷ vs) chain head = absurd (none_some chain.0.link (ap (λ (r : Row). r.link) head ∙ chain.0.linked))

  -- and that is the last write of the commits
  pub settled_value : (before : Option (List ℕ)) → before ≡ last.value
      → (version_of key (row_at key (rows_settled (ids_of commits) (undo_at pages) (rows_in pages)))).value ≡ last_value key (writes_of_all (sorted_by (λ (k : KeptCommit). k.cts) commits)) before
  settled_value before is =
      let row = by_row (row_at key (rows_in pages)) refl in
      ap (λ (o : Option Row). (version_of key o).value) (row_at_mapped (ids_of commits) (undo_at pages) key (rows_in pages)) ∙ row.0
      ∙ ap (λ (r : Row). r.value) (first_listed key commits last stands.versions stands.stands row.1)
      ∙ sym (rest_value key commits last stands.versions once stands.stands stands.stands.rest refl)
      ∙ ap (last_value key (writes_of_all (sorted_by (λ (k : KeptCommit). k.cts) commits))) (sym is)

-- ---- all keys

no_row_above : (key low : ℕ) (rows : List Row) → Rises (λ (row : Row). row.key) low top rows → top ≤ key → row_at key rows ≡ None
no_row_above key low [] rise le = refl
no_row_above key low (row ∷ rows) rise le = (let lt : row.key < top = rise.1 in rw (ne_eqb row.key key (λ z. omega (arith, z, lt, le))) (no_row_above key (row.key + 1) rows rise.2 le))

rows_folded : (stored pages : PageMap) (commits : List KeptCommit) → IsTree stored (height_of stored) → IsTree pages (height_of pages) → CommitsOnce commits → ((key : ℕ) → top ≤ key → NoneWrote key commits)
    → ChainsStand commits pages (row_of_key stored)
    → present (tree_rows (pages_settled (ids_of commits) pages) (height_of pages)) ≡ folded_in (present (rows_in stored)) commits
rows_folded stored pages commits stored_tree tree once none chains =
    same_values 0 0 _ _ (present_rises 0 (tree_rows (pages_settled (ids_of commits) pages) (height_of pages)) new_rise) (over_rises (writes_of_all (sorted_by (λ (k : KeptCommit). k.cts) commits)) (present (rows_in stored)) (present_rises 0 (rows_in stored) old_rise)) each
  where
    new_rise : Rises (λ (row : Row). row.key) 0 top (tree_rows (pages_settled (ids_of commits) pages) (height_of pages))
    new_rise = tree_rows_rise (pages_settled (ids_of commits) pages) (height_of pages) (settled_tree (ids_of commits) pages (height_of pages) tree)

    old_rise : Rises (λ (row : Row). row.key) 0 top (rows_in stored)
    old_rise = tree_rows_rise stored (height_of stored) stored_tree

    folded : (key : ℕ) → value_at key (folded_in (present (rows_in stored)) commits) ≡ last_value key (writes_of_all (sorted_by (λ (k : KeptCommit). k.cts) commits)) (row_of_key stored key).value
    folded key = value_over key (writes_of_all (sorted_by (λ (k : KeptCommit). k.cts) commits)) (present (rows_in stored)) ∙ ap (last_value key (writes_of_all (sorted_by (λ (k : KeptCommit). k.cts) commits))) (value_present key 0 (rows_in stored) old_rise)

    shown : (key : ℕ) → value_at key (present (tree_rows (pages_settled (ids_of commits) pages) (height_of pages))) ≡ (version_of key (row_at key (tree_rows (pages_settled (ids_of commits) pages) (height_of pages)))).value
    shown key = value_present key 0 (tree_rows (pages_settled (ids_of commits) pages) (height_of pages)) new_rise

    each : (key : ℕ) → value_at key (present (tree_rows (pages_settled (ids_of commits) pages) (height_of pages))) ≡ value_at key (folded_in (present (rows_in stored)) commits)
    each key = elim (cases_lt key top) [
      | inl lt ↦
          shown key ∙ ap (λ (rows : List Row). (version_of key (row_at key rows)).value) (settled_rows_in (ids_of commits) pages (height_of pages) tree)
          ∙ settled_value pages tree commits once key (row_of_key stored key) (version_key key (rows_in stored)) (chains key lt) (row_of_key stored key).value refl ∙ sym (folded key)
      | inr ge ↦
          shown key ∙ ap (λ (o : Option Row). (version_of key o).value) (no_row_above key 0 (tree_rows (pages_settled (ids_of commits) pages) (height_of pages)) new_rise ge)
          ∙ sym (folded key ∙ none_value key commits (row_of_key stored key).value (none key ge)
          ∙ ap (λ (o : Option Row). (version_of key o).value) (no_row_above key 0 (rows_in stored) old_rise ge))
    ]

pub rows_recovered : (stored pages : PageMap) (mtrs : List Mtr) → IsTree stored (height_of stored) → IsTree pages (height_of pages) → AllByRecursion IsMtr mtrs → CommitsOnce (kept_commits mtrs)
    → ChainsStand (kept_commits mtrs) pages (row_of_key stored)
    → present (tree_rows (pages_settled (ids_of (kept_commits mtrs)) pages) (height_of pages)) ≡ folded_in (present (rows_in stored)) (kept_commits mtrs)
rows_recovered stored pages mtrs stored_tree tree are once chains =
    rows_folded stored pages (kept_commits mtrs) stored_tree tree once (λ key le. none_above key mtrs are le) chains
