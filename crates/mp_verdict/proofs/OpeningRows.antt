-- The rows that a run begins with have at each key what the opening pages have.
use Rattle.std.proofs.Common.{◌≡◌, ℕ, ◌+◌, ◌<◌, ◌==◌, Bool, true, false, cond, List, [], ◌∷◌, ◌++◌, Option, Some, None, refl, sym, ap, ◌∙◌, inl, inr, arith}
use Rattle.std.specs.Prelude.{IfSome}
use Rattle.std.specs.List.{flat_map, AllByRecursion}
use Rattle.mp_model.specs.Values.{is_value}
use Rattle.mp_script.specs.SpelledLines.{IsRowInRange}
use Rattle.mp_cells.specs.declared.kinds.Kind.TheVariants.{Leaf}
use Rattle.mp_cells.specs.declared.children.Child.{Child}
use Rattle.mp_cells.specs.Rows.{IsRow}
use Rattle.mp_cells.proofs.KeyEdits.{All-append}
use Rattle.mp_cells.proofs.Places.{leaves_fit, leaves_in_range}
use Rattle.mp_cells.proofs.Spare.{content_of}
use Rattle.std.proofs.lemmas.Bool.{eqb-true}
use Rattle.mp_model.specs.declared.key_value.KeyValue.{KeyValue}
use Rattle.mp_model.specs.Folded.{value_at, KeysAscend}
use Rattle.mp_verdict.proofs.RisingRows.{RowsRise, rise_ascend, rise_below, none_below}
use Rattle.mp_cells.specs.declared.rows.Row.{Row}
use Rattle.mp_cells.specs.Trees.{PageMap, IsTree, root, Fits, leaves, rows_under, row_at, height_of, rows_in, top}
use Rattle.mp_cells.specs.Writes.{version_of}
use Rattle.mp_cells.proofs.KeyOrder.{Rises, Rises-wider}
use Rattle.mp_cells.proofs.TreeSearch.{InRange, root_range, tree_rows_rise}
use Rattle.mp_histories.specs.Chains.{row_of_key}
use Rattle.mp_histories.proofs.Writers.{decided}
use Rattle.mp_supports.specs.Seeing.{key_value_of}

-- the rows with values of some rows of pages
abbrev pub valued_rows : List Row → List KeyValue
valued_rows rows = flat_map (λ row. key_value_of row.key row.value) rows

pub valued_rise : (low high : ℕ) (rows : List Row) → Rises (λ row. row.key) low high rows → RowsRise low high (valued_rows rows)
valued_rise low high [] r = tt
valued_rise low high (row ∷ rows) r = with_value row.value (valued_rise (row.key + 1) high rows r.2)
  where
    with_value : (value : Option (List ℕ)) → RowsRise (row.key + 1) high (valued_rows rows) → RowsRise low high (key_value_of row.key value ++ valued_rows rows)
    with_value (Some value) rest = (r.0, r.1, rest)
    with_value None rest = let from = r.0 in Rises-wider (λ (x : KeyValue). x.key) (row.key + 1) high low high (valued_rows rows) (omega (arith, from)) (omega arith) rest

valued_at : (key low high : ℕ) (rows : List Row) → Rises (λ row. row.key) low high rows → value_at key (valued_rows rows) ≡ (version_of key (row_at key rows)).value
valued_at key low high [] r = refl
valued_at key low high (row ∷ rows) r = elim (decided (row.key == key)) [
  | inl e ↦
      let at : row.key ≡ key = eqb-true row.key key e in
      let none : value_at key (valued_rows rows) ≡ None = none_below key (row.key + 1) high (valued_rows rows) (valued_rise (row.key + 1) high rows r.2) (omega (arith, at)) in
      here row.value e none ∙ sym (ap (λ (b : Bool). (version_of key (cond b (Some row) (row_at key rows))).value) e)
  | inr e ↦ past row.value e ∙ valued_at key (row.key + 1) high rows r.2 ∙ sym (ap (λ (b : Bool). (version_of key (cond b (Some row) (row_at key rows))).value) e)
]
  where
    here : (value : Option (List ℕ)) → (row.key == key) ≡ true → value_at key (valued_rows rows) ≡ None → value_at key (key_value_of row.key value ++ valued_rows rows) ≡ value
    here (Some value) e none = ap (λ (b : Bool). cond b (Some value) (value_at key (valued_rows rows))) e
    here None e none = none

    past : (value : Option (List ℕ)) → (row.key == key) ≡ false → value_at key (key_value_of row.key value ++ valued_rows rows) ≡ value_at key (valued_rows rows)
    past (Some value) e = ap (λ (b : Bool). cond b (Some value) (value_at key (valued_rows rows))) e
    past None e = refl

valued_range : (rows : List Row) → AllByRecursion IsRow rows → AllByRecursion IsRowInRange (valued_rows rows)
valued_range [] all = tt
valued_range (row ∷ rows) all = with_value row.value all.0.value (valued_range rows all.1)
  where
    with_value : (value : Option (List ℕ)) → IfSome value (λ v. is_value v ≡ true) → AllByRecursion IsRowInRange (valued_rows rows) → AllByRecursion IsRowInRange (key_value_of row.key value ++ valued_rows rows)
    with_value (Some value) is rest = (record { key = all.0.key; value = is }, rest)
    with_value None is rest = rest

rows_all : (P : Row → Type 0) (pages : PageMap) → ((n : ℕ) → n < 4096 → (pages n).kind ≡ Leaf → AllByRecursion P (pages n).rows) → (high : ℕ) (level : List Child) → InRange level → Fits pages Leaf high level → AllByRecursion P (rows_under pages level)
rows_all P pages all high [] r f = tt
rows_all P pages all high (child ∷ level) r f = All-append P (pages child.page).rows (rows_under pages level) (all child.page r.0 f.0) (rows_all P pages all high level r.1 f.3)

module _ (pages : PageMap) (tree : IsTree pages (height_of pages)) where
  pub opening_range : AllByRecursion IsRowInRange (valued_rows (rows_in pages))
  opening_range =
      let height = height_of pages in
      valued_range (rows_in pages) (rows_all IsRow pages (λ n lt kind. (content_of Leaf (pages n) (tree.sound n lt) kind).2) top (leaves pages height (root ∷ [])) (leaves_in_range pages tree.sound height (root ∷ []) root_range tree.levels) (leaves_fit pages height (root ∷ []) tree.levels))

  pub opening_values : (key : ℕ) → value_at key (valued_rows (rows_in pages)) ≡ (row_of_key pages key).value
  opening_values key = valued_at key 0 top (rows_in pages) (tree_rows_rise pages (height_of pages) tree)

  pub opening_ascend : KeysAscend (valued_rows (rows_in pages))
  opening_ascend = rise_ascend 0 top (valued_rows (rows_in pages)) (valued_rise 0 top (rows_in pages) (tree_rows_rise pages (height_of pages) tree))

  pub opening_below : AllByRecursion (λ row. row.key < top) (valued_rows (rows_in pages))
  opening_below = rise_below 0 top (valued_rows (rows_in pages)) (valued_rise 0 top (rows_in pages) (tree_rows_rise pages (height_of pages) tree))
