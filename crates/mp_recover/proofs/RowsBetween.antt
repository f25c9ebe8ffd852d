-- The rows between two keys, and then those up to a third.
use Rattle.std.proofs.Common.{◌≡◌, ℕ, ◌+◌, ◌<◌, ◌≤◌, Bool, true, false, List, [], ◌∷◌, ◌++◌, refl, sym, ap, ◌∙◌, inl, inr, arith}
use Rattle.std.specs.Prelude.{◌&&◌, nat_le}
use Rattle.std.proofs.lemmas.Bool.{cases_Bool, cases_lt, lt-ltb, le-ltb, le-leb, lt-leb}
use Rattle.std.proofs.lemmas.List.{append_assoc}
use Rattle.mp_model.specs.declared.key_value.KeyValue.{KeyValue}
use Rattle.mp_model.specs.Folded.{row_of}
use Rattle.mp_cells.specs.declared.rows.Row.{Row}
use Rattle.mp_cells.specs.Trees.{PageMap, top, IsTree, tree_rows}
use Rattle.mp_cells.proofs.KeyOrder.{Rises}
use Rattle.mp_cells.proofs.TreeSearch.{tree_rows_rise}
use Rattle.mp_tree.specs.Searches.{rows_between}
use Rattle.mp_recover.specs.KeptCommits.{write_of, present}
use Rattle.mp_recover.specs.PresentRows.{PushesLeaf}

abbrev pub KeysRise : ℕ → List Row → Type 0
KeysRise low rows = Rises (λ (row : Row). row.key) low top rows

-- no row lies between two keys of which the second isn't above the first row's
pub none_between : (low high from : ℕ) (rows : List Row) → KeysRise from rows → high ≤ from → rows_between low high rows ≡ []
none_between low high from [] rise le = refl
none_between low high from (row ∷ rows) rise le =
    let at : from ≤ row.key = rise.0 in
    rw (le-ltb row.key high (omega (arith, at, le)), and_false (nat_le low row.key)) (none_between low high (row.key + 1) rows rise.2 (omega (arith, at, le)))
  where
    and_false : (b : Bool) → (b && false) ≡ false
    and_false true = refl
    and_false false = refl

-- rows at or above a key are at or above any lower one
above_between : (low mid high from : ℕ) (rows : List Row) → KeysRise from rows → low ≤ mid → mid ≤ from → rows_between mid high rows ≡ rows_between low high rows
above_between low mid high from [] rise lower le = refl
above_between low mid high from (row ∷ rows) rise lower le =
    let at : from ≤ row.key = rise.0 in
    rw (le-leb mid row.key (omega (arith, at, le)), le-leb low row.key (omega (arith, at, le, lower)), above_between low mid high (row.key + 1) rows rise.2 lower (omega (arith, at, le))) refl

pub between_next : (low mid high from : ℕ) (rows : List Row) → KeysRise from rows → low ≤ mid → mid ≤ high → rows_between low mid rows ++ rows_between mid high rows ≡ rows_between low high rows
between_next low mid high from [] rise lower upper = refl
between_next low mid high from (row ∷ rows) rise lower upper = elim (cases_lt row.key mid) [
  | inl lt ↦ elim (cases_Bool (nat_le low row.key)) [
    | inl in_ ↦ rw (in_, lt-ltb row.key mid lt, lt-ltb row.key high (omega (arith, lt, upper)), lt-leb mid row.key lt) (ap (λ (xs : List Row). row ∷ xs) (between_next low mid high (row.key + 1) rows rise.2 lower upper))
    | inr out ↦ rw (out, lt-leb mid row.key lt) (between_next low mid high (row.key + 1) rows rise.2 lower upper)
  ]
  | inr ge ↦
      ap (λ (xs : List Row). xs ++ rows_between mid high (row ∷ rows)) (none_between low mid row.key (row ∷ rows) (omega arith, rise.1, rise.2) ge)
      ∙ above_between low mid high row.key (row ∷ rows) (omega arith, rise.1, rise.2) lower ge
]

pub all_between : (from : ℕ) (rows : List Row) → KeysRise from rows → rows_between 0 top rows ≡ rows
all_between from [] rise = refl
all_between from (row ∷ rows) rise = rw (le-leb 0 row.key (omega arith), lt-ltb row.key top rise.1) (ap (λ (xs : List Row). row ∷ xs) (all_between (row.key + 1) rows rise.2))

pub none_yet : (from : ℕ) (rows : List Row) → KeysRise from rows → rows_between 0 0 rows ≡ []
none_yet from rows rise = none_between 0 0 from rows rise (omega arith)

pub present-append : (xs ys : List Row) → present (xs ++ ys) ≡ present xs ++ present ys
present-append [] ys = refl
present-append (row ∷ xs) ys = ap (λ (zs : List KeyValue). row_of (write_of row) ++ zs) (present-append xs ys) ∙ sym (append_assoc (row_of (write_of row)) (present xs) (present ys))

-- the rows so far, and those of one leaf more
pub pushed_next : (rows : List Row) (low next from : ℕ) (old new : List KeyValue) → KeysRise from rows → old ≡ present (rows_between 0 low rows) → PushesLeaf rows low next old new → new ≡ present (rows_between 0 next rows)
pushed_next rows low next from old new rise so_far more =
    more.pushed ∙ ap (λ (xs : List KeyValue). xs ++ present (rows_between low next rows)) so_far
    ∙ sym (present-append (rows_between 0 low rows) (rows_between low next rows))
    ∙ ap present (between_next 0 low next from rows rise (omega arith) (let a : low < next = more.above in omega (arith, a)))

-- ---- of a tree

pub tree_none : (pages : PageMap) (height : ℕ) → IsTree pages height → [] ≡ present (rows_between 0 0 (tree_rows pages height))
tree_none pages height tree = sym (ap present (none_yet 0 (tree_rows pages height) (tree_rows_rise pages height tree)))

pub tree_next : (pages : PageMap) (height low next : ℕ) (old new : List KeyValue) → IsTree pages height → old ≡ present (rows_between 0 low (tree_rows pages height)) → PushesLeaf (tree_rows pages height) low next old new
    → new ≡ present (rows_between 0 next (tree_rows pages height))
tree_next pages height low next old new tree so_far more = pushed_next (tree_rows pages height) low next 0 old new (tree_rows_rise pages height tree) so_far more

pub tree_all : (pages : PageMap) (height low : ℕ) (found : List KeyValue) → IsTree pages height → low ≤ top → top ≤ low → found ≡ present (rows_between 0 low (tree_rows pages height)) → found ≡ present (tree_rows pages height)
tree_all pages height low found tree most least so_far =
    let same : low ≡ top = omega (arith, most, least) in
    so_far ∙ ap (λ (n : ℕ). present (rows_between 0 n (tree_rows pages height))) same ∙ ap present (all_between 0 (tree_rows pages height) (tree_rows_rise pages height tree))
