-- The row of a key in clean pages has no link and no writer, and is of that key.
use Rattle.std.proofs.Common.{◌≡◌, ℕ, ◌<◌, ◌==◌, Bool, cond, List, [], ◌∷◌, Option, Some, None, IsTrue, refl, sym, subst, inl, inr}
use mathlib.Core.Bool.{false≢true}
use Rattle.std.specs.List.{AllByRecursion}
use Rattle.std.proofs.lemmas.Bool.{eqb-true}
use Rattle.mp_model.specs.declared.ids.TrxId.{TrxId}
use Rattle.mp_cells.specs.declared.kinds.Kind.TheVariants.{Leaf}
use Rattle.mp_cells.specs.declared.rows.Link.{Link}
use Rattle.mp_cells.specs.declared.rows.Row.{Row}
use Rattle.mp_cells.specs.declared.children.Child.{Child}
use Rattle.mp_cells.specs.Rows.{IsRow, is_origin}
use Rattle.mp_cells.specs.Trees.{PageMap, root, Fits, leaves, rows_under, row_at, height_of, rows_in, IsClean, IsUnwritten}
use Rattle.mp_cells.specs.Writes.{version_of}
use Rattle.mp_cells.proofs.KeyEdits.{All-append}
use Rattle.mp_cells.proofs.TreeSearch.{InRange, root_range}
use Rattle.mp_cells.proofs.Places.{leaves_fit, leaves_in_range}
use Rattle.mp_cells.proofs.Spare.{content_of}
use Rattle.mp_histories.specs.Chains.{row_of_key}
use Rattle.mp_histories.proofs.Writers.{decided}

rows_all : (P : Row → Type 0) (pages : PageMap) → ((n : ℕ) → n < 4096 → (pages n).kind ≡ Leaf → AllByRecursion P (pages n).rows) → (high : ℕ) (level : List Child) → InRange level → Fits pages Leaf high level → AllByRecursion P (rows_under pages level)
rows_all P pages all high [] r f = tt
rows_all P pages all high (child ∷ level) r f = All-append P (pages child.page).rows (rows_under pages level) (all child.page r.0 f.0) (rows_all P pages all high level r.1 f.3)

row_at_all : (P : Row → Type 0) (key : ℕ) (rows : List Row) → AllByRecursion P rows → P (version_of key None) → P (version_of key (row_at key rows))
row_at_all P key [] h none = none
row_at_all P key (row ∷ rows) h none = elim (decided (row.key == key)) [
  | inl e ↦ subst (λ (b : Bool). P (version_of key (cond b (Some row) (row_at key rows)))) (sym e) h.0
  | inr e ↦ subst (λ (b : Bool). P (version_of key (cond b (Some row) (row_at key rows)))) (sym e) (row_at_all P key rows h.1 none)
]

pub version_key : (key : ℕ) (rows : List Row) → (version_of key (row_at key rows)).key ≡ key
version_key key [] = refl
version_key key (row ∷ rows) = elim (decided (row.key == key)) [
  | inl e ↦ subst (λ (b : Bool). (version_of key (cond b (Some row) (row_at key rows))).key ≡ key) (sym e) (eqb-true row.key key e)
  | inr e ↦ subst (λ (b : Bool). (version_of key (cond b (Some row) (row_at key rows))).key ≡ key) (sym e) (version_key key rows)
]

no_origin : (writer : Option TrxId) (link : Option Link) → writer ≡ None → IsTrue (is_origin writer link) → link ≡ None
no_origin None None e h = refl
no_origin None (Some link) e h = absurd (false≢true h)
no_origin (Some id) link e h = absurd cc

-- a row without writer and link
abbrev pub IsPlain : Row → Type 0
IsPlain row = (row.writer ≡ None) × (row.link ≡ None)

plain_rows : (rows : List Row) → AllByRecursion IsRow rows → AllByRecursion IsUnwritten rows → AllByRecursion IsPlain rows
plain_rows [] r u = tt
plain_rows (row ∷ rows) r u = ((u.0, no_origin row.writer row.link u.0 r.0.origin), plain_rows rows r.1 u.1)

pub clean_plain : (base : ℕ) (pages : PageMap) → IsClean base pages → (key : ℕ) → IsPlain (row_of_key pages key)
clean_plain base pages clean key =
    let height = height_of pages in
    let all : (n : ℕ) → n < 4096 → (pages n).kind ≡ Leaf → AllByRecursion IsPlain (pages n).rows =
    λ n lt kind. plain_rows (pages n).rows (content_of Leaf (pages n) (clean.tree.sound n lt) kind).2 (clean.no_writers n lt kind) in
    row_at_all IsPlain key (rows_in pages)
    (rows_all IsPlain pages all _ (leaves pages height (root ∷ [])) (leaves_in_range pages clean.tree.sound height (root ∷ []) root_range clean.tree.levels) (leaves_fit pages height (root ∷ []) clean.tree.levels))
    (refl, refl)
