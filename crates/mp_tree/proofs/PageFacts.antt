-- What is known of a page of a kind, and steps along its cells.
use Rattle.std.proofs.Common.{◌≡◌, ℕ, ◌+◌, ◌-◌, ◌<◌, ◌≤◌, nat_le, nat_lt, ◌==◌, ◌≢◌, Bool, true, false, cond, List, [], ◌∷◌, ◌++◌, length, take, drop, get_or, Some, refl, sym, ap, subst, ◌∙◌, arith}
use mathlib.Core.Bool.{false≢true}
use Rattle.std.proofs.lemmas.Option.{slice_get_within, get_or_from_slice_get}
use Rattle.std.proofs.lemmas.List.{drop_more, length-drop, get_or-drop, take_more, take_all}
use Rattle.std.proofs.lemmas.Bool.{lt-ltb, le-leb}
use Rattle.std.proofs.lemmas.Bool.Decides.{nat_tests}
use Rattle.std.specs.List.{slice_get}
use Rattle.std.specs.Prelude.{is_some, ◌||◌}
use Rattle.mp_cells.specs.Keys.{holds}
use Rattle.mp_cells.specs.declared.kinds.Kind.{Kind}
use Rattle.mp_cells.specs.declared.kinds.Kind.TheVariants.{Leaf, Inner}
use Rattle.mp_cells.specs.declared.rows.Row.{Row}
use Rattle.mp_cells.specs.declared.children.Child.{Child}
use Rattle.mp_cells.specs.PageView.{PageView, IsPage, HasContent, count_of, begins_at}
use Rattle.mp_cells.specs.Trees.{row_at, child_from, child_at}
use Rattle.mp_cells.proofs.PageRanges.{LeafRanges, leaf_ranges, InnerRanges, inner_ranges}
use Rattle.mp_plans.specs.Growth.{first_key}
use Rattle.mp_tree.specs.Searches.{rows_above}

pub content_of : (kind : Kind) (page : PageView) → IsPage page → page.kind ≡ kind → HasContent kind page
content_of kind page h e = subst (λ (k : Kind). HasContent k page) e h.content

pub leaf_facts : (page : PageView) → IsPage page → page.kind ≡ Leaf → LeafRanges page.low page.high page.rows
leaf_facts page h e = leaf_ranges page.low page.high page.rows (content_of Leaf page h e).1

pub inner_facts : (page : PageView) → IsPage page → page.kind ≡ Inner → InnerRanges page.low page.high page.children
inner_facts page h e = inner_ranges page.low page.high page.children (content_of Inner page h e).1

pub leaf_count : (page : PageView) → IsPage page → page.kind ≡ Leaf → count_of page ≡ length page.rows
leaf_count page h e = let c = content_of Leaf page h e in ap count_of c.0

pub inner_count : (page : PageView) → IsPage page → page.kind ≡ Inner → count_of page ≡ length page.children
inner_count page h e = let c = content_of Inner page h e in ap count_of c.0

pub some_child : (low : ℕ) (children : List Child) → begins_at low children ≡ true → 0 < length children
some_child low [] h = absurd (false≢true h)
some_child low (child ∷ children) h = omega arith

-- a cell, and those behind it
pub next_cell : {T : Type 0} (cells : List T) (i : ℕ) (cell : T) → slice_get cells i ≡ Some cell → drop i cells ≡ cell ∷ drop (i + 1) cells
next_cell cells i cell h = drop_more cells i cell (slice_get_within cells i cell h) ∙ ap (λ x. x ∷ drop (i + 1) cells) (get_or_from_slice_get cells i cell cell h)

-- the row of a key among the rows from the i-th on
pub row_here : (key : ℕ) (rows : List Row) (i : ℕ) (row : Row) → slice_get rows i ≡ Some row → row.key ≡ key → row_at key (drop i rows) ≡ Some row
row_here key rows i row h e =
    let test : (row.key == key) ≡ true = grind (arith, nat_tests) in
    ap (row_at key) (next_cell rows i row h) ∙ ap (λ (b : Bool). cond b (Some row) (row_at key (drop (i + 1) rows))) test

pub row_later : (key : ℕ) (rows : List Row) (i : ℕ) (row : Row) → slice_get rows i ≡ Some row → row.key ≢ key → row_at key (drop i rows) ≡ row_at key (drop (i + 1) rows)
row_later key rows i row h e =
    let test : (row.key == key) ≡ false = grind (arith, nat_tests) in
    ap (row_at key) (next_cell rows i row h) ∙ ap (λ (b : Bool). cond b (Some row) (row_at key (drop (i + 1) rows))) test

-- the rows from a key on, one more or none
pub row_kept : (low : ℕ) (rows : List Row) (i : ℕ) (row : Row) → slice_get rows i ≡ Some row → low ≤ row.key → rows_above low (drop i rows) ≡ row ∷ rows_above low (drop (i + 1) rows)
row_kept low rows i row h le =
    let test : nat_le low row.key ≡ true = le-leb low row.key le in
    ap (rows_above low) (next_cell rows i row h) ∙ ap (λ (b : Bool). cond b (row ∷ rows_above low (drop (i + 1) rows)) (rows_above low (drop (i + 1) rows))) test

pub row_passed : (low : ℕ) (rows : List Row) (i : ℕ) (row : Row) → slice_get rows i ≡ Some row → row.key < low → rows_above low (drop i rows) ≡ rows_above low (drop (i + 1) rows)
row_passed low rows i row h lt =
    let test : nat_le low row.key ≡ false = grind (arith, nat_tests) in
    ap (rows_above low) (next_cell rows i row h) ∙ ap (λ (b : Bool). cond b (row ∷ rows_above low (drop (i + 1) rows)) (rows_above low (drop (i + 1) rows))) test

-- the child that may hold a key, among those from the i-th on
pub child_here : (key : ℕ) (children : List Child) (i : ℕ) (child next : Child) → slice_get children i ≡ Some next → key < next.low → child_from key child (drop i children) ≡ child
child_here key children i child next h lt =
    ap (child_from key child) (next_cell children i next h) ∙ ap (λ (b : Bool). cond b child (child_from key next (drop (i + 1) children))) (lt-ltb key next.low lt)

pub child_later : (key : ℕ) (children : List Child) (i : ℕ) (child next : Child) → slice_get children i ≡ Some next → next.low ≤ key → child_from key child (drop i children) ≡ child_from key next (drop (i + 1) children)
child_later key children i child next h le =
    let test : nat_lt key next.low ≡ false = grind (arith, nat_tests) in
    ap (child_from key child) (next_cell children i next h) ∙ ap (λ (b : Bool). cond b child (child_from key next (drop (i + 1) children))) test

pub child_first : (key : ℕ) (children : List Child) (first : Child) → slice_get children 0 ≡ Some first → child_from key first (drop 1 children) ≡ child_at key children
child_first key [] first h = absurd cc
child_first key (child ∷ children) first h = ap (λ (c : Child). child_from key c children) (let e : child ≡ first = cc in sym e)

-- a key has a row where a row has the key
pub held_row : (key : ℕ) (rows : List Row) → is_some (row_at key rows) ≡ holds (λ row. row.key) key rows
held_row key [] = refl
held_row key (row ∷ rows) = by_test (row.key == key) (held_row key rows)
  where
    by_test : (b : Bool) → is_some (row_at key rows) ≡ holds (λ r. r.key) key rows → is_some (cond b (Some row) (row_at key rows)) ≡ (b || holds (λ r. r.key) key rows)
    by_test true e = refl
    by_test false e = e

-- the first key behind a place, and the cells from one place to another
pub first_at : {T : Type 0} (key : T → ℕ) (cells : List T) (i : ℕ) (cell : T) → slice_get cells i ≡ Some cell → key cell ≡ first_key key (drop i cells)
first_at key cells i cell h = sym (ap (first_key key) (next_cell cells i cell h))

pub taken_next : {T : Type 0} (cells : List T) (from i : ℕ) (cell : T) → from ≤ i → slice_get cells i ≡ Some cell → take (i - from) (drop from cells) ++ cell ∷ [] ≡ take (i + 1 - from) (drop from cells)
taken_next {T} cells from i cell le h =
    let within = slice_get_within cells i cell h in
    let at : from + (i - from) ≡ i = omega arith in
    let more : i + 1 - from ≡ i - from + 1 = omega arith in
    let here : get_or (drop from cells) (i - from) cell ≡ cell = get_or-drop from cells (i - from) cell ∙ ap (λ (n : ℕ). get_or cells n cell) at ∙ get_or_from_slice_get cells i cell cell h in
    ap (λ (x : T). take (i - from) (drop from cells) ++ x ∷ []) (sym here)
    ∙ sym (take_more (drop from cells) (i - from) cell (omega (arith, length-drop from cells)))
    ∙ ap (λ (n : ℕ). take n (drop from cells)) (sym more)

pub taken_rest : {T : Type 0} (cells : List T) (from n : ℕ) → length cells ≡ n → take (n - from) (drop from cells) ≡ drop from cells
taken_rest cells from n e = take_all (n - from) (drop from cells) (omega (arith, length-drop from cells, e))
