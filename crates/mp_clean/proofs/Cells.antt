-- What is read of one page, cell by cell.
use Rattle.std.proofs.Common.{◌≡◌, ◌≢◌, ℕ, zero, suc, ◌+◌, ◌<◌, ◌≤◌, ◌&&◌, not, Bool, true, false, cond, List, [], ◌∷◌, length, drop, Some, None, refl, sym, ap, ◌∙◌, arith}
use mathlib.Core.Bool.{false≢true}
use Rattle.std.specs.Prelude.{is_none, is_some, Option}
use Rattle.std.specs.List.{slice_get, list_all}
use Rattle.std.proofs.lemmas.Option.{slice_get_within, get_or_from_slice_get}
use Rattle.std.proofs.lemmas.List.{drop_more}
use Rattle.std.proofs.lemmas.Bool.{lt-ltb, le-ltb}
use Rattle.mp_model.specs.declared.ids.TrxId.{TrxId}
use Rattle.mp_cells.specs.declared.kinds.Kind.{Kind}
use Rattle.mp_cells.specs.declared.kinds.Kind.TheVariants.{Blank, Meta, Leaf, Inner, Undo}
use Rattle.mp_cells.specs.declared.rows.Row.{Row}
use Rattle.mp_cells.specs.declared.children.Child.{Child}
use Rattle.mp_cells.specs.PageView.{PageView, IsPage, count_of, begins_at}
use Rattle.mp_cells.specs.Trees.{PageMap, root, low_of, child_from, child_at, leaf_at}
use Rattle.mp_cells.proofs.Spare.{content_of, inner_facts}
use Rattle.mp_clean.specs.CleanPages.{fits_child, fit_children, is_unwritten}

pub leaf_count : (page : PageView) → IsPage page → page.kind ≡ Leaf → count_of page ≡ length page.rows
leaf_count page h e = let c = content_of Leaf page h e in ap count_of c.0

pub inner_count : (page : PageView) → IsPage page → page.kind ≡ Inner → count_of page ≡ length page.children
inner_count page h e = let c = content_of Inner page h e in ap count_of c.0

some_child : (low : ℕ) (children : List Child) → begins_at low children ≡ true → 0 < length children
some_child low [] h = absurd (false≢true h)
some_child low (child ∷ children) h = omega arith

pub has_child : (page : PageView) → IsPage page → page.kind ≡ Inner → 0 < length page.children
has_child page h e = some_child page.low page.children (inner_facts page h e).first

-- a page of another kind than an inner one has no children
pub no_children : (page : PageView) → IsPage page → page.kind ≢ Inner → page.children ≡ []
no_children page h other = by_kind page.kind refl
  where
    by_kind : (kind : Kind) → page.kind ≡ kind → page.children ≡ []
    by_kind Blank e = ap (λ (p : PageView). p.children) (content_of Blank page h e)
    by_kind Meta e = ap (λ (p : PageView). p.children) (content_of Meta page h e).0
    by_kind Leaf e = ap (λ (p : PageView). p.children) (content_of Leaf page h e).0
    by_kind Inner e = absurd (other e)
    by_kind Undo e = ap (λ (p : PageView). p.children) (content_of Undo page h e).0

-- a cell, and those behind it
pub next_cell : {T : Type 0} (cells : List T) (i : ℕ) (cell : T) → slice_get cells i ≡ Some cell → drop i cells ≡ cell ∷ drop (i + 1) cells
next_cell cells i cell h = drop_more cells i cell (slice_get_within cells i cell h) ∙ ap (λ x. x ∷ drop (i + 1) cells) (get_or_from_slice_get cells i cell cell h)

-- the child that may hold a key, among those from the i-th on
pub child_here : (key : ℕ) (children : List Child) (i : ℕ) (child next : Child) → slice_get children i ≡ Some next → key < next.low → child_from key child (drop i children) ≡ child
child_here key children i child next h lt =
    ap (child_from key child) (next_cell children i next h) ∙ ap (λ (b : Bool). cond b child (child_from key next (drop (i + 1) children))) (lt-ltb key next.low lt)

pub child_later : (key : ℕ) (children : List Child) (i : ℕ) (child next : Child) → slice_get children i ≡ Some next → next.low ≤ key → child_from key child (drop i children) ≡ child_from key next (drop (i + 1) children)
child_later key children i child next h le =
    ap (child_from key child) (next_cell children i next h) ∙ ap (λ (b : Bool). cond b child (child_from key next (drop (i + 1) children))) (le-ltb key next.low le)

pub child_first : (key : ℕ) (children : List Child) (first : Child) → slice_get children 0 ≡ Some first → child_from key first (drop 1 children) ≡ child_at key children
child_first key [] first h = absurd cc
child_first key (child ∷ children) first h = ap (λ (c : Child). child_from key c children) (let e : child ≡ first = cc in sym e)

-- a search goes on one level down
pub leaf_at-more : (pages : PageMap) (depth key : ℕ) (child : Child) → leaf_at pages (suc depth) key child ≡ child_at key (pages (leaf_at pages depth key child).page).children
leaf_at-more pages zero key child = refl
leaf_at-more pages (suc depth) key child = leaf_at-more pages depth key (child_at key (pages child.page).children)

pub one_down : (pages : PageMap) (depth key number : ℕ) (page : PageView) (child : Child) → number ≡ (leaf_at pages depth key root).page → page ≡ pages number → child ≡ child_at key page.children
    → child.page ≡ (leaf_at pages (depth + 1) key root).page
one_down pages depth key number page child at here e =
    let more : depth + 1 ≡ suc depth = omega arith in
    ap (λ (c : Child). c.page) (e ∙ ap (λ (p : PageView). child_at key p.children) (here ∙ ap pages at) ∙ sym (leaf_at-more pages depth key root)) ∙ ap (λ (d : ℕ). (leaf_at pages d key root).page) (sym more)

-- a row with a writer ends the test of rows, and one without leaves it to those behind it
writer_none : (writer : Option TrxId) (b : Bool) → is_some writer ≡ b → is_none writer ≡ not b
writer_none None b e = ap not e
writer_none (Some id) b e = ap not e

rows_later : (rows : List Row) (i : ℕ) (row : Row) (written : Bool) → slice_get rows i ≡ Some row → is_some row.writer ≡ written → list_all is_unwritten (drop i rows) ≡ (not written && list_all is_unwritten (drop (i + 1) rows))
rows_later rows i row written h e =
    ap (list_all is_unwritten) (next_cell rows i row h) ∙ ap (λ (b : Bool). b && list_all is_unwritten (drop (i + 1) rows)) (writer_none row.writer written e)

pub row_written : (rows : List Row) (i : ℕ) (row : Row) → slice_get rows i ≡ Some row → is_some row.writer ≡ true → list_all is_unwritten (drop i rows) ≡ false
row_written rows i row h e = rows_later rows i row true h e

pub row_unwritten : (rows : List Row) (i : ℕ) (row : Row) → slice_get rows i ≡ Some row → is_some row.writer ≡ false → list_all is_unwritten (drop i rows) ≡ list_all is_unwritten (drop (i + 1) rows)
row_unwritten rows i row h e = rows_later rows i row false h e

-- a child that doesn't fit ends the test of children, and one that does leaves it to those behind it
children_later : (pages : PageMap) (kind : Kind) (high : ℕ) (children : List Child) (i : ℕ) (child : Child) (end : ℕ) (fits : Bool) → slice_get children i ≡ Some child
    → end ≡ low_of (drop (i + 1) children) high → fits ≡ fits_child pages kind end child
    → fit_children pages kind high (drop i children) ≡ (fits && fit_children pages kind high (drop (i + 1) children))
children_later pages kind high children i child end fits h e test =
    ap (fit_children pages kind high) (next_cell children i child h)
    ∙ ap (λ (b : Bool). b && fit_children pages kind high (drop (i + 1) children)) (sym (test ∙ ap (λ (bound : ℕ). fits_child pages kind bound child) e))

pub child_amiss : (pages : PageMap) (kind : Kind) (high : ℕ) (children : List Child) (i : ℕ) (child : Child) (end : ℕ) (fits : Bool) → slice_get children i ≡ Some child
    → end ≡ low_of (drop (i + 1) children) high → fits ≡ fits_child pages kind end child → fits ≡ false → fit_children pages kind high (drop i children) ≡ false
child_amiss pages kind high children i child end fits h e test amiss =
    children_later pages kind high children i child end fits h e test ∙ ap (λ (b : Bool). b && fit_children pages kind high (drop (i + 1) children)) amiss

pub child_fits : (pages : PageMap) (kind : Kind) (high : ℕ) (children : List Child) (i : ℕ) (child : Child) (end : ℕ) (fits : Bool) → slice_get children i ≡ Some child
    → end ≡ low_of (drop (i + 1) children) high → fits ≡ fits_child pages kind end child → fits ≡ true → fit_children pages kind high (drop i children) ≡ fit_children pages kind high (drop (i + 1) children)
child_fits pages kind high children i child end fits h e test good =
    children_later pages kind high children i child end fits h e test ∙ ap (λ (b : Bool). b && fit_children pages kind high (drop (i + 1) children)) good

-- a child ends at the next one
pub ends_at_next : (children : List Child) (i : ℕ) (next : Child) (high : ℕ) → slice_get children i ≡ Some next → low_of (drop i children) high ≡ next.low
ends_at_next children i next high h = ap (λ (xs : List Child). low_of xs high) (next_cell children i next h)
