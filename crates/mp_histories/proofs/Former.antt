-- The row that a put or a restore comes over is fixed by the pages that its plan changes.
use Rattle.std.proofs.Common.{◌≡◌, ℕ, ◌<◌, ◌==◌, ◌&&◌, Bool, true, false, cond, List, [], Some, None, IsSome, refl, sym, ap, subst, ◌∙◌, inl, inr}
use mathlib.Core.Bool.{false≢true}
use Rattle.std.specs.List.{AllByRecursion}
use Rattle.std.proofs.lemmas.Bool.{and_parts}
use Rattle.mp_cells.specs.declared.changes.Change.TheVariants.{RestoreRow}
use Rattle.mp_cells.specs.declared.kinds.Kind.{Kind}
use Rattle.mp_cells.specs.declared.kinds.Kind.TheVariants.{Blank, Meta, Leaf, Inner, Undo}
use Rattle.mp_cells.specs.declared.changes.Change.{Change}
use Rattle.mp_cells.specs.declared.rows.Link.{Link}
use Rattle.mp_cells.specs.declared.rows.Row.{Row}
use Rattle.mp_cells.specs.Changes.{holds_row}
use Rattle.mp_cells.specs.Keys.{with_cell}
use Rattle.mp_cells.specs.PageView.{PageView, kind_number, is_of}
use Rattle.mp_cells.specs.Trees.{PageMap, IsTree, row_at, height_of, rows_in}
use Rattle.mp_cells.specs.Plans.{Plan, CanApply, Meets, after_plan, after_changes, of_page, AgreesOn, touches}
use Rattle.mp_cells.specs.Writes.{record_in, undo_at, version_of, WellPut, WritesRow, WellRestore, Restores, IsStep}
use Rattle.mp_cells.proofs.AppliedPages.{held_within}
use Rattle.mp_cells.proofs.ByPage.{after_plan-page}
use Rattle.mp_cells.proofs.Links.{added_there, agrees_itself, agrees_there}
use Rattle.mp_cells.proofs.MtrPages.{of_page-untouched}
use Rattle.mp_cells.proofs.Places.{row_in_leaf}
use Rattle.mp_cells.proofs.Spare.{with_none, leaf_facts}
use Rattle.mp_histories.specs.Chains.{row_of_key}
use Rattle.mp_histories.proofs.Writers.{decided}
use Rattle.mp_histories.proofs.Lists.{some_same, none_some}

-- a plan leaves the undo record at a link by what it does to the link's page
undo_by_page : (plan : Plan) (a b : PageMap) (link : Link) → (a link.page ≡ b link.page) → undo_at (after_plan plan a) link ≡ undo_at (after_plan plan b) link
undo_by_page plan a b link e =
    ap (λ (page : PageView). record_in page link.index)
    (after_plan-page plan a link.page ∙ ap (after_changes (of_page link.page plan)) e ∙ sym (after_plan-page plan b link.page))

undo_untouched : (plan : Plan) (a : PageMap) (link : Link) → touches link.page plan ≡ false → undo_at (after_plan plan a) link ≡ undo_at a link
undo_untouched plan a link e =
    ap (λ (page : PageView). record_in page link.index)
    (after_plan-page plan a link.page ∙ ap (λ (changes : List Change). after_changes changes (a link.page)) (of_page-untouched plan link.page e))

-- a put keeps the row that it comes over as an undo record on a page that it changes
pub same_former : (plan : Plan) (row : Row) (a b : PageMap) → WellPut a row plan → AgreesOn plan a b → IsTree a (height_of a) → IsTree b (height_of b) → row_of_key b row.key ≡ row_of_key a row.key
same_former plan row a b well agrees tree other =
    let w : WritesRow plan row a (height_of a) = well.writes a (agrees_itself plan a) (height_of a) tree in
    let v : WritesRow plan row b (height_of b) = well.writes b agrees (height_of b) other in
    let same : v.link ≡ w.link = some_same v.link w.link (sym v.linked ∙ w.linked) in
    let here : undo_at (after_plan plan a) w.link ≡ Some (row_of_key a row.key) = added_there a (after_plan plan a) w.link (row_of_key a row.key) w.undo in
    let there : undo_at (after_plan plan b) w.link ≡ Some (row_of_key b row.key) =
    ap (undo_at (after_plan plan b)) (sym same) ∙ added_there b (after_plan plan b) v.link (row_of_key b row.key) v.undo in
    elim (decided (touches w.link.page plan)) [
      | inl e ↦
          let page : b w.link.page ≡ a w.link.page = agrees_there plan a b w.link.page agrees e in
          some_same (row_of_key b row.key) (row_of_key a row.key) (sym there ∙ undo_by_page plan b a w.link page ∙ here)
      | inr e ↦ absurd (none_some (row_of_key a row.key) (sym w.undo.fresh ∙ sym (undo_untouched plan a w.link e) ∙ here))
    ]

-- ---- restores

leaf_kind : (kind : Kind) → (kind_number kind == 2) ≡ true → kind ≡ Leaf
leaf_kind Leaf h = refl
leaf_kind Blank h = absurd (false≢true h)
leaf_kind Meta h = absurd (false≢true h)
leaf_kind Inner h = absurd (false≢true h)
leaf_kind Undo h = absurd (false≢true h)

passed : (b : Bool) (page : PageView) → IsSome (cond b (Some page) None) → b ≡ true
passed true page h = refl
passed false page h = absurd (false≢true h)

-- a row that can be put back on a page is of a key that the page has, as a leaf
row_on_page : (pages : PageMap) (page : ℕ) (row : Row) → IsTree pages (height_of pages) → page < 4096 → CanApply (RestoreRow row) (pages page) → row_at row.key (rows_in pages) ≡ row_at row.key (pages page).rows
row_on_page pages page row tree lt can =
    let old : PageView = pages page in
    let tests = and_parts (is_of Leaf old) (holds_row row.key old) (passed (is_of Leaf old && holds_row row.key old) (record old { rows = with_cell (λ r. r.key) row old.rows }) can) in
    let kind : old.kind ≡ Leaf = leaf_kind old.kind tests.0 in
    let facts = leaf_facts old (tree.sound page lt) kind in
    let within = held_within (λ (x : Row). x.key) old.low old.high row.key old.rows facts.rises tests.1 in
    row_in_leaf [] pages (height_of pages) page row.key (with_none pages (height_of pages) tree) lt kind within.0 within.1

pub same_replaced : (plan : Plan) (row : Row) (a b : PageMap) → WellRestore a row plan → AgreesOn plan a b → IsTree a (height_of a) → IsTree b (height_of b) → row_of_key b row.key ≡ row_of_key a row.key
same_replaced plan row a b well agrees tree other =
    let w : Restores plan row a (height_of a) = well.restores a (agrees_itself plan a) (height_of a) tree in
    let v : Restores plan row b (height_of b) = well.restores b agrees (height_of b) other in
    let page : ℕ = well.one.0 in
    let changes = subst (λ (p : Plan). AllByRecursion IsStep p) well.one.1 w.changes in
    let meets = subst (λ (p : Plan). Meets p a) well.one.1 w.meets in
    let meets' = subst (λ (p : Plan). Meets p b) well.one.1 v.meets in
    let same = subst (λ (p : Plan). AgreesOn p a b) well.one.1 agrees in
    ap (version_of row.key) (
    row_on_page b page row other changes.0.0 meets'.0
    ∙ ap (λ (p : PageView). row_at row.key p.rows) same.0
    ∙ sym (row_on_page a page row tree changes.0.0 meets.0))
