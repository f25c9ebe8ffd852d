-- A leaf with its rows settled.
use Rattle.std.proofs.Common.{◌≡◌, ℕ, true, List, IsTrue, slice_get, slice_set, sym, ap, subst, ◌∙◌, arith}
use Rattle.mp_cells.specs.declared.kinds.Kind.TheVariants.{Leaf}
use Rattle.mp_cells.specs.declared.rows.Row.{Row}
use Rattle.mp_cells.specs.PageView.{blank_page, is_leaf, leaf_page, is_of}
use Rattle.mp_cells.specs.Plans.{with_page, page_or}
use Rattle.mp_cells.specs.PageMaps.{page_at}
use Rattle.mp_cells.specs.Writes.{undo_at}
use Rattle.mp_recover.specs.Settling.{trx_ids, leaf_settled}
use Rattle.mp_recover.proofs.Redone.{page_at_set}
use Rattle.mp_recover.proofs.SettledPages.{settled_leaf, page_is_leaf, leaf_made}
use Rattle.mp_recover.proofs.settling.settle_page.Goals as goal

pub leaf_with-requires-clause-fit : goal.leaf_with-requires-clause-fit
leaf_with-requires-clause-fit c =
    let page = c.get.result.now in
    let leaf : is_of Leaf page ≡ true = sym c.is_leaf_page.ensures.is ∙ c.if-not-is_leaf_page.false in
    subst (λ (rows : List Row). IsTrue (is_leaf page.low page.high rows)) (sym c.settled_cells-cells.ensures.settled)
    (settled_leaf (trx_ids c.args.ids.now.items) (undo_at (page_at c.args.pages.now.items)) page.low page.high page.rows ∙ page_is_leaf page c.is_leaf_page.ensures.page leaf)

pub returns-clause-settled : goal.returns-clause-settled
returns-clause-settled c =
    let pages = c.args.pages.now.items in
    let number = c.args.number in
    let page = c.get.result.now in
    let ids = trx_ids c.args.ids.now.items in
    let undo = undo_at (page_at pages) in
    let leaf : is_of Leaf page ≡ true = sym c.is_leaf_page.ensures.is ∙ c.if-not-is_leaf_page.false in
    let there : page_at pages number ≡ page = ap (page_or (blank_page 0)) (ap (slice_get pages) (sym c.from.ensures) ∙ c.get.ensures) in
    let made : c.leaf_with.result ≡ leaf_settled ids undo (page_at pages number) =
    c.leaf_with.ensures ∙ ap (λ (rows : List Row). leaf_page page.llsn page.low page.high rows) c.settled_cells-cells.ensures.settled ∙ leaf_made ids undo page c.is_leaf_page.ensures.page leaf ∙ ap (leaf_settled ids undo) (sym there) in
    ap (λ (k : ℕ). page_at (slice_set pages k c.leaf_with.result)) c.from-2.ensures ∙ page_at_set pages number c.leaf_with.result (omega (arith, c.requires.pages, c.requires.number)) ∙ ap (with_page (page_at pages) number) made
