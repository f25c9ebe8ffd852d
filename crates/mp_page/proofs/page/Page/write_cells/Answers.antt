-- Behind the cells stand the zeros that stood there.
use Rattle.std.proofs.Common.{◌≡◌, sym, ap, ◌∙◌}
use Rattle.mp_model.specs.Padded.{padded}
use Rattle.mp_cells.specs.Rows.{IsRow}
use Rattle.mp_cells.specs.Children.{IsChild}
use Rattle.mp_cells.specs.RowCell.{row_cell, row_of, is_row_cell}
use Rattle.mp_cells.specs.ChildCell.{child_cell, child_of, is_child_cell}
use Rattle.mp_cells.specs.PageView.{PageView}
use Rattle.mp_page.specs.declared.body.Body.TheVariants.{Leaf, Inner, Undo}
use Rattle.mp_page.specs.Shown.{page_shown}
use Rattle.mp_page.specs.Grammar.{page_cells}
use Rattle.mp_page.proofs.Codecs.{row_codec, child_codec, filled}
use Rattle.mp_page.proofs.page.Page.write_cells.Goals as goal

pub returns-in-Leaf : goal.returns-in-Leaf
returns-in-Leaf c =
    let kept = rw c.in-Leaf.is at c.self.invariant.content in
    let whole : page_shown c.self.inside.llsn (Leaf c.in-Leaf.low c.in-Leaf.high c.in-Leaf.rows) ≡ c.args.self.now = ap (page_shown c.self.inside.llsn) (sym c.in-Leaf.is) ∙ c.self.view_is in
    filled is_row_cell 64 row_of row_cell IsRow (λ x. x.key) row_codec c.in-Leaf.rows c.as_slice-in-Leaf.result.now c.args.into.now c.write_rows.new.into kept.1 c.as_slice-in-Leaf.ensures c.requires c.write_rows.ensures
    ∙ ap (λ (page : PageView). padded 992 0 (page_cells page)) whole

pub returns-in-Inner : goal.returns-in-Inner
returns-in-Inner c =
    let kept = rw c.in-Inner.is at c.self.invariant.content in
    let whole : page_shown c.self.inside.llsn (Inner c.in-Inner.low c.in-Inner.high c.in-Inner.children) ≡ c.args.self.now = ap (page_shown c.self.inside.llsn) (sym c.in-Inner.is) ∙ c.self.view_is in
    filled is_child_cell 8 child_of child_cell IsChild (λ x. x.low) child_codec c.in-Inner.children c.as_slice-in-Inner.result.now c.args.into.now c.write_children.new.into kept.1 c.as_slice-in-Inner.ensures c.requires c.write_children.ensures
    ∙ ap (λ (page : PageView). padded 992 0 (page_cells page)) whole

pub returns-in-Undo : goal.returns-in-Undo
returns-in-Undo c =
    let kept = rw c.in-Undo.is at c.self.invariant.content in
    let whole : page_shown c.self.inside.llsn (Undo c.in-Undo.rows) ≡ c.args.self.now = ap (page_shown c.self.inside.llsn) (sym c.in-Undo.is) ∙ c.self.view_is in
    filled is_row_cell 64 row_of row_cell IsRow (λ x. x.key) row_codec c.in-Undo.rows c.as_slice-in-Undo.result.now c.args.into.now c.write_rows-in-Undo.new.into kept.1 c.as_slice-in-Undo.ensures c.requires c.write_rows-in-Undo.ensures
    ∙ ap (λ (page : PageView). padded 992 0 (page_cells page)) whole
