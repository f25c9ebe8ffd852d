-- The header, and then the cells and zeros.
use Rattle.std.proofs.Common.{◌≡◌, ℕ, List, ◌++◌, refl, ap, ◌∙◌}
use Rattle.mp_cells.specs.PageView.{kind_number}
use Rattle.mp_page.specs.Grammar.{spelling, page_header}
use Rattle.mp_page.proofs.writing.write.Goals as goal

pub returns : goal.returns
unfolding spelling
returns c =
    let kind : c.kind_number-kind.result ≡ kind_number c.args.page.now.kind = c.kind_number-kind.ensures ∙ ap kind_number c.kind.ensures.value in
    let head : c.copy_from_slice.new.self ≡ page_header c.args.page.now =
    c.copy_from_slice.ensures.after ∙ c.header-head.ensures ∙ rw (kind, c.count.ensures, c.llsn.ensures.value, c.low.ensures, c.high.ensures) refl in
    ap (λ (front : List ℕ). front ++ c.write_cells.new.into) head ∙ ap (λ (back : List ℕ). page_header c.args.page.now ++ back) c.write_cells.ensures
