-- The row of the key in the leaf is its row among all.
use Rattle.std.proofs.Common.{sym, ap, ◌∙◌, arith}
use Rattle.mp_cells.specs.PageView.{PageView}
use Rattle.mp_cells.specs.Trees.{row_at}
use Rattle.mp_cells.proofs.TreeSearch.{tree_found}
use Rattle.mp_tree.proofs.Descent.{found_page, found_handed}
use Rattle.mp_tree.proofs.search.find.Goals as goal

pub returns-in-Ok-Some-clause-found : goal.returns-in-Ok-Some-clause-found
returns-in-Ok-Some-clause-found g c = λ pages e height tree.
    let found = found_page pages height c.args.key c.in-Ok-Some.field-0 c.in-Ok-Some.path c.in-Ok-Some.field-0-is (c.in-Ok-Some.ensures.found pages e height tree) in
    c.row_in.ensures.value ∙ ap (λ (p : PageView). row_at c.args.key p.rows) found.1 ∙ sym (tree_found pages height c.args.key tree (omega arith)).row

pub returns-in-Ok-Some-clause-leaf : goal.returns-in-Ok-Some-clause-leaf
returns-in-Ok-Some-clause-leaf g c = λ pages e height tree.
    found_handed (g.P.Pager.handed c.path_to.new.pager) pages height c.args.key c.in-Ok-Some.field-0 c.in-Ok-Some.path c.in-Ok-Some.field-0-is (c.in-Ok-Some.ensures.found pages e height tree) c.in-Ok-Some.ensures.path
