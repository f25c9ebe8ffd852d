-- The leaf's rows from the key on, and its fence.
use Rattle.std.proofs.Common.{◌≡◌, ap, ◌∙◌, arith}
use Rattle.mp_cells.specs.PageView.{PageView}
use Rattle.mp_tree.specs.Searches.{rows_above, leaf_for}
use Rattle.mp_tree.proofs.Descent.{found_page, found_handed, are_leaf_rows}
use Rattle.mp_tree.proofs.search.rows_from.Goals as goal

pub returns-in-Ok-Some-clause-found : goal.returns-in-Ok-Some-clause-found
returns-in-Ok-Some-clause-found g c = λ pages e height tree.
    let found = found_page pages height c.args.low c.in-Ok-Some.field-0 c.in-Ok-Some.path c.in-Ok-Some.field-0-is (c.in-Ok-Some.ensures.found pages e height tree) in
    let rows : c.rows_in.result ≡ rows_above c.args.low (leaf_for pages height c.args.low).rows = c.rows_in.ensures.value ∙ ap (λ (p : PageView). rows_above c.args.low p.rows) found.1 in
    let next : c.high.result ≡ (leaf_for pages height c.args.low).high = c.high.ensures ∙ ap (λ (p : PageView). p.high) found.1 in
    rw (rows, next) (are_leaf_rows pages height c.args.low tree (omega arith))

pub returns-in-Ok-Some-clause-leaf : goal.returns-in-Ok-Some-clause-leaf
returns-in-Ok-Some-clause-leaf g c = λ pages e height tree.
    found_handed (g.P.Pager.handed c.path_to.new.pager) pages height c.args.low c.in-Ok-Some.field-0 c.in-Ok-Some.path c.in-Ok-Some.field-0-is (c.in-Ok-Some.ensures.found pages e height tree) c.in-Ok-Some.ensures.path
