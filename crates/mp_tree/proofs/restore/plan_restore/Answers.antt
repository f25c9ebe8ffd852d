-- The leaf holds the key where the tree does, and its row is put back.
use Rattle.std.proofs.Common.{◌≡◌, [], ◌∷◌, ◌++◌, false, sym, ap, subst, ◌∙◌}
use Rattle.std.specs.Prelude.{is_some}
use mathlib.Core.Bool.{false≢true}
use Rattle.mp_cells.specs.declared.changes.Change.TheVariants.{RestoreRow}
use Rattle.mp_cells.specs.Changes.{holds_row}
use Rattle.mp_cells.specs.PageView.{PageView}
use Rattle.mp_cells.specs.Trees.{row_at}
use Rattle.mp_cells.proofs.TreeSearch.{tree_found}
use Rattle.mp_cells.specs.Plans.{Plan}
use Rattle.mp_cells.specs.Writes.{WellRestore}
use Rattle.mp_plans.proofs.Finish.{well_restored}
use Rattle.mp_tree.proofs.PageFacts.{held_row}
use Rattle.mp_tree.proofs.Descent.{found_page, handed_path}
use Rattle.mp_tree.proofs.restore.plan_restore.Goals as goal

pub returns-then-holds_key-clause-plan : goal.returns-then-holds_key-clause-plan
returns-then-holds_key-clause-plan g c = λ given e height tree held.
    let leaf = (handed_path (g.P.Pager.handed c.path_to.new.pager) c.args.former.now.key c.in-Ok-Some.field-0 c.in-Ok-Some.path c.in-Ok-Some.field-0-is c.in-Ok-Some.ensures.path).leaf in
    let here : given c.in-Ok-Some.path.leaf.number ≡ c.in-Ok-Some.path.leaf.page = e c.in-Ok-Some.path.leaf.number c.in-Ok-Some.path.leaf.page leaf.handed in
    let row = c.args.former.now in
    let is : c.put.new.self ≡ (c.in-Ok-Some.path.leaf.number, RestoreRow row) ∷ [] = c.put.ensures ∙ ap (λ (plan : Plan). plan ++ (c.in-Ok-Some.path.leaf.number, RestoreRow row) ∷ []) c.clear.ensures in
    subst (WellRestore given row) (sym is)
    (well_restored given c.in-Ok-Some.path.leaf.number row leaf.range (ap (λ (p : PageView). p.kind) here ∙ leaf.kind) (ap (holds_row row.key) here ∙ sym c.holds_key.ensures ∙ c.if-holds_key.true) c.requires)

pub returns-else-holds_key-clause-plan : goal.returns-else-holds_key-clause-plan
returns-else-holds_key-clause-plan g c = λ given e height tree held.
    let key = c.args.former.now.key in
    let found = found_page given height key c.in-Ok-Some.field-0 c.in-Ok-Some.path c.in-Ok-Some.field-0-is (c.in-Ok-Some.ensures.found given e height tree) in
    let lt = c.requires.key in
    let none : is_some (row_at key c.in-Ok-Some.path.leaf.page.rows) ≡ false = held_row key c.in-Ok-Some.path.leaf.page.rows ∙ sym c.holds_key.ensures ∙ c.if-holds_key.false in
    let row = (tree_found given height key tree lt).row ∙ ap (λ (p : PageView). row_at key p.rows) (sym found.1) in
    absurd (false≢true (sym none ∙ sym (ap is_some row) ∙ held))
