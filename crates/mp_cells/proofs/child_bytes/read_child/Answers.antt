-- What is read is spelled so, and what is spelled so is read.
use Rattle.std.proofs.Common.{Some, sym, ap, ◌∙◌, arith}
use mathlib.Core.Bool.{false≢true}
use Rattle.mp_cells.specs.declared.children.Child.{Child}
use Rattle.mp_cells.proofs.ChildSpelling.{found, reads_only}
use Rattle.mp_cells.proofs.child_bytes.read_child.Goals as goal

pub returns-then-is_child_cell-clause-found : goal.returns-then-is_child_cell-clause-found
returns-then-is_child_cell-clause-found c = found c.args.bytes.now c.requires (λ i. omega (arith, c.type_inv.bytes i)) (sym c.is_child_cell.ensures ∙ c.if-is_child_cell.true) c.child_of.result c.child_of.ensures

pub returns-then-is_child_cell-clause-only : goal.returns-then-is_child_cell-clause-only
returns-then-is_child_cell-clause-only c = λ child is_child spelled. ap (λ (r : Child). Some r) (c.child_of.ensures ∙ (reads_only c.args.bytes.now child is_child spelled).0)

pub returns-else-is_child_cell-clause-only : goal.returns-else-is_child_cell-clause-only
returns-else-is_child_cell-clause-only c = λ child is_child spelled. absurd (false≢true (sym c.if-is_child_cell.false ∙ c.is_child_cell.ensures ∙ (reads_only c.args.bytes.now child is_child spelled).1))
