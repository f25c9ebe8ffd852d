-- What is read is spelled so, and what is spelled so is read.
use Rattle.std.proofs.Common.{Some, sym, ap, ◌∙◌, arith}
use mathlib.Core.Bool.{false≢true}
use Rattle.mp_cells.specs.declared.rows.Row.{Row}
use Rattle.mp_cells.proofs.RowSpelling.{found, reads_only}
use Rattle.mp_cells.proofs.row_bytes.read_row.Goals as goal

pub returns-then-is_cell_of-clause-found : goal.returns-then-is_cell_of-clause-found
returns-then-is_cell_of-clause-found c = found c.args.bytes.now (λ i. omega (arith, c.type_inv.bytes i)) (sym c.is_cell_of.ensures ∙ c.if-is_cell_of.true) c.row_of-row.result c.row_of-row.ensures

pub returns-then-is_cell_of-clause-only : goal.returns-then-is_cell_of-clause-only
returns-then-is_cell_of-clause-only c = λ row is_row spelled. ap (λ (r : Row). Some r) (c.row_of-row.ensures ∙ (reads_only c.args.bytes.now row is_row spelled).0)

pub returns-else-is_cell_of-clause-only : goal.returns-else-is_cell_of-clause-only
returns-else-is_cell_of-clause-only c = λ row is_row spelled. absurd (false≢true (sym c.if-is_cell_of.false ∙ c.is_cell_of.ensures ∙ (reads_only c.args.bytes.now row is_row spelled).1))
