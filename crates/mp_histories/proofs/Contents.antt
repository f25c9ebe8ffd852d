-- A well-made plan is well made over all maps with the same pages that it changes.
use Rattle.mp_cells.specs.declared.rows.Row.{Row}
use Rattle.mp_cells.specs.Trees.{PageMap}
use Rattle.mp_cells.specs.Plans.{Plan, AgreesOn}
use Rattle.mp_cells.specs.Writes.{WellPut, WellRestore}
use Rattle.mp_cells.proofs.Links.{agrees_on}

pub put_else : (plan : Plan) (given other : PageMap) (row : Row) → AgreesOn plan given other → WellPut given row plan → WellPut other row plan
put_else plan given other row same well = record {
  writes = λ pages agrees height tree. well.writes pages (agrees_on plan given other pages same agrees) height tree;
  puts = well.puts;
  keeps = well.keeps;
  restores = well.restores;
  taken = well.taken;
}

pub restore_else : (plan : Plan) (given other : PageMap) (row : Row) → AgreesOn plan given other → WellRestore given row plan → WellRestore other row plan
restore_else plan given other row same well = record {
  restores = λ pages agrees height tree. well.restores pages (agrees_on plan given other pages same agrees) height tree;
  one = well.one;
}
