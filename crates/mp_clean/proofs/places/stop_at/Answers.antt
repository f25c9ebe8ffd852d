-- One level down.
use Rattle.mp_cells.specs.PageMaps.{page_at}
use Rattle.mp_clean.proofs.Cells.{one_down}
use Rattle.mp_clean.proofs.places.stop_at.Goals as goal

pub loop-level-preserved : goal.loop-level-preserved
loop-level-preserved c = record {
  at = one_down (page_at c.args.pages.now.items) c.loop-level._level c.args.key c.loop-level.number c.page_at.result c.child_for-number.result c.loop-level.invariant.at c.page_at.ensures c.child_for-number.ensures;
}
