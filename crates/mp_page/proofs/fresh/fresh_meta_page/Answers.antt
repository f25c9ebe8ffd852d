use Rattle.std.proofs.Common.{arith}
use Rattle.mp_cells.proofs.SmallTrees.{fresh_is_clean}
use Rattle.mp_page.proofs.fresh.fresh_meta_page.Goals as goal

pub new-requires : goal.new-requires
new-requires c = fresh_is_clean.tree.sound 0 (omega arith)
