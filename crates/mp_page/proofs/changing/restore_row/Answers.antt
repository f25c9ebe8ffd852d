-- Keys of a leaf rise.
use Rattle.mp_page.proofs.Applied.{leaf_rises}
use Rattle.mp_page.proofs.changing.restore_row.Goals as goal

pub holds-requires : goal.holds-requires
holds-requires c = let kept = rw c.in-Leaf.is at c.requires in leaf_rises c.in-Leaf.low c.in-Leaf.high c.in-Leaf.rows kept.0

pub put_at_key-requires-clause-rises : goal.put_at_key-requires-clause-rises
put_at_key-requires-clause-rises c = let kept = rw c.in-Leaf.is at c.requires in leaf_rises c.in-Leaf.low c.in-Leaf.high c.in-Leaf.rows kept.0
