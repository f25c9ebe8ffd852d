-- Keys of a page of the tree rise.
use Rattle.mp_page.proofs.Applied.{leaf_rises, inner_rises}
use Rattle.mp_page.proofs.changing.cut.Goals as goal

pub cut-requires : goal.cut-requires
cut-requires c = let kept = rw c.in-Leaf.is at c.requires in leaf_rises c.in-Leaf.low c.in-Leaf.high c.in-Leaf.rows kept.0

pub cut-requires-in-Inner : goal.cut-requires-in-Inner
cut-requires-in-Inner c = let kept = rw c.in-Inner.is at c.requires in inner_rises c.in-Inner.low c.in-Inner.high c.in-Inner.children kept.0
