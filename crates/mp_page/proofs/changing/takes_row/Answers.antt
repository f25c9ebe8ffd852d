-- Keys of a leaf rise.
use Rattle.mp_page.proofs.Applied.{leaf_rises}
use Rattle.mp_page.proofs.changing.takes_row.Goals as goal

pub holds-requires : goal.holds-requires
holds-requires c = leaf_rises c.args.low c.args.high c.args.rows.now c.requires
