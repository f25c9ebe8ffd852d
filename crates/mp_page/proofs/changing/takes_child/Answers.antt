-- Keys of an inner page rise.
use Rattle.mp_page.proofs.Applied.{inner_rises}
use Rattle.mp_page.proofs.changing.takes_child.Goals as goal

pub holds-requires : goal.holds-requires
holds-requires c = inner_rises c.args.low c.args.high c.args.children.now c.requires
