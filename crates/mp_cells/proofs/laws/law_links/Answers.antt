-- By the two numbers of a link.
use Rattle.mp_cells.proofs.Links.{same_link-equal, same_link-itself, added_there, kept_there}
use Rattle.mp_cells.proofs.laws.law_links.Goals as goal

pub returns-clause-equal : goal.returns-clause-equal
returns-clause-equal c = same_link-equal

pub returns-clause-itself : goal.returns-clause-itself
returns-clause-itself c = same_link-itself

pub returns-clause-new : goal.returns-clause-new
returns-clause-new c = added_there

pub returns-clause-stays : goal.returns-clause-stays
returns-clause-stays c = kept_there
