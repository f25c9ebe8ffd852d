-- Each of them is none.
use Rattle.mp_script.proofs.Tallies.{all-none}
use Rattle.mp_script.proofs.drafts.no_tallies.Goals as goal

pub returns-clause-none : goal.returns-clause-none
returns-clause-none c session = all-none 65 session
