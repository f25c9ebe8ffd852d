-- By what is kept of the statements said so far.
use Rattle.mp_script.proofs.BeginCount.{few_begins}
use Rattle.mp_script.proofs.SpelledLines.{spelled_in_order}
use Rattle.mp_script.proofs.laws.law_spelled_lines.Goals as goal

pub returns-clause-in_order : goal.returns-clause-in_order
returns-clause-in_order c = λ script spelled. (spelled_in_order script spelled).numbered

pub returns-clause-within : goal.returns-clause-within
returns-clause-within c = λ script spelled. (spelled_in_order script spelled).within

pub returns-clause-begun : goal.returns-clause-begun
returns-clause-begun c = λ script spelled. (spelled_in_order script spelled).begun

pub returns-clause-few_begins : goal.returns-clause-few_begins
returns-clause-few_begins c = few_begins
