-- Step by step.
use Rattle.mp_cells.proofs.MtrPages.{of_page-untouched}
use Rattle.mp_cells.proofs.Links.{agrees_where, agrees_there, agrees_itself, agrees_on}
use Rattle.mp_cells.proofs.laws.law_plans.Goals as goal

pub returns-clause-untouched : goal.returns-clause-untouched
returns-clause-untouched c = of_page-untouched

pub returns-clause-agrees : goal.returns-clause-agrees
returns-clause-agrees c = agrees_where

pub returns-clause-agreed : goal.returns-clause-agreed
returns-clause-agreed c = agrees_there

pub returns-clause-reflexive : goal.returns-clause-reflexive
returns-clause-reflexive c = agrees_itself

pub returns-clause-transitive : goal.returns-clause-transitive
returns-clause-transitive c = agrees_on
