-- What is said without a fault is spelled, and the other way round.
use Rattle.mp_script.proofs.ScriptLaws.{spelled-once, spelled-no_fault, no_fault-spelled}
use Rattle.mp_script.proofs.laws.law_one_script.Goals as goal

pub returns-clause-once : goal.returns-clause-once
returns-clause-once c = spelled-once

pub returns-clause-no_fault : goal.returns-clause-no_fault
returns-clause-no_fault c = spelled-no_fault

pub returns-clause-spelled : goal.returns-clause-spelled
returns-clause-spelled c = no_fault-spelled
