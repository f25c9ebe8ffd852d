use Rattle.std.proofs.Common.{refl}
use Rattle.mp_facts.proofs.SmallSteps.{rolled_back, handed_over}
use Rattle.mp_facts.proofs.examples.law_facts_examples.Goals as goal

pub returns-clause-rolled_back : goal.returns-clause-rolled_back
returns-clause-rolled_back c = rolled_back

pub returns-clause-handed_over : goal.returns-clause-handed_over
returns-clause-handed_over c = handed_over

pub returns-clause-stands : goal.returns-clause-stands
returns-clause-stands c = refl

pub returns-clause-own : goal.returns-clause-own
returns-clause-own c = refl

pub returns-clause-former : goal.returns-clause-former
returns-clause-former c = refl

pub returns-clause-put_back : goal.returns-clause-put_back
returns-clause-put_back c = refl

pub returns-clause-not_own : goal.returns-clause-not_own
returns-clause-not_own c = refl

pub returns-clause-given : goal.returns-clause-given
returns-clause-given c = refl

pub returns-clause-durable : goal.returns-clause-durable
returns-clause-durable c = refl
