-- By counting begins and by the header's timestamp.
use Rattle.std.proofs.Common.{refl, arith}
use Rattle.mp_cluster.proofs.examples.law_run_examples.Goals as goal

pub returns-clause-one : goal.returns-clause-one
returns-clause-one c = λ line. refl

pub returns-clause-not_two : goal.returns-clause-not_two
returns-clause-not_two c = λ line two. absurd (omega (arith, two))

pub returns-clause-opening : goal.returns-clause-opening
returns-clause-opening c = λ image. record { base = omega arith; taken = refl; rows = refl }

pub returns-clause-not_later : goal.returns-clause-not_later
returns-clause-not_later c = λ image is. let base = is.base in omega (arith, base)

pub returns-clause-answered : goal.returns-clause-answered
returns-clause-answered c = λ image transcript may. may

pub returns-clause-not_refused : goal.returns-clause-not_refused
returns-clause-not_refused c = λ image none fault. cc
