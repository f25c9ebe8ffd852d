-- By what is answered so far.
use Rattle.std.proofs.Common.{[]}
use Rattle.mp_script.proofs.InTurn.{next-once, once-next, once-none_left}
use Rattle.mp_script.proofs.laws.law_answered_once.Goals as goal

pub returns-clause-once : goal.returns-clause-once
returns-clause-once c = λ run part each whole. next-once run part.primary part.answers.items each whole

pub returns-clause-next : goal.returns-clause-next
returns-clause-next c = λ run part once. once-next run part.primary [] part.answers.items once

pub returns-clause-none_left : goal.returns-clause-none_left
returns-clause-none_left c = once-none_left
