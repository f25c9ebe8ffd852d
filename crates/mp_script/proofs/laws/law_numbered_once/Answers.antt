-- By counting.
use Rattle.mp_script.proofs.Counted.{numbered-once, once-numbered}
use Rattle.mp_script.proofs.laws.law_numbered_once.Goals as goal

pub returns-clause-once : goal.returns-clause-once
returns-clause-once c = numbered-once

pub returns-clause-free : goal.returns-clause-free
returns-clause-free c = once-numbered
