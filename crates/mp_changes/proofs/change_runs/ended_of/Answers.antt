use Rattle.std.proofs.Common.{Option, IfSome, ap, subst}
use Rattle.mp_desk.specs.declared.halts.WriteHalt.{WriteHalt}
use Rattle.mp_changes.specs.Changing.{RefusedPut, may_retry}
use Rattle.mp_changes.proofs.change_runs.ended_of.Goals as goal

pub returns-in-None : goal.returns-in-None
returns-in-None c = λ p key count most puts all left cause. record {
  most = most;
  puts = puts;
  all = λ none. all c.in-None.is;
  left = λ none. left (ap may_retry c.in-None.is);
  cause = tt;
}

pub returns-in-Some : goal.returns-in-Some
returns-in-Some c = λ p key count most puts all left cause. record {
  most = most;
  puts = puts;
  all = λ none. absurd (cc);
  left = λ none. absurd (cc);
  cause = subst (λ (h : Option WriteHalt). IfSome h (RefusedPut p key c.args.node)) c.in-Some.is cause;
}
