-- No session above 64 is declared.
use Rattle.std.proofs.Common.{arith, ap, sym, Some, None, if◌then◌else◌}
use Rattle.mp_script.proofs.Tallies.{not_declared}
use Rattle.mp_script.proofs.drafts.Draft.session.Goals as goal

pub returns-then-number-gt64-clause-session : goal.returns-then-number-gt64-clause-session
returns-then-number-gt64-clause-session c = ap (λ b. if b then Some c.args.number else None) (sym (not_declared c.args.self.now.sessions.entries c.args.number c.requires.within (omega arith)))
