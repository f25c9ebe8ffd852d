-- A declared session isn't above 64.
use Rattle.std.proofs.Common.{subst}
use Rattle.mp_script.proofs.Tallies.{declared-within}
use Rattle.mp_script.specs.Spelling.{EntryFits}
use Rattle.mp_script.specs.Drafts.{said_in}
use Rattle.mp_script.proofs.drafts.Draft.add.Goals as goal

pub say-requires-clause-session : goal.say-requires-clause-session
say-requires-clause-session c = declared-within c.args.self.now.sessions.entries c.in-Statement.line.session c.requires.tallied.within (subst (EntryFits (said_in c.args.self.now)) c.in-Statement.is c.requires.fits).declared
