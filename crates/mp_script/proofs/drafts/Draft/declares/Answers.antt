-- The map has a key exactly where that session is declared.
use Rattle.std.proofs.Common.{◌∙◌}
use Rattle.mp_script.proofs.Tallies.{is_some-lookup}
use Rattle.mp_script.proofs.drafts.Draft.declares.Goals as goal

pub returns : goal.returns
returns c = c.contains_key.ensures ∙ is_some-lookup c.args.self.now.sessions.entries c.args.session
