use Rattle.std.proofs.Common.{◌∙◌}
use Rattle.mp_trials.proofs.Forced.{agrees_first}
use Rattle.mp_trials.proofs.turn_runs.turns_of.Goals as goal

pub take_turns-ended-requires-clause-forced : goal.take_turns-ended-requires-clause-forced
take_turns-ended-requires-clause-forced g c = (0, c.requires.forced)

pub take_turns-ended-requires-clause-agrees : goal.take_turns-ended-requires-clause-agrees
take_turns-ended-requires-clause-agrees g c = agrees_first c.args.node c.args.p c.requires.forced
