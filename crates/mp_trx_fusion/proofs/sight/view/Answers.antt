use Rattle.mp_shared.proofs.Holding.{held_part}
use Rattle.mp_trx_fusion.proofs.Sights.{newest_seen, exactly}
use Rattle.mp_trx_fusion.proofs.sight.view.Goals as goal

pub load_tso-requires-clause-step : goal.load_tso-requires-clause-step
load_tso-requires-clause-step c = let held = held_part c.args.node.now c.args.p c.requires.part in (held.0, held.1, ((held.2, tt), tt))

pub returns-clause-newest : goal.returns-clause-newest
returns-clause-newest c = newest_seen c.args.p _ _ _ c.load_tso.ensures

pub returns-clause-exact : goal.returns-clause-exact
returns-clause-exact c = exactly c.args.p _ _ _ c.load_tso.ensures
