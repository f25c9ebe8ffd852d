use Rattle.mp_core_trx.specs.declared.event.TrxEvent.TheVariants.{DrawTso}
use Rattle.mp_core.specs.declared.event.CoreEvent.TheVariants.{Trx}
use Rattle.mp_shared.proofs.shared.Shared.draw_tso.Given as goal

abbrev pub ghosts-fetch_add : goal.ghosts-fetch_add
ghosts-fetch_add a = record { event = Trx (DrawTso a._about.now.0 a._about.now.1); opening = a.self.now.table.shared.key }
