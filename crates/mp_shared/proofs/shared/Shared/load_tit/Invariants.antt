use Rattle.mp_core_trx.specs.declared.event.TrxEvent.TheVariants.{LoadTit}
use Rattle.mp_core.specs.declared.event.CoreEvent.TheVariants.{Trx}
use Rattle.mp_shared.proofs.shared.Shared.load_tit.Given as goal

abbrev pub ghosts-load : goal.ghosts-load
ghosts-load a = record { event = Trx (LoadTit a._about.now.0 a._about.now.1 a._about.now.2); opening = a.self.now.table.shared.key }
