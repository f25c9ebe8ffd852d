use Rattle.mp_core_trx.specs.declared.event.TrxEvent.TheVariants.{LoadTso}
use Rattle.mp_core.specs.declared.event.CoreEvent.TheVariants.{Trx}
use Rattle.mp_shared.proofs.shared.Shared.load_tso.Given as goal

abbrev pub ghosts-load : goal.ghosts-load
ghosts-load a = record { event = Trx (LoadTso a._about.now); opening = a.self.now.table.shared.key }
