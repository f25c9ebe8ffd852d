use Rattle.mp_core_trx.specs.declared.event.TrxEvent.TheVariants.{LoadTso}
use Rattle.mp_core.specs.declared.event.CoreEvent.TheVariants.{Trx}
use Rattle.mp_shared.proofs.shared.Shared.join.Given as goal

abbrev pub ghosts-join : goal.ghosts-join
ghosts-join a = record { event = Trx (LoadTso 0); opening = a.self.now.table.shared.key }
