use Rattle.mp_core_trx.specs.declared.event.TrxEvent.TheVariants.{StorePrep}
use Rattle.mp_core.specs.declared.event.CoreEvent.TheVariants.{Trx}
use Rattle.mp_shared.proofs.shared.Shared.store_prep.Given as goal

abbrev pub ghosts-store : goal.ghosts-store
ghosts-store a = record { event = Trx (StorePrep a._about.now.0 a._about.now.1); opening = a.self.now.table.shared.key }
