use Rattle.mp_core.specs.declared.event.CoreEvent.TheVariants.{Down}
use Rattle.mp_core.specs.declared.event.DownEvent.TheVariants.{StoreDown}
use Rattle.mp_shared.proofs.shared.Shared.store_down.Given as goal

abbrev pub ghosts-store : goal.ghosts-store
ghosts-store a = record { event = Down (StoreDown a._about.now.0 a._about.now.1); opening = a.self.now.table.shared.key }
