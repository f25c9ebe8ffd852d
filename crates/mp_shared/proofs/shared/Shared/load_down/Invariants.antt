use Rattle.mp_core.specs.declared.event.CoreEvent.TheVariants.{Down}
use Rattle.mp_core.specs.declared.event.DownEvent.TheVariants.{LoadDown}
use Rattle.mp_shared.proofs.shared.Shared.load_down.Given as goal

abbrev pub ghosts-load : goal.ghosts-load
ghosts-load a = record { event = Down (LoadDown a._about.now.0 a._about.now.1); opening = a.self.now.table.shared.key }
