use Rattle.mp_core_pages.specs.declared.event.PagesEvent.TheVariants.{StoreDurable}
use Rattle.mp_core.specs.declared.event.CoreEvent.TheVariants.{Pages}
use Rattle.mp_shared.proofs.shared.Shared.store_durable.Given as goal

abbrev pub ghosts-store : goal.ghosts-store
ghosts-store a = record { event = Pages (StoreDurable a._about.now.0 a._about.now.1); opening = a.self.now.table.shared.key }
