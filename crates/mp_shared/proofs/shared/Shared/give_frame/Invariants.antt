use Rattle.mp_core_pages.specs.declared.event.PagesEvent.TheVariants.{GiveFrame}
use Rattle.mp_core.specs.declared.event.CoreEvent.TheVariants.{Pages}
use Rattle.mp_shared.proofs.shared.Shared.give_frame.Given as goal

abbrev pub ghosts-store : goal.ghosts-store
ghosts-store a = record { event = Pages (GiveFrame a._about.now.0 a._about.now.1 a._about.now.2.now); opening = a.self.now.table.shared.key }
