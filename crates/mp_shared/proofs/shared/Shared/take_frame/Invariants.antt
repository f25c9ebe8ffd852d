use Rattle.mp_core_pages.specs.declared.event.PagesEvent.TheVariants.{TakeFrame}
use Rattle.mp_core.specs.declared.event.CoreEvent.TheVariants.{Pages}
use Rattle.mp_shared.proofs.shared.Shared.take_frame.Given as goal

abbrev pub ghosts-compare_exchange : goal.ghosts-compare_exchange
ghosts-compare_exchange a = record { event = Pages (TakeFrame a._about.now.0 a._about.now.1); opening = a.self.now.table.shared.key }
