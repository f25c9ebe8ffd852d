use Rattle.mp_core_pages.specs.declared.event.PagesEvent.TheVariants.{LockWord}
use Rattle.mp_core.specs.declared.event.CoreEvent.TheVariants.{Pages}
use Rattle.mp_shared.proofs.shared.Shared.lock_word.Given as goal

abbrev pub ghosts-compare_exchange : goal.ghosts-compare_exchange
ghosts-compare_exchange a = record { event = Pages (LockWord a._about.now.0 a._about.now.1 a._about.now.2 a._about.now.3); opening = a.self.now.table.shared.key }
