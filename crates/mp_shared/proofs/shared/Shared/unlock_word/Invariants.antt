use Rattle.mp_core_pages.specs.declared.event.PagesEvent.TheVariants.{UnlockWord}
use Rattle.mp_core.specs.declared.event.CoreEvent.TheVariants.{Pages}
use Rattle.mp_shared.proofs.shared.Shared.unlock_word.Given as goal

abbrev pub ghosts-fetch_and : goal.ghosts-fetch_and
ghosts-fetch_and a = record { event = Pages (UnlockWord a._about.now.0 a._about.now.1); opening = a.self.now.table.shared.key }
