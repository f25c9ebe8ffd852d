use Rattle.mp_machine_example.specs.declared.system.Event.TheVariants.{Unlock}
use Rattle.mp_machine_example.proofs.desk.Desk.unlock.Given as goal

abbrev pub ghosts-store : goal.ghosts-store
ghosts-store a = record { event = Unlock a._about.now.0 a._about.now.1; opening = a.self.now.table.shared.key }
