use Rattle.mp_machine_example.specs.declared.system.Event.TheVariants.{Total}
use Rattle.mp_machine_example.proofs.desk.Desk.total.Given as goal

abbrev pub ghosts-load : goal.ghosts-load
ghosts-load a = record { event = Total 0; opening = a.self.now.table.shared.key }
