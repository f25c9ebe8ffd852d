use Rattle.mp_machine_example.specs.declared.system.Event.TheVariants.{Total}
use Rattle.mp_machine_example.proofs.desk.Desk.join.Given as goal

abbrev pub ghosts-join : goal.ghosts-join
ghosts-join a = record { event = Total 0; opening = a.self.now.table.shared.key }
