use Rattle.mp_machine_example.specs.declared.system.Event.TheVariants.{Draw}
use Rattle.mp_machine_example.proofs.desk.Desk.draw.Given as goal

abbrev pub ghosts-fetch_add : goal.ghosts-fetch_add
ghosts-fetch_add a = record { event = Draw a._about.now; opening = a.self.now.table.shared.key }
