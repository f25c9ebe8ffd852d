use Rattle.mp_machine_example.specs.declared.system.Event.TheVariants.{Lock}
use Rattle.mp_machine_example.proofs.desk.Desk.lock.Given as goal

abbrev pub ghosts-compare_exchange : goal.ghosts-compare_exchange
ghosts-compare_exchange a = record { event = Lock a._about.now; opening = a.self.now.table.shared.key }
