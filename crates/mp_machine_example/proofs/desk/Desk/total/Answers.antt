use Rattle.mp_machine_example.proofs.Calls.{total_exact}
use Rattle.mp_machine_example.proofs.desk.Desk.total.Goals as goal

pub returns-clause-exact : goal.returns-clause-exact
returns-clause-exact c = total_exact c.args.self.now.office.table.shared.key c.args.seat.now.me c.load.result c.load.new.seat.me c.load.ensures.event
