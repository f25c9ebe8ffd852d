use Rattle.mp_machine_example.proofs.Calls.{can_draw, drew}
use Rattle.mp_machine_example.proofs.desk.Desk.draw.Goals as goal

pub fetch_add-requires-clause-event : goal.fetch_add-requires-clause-event
fetch_add-requires-clause-event c = can_draw c.args.self.now.office.table.shared.key c.args.seat.now.me c.args.node c.requires.worker

pub returns-clause-drawn : goal.returns-clause-drawn
returns-clause-drawn c = drew c.args.self.now.office.table.shared.key c.args.node c.args.seat.now.me c.fetch_add.result c.fetch_add.new.seat.me c.fetch_add.ensures.event
