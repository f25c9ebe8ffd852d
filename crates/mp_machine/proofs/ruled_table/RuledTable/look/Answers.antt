-- A load that changes nothing keeps the rule.
use Rattle.mp_machine.proofs.Seats.{looks_at}
use Rattle.mp_machine.proofs.ruled_table.RuledTable.look.Goals as goal

pub load-requires : goal.load-requires
load-requires g c =
    let table = c.requires.table in
    (table.0, table.2, looks_at g.M.System.machine g.T.NamesEvent.opening c.args.self.now.table.shared.key table.1 _ _ 0 c.args.seat.now.me)
