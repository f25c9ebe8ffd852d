-- Two seats hold different parts, so one may hold them all.
use Rattle.mp_machine.proofs.Seats.{joins}
use Rattle.mp_machine.proofs.ruled_table.RuledTable.join.Goals as goal

pub join_seat-requires : goal.join_seat-requires
join_seat-requires g c =
    let table = c.requires.table in
    (table.0, table.1, c.requires.empty, table.3, joins (g.M.System.machine c.args.self.now.table.shared.key) _ _ _ _)
