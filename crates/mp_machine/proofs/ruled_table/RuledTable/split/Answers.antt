-- Each part goes to one of the two seats.
use Rattle.mp_machine.proofs.Seats.{splits}
use Rattle.mp_machine.proofs.ruled_table.RuledTable.split.Goals as goal

pub split_seat-requires : goal.split_seat-requires
split_seat-requires g c = (c.requires.0, c.requires.1, splits (g.M.System.machine c.args.self.now.table.shared.key) g.C.Share.moves _ _)
