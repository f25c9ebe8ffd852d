-- No event has come yet.
use Rattle.mp_machine.proofs.Seats.{opens}
use Rattle.mp_machine.proofs.ruled_table.RuledTable.new.Goals as goal

pub new-requires : goal.new-requires
new-requires g c = opens (g.M.System.machine c.args.opening.now) c.args.words.now c.args.slots.items c.requires
