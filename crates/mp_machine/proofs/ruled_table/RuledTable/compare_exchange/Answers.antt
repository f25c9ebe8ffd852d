-- The event that the turn names keeps the rule.
use Rattle.mp_machine.proofs.Adapter.{turns}
use Rattle.mp_machine.proofs.ruled_table.RuledTable.compare_exchange.Goals as goal

pub compare_exchange-requires : goal.compare_exchange-requires
compare_exchange-requires g c =
    let table = c.requires.table in
    (table.0, table.2, turns g.M.System.machine g.M.System.laws g.T.NamesEvent.opening c.args.self.now.table.shared.key table.1 g.T.NamesEvent.event c.args.seat.now.me c.args.word _ c.requires.event _ _)
