-- The event that the turn names keeps the rule.
use Rattle.mp_machine.proofs.Adapter.{turns_by_store}
use Rattle.mp_machine.proofs.ruled_table.RuledTable.store.Goals as goal

pub store-requires : goal.store-requires
store-requires g c =
    let table = c.requires.table in
    (table.0, table.2, turns_by_store g.M.System.machine g.M.System.laws g.T.NamesEvent.opening c.args.self.now.table.shared.key table.1 g.T.NamesEvent.event c.args.seat.now.me c.args.word c.args.new c.requires.event _ _)
