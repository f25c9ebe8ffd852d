use Rattle.std.proofs.Common.{◌∷◌, ap, ◌∙◌, sym, rules}
use Rattle.atomic_table.specs.Table.{rest}
use Rattle.mp_machine_example.proofs.Calls.{got}
use Rattle.mp_machine_example.proofs.desk.Desk.lock.Goals as goal

pub exchange-requires : goal.exchange-requires
exchange-requires c =
    let taken = got c.args.self.now.office.table.shared.key c.args.node c.args.seat.now.me c.compare_exchange-found.result c.compare_exchange-found.new.seat.me c.compare_exchange-found.ensures.event (search rules) in
    let slot = ap (λ me. me.1) taken.1.2 in
    (search rules, (taken.0, slot ∙ ap (λ xs. (0, taken.0) ∷ xs) (sym (ap rest slot))))

pub returns-clause-taken : goal.returns-clause-taken
returns-clause-taken c =
    let taken = got c.args.self.now.office.table.shared.key c.args.node c.args.seat.now.me c.compare_exchange-found.result c.compare_exchange-found.new.seat.me c.compare_exchange-found.ensures.event (search rules) in
    let is = taken.1.2 in
    (taken.1.0, taken.1.1, c.exchange.ensures.value.1 ∙ (λ i. ((is i).0, (0, 0) ∷ rest (is i).1)))
