-- so many rows of the leaf were seen
use Rattle.mp_tree.specs.declared.search.LeafRows.{LeafRows}
use Rattle.mp_desk.proofs.LeafScans.{LeafSeen}
use Rattle.mp_desk.proofs.desk.Desk.scan_leaf.Given as goal

abbrev pub invariant-loop-i : goal.invariant-loop-i
invariant-loop-i g l =
    let found : LeafRows = record { rows = l.cells; next = l.next } in
    LeafSeen l.shared l.p l.trx l.most found l.initial.self l.self l.initial.node l.node l.initial.rows.items l.rows.items l.rows.spare l.i
