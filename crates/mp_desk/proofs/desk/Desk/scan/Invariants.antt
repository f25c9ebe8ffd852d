-- so many leaves were scanned
use Rattle.std.proofs.Common.{◌<◌}
use Rattle.mp_desk.proofs.LeafScans.{ScanSoFar}
use Rattle.mp_desk.proofs.desk.Desk.scan.Given as goal

abbrev pub invariant-loop-leaf : goal.invariant-loop-leaf
invariant-loop-leaf g l =
    ScanSoFar l.shared l.p l.trx l.low l.most l.initial.self l.self l.initial.node l.node l.from l.rows.items l.rows.spare l._leaf × (l.from < 4294967296)
