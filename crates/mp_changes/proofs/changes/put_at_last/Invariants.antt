use Rattle.std.proofs.Common.{ℕ, ◌≤◌, Some}
use Rattle.mp_changes.specs.Changing.{HasPutInTurn, MayChange, changed_text}
use Rattle.mp_changes.proofs.changes.put_at_last.Given as goal

-- a try that missed a page made nothing, and let all pages go
abbrev pub invariant-loop : goal.invariant-loop
invariant-loop g l = record {
  may : MayChange g.D.Disk l.shared l.desk l.media l.p l.trx l.node;
  put : (count : ℕ) → HasPutInTurn l.fn.node l.p l.key (Some changed_text) count → HasPutInTurn l.node l.p l.key (Some changed_text) count;
  counted : g.D.Disk.faults l.fn.media.log.disk ≤ g.D.Disk.faults l.media.log.disk;
}
