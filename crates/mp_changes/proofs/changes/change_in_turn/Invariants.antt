use Rattle.std.proofs.Common.{◌≤◌, Some}
use Rattle.mp_changes.specs.Changing.{HasPutInTurn, MayChange, changed_text}
use Rattle.mp_changes.proofs.changes.change_in_turn.Given as goal

-- after so many turns so many puts were made, and no page is held
abbrev pub invariant-loop-turn : goal.invariant-loop-turn
invariant-loop-turn g l = record {
  may : MayChange g.D.Disk l.shared l.desk l.media l.p l.trx l.node;
  put : HasPutInTurn l.node l.p l.key (Some changed_text) l.turn;
  counted : g.D.Disk.faults l.fn.media.log.disk ≤ g.D.Disk.faults l.media.log.disk;
}
