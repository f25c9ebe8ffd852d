-- the rows up to a place are back
use Rattle.std.proofs.Common.{◌≡◌, ◌≤◌}
use Rattle.mp_supports.specs.Work.{Work}
use Rattle.mp_desk.specs.Desks.{IsAtDesk, Moves}
use Rattle.mp_desk.specs.Making.{IsOpenLog, MediaAgree}
use Rattle.mp_desk.specs.Writes.{PutsBackRows}
use Rattle.mp_desk.proofs.desk.Desk.go_back.Given as goal

abbrev pub invariant-loop-i : goal.invariant-loop-i
invariant-loop-i g l = record {
  desk : IsAtDesk l.shared l.self l.p l.node;
  own : l.self.mtr.node ≡ l.p;
  back : Moves (PutsBackRows l.id l.formers l.initial.restored l.restored) l.p l.initial.node l.node;
  place : l.restored ≡ l.i;
  log : IsOpenLog l.p l.self.llsn l.media.log;
  media : (work : Work) → MediaAgree g.D.Disk work 0 l.initial.media l.p l.initial.node → MediaAgree g.D.Disk work 0 l.media l.p l.node;
  tells : g.D.Disk.tells l.media.log.disk ≡ g.D.Disk.tells l.initial.media.log.disk;
  counted : g.D.Disk.faults l.initial.media.log.disk ≤ g.D.Disk.faults l.media.log.disk;
}
