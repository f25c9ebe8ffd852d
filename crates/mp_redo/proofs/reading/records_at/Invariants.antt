-- the records so far, in front of those that the rest are read as
use Rattle.std.proofs.Common.{◌≡◌, ◌-◌, ◌≤◌, length}
use Rattle.mp_redo.specs.Reading.{records_at}
use Rattle.mp_redo.proofs.Rounds.{with_records}
use Rattle.mp_redo.proofs.reading.records_at.Given as goal

abbrev pub invariant-loop : goal.invariant-loop
invariant-loop l = record {
  room : l.end ≤ length l.bytes;
  count : length l.into ≡ l.counter;
  all : with_records l.into (records_at (l.count - l.counter) l.most l.llsn l.bytes l.end) ≡ records_at l.count l.most l.llsn l.bytes l.at;
}
