-- the cells so far, in front of those that the rest are read as
use Rattle.std.proofs.Common.{◌≡◌, ◌+◌, ◌-◌, ◌*◌, ◌≤◌, length}
use Rattle.mp_redo.specs.Reading.{children_in}
use Rattle.mp_redo.proofs.Rounds.{with_front}
use Rattle.mp_redo.proofs.field_reading.children_in.Given as goal

abbrev pub invariant-loop-i : goal.invariant-loop-i
invariant-loop-i l = record {
  room : l.at + 8 * l.i ≤ length l.bytes;
  count : length l.children ≡ l.i;
  all : with_front l.children (children_in (l.count - l.i) l.least l.high l.bytes (l.at + 8 * l.i)) ≡ children_in l.count l.low l.high l.bytes l.at;
}
