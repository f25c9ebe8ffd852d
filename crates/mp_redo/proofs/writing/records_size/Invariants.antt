-- the size of the records so far
use Rattle.std.proofs.Common.{◌≡◌, ◌*◌, ◌≤◌, take, length}
use Rattle.std.specs.List.{flat_map}
use Rattle.mp_redo.specs.Spelling.{record_bytes}
use Rattle.mp_redo.proofs.writing.records_size.Given as goal

abbrev pub invariant-loop-record : goal.invariant-loop-record
invariant-loop-record l = record {
  exact : l.size ≡ length (flat_map record_bytes (take l.record-index l.records));
  bound : l.size ≤ 1020 * l.record-index;
}
