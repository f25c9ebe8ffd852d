-- the records so far are put
use Rattle.std.proofs.Common.{take}
use Rattle.std.specs.List.{flat_map}
use Rattle.mp_redo.specs.Spelling.{record_bytes}
use Rattle.mp_redo.specs.Writing.{Puts}
use Rattle.mp_redo.proofs.writing.put_records.Given as goal

abbrev pub invariant-loop-record : goal.invariant-loop-record
invariant-loop-record l = Puts (flat_map record_bytes (take l.record-index l.records)) l.initial.into l.into
