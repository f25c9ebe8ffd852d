-- There is room for a record more, and then it is put.
use Rattle.mp_redo.specs.Spelling.{record_bytes}
use Rattle.mp_redo.proofs.Puts.{room_next, puts_next}
use Rattle.mp_redo.proofs.writing.put_records.Goals as goal

pub put_record-requires : goal.put_record-requires
put_record-requires c = room_next record_bytes c.args.records.now c.loop-record.record-index c.record-item.result c.args.into.now c.loop-record.into c.loop-record-test.true c.record-item.is c.requires c.loop-record.invariant

pub loop-record-preserved : goal.loop-record-preserved
loop-record-preserved c = puts_next record_bytes c.args.records.now c.loop-record.record-index c.record-item.result c.args.into.now c.loop-record.into c.put_record.new.into c.loop-record-test.true c.record-item.is c.loop-record.invariant c.put_record.ensures
