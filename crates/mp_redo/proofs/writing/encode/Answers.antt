-- The front of the mtr, and then its records.
use Rattle.mp_redo.proofs.Puts.{mtr_room, mtr_rest, mtr_puts}
use Rattle.mp_redo.proofs.writing.encode.Goals as goal

pub put_head-requires : goal.put_head-requires
put_head-requires c = mtr_room c.args.mtr.now c.args.into.now c.requires.room

pub put_records-requires : goal.put_records-requires
put_records-requires c = mtr_rest c.args.mtr.now c.args.into.now c.put_head.new.into c.len.result c.as_slice.result.now c.len.ensures.count c.as_slice.ensures.value c.requires.room c.put_head.ensures

pub returns-clause-items : goal.returns-clause-items
returns-clause-items c = (mtr_puts c.args.mtr.now c.args.into.now c.put_head.new.into c.put_records.new.into c.len.result c.as_slice.result.now c.len.ensures.count c.as_slice.ensures.value c.put_head.ensures c.put_records.ensures).items

pub returns-clause-spare : goal.returns-clause-spare
returns-clause-spare c = (mtr_puts c.args.mtr.now c.args.into.now c.put_head.new.into c.put_records.new.into c.len.result c.as_slice.result.now c.len.ensures.count c.as_slice.ensures.value c.put_head.ensures c.put_records.ensures).spare
