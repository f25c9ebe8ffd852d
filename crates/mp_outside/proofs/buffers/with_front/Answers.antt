-- The bytes were put into the front.
use Rattle.std.proofs.Common.{rules}
use Rattle.std.proofs.lemmas.List.{with_items_is, take_at}
use Rattle.mp_outside.proofs.buffers.with_front.Goals as goal

pub returns-clause-front : goal.returns-clause-front
returns-clause-front c = rw (with_items_is c.in_ok-buffer.buffer c.put.new.buffer (search rules), c.put.ensures.buffer) (take_at c.args.bytes.now _ _ (search rules))
