-- The zeros behind the bytes are those of the blank array.
use Rattle.std.proofs.Common.{length, ◌++◌, ap}
use Rattle.std.proofs.lemmas.List.{drop-replicate}
use Rattle.mp_cells.proofs.row_bytes.padded.Goals as goal

pub returns-clause-bytes : goal.returns-clause-bytes
returns-clause-bytes c = rw (c.copy_from_slice.ensures.after) (ap (λ zeros. c.args.bytes.now ++ zeros) (drop-replicate (length c.args.bytes.now) 32 0))
