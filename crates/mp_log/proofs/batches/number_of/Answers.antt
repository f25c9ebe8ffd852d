-- Bytes are those of the number that they are read as.
use Rattle.std.proofs.Common.{ap, ◌∙◌, arith}
use Rattle.byteorder.specs.Endian.{little_bytes}
use Rattle.mp_cells.specs.Numbers.{number_at}
use Rattle.mp_cells.proofs.NumberBytes.{written_again}
use Rattle.mp_log.proofs.batches.number_of.Goals as goal

pub returns-clause-bytes : goal.returns-clause-bytes
unfolding number_at
returns-clause-bytes c = ap (little_bytes 4) c.u32_at.ensures ∙ written_again 4 c.args.bytes.now (λ i. omega (arith, c.type_inv.bytes i)) c.requires
