-- Byte by byte.
use Rattle.mp_cells.proofs.Bits.{with_bit-any, without_bit-any, bits_without}
use Rattle.mp_cells.proofs.laws.law_bits.Goals as goal

pub returns-clause-set : goal.returns-clause-set
returns-clause-set c = with_bit-any

pub returns-clause-cleared : goal.returns-clause-cleared
returns-clause-cleared c = without_bit-any

pub returns-clause-kept : goal.returns-clause-kept
returns-clause-kept c = λ bits page h lt. bits_without bits page lt h
