-- Both ways of the law.
use Rattle.byteorder.specs.Numbers.{little_number-reads_back}
use Rattle.mp_cells.proofs.NumberBytes.{written_again}
use Rattle.mp_cells.proofs.numbers.law_number_bytes.Goals as goal

pub returns-clause-written_again : goal.returns-clause-written_again
returns-clause-written_again c = written_again

pub returns-clause-read_again : goal.returns-clause-read_again
returns-clause-read_again c = little_number-reads_back
