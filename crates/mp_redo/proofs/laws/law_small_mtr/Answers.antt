-- By computing.
use Rattle.std.proofs.Common.{refl}
use Rattle.mp_cells.specs.Numbers.{number_at}
use Rattle.mp_redo.specs.Spelling.{mtr_bytes}
use Rattle.mp_redo.specs.Reading.{number, id_at, record_at}
use Rattle.mp_redo.proofs.laws.law_small_mtr.Goals as goal

pub returns-clause-spelled : goal.returns-clause-spelled
unfolding mtr_bytes
returns-clause-spelled c = refl

pub returns-clause-whole : goal.returns-clause-whole
unfolding number number_at id_at record_at
returns-clause-whole c = refl

pub returns-clause-cut : goal.returns-clause-cut
unfolding number number_at id_at record_at
returns-clause-cut c = refl

pub returns-clause-beside : goal.returns-clause-beside
unfolding number number_at id_at record_at
returns-clause-beside c = refl
