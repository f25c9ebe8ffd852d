use Rattle.mp_verdict.proofs.KeyConflicts.{first_committers_win}
use Rattle.mp_verdict.proofs.told.law_first_wins.Goals as goal

pub returns : goal.returns
returns c = λ script work opening o w down entries downs run spelled f told. first_committers_win script spelled work opening o w down entries downs f run told
