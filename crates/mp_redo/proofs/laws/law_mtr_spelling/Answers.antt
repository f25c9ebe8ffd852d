-- What is written is read again, whatever follows.
use Rattle.mp_redo.proofs.MtrSpelling.{unique, no_fault, spelled_front}
use Rattle.mp_redo.proofs.laws.law_mtr_spelling.Goals as goal

pub returns-clause-same : goal.returns-clause-same
returns-clause-same c = λ a b rest ha hb h. (unique a b rest ha hb h).0

pub returns-clause-whole : goal.returns-clause-whole
returns-clause-whole c = λ a b rest ha hb h. (unique a b rest ha hb h).1

pub returns-clause-faultless : goal.returns-clause-faultless
returns-clause-faultless c = no_fault

pub returns-clause-spelled : goal.returns-clause-spelled
returns-clause-spelled c = spelled_front
