use Rattle.mp_primary.proofs.AddedByCount.{its_answer, one_more, none_more}
use Rattle.mp_primary.proofs.standing.law_added.Goals as goal

pub returns-clause-one_more : goal.returns-clause-one_more
returns-clause-one_more g c = λ run old new before after number stands turn entries agrees counted. one_more g.D.Disk run old new before after number stands turn entries agrees counted

pub returns-clause-none_more : goal.returns-clause-none_more
returns-clause-none_more g c = λ run old new before after number stands turn entries agrees other. none_more g.D.Disk run old new before after number stands turn entries agrees other

pub returns-clause-last : goal.returns-clause-last
returns-clause-last g c = λ run old new before after number stands turn entries agrees added. its_answer g.D.Disk run old new before after number stands turn entries agrees added
