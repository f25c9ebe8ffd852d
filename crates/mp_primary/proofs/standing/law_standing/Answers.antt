use Rattle.mp_primary.proofs.StandsBeside.{stands_beside, told_beside, holds_none, has_forced}
use Rattle.mp_primary.proofs.standing.law_standing.Goals as goal

pub returns-clause-beside : goal.returns-clause-beside
returns-clause-beside g c = λ run old new other before after session turn takes ne h. stands_beside g.D.Disk run old new other before after session turn takes ne h

pub returns-clause-told_beside : goal.returns-clause-told_beside
returns-clause-told_beside g c = λ run old new other before after session turn takes ne told. told_beside g.D.Disk run old new other before after session turn takes ne told

pub returns-clause-idle : goal.returns-clause-idle
returns-clause-idle g c = λ run pr n q h up has. holds_none g.D.Disk run pr n q h up has

pub returns-clause-durable : goal.returns-clause-durable
returns-clause-durable g c = λ run pr n q h up has. has_forced g.D.Disk run pr n q h up has
