use Rattle.mp_supports.proofs.Keeping.{kept_more, kept_quiet}
use Rattle.mp_supports.proofs.laws.law_kept.Goals as goal

pub returns-clause-more : goal.returns-clause-more
returns-clause-more c = λ work p q down after entries entry goes kept. kept_more work p q down after entries goes kept entry

pub returns-clause-quiet : goal.returns-clause-quiet
returns-clause-quiet c = λ work p q down after entries goes kept. kept_quiet work p q down after entries goes kept
