use Rattle.mp_supports.proofs.SeesMore.{sees_more}
use Rattle.mp_supports.proofs.SupportsMore.{reply_more, waits_more, supports_more}
use Rattle.mp_supports.proofs.Keeping.{traced_more}
use Rattle.mp_supports.proofs.laws.law_supports_more.Goals as goal

pub returns-clause-supports : goal.returns-clause-supports
returns-clause-supports c = λ work p q down after answer trace e. supports_more p q e work down after answer trace

pub returns-clause-sees : goal.returns-clause-sees
returns-clause-sees c = λ p q pages reader view key found e. sees_more p q e pages reader view key found

pub returns-clause-traced : goal.returns-clause-traced
returns-clause-traced c = λ p q trace e. traced_more p q e trace

pub returns-clause-reply : goal.returns-clause-reply
returns-clause-reply c = λ work p q down after trace line reply e. reply_more p q e work down after trace line reply

pub returns-clause-waits : goal.returns-clause-waits
returns-clause-waits c = λ work p q line waits e. waits_more p q e work line waits
