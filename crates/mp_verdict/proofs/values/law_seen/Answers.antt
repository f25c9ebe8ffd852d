use Rattle.mp_verdict.proofs.SeenValues.{seen_values}
use Rattle.mp_verdict.proofs.values.law_seen.Goals as goal

pub returns : goal.returns
returns c = λ o w run trx id count limit place height key found facts tells writer low high. seen_values o w facts run tells trx id count limit writer low high place height key found
