use Rattle.mp_core_trx.proofs.Law.{law_in_time, bound_in_time}
use Rattle.mp_core_trx.proofs.laws.law_trx_inv.Goals as goal

pub returns-clause-kept : goal.returns-clause-kept
returns-clause-kept c = λ opening events fair all. law_in_time opening fair events all

pub returns-clause-bounded : goal.returns-clause-bounded
returns-clause-bounded c = λ opening events fair all. bound_in_time opening fair events all
