use Rattle.mp_core_pages.specs.Briefs.{llsn_ops}
use Rattle.mp_core_pages.proofs.Prefixes.{order_rises, tells_its_list}
use Rattle.mp_core_pages.proofs.Bounds.{llsn_bounded}
use Rattle.mp_core_pages.proofs.Law.{pages_law_in_time, llsn_laws}
use Rattle.mp_core_pages.proofs.laws.law_pages_inv.Goals as goal

pub returns-clause-kept : goal.returns-clause-kept
returns-clause-kept c = λ opening events fit all. pages_law_in_time llsn_ops opening fit llsn_laws events all

pub returns-clause-ordered : goal.returns-clause-ordered
returns-clause-ordered c = λ opening events fit all k. let i =
    pages_law_in_time llsn_ops opening fit llsn_laws events all in
    order_rises llsn_ops llsn_laws opening _ k i.mtr_history.order

pub returns-clause-bounded : goal.returns-clause-bounded
returns-clause-bounded c = λ opening events fit all n. let i =
    pages_law_in_time llsn_ops opening fit llsn_laws events all in llsn_bounded llsn_ops opening fit _ i n

pub returns-clause-listed : goal.returns-clause-listed
returns-clause-listed c = λ opening events fit all h k within.
    let i = pages_law_in_time llsn_ops opening fit llsn_laws events all in
    tells_its_list llsn_ops llsn_laws opening _ h k i.mtr_history.order within
