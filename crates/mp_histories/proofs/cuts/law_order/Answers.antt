-- Page by page.
use Rattle.mp_histories.proofs.PageLlsns.{rises_more}
use Rattle.mp_histories.proofs.Merging.{same_order}
use Rattle.mp_histories.specs.Cuts.{in_log_order}
use Rattle.mp_histories.proofs.ByPages.{by_touching}
use Rattle.mp_histories.proofs.LogOrder.{touching_order}
use Rattle.mp_histories.proofs.cuts.law_order.Goals as goal

pub returns-clause-page : goal.returns-clause-page
returns-clause-page c = by_touching

pub returns-clause-order : goal.returns-clause-order
returns-clause-order c = λ made n nodes rise. touching_order n made nodes rise

pub returns-clause-pages : goal.returns-clause-pages
returns-clause-pages c = λ opening made n nodes rise. by_touching opening (in_log_order made) made n (touching_order n made nodes rise)

pub returns-clause-nodes : goal.returns-clause-nodes
returns-clause-nodes c = same_order

pub returns-clause-rises : goal.returns-clause-rises
returns-clause-rises c = λ opening made mtr rise above. rises_more opening made mtr rise above
