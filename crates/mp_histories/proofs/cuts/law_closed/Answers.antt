-- Each mtr of a page stands once in its list.
use Rattle.std.proofs.Common.{◌++◌, refl}
use Rattle.mp_histories.proofs.Closing.{made_is_cut, logged_is_cut}
use Rattle.mp_histories.proofs.CutPages.{prefix_is_cut}
use Rattle.mp_histories.proofs.cuts.law_closed.Goals as goal

pub returns-clause-made : goal.returns-clause-made
returns-clause-made c = λ keep made rise closed. made_is_cut keep made rise closed

pub returns-clause-logged : goal.returns-clause-logged
returns-clause-logged c = λ keep made nodes rise closed. logged_is_cut keep made rise closed nodes

pub returns-clause-first : goal.returns-clause-first
returns-clause-first c = λ later made. prefix_is_cut (later ++ made) later made refl
