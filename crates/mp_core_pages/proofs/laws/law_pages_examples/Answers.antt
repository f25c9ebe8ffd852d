use Rattle.std.proofs.Common.{◌≡◌, refl, None}
use Rattle.mp_core_pages.specs.declared.page_lock.Held.TheVariants.{Read, Write}
use Rattle.mp_core_pages.proofs.Turns.{not_both}
use Rattle.mp_core_pages.proofs.laws.law_pages_examples.Goals as goal

two_ways : Read ≡ Write → ⊥
two_ways e = cc

pub returns-clause-make_as_reader : goal.returns-clause-make_as_reader
returns-clause-make_as_reader c = λ may. two_ways (may.touched 0 refl).1

pub returns-clause-make_without_content : goal.returns-clause-make_without_content
returns-clause-make_without_content c = λ may. let page = (may.touched 0 refl).2 in not_both None page.0 refl page.1
