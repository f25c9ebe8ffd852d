-- Behind the generation stands the spelling of the page.
use Rattle.std.proofs.Common.{List, ◌++◌, ℕ, replicate, refl, ap, ◌∙◌}
use Rattle.byteorder.specs.Endian.{little_bytes}
use Rattle.mp_store.proofs.FreshFiles.{root_spelled}
use Rattle.mp_store.specs.PageSides.{page_body}
use Rattle.mp_store.proofs.fresh.root_body.Goals as goal

pub returns-clause-body : goal.returns-clause-body
unfolding page_body
returns-clause-body c = c.side_body.ensures.body ∙ ap (λ (x : List ℕ). replicate 7 0 ++ (little_bytes 8 1 ++ x)) (c.filled.ensures ∙ root_spelled _ refl)
