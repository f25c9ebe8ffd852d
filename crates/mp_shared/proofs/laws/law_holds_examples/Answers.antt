use Rattle.std.proofs.Common.{◌≡◌, ℕ, zero, suc, refl}
use Rattle.mp_core_pages.specs.declared.page_lock.Held.TheVariants.{No, Read, Write}
use Rattle.mp_core.specs.declared.part.CorePart.{CorePart}
use Rattle.mp_shared.specs.Nodes.{Run}
use Rattle.mp_shared.specs.PageSteps.{held_in}
use Rattle.mp_shared.specs.SmallNodes.{node_of_first, holding_zero}
use Rattle.mp_shared.proofs.laws.law_holds_examples.Goals as goal

only_reads : (run : Run) (q : CorePart) (p : ℕ) → ¬ (held_in (node_of_first run (holding_zero Read q)) p 0 ≡ Write)
only_reads run q zero writes = let is : No ≡ Write = writes in cc
only_reads run q (suc zero) writes = let is : Read ≡ Write = writes in cc
only_reads run q (suc (suc p)) writes = let is : No ≡ Write = writes in cc

pub returns-clause-reads : goal.returns-clause-reads
returns-clause-reads c = only_reads

pub returns-clause-writes : goal.returns-clause-writes
returns-clause-writes c = λ run q nobody. nobody 1 refl
