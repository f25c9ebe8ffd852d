-- A primary whose part a node holds has a number from 1 to 8.
use Rattle.std.proofs.Common.{◌≡◌, ℕ, ◌≤◌, Some, sym, ap, ◌∙◌, subst, arith}
use Rattle.mp_machine.specs.Machine.{run}
use Rattle.mp_machine.specs.View.{part_in}
use Rattle.mp_core_trx.specs.declared.opening.TrxOpening.{TrxOpening}
use Rattle.mp_core_trx.specs.Events.{IsNode}
use Rattle.mp_core.specs.declared.part.CorePart.{CorePart}
use Rattle.mp_core.specs.World.{core}
use Rattle.mp_core.proofs.Law.{law}
use Rattle.mp_shared.specs.Nodes.{NodeView, Reached}

-- each part carries the opening of its run
pub carried : (v : NodeView) → Reached v → (n : ℕ) (q : CorePart) → part_in v.parts n ≡ Some q → q.trx.opening ≡ v.run.opening.trx
carried v r n q has =
    let w = run (core v.run.opening) r.backed.0 in
    let i = law v.run.opening r.fair r.backed.0 r.backed.1 in
    sym (ap (λ (x : CorePart). x.trx.opening) (r.backed.2 n q has)) ∙ i.trx.carried n

pub numbered : (v : NodeView) → Reached v → (p : ℕ) (q : CorePart) → part_in v.parts p ≡ Some q → IsNode q.trx.opening p → p ≤ 8
numbered v r p q has node =
    let here = subst (λ (x : TrxOpening). IsNode x p) (carried v r p q has) node in
    omega (arith, here.1, r.fair.trx.some_primaries.1)
