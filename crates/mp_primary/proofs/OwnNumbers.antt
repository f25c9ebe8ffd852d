-- A number that a primary which is up loaded from the word of another isn't its own.
use Rattle.std.proofs.Common.{◌≡◌, ◌≢◌, ℕ, Some, sym, ap, subst, ◌∙◌}
use Rattle.mp_machine.specs.Lists.{IsIn}
use Rattle.mp_machine.specs.Machine.{run}
use Rattle.mp_machine.specs.View.{part_in}
use Rattle.mp_core.specs.declared.part.CorePart.{CorePart}
use Rattle.mp_core.specs.Downs.{down_load, down_of}
use Rattle.mp_core.specs.World.{core_part, core}
use Rattle.mp_core.proofs.Law.{law}
use Rattle.mp_shared.specs.Nodes.{NodeView, Reached}

pub not_own : (n : NodeView) (p of by : ℕ) (q : CorePart) → Reached n → part_in n.parts p ≡ Some q → down_of q ≡ 0 → by ≢ 0
    → IsIn (down_load of by) q.downs.loaded → by ≢ p
not_own n p of by q reached has up some listed same =
    let w = run (core n.run.opening) reached.backed.0 in
    let is : core_part w p ≡ q = reached.backed.2 p q has in
    let told = (law n.run.opening reached.fair reached.backed.0 reached.backed.1).downs.loaded p of by
    (subst (λ (x : CorePart). IsIn (down_load of by) x.downs.loaded) (sym is) listed) in
    let own : (w.downs p).own ≡ 0 = ap (λ (x : CorePart). x.downs.own) is ∙ up in
    some (sym told.1.1 ∙ ap (λ (k : ℕ). (w.downs k).own) same ∙ own)
