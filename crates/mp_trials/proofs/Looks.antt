-- A primary may look where a transaction that it began stands.
use Rattle.std.proofs.Common.{◌≡◌, ℕ, Some, refl, sym, subst}
use Rattle.mp_machine.specs.View.{part_in}
use Rattle.mp_core_trx.specs.declared.part.Begun.{Begun}
use Rattle.mp_core_trx.specs.Events.{IsNode}
use Rattle.mp_shared.specs.Nodes.{NodeView}
use Rattle.mp_shared.specs.Slots.{next_slot, used_by}
use Rattle.mp_trx_fusion.specs.Calls.{with_trx, with_begin, MayBeginTrx, MayLook}
use Rattle.mp_trx_fusion.proofs.Beginnings.{next_in_range}
use Rattle.mp_trx_fusion.proofs.Callers.{may_look_here}

pub may_look_begun : (n later : NodeView) (p version : ℕ) (b : Begun) → later ≡ with_trx n p (with_begin b) 2 → b.id.node ≡ p → next_slot n p ≡ Some b.id.slot → MayBeginTrx n p version → MayLook later p b.id
may_look_begun n later p version b is own next may =
    may_look_here n later p (with_begin b) _ is b.id (λ q. refl)
    (may.mine, may.holds, may.node, subst (λ k. IsNode may.mine.trx.opening k) (sym own) may.node, next_in_range (used_by (part_in n.parts p)) b.id.slot next)
