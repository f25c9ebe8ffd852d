-- Who holds a part has it, and who has it holds it.
use Rattle.std.proofs.Common.{◌≡◌, ℕ, Option, None, Some, refl, ap, ◌∙◌, subst}
use Rattle.mp_machine.specs.View.{part_in, either_part}
use Rattle.mp_machine.proofs.Views.{part_in-joined}
use Rattle.mp_core_trx.specs.Events.{IsNode}
use Rattle.mp_core.specs.declared.part.CorePart.{CorePart}
use Rattle.mp_shared.specs.Nodes.{NodeView, HoldsPart, joined_nodes}

some_part : (x : Option CorePart) → ¬ (x ≡ None) → (q : CorePart) × (x ≡ Some q)
some_part (Some q) held = (q, refl)
some_part None held = absurd (held refl)

-- the part that is held
pub held_part : (n : NodeView) (p : ℕ) → HoldsPart n p → (q : CorePart) × (part_in n.parts p ≡ Some q) × IsNode q.trx.opening p
held_part n p held = let has = some_part (part_in n.parts p) held.0 in (has.0, has.1, held.1 has.0 has.1)

is_node_of : (x : Option CorePart) (p : ℕ) (q : CorePart) → x ≡ Some q → IsNode q.trx.opening p → (r : CorePart) → x ≡ Some r → IsNode r.trx.opening p
is_node_of x p q has node r is = let same : q ≡ r = cc in subst (λ (y : CorePart). IsNode y.trx.opening p) same node

none_is_not_some : (x : Option CorePart) (q : CorePart) → x ≡ Some q → ¬ (x ≡ None)
none_is_not_some x q has none = cc

pub holds_the_part : (n : NodeView) (p : ℕ) (q : CorePart) → part_in n.parts p ≡ Some q → IsNode q.trx.opening p → HoldsPart n p
holds_the_part n p q has node = (none_is_not_some (part_in n.parts p) q has, is_node_of (part_in n.parts p) p q has node)

-- who holds it holds it still when the parts of another node are there too
pub holds_joined : (n other later : NodeView) (p : ℕ) → later ≡ joined_nodes n other → HoldsPart n p → HoldsPart later p
holds_joined n other later p is held =
    let has = held_part n p held in
    holds_the_part later p has.0 (ap (λ (v : NodeView). part_in v.parts p) is ∙ part_in-joined n.parts other.parts p ∙ ap (λ x. either_part x (part_in other.parts p)) has.1) has.2
