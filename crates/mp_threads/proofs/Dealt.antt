-- The parts of a node are split off, one behind the other: each primary stands on its own with the node that it gets.
use Rattle.std.proofs.Common.{◌≡◌, ◌≢◌, ℕ, ◌+◌, ◌==◌, Bool, not, [], slice_get, Option, None, Some, if◌then◌else◌, refl, sym, ap, subst, ◌∙◌, inl, inr, arith, eq-eqb, ne_eqb}
use Rattle.std.proofs.lemmas.Bool.{cases_eq}
use Rattle.mp_machine.specs.View.{part_in}
use Rattle.mp_machine.proofs.Views.{part_in-only}
use Rattle.mp_core_trx.specs.Events.{IsNode}
use Rattle.mp_core.specs.declared.part.CorePart.{CorePart}
use Rattle.mp_outside.specs.declared.disks.Disk.{Ghosts}
use Rattle.mp_shared.specs.Nodes.{NodeView, Reached, HoldsPart, node_of_one, node_without}
use Rattle.mp_supports.specs.Work.{Work}
use Rattle.mp_primary.specs.Primaries.{PrimaryView}
use Rattle.mp_members.specs.declared.members.Members.{Members}
use Rattle.mp_members.specs.Running.{IsMember, RunsApart}
use Rattle.mp_threads.specs.Threads.{StandsAlone}
use Rattle.mp_threads.specs.Dealing.{HasLeft}
use Rattle.mp_threads.proofs.SamePart.{stands_at, agrees_at, told_at}

-- ---- the parts of a split node

module _ (n : NodeView) (p : ℕ) where
  one_here : part_in (node_of_one p n).parts p ≡ part_in n.parts p
  one_here = part_in-only (λ k. k == p) n.parts p ∙ ap (λ (b : Bool). if b then part_in n.parts p else None) (eq-eqb p p refl)

  one_else : (k : ℕ) → k ≢ p → part_in (node_of_one p n).parts k ≡ None
  one_else k other = part_in-only (λ j. j == p) n.parts k ∙ ap (λ (b : Bool). if b then part_in n.parts k else None) (ne_eqb k p other)

  rest_here : part_in (node_without p n).parts p ≡ None
  rest_here = part_in-only (λ k. not (k == p)) n.parts p ∙ ap (λ (b : Bool). if not b then part_in n.parts p else None) (eq-eqb p p refl)

  rest_else : (k : ℕ) → k ≢ p → part_in (node_without p n).parts k ≡ part_in n.parts k
  rest_else k other = part_in-only (λ j. not (j == p)) n.parts k ∙ ap (λ (b : Bool). if not b then part_in n.parts k else None) (ne_eqb k p other)

-- a split more
pub left_next : (all : NodeView) (k : ℕ) (rest : NodeView) → HasLeft all k rest → Reached (node_without (k + 1) rest)
    → HasLeft all (k + 1) (node_without (k + 1) rest)
left_next all k rest left reached = record {
  its_run = left.its_run;
  frames = left.frames;
  reached = reached;
  above = λ n over. rest_else rest (k + 1) n (λ same. absurd (omega (arith, over, same))) ∙ left.above n (omega (arith, over));
  none = λ n low high. elim (cases_eq n (k + 1)) [
    | inl same ↦ ap (part_in (node_without (k + 1) rest).parts) same ∙ rest_here rest (k + 1)
    | inr other ↦ rest_else rest (k + 1) n other ∙ left.none n low (omega (arith, high, other))
  ];
}

module _ {D : Type 0} (g : Ghosts D) (work : Work) (m : Members D) (r : RunsApart g work m []) where
  pub left_first : HasLeft m.node 0 m.node
  left_first = record {
    its_run = refl;
    frames = r.members.frames;
    reached = r.members.reached;
    above = λ n over. refl;
    none = λ n low high. absurd (omega (arith, low, high));
  }

  module _ (k : ℕ) (rest : NodeView) (left : HasLeft m.node k rest) (pr : PrimaryView D) (at : slice_get m.primaries.items k ≡ Some pr) where
    member : IsMember g work m [] (k + 1) pr
    member = r.members.each k pr at

    pub may_deal : HoldsPart rest (k + 1)
    may_deal =
        subst (λ (o : Option CorePart). (¬ (o ≡ None)) × ((q : CorePart) → o ≡ Some q → IsNode q.trx.opening (k + 1))) (sym (left.above (k + 1) (omega arith)))
        (subst (HoldsPart m.node) member.number member.stands.desk.part)

    abbrev its_node : NodeView
    its_node = node_of_one (k + 1) rest

    same : part_in its_node.parts pr.number ≡ part_in m.node.parts pr.number
    same = subst (λ (p : ℕ). part_in its_node.parts p ≡ part_in m.node.parts p) (sym member.number) (one_here rest (k + 1) ∙ left.above (k + 1) (omega arith))

    pub dealt : Reached its_node → StandsAlone g work m.shared pr its_node []
    dealt reached = record {
      work_is = member.work_is;
      base = r.members.base;
      has_only = record {
        its_run = left.its_run ∙ r.members.run;
        frames = refl;
        alone = λ n other. one_else rest (k + 1) n (λ is. other (is ∙ sym member.number));
      };
      stands = stands_at g m.shared pr m.node its_node same (left.its_run ∙ r.members.run) refl reached member.stands;
      agrees = agrees_at g m.shared pr m.node its_node same [] member.agrees;
      told = told_at g m.shared pr m.node its_node same member.told;
      may_turn = member.may_turn;
      answered = tt;
      views = tt;
    }
