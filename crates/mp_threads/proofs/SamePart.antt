-- A primary stands with each node that has the same part of it.
use Rattle.std.proofs.Common.{◌≡◌, ℕ, List, [], Option, None, Some, sym, ap, subst, ◌∙◌}
use Rattle.mp_machine.specs.View.{part_in}
use Rattle.mp_core_trx.specs.Events.{IsNode}
use Rattle.mp_core.specs.declared.part.CorePart.{CorePart}
use Rattle.mp_outside.specs.declared.disks.Disk.{Ghosts}
use Rattle.mp_shared.specs.Nodes.{Run, NodeView, Reached}
use Rattle.mp_shared.specs.PageSteps.{held_in, held_by_part}
use Rattle.mp_supports.specs.Kept.{Entry}
use Rattle.mp_primary.specs.Primaries.{PrimaryView, PrimaryAgreesIn, StandsWith}
use Rattle.mp_primary.specs.Downs.{IsDownAsTold}

module _ {D : Type 0} (g : Ghosts D) (run : Run) (pr : PrimaryView D) (n later : NodeView)
    (same : part_in later.parts pr.number ≡ part_in n.parts pr.number) where
  locks : (k : ℕ) → held_in later pr.number k ≡ held_in n pr.number k
  locks k = ap (λ (o : Option CorePart). held_by_part o k) same

  pub stands_at : later.run ≡ run → later.frames ≡ [] → Reached later → StandsWith g run pr n → StandsWith g run pr later
  stands_at its_run frames reached h = record {
    primary = h.primary;
    desk = record {
      its_run = its_run;
      reached = reached;
      part = subst (λ (o : Option CorePart). (¬ (o ≡ None)) × ((q : CorePart) → o ≡ Some q → IsNode q.trx.opening pr.number)) (sym same) h.desk.part;
      frames = frames;
      agrees = λ q has. h.desk.agrees q (sym same ∙ has);
      written = λ k b there dirty. locks k ∙ h.desk.written k b there dirty;
    };
    agrees = (h.agrees.0, λ q has. h.agrees.1 q (sym same ∙ has));
  }

  pub agrees_at : (entries : List Entry) → PrimaryAgreesIn g pr entries n → PrimaryAgreesIn g pr entries later
  agrees_at entries agrees q has = agrees q (sym same ∙ has)

  pub told_at : IsDownAsTold pr n → IsDownAsTold pr later
  told_at told q has = told q (sym same ∙ has)
