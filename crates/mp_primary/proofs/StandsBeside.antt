-- Behind a turn of one primary the others stand on; and what a standing primary holds.
use Rattle.std.proofs.Common.{◌≡◌, ◌≢◌, ℕ, Option, None, Some, sym, ap, subst, ◌∙◌, ⊎_elim}
use Rattle.mp_machine.specs.View.{part_in}
use Rattle.mp_core_pages.specs.declared.page_lock.Held.TheVariants.{No}
use Rattle.mp_core_pages.specs.PageParts.{held_at}
use Rattle.mp_core_trx.specs.Events.{IsNode}
use Rattle.mp_core.specs.declared.part.CorePart.{CorePart}
use Rattle.mp_core.specs.CoreExtends.{durable_of}
use Rattle.mp_model.specs.declared.waiting.Turn.{Turn}
use Rattle.mp_outside.specs.declared.disks.Disk.{Ghosts}
use Rattle.mp_shared.specs.Nodes.{Run, NodeView}
use Rattle.mp_shared.specs.PageSteps.{held_in, held_by_part}
use Rattle.mp_supports.specs.Agreement.{last_made_llsn}
use Rattle.mp_primary.specs.Primaries.{PrimaryView, StandsWith}
use Rattle.mp_primary.specs.Downs.{IsDownAsTold}
use Rattle.mp_primary.specs.Turns.{TakesTurn}

module _ {D : Type 0} (g : Ghosts D) (run : Run) where
  module _ (old new other : PrimaryView D) (before after : NodeView) (session : Option ℕ) (turn : Turn) (takes : TakesTurn g run old new before after session turn) (ne : other.number ≢ old.number) where
    same : part_in after.parts other.number ≡ part_in before.parts other.number
    same = takes.went.others other.number ne

    locks : (k : ℕ) → held_in after other.number k ≡ held_in before other.number k
    locks k = ap (λ (o : Option CorePart). held_by_part o k) same

    pub stands_beside : StandsWith g run other before → StandsWith g run other after
    stands_beside h = record {
      primary = h.primary;
      desk = record {
        its_run = takes.stands.desk.its_run;
        reached = takes.stands.desk.reached;
        part = subst (λ (o : Option CorePart). (¬ (o ≡ None)) × ((q : CorePart) → o ≡ Some q → IsNode q.trx.opening other.number)) (sym same) h.desk.part;
        frames = takes.stands.desk.frames;
        agrees = λ q has. h.desk.agrees q (sym same ∙ has);
        written = λ k b there dirty. locks k ∙ h.desk.written k b there dirty;
      };
      agrees = (h.agrees.0, λ q has. h.agrees.1 q (sym same ∙ has));
    }

    pub told_beside : IsDownAsTold other before → IsDownAsTold other after
    told_beside told q has = told q (sym same ∙ has)

  module _ (pr : PrimaryView D) (n : NodeView) (q : CorePart) (h : StandsWith g run pr n) (up : pr.down ≡ 0) (has : part_in n.parts pr.number ≡ Some q) where
    pub holds_none : (page : ℕ) → held_at q.pages.locks page ≡ No
    holds_none page = ⊎_elim (λ none. none) (λ down. absurd (down up)) ((h.agrees.1 q has).mirrors.idle page)

    pub has_forced : last_made_llsn q ≡ durable_of q
    has_forced = ((h.agrees.1 q has).media.on_disk.forced (h.primary.up up).2).0
