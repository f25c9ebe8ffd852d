-- What a caller knows of one primary's part, through calls that change what it knows of pages.
use Rattle.std.proofs.Common.{◌≡◌, ℕ, ◌+◌, ◌<◌, ◌≤◌, List, [], ◌∷◌, Option, Some, None, refl, sym, ap, ◌∙◌, subst, arith}
use Rattle.mp_machine.specs.View.{part_in}
use Rattle.mp_machine.proofs.Views.{part_in-with_here, part_in-with_else, part_in-whole}
use Rattle.mp_cells.specs.declared.records.Mtr.{Mtr}
use Rattle.mp_cells.specs.PageView.{PageView}
use Rattle.mp_cells.specs.Trees.{IsClean}
use Rattle.mp_cells.proofs.SmallTrees.{fresh_is_clean}
use Rattle.mp_page.specs.FreshPages.{AreFreshPages}
use Rattle.mp_core_trx.specs.declared.opening.TrxOpening.{TrxOpening}
use Rattle.mp_core_trx.specs.Events.{IsNode}
use Rattle.mp_core_pages.specs.declared.part.PagesPart.{PagesPart}
use Rattle.mp_core_pages.specs.declared.event.PagesEvent.{PagesEvent}
use Rattle.mp_core_pages.specs.declared.event.PagesEvent.TheVariants.{StoreLlsn, StoreDurable}
use Rattle.mp_core_pages.specs.PageParts.{pages_newcomer}
use Rattle.mp_core_pages.specs.PageEvents.{pages_node, PagesAsks, with_mtr, with_durable}
use Rattle.mp_core.specs.declared.opening.CoreOpening.{CoreOpening}
use Rattle.mp_core.specs.declared.part.CorePart.{CorePart}
use Rattle.mp_core.specs.declared.event.CoreEvent.TheVariants.{Pages}
use Rattle.mp_core.specs.Contents.{page_ops}
use Rattle.mp_core.specs.Invariant.{NumbersFit}
use Rattle.mp_core.specs.World.{core_part, core_start, MayPage}
use Rattle.mp_shared.specs.Nodes.{Run, NodeView, opening_of, first_node, HoldsPart, MayTake, changed_part, TookUnseen}
use Rattle.mp_shared.specs.PageSteps.{with_pages}
use Rattle.mp_shared.proofs.Holding.{holds_the_part}
use Rattle.mp_shared.proofs.PageTold.{by_pages}
use Rattle.mp_buffer_fusion.specs.declared.buffer.Buffer.{Buffer}
use Rattle.mp_buffer_fusion.specs.Agreement.{AgreesWith, AgreesIn}
use Rattle.mp_buffer_fusion.proofs.Visiting.{one_part}

-- two primaries over a fresh store
abbrev pub two_over : List PageView → CoreOpening
two_over pages = opening_of record { ts = 0; llsn = 0; version = 0 } 2 0 pages

pub two_fit : (pages : List PageView) → AreFreshPages pages → NumbersFit (two_over pages)
two_fit pages fresh = record {
  trx = record { some_primaries = (omega arith, omega arith); versions_fit = omega arith; timestamps_fit = omega arith };
  llsns_fit = omega arith;
  count = fresh.count;
  clean = subst (λ m. IsClean 0 m) (sym (λ i n. fresh.each n i)) fresh_is_clean;
}

-- The node has a part of the primary that knows this of pages
pub record KnowsPages (n : NodeView) (p : ℕ) (pages : PagesPart PageView Mtr) : Type 0 where
  pub part : CorePart
  pub has : part_in n.parts p ≡ Some part
  pub node : IsNode part.trx.opening p
  pub base : part.trx.opening.base.llsn ≡ 0
  pub is : part.pages ≡ pages

pub knows_first : (r : Run) (n : NodeView) (pages : List PageView) → r.opening ≡ two_over pages → n ≡ first_node r → (p : ℕ) → 1 ≤ p → p ≤ 2 → KnowsPages n p pages_newcomer
knows_first r n pages opening is p low high =
    let primaries : r.opening.trx.primaries ≡ 2 = ap (λ (o : CoreOpening). o.trx.primaries) opening in
    record {
      part = core_part (core_start r.opening) p;
      has = ap (λ (v : NodeView). part_in v.parts p) is ∙ part_in-whole (core_part (core_start r.opening)) (r.opening.trx.primaries + 1) p (omega (arith, primaries, high));
      node = (low, omega (arith, primaries, high));
      base = ap (λ (o : CoreOpening). o.trx.base.llsn) opening;
      is = refl;
    }

module _ (n : NodeView) (p : ℕ) (pages : PagesPart PageView Mtr) (k : KnowsPages n p pages) where
  pub knows_held : HoldsPart n p
  knows_held = holds_the_part n p k.part k.has k.node

  pub knows_agrees : (pool : List Buffer) → AgreesWith pool pages → AgreesIn pool n p
  knows_agrees pool agrees q has = subst (λ (r : CorePart). AgreesWith pool r.pages) (one_part (part_in n.parts p) k.part q k.has has) (subst (AgreesWith pool) (sym k.is) agrees)

  pub knows_may : (e : PagesEvent PageView Mtr) → pages_node e ≡ p → PagesAsks page_ops 0 pages e → MayPage k.part e → MayTake (Pages e) n
  knows_may e by asks may = (
    k.part,
    ap (part_in n.parts) by ∙ k.has,
    (
      subst (λ j. IsNode k.part.trx.opening j) (sym by) k.node,
      subst (λ b. PagesAsks page_ops b k.part.pages e) (sym k.base) (subst (λ ps. PagesAsks page_ops 0 ps e) (sym k.is) asks),
      may,
    ),
  )

  pub knows_after : (later : NodeView) (f : PagesPart PageView Mtr → PagesPart PageView Mtr) (count : ℕ) → later ≡ with_pages n p f count → KnowsPages later p (f pages)
  knows_after later f count is =
      let q : CorePart = record (k.part) { pages = f k.part.pages; ops = k.part.ops + count } in
      record {
        part = q;
        has = ap (λ (v : NodeView). part_in v.parts p) is ∙ ap (λ x. part_in (changed_part n.parts p (λ r. record r { pages = f r.pages; ops = r.ops + count }) x) p) k.has ∙ part_in-with_here n.parts p q k.part k.has;
        node = k.node;
        base = k.base;
        is = ap f k.is;
      }

  else_stays : (x : Option CorePart) (j : ℕ) (g : CorePart → CorePart) → ¬ (p ≡ j) → part_in (changed_part n.parts j g x) p ≡ part_in n.parts p
  else_stays (Some r) j g other = part_in-with_else n.parts j p (g r) other
  else_stays None j g other = refl

  pub knows_else : (later : NodeView) (j : ℕ) (f : PagesPart PageView Mtr → PagesPart PageView Mtr) (count : ℕ) → ¬ (p ≡ j) → later ≡ with_pages n j f count → KnowsPages later p pages
  knows_else later j f count other is = record {
    part = k.part;
    has = ap (λ (v : NodeView). part_in v.parts p) is ∙ else_stays (part_in n.parts j) j (λ r. record r { pages = f r.pages; ops = r.ops + count }) other ∙ k.has;
    node = k.node;
    base = k.base;
    is = k.is;
  }

-- the steps on logs, as changes of what a primary knows of pages
pub mtr_told : (n later : NodeView) (p : ℕ) (m : Mtr) (t : TookUnseen (Pages (StoreLlsn p m)) n later) → later ≡ with_pages n p (with_mtr t.1.note.height m) 1
mtr_told n later p m t = t.1.becomes ∙ by_pages n (StoreLlsn p m) t.0 t.1.note (with_mtr t.1.note.height m) (λ q. refl) refl

pub durable_told : (n later : NodeView) (p v : ℕ) → TookUnseen (Pages (StoreDurable p v)) n later → later ≡ with_pages n p (with_durable v) 1
durable_told n later p v t = t.1.becomes ∙ by_pages n (StoreDurable p v) t.0 t.1.note (with_durable v) (λ q. refl) refl
