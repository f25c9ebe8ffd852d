-- A run over a fresh store: its numbers fit, and the first node holds the parts of all primaries.
use Rattle.std.proofs.Common.{◌≡◌, ℕ, ◌+◌, ◌<◌, ◌≤◌, List, Some, sym, subst, ap, ◌∙◌, arith}
use Rattle.mp_machine.specs.View.{part_in}
use Rattle.mp_machine.proofs.Views.{part_in-whole}
use Rattle.mp_core_trx.specs.Events.{IsNode}
use Rattle.mp_cells.specs.PageView.{PageView}
use Rattle.mp_cells.specs.Trees.{IsClean}
use Rattle.mp_cells.proofs.SmallTrees.{fresh_is_clean}
use Rattle.mp_page.specs.FreshPages.{AreFreshPages}
use Rattle.mp_core.specs.declared.opening.CoreOpening.{CoreOpening}
use Rattle.mp_core.specs.World.{core_start, core_part}
use Rattle.mp_core.specs.Invariant.{NumbersFit}
use Rattle.mp_shared.specs.Nodes.{Run, NodeView, HoldsAll, opening_of, first_node}

abbrev pub over_fresh : ℕ → ℕ → List PageView → CoreOpening
over_fresh primaries begins pages = opening_of record { ts = 0; llsn = 0; version = 0 } primaries begins pages

pub fresh_fits : (primaries begins : ℕ) (pages : List PageView) → AreFreshPages pages → 1 ≤ primaries → primaries ≤ 8 → begins ≤ 1000 → NumbersFit (over_fresh primaries begins pages)
fresh_fits primaries begins pages fresh least most few = record {
  trx = record { some_primaries = (least, most); versions_fit = omega arith; timestamps_fit = omega arith };
  llsns_fit = omega arith;
  count = fresh.count;
  clean = subst (λ m. IsClean 0 m) (sym (λ i n. fresh.each n i)) fresh_is_clean;
}

module _ (r : Run) (node : NodeView) (node_is : node ≡ first_node r) where
  pub first_part : (p : ℕ) → IsNode r.opening.trx p → part_in node.parts p ≡ Some (core_part (core_start r.opening) p)
  first_part p is =
      let within : p < r.opening.trx.primaries + 1 = let most = is.1 in omega arith in
      ap (λ (n : NodeView). part_in n.parts p) node_is ∙ part_in-whole (core_part (core_start r.opening)) (r.opening.trx.primaries + 1) p within

  pub first_holds_all : HoldsAll node
  first_holds_all k is =
      let here = subst (λ (o : CoreOpening). IsNode o.trx k) (ap (λ (n : NodeView). n.run.opening) node_is) is in
      (core_part (core_start r.opening) k, first_part k here)
