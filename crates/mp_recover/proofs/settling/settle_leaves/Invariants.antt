-- The leaves below the number are settled.
use Rattle.std.proofs.Common.{◌≡◌, ◌≤◌, ◌*◌, length}
use Rattle.mp_cells.specs.PageMaps.{page_at}
use Rattle.mp_recover.specs.Settling.{trx_ids, undone_below}
use Rattle.mp_recover.proofs.SettledPages.{settled_to}
use Rattle.mp_recover.proofs.settling.settle_leaves.Given as goal

abbrev pub invariant-loop-number : goal.invariant-loop-number
invariant-loop-number l = record {
  count : length l.pages.items ≡ 4096;
  settled : page_at l.pages.items ≡ settled_to l.number (trx_ids l.ids.items) (page_at l.initial.pages.items);
  undone : l.undone ≡ undone_below l.number (trx_ids l.ids.items) (page_at l.initial.pages.items);
  most : l.undone ≤ 15 * l.number;
}
