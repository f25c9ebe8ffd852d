-- nothing was waited for, in every map the search is at this page under the one above, and in every tree so many levels down
use Rattle.std.proofs.Common.{◌≡◌, ◌<◌, ℕ, IfSome}
use Rattle.mp_cells.specs.Trees.{PageMap, IsTree, leaf_at, root}
use Rattle.mp_page.specs.Pagers.{Extends}
use Rattle.mp_tree.specs.Searches.{IsOnPath, IsParentAt, stop_above}
use Rattle.mp_tree.proofs.Descent.{Reached}
use Rattle.mp_tree.proofs.Asking.{Unwaited}
use Rattle.mp_tree.proofs.search.path_to.Given as goal

abbrev pub invariant-loop-level : goal.invariant-loop-level
invariant-loop-level g l = record {
  range : l.number < 4096;
  asked : Unwaited g.P.Pager.handed g.P.Pager.waits g.P.Pager.last g.P.Pager.follows (IsOnPath l.key) l._level l.initial.pager l.pager;
  on_path : (pages : PageMap) → Extends pages (g.P.Pager.handed l.pager) → l.number ≡ (leaf_at pages l._level l.key root).page;
  parent : IfSome l.above (IsParentAt (g.P.Pager.handed l.pager) l.key l.number);
  above : (pages : PageMap) → Extends pages (g.P.Pager.handed l.pager) → l.above ≡ stop_above pages l._level l.key;
  reached : (pages : PageMap) → Extends pages (g.P.Pager.handed l.pager) → (height : ℕ) → IsTree pages height → Reached pages height l.key l._level l.number;
}
