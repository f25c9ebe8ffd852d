-- One page more.
use Rattle.std.proofs.Common.{◌≡◌, ℕ, ap, ◌∙◌, arith}
use Rattle.mp_cells.specs.PageMaps.{page_at}
use Rattle.mp_cells.specs.Trees.{PageMap}
use Rattle.mp_recover.specs.Settling.{undo_pages_freed}
use Rattle.mp_recover.proofs.SettledPages.{free_none, free_next}
use Rattle.mp_recover.proofs.freeing.free_undo_pages.Goals as goal

pub loop-number-init : goal.loop-number-init
loop-number-init c = record { count = c.requires.pages; freed = free_none (page_at c.args.pages.now.items) }

pub loop-number-preserved : goal.loop-number-preserved
loop-number-preserved c = record {
  count = c.free_undo.ensures.count;
  freed = free_next c.loop-number.number (page_at c.args.pages.now.items) (page_at c.loop-number.pages.items) (page_at c.free_undo.new.pages.items) (omega arith) c.loop-number.invariant.freed c.free_undo.ensures.freed;
}

pub returns-clause-freed : goal.returns-clause-freed
returns-clause-freed c = λ n.
    let all : c.loop-number.number ≡ 4096 = omega (arith, c.loop-number-test.false) in
    ap (λ (f : PageMap). f n) (c.loop-number.invariant.freed ∙ ap (λ (k : ℕ). undo_pages_freed k (page_at c.args.pages.now.items)) all)
