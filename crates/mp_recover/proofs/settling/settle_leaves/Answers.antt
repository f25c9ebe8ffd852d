-- One page more.
use Rattle.std.proofs.Common.{◌≡◌, ℕ, sym, ap, ◌∙◌, arith}
use Rattle.mp_cells.specs.PageMaps.{page_at}
use Rattle.mp_cells.specs.Trees.{PageMap}
use Rattle.mp_recover.specs.Settling.{trx_ids, undone_below}
use Rattle.mp_recover.proofs.SettledPages.{settled_to, settle_none, settle_next, settle_all, undone_none, undone_next}
use Rattle.mp_recover.proofs.settling.settle_leaves.Goals as goal

pub loop-number-init : goal.loop-number-init
loop-number-init c = record {
  count = c.requires.pages;
  settled = settle_none (trx_ids c.args.ids.now.items) (page_at c.args.pages.now.items);
  undone = sym (undone_none (trx_ids c.args.ids.now.items) (page_at c.args.pages.now.items));
  most = omega arith;
}

pub loop-number-preserved : goal.loop-number-preserved
loop-number-preserved c =
    let so_far = c.loop-number.invariant in
    let e = c.settle_page-undone.ensures in record {
      count = e.count;
      settled = settle_next (trx_ids c.args.ids.now.items) c.loop-number.number (page_at c.args.pages.now.items) (page_at c.loop-number.pages.items) (page_at c.settle_page-undone.new.pages.items) so_far.settled e.settled;
      undone = undone_next (trx_ids c.args.ids.now.items) c.loop-number.number c.settle_page-undone.result c.loop-number.undone (page_at c.args.pages.now.items) (page_at c.loop-number.pages.items) so_far.settled so_far.undone e.undone;
      most = omega (arith, so_far.most, e.most);
    }

pub returns-clause-settled : goal.returns-clause-settled
returns-clause-settled c = λ n.
    let all : c.loop-number.number ≡ 4096 = omega (arith, c.loop-number-test.false) in
    ap (λ (f : PageMap). f n) (c.loop-number.invariant.settled ∙ ap (λ (k : ℕ). settled_to k (trx_ids c.args.ids.now.items) (page_at c.args.pages.now.items)) all)
    ∙ settle_all (trx_ids c.args.ids.now.items) c.args.pages.now.items n c.requires.pages

pub returns-clause-undone : goal.returns-clause-undone
returns-clause-undone c =
    let all : c.loop-number.number ≡ 4096 = omega (arith, c.loop-number-test.false) in
    c.loop-number.invariant.undone ∙ ap (λ (k : ℕ). undone_below k (trx_ids c.args.ids.now.items) (page_at c.args.pages.now.items)) all
