-- The leaves, and then the undo pages.
use Rattle.std.proofs.Common.{◌≡◌, sym, ap, subst, ◌∙◌}
use Rattle.mp_cells.specs.PageMaps.{page_at}
use Rattle.mp_recover.specs.Settled.{IsSettled}
use Rattle.mp_recover.specs.Settling.{trx_ids, leaves_settled, undo_pages_freed, pages_settled}
use Rattle.mp_recover.proofs.Redone.{same_maps}
use Rattle.mp_recover.proofs.SettledAll.{all_settled}
use Rattle.mp_recover.proofs.settling.roll_back_losers.Goals as goal

pub returns-clause-settled : goal.returns-clause-settled
returns-clause-settled c =
    same_maps _ _ c.free_undo_pages.ensures.freed
    ∙ ap (undo_pages_freed 4096) (same_maps (page_at c.settle_leaves-undone.new.pages.items) (leaves_settled (trx_ids c.args.ids.now.items) (page_at c.args.pages.now.items)) c.settle_leaves-undone.ensures.settled)

pub returns-clause-settles : goal.returns-clause-settles
returns-clause-settles c = λ commits last tree keys stands.
    let is : page_at c.free_undo_pages.new.pages.items ≡ pages_settled (trx_ids c.args.ids.now.items) (page_at c.args.pages.now.items) =
    same_maps _ _ c.free_undo_pages.ensures.freed
    ∙ ap (undo_pages_freed 4096) (same_maps (page_at c.settle_leaves-undone.new.pages.items) (leaves_settled (trx_ids c.args.ids.now.items) (page_at c.args.pages.now.items)) c.settle_leaves-undone.ensures.settled) in
    subst (IsSettled (trx_ids c.args.ids.now.items) (page_at c.args.pages.now.items)) (sym is) (all_settled (trx_ids c.args.ids.now.items) (page_at c.args.pages.now.items) tree commits last keys stands)
