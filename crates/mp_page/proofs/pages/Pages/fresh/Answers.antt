use Rattle.mp_page.proofs.FreshPages.{fresh_pages_are}
use Rattle.mp_page.proofs.pages.Pages.fresh.Goals as goal

pub returns : goal.returns
returns c = fresh_pages_are c.in_ok-items.items.items c.in_ok-items.ensures.count c.in_ok-items.ensures.blank _ _ c.fresh_meta_page.ensures c.fresh_root_page.ensures
