-- A changed page is one that there may be.
use Rattle.mp_page.proofs.Applied.{page_after, page_from_kept, kept_from_page}
use Rattle.mp_page.proofs.page.Page.apply.Goals as goal

pub invariant_of-self : goal.invariant_of-self
invariant_of-self c = kept_from_page c.self.inside.llsn c.change_body.new.body (page_after c.args.change.now _ _ c.change_body.result (page_from_kept c.self.inside.llsn c.self.inside.body c.self.invariant) c.requires (c.change_body.ensures c.self.inside.llsn))
