-- Bytes that are a page's spelling have no fault, and are read as that page.
use Rattle.std.proofs.Common.{◌≡◌, drop, refl, sym, ◌∙◌, None}
use Rattle.mp_page.specs.Grammar.{page_bytes_fault, spelling}
use Rattle.mp_page.proofs.PageAgain.{spelled_so}
use Rattle.mp_store.proofs.page_sides.page_at.Goals as goal

pub returns-in-Ok-clause-page : goal.returns-in-Ok-clause-page
returns-in-Ok-clause-page c =
    let spelled : drop 16 c.args.side.now ≡ spelling c.in-Ok.page = sym (c.copy_from_slice.ensures.after ∙ c.split_at.ensures.back) ∙ c.in-Ok.ensures.found.1 in
    sym ((spelled_so (drop 16 c.args.side.now) c.in-Ok.page c.in-Ok.ensures.found.0 spelled).1)

pub returns-in-Ok-clause-sound : goal.returns-in-Ok-clause-sound
returns-in-Ok-clause-sound c =
    let spelled : drop 16 c.args.side.now ≡ spelling c.in-Ok.page = sym (c.copy_from_slice.ensures.after ∙ c.split_at.ensures.back) ∙ c.in-Ok.ensures.found.1 in
    let sound : page_bytes_fault (drop 16 c.args.side.now) ≡ None = (spelled_so (drop 16 c.args.side.now) c.in-Ok.page c.in-Ok.ensures.found.0 spelled).0 in
    rw sound refl
