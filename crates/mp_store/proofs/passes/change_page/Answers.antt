-- The page that is written is the one of the number, with the header's LLSN.
use Rattle.std.proofs.Common.{◌≡◌, ℕ, List, Some, slice_get, sym, ap, ◌∙◌}
use Rattle.mp_cells.specs.PageView.{PageView, blank_page}
use Rattle.mp_cells.specs.Plans.{page_or}
use Rattle.mp_cells.specs.PageMaps.{page_at}
use Rattle.mp_store.specs.PageSides.{page_body}
use Rattle.mp_store.specs.Passes.{bodies_of}
use Rattle.mp_store.proofs.PassedSides.{side_counts_not}
use Rattle.mp_store.proofs.passes.change_page.Goals as goal

page_is : (pages : List PageView) (number place llsn : ℕ) (old new : PageView) → place ≡ number → slice_get pages place ≡ Some old → new ≡ record old { llsn = llsn } → new ≡ record (page_at pages number) { llsn = llsn }
page_is pages number place llsn old new at there is =
    is ∙ ap (λ (p : PageView). record p { llsn = llsn }) (sym (ap (page_or (blank_page 0)) (ap (slice_get pages) (sym at) ∙ there)))

pub returns-clause-kept : goal.returns-clause-kept
returns-clause-kept g c = λ tells. λ marks. λ file. λ marked. λ all.
    let header = c.args.header.now in
    let pages = page_at c.args.pages.now.items in
    c.change_idle.ensures.kept tells marks (bodies_of header.generation header.llsn pages) file marked
    (side_counts_not c.args.store header.generation header.llsn pages c.args.number c.requires.generation c.requires.header.generation) all

pub returns-clause-done : goal.returns-clause-done
returns-clause-done g c = λ tells. λ marks. λ file. λ marked. λ all. λ below.
    let header = c.args.header.now in
    let pages = page_at c.args.pages.now.items in
    let this = page_is c.args.pages.now.items c.args.number c.from.result header.llsn c.get.result.now c.set_llsn.new.self c.from.ensures c.get.ensures c.set_llsn.ensures in
    c.change_idle.ensures.done tells marks (bodies_of header.generation header.llsn pages) file marked (ap (page_body header.generation) (sym this) ∙ sym c.page_body.ensures.body)
    (side_counts_not c.args.store header.generation header.llsn pages c.args.number c.requires.generation c.requires.header.generation) all below
