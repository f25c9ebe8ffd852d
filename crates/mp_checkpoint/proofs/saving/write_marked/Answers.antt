-- All marked pages are written together.
use Rattle.std.proofs.Common.{IsTrue, sym, subst}
use Rattle.std.proofs.lemmas.Result.{on_ok_weaker}
use Rattle.mp_cells.specs.PageMaps.{page_at}
use Rattle.mp_checkpoint.proofs.Shown.{beside_shows, all_saved}
use Rattle.mp_checkpoint.proofs.saving.write_marked.Goals as goal

pub returns-clause-left : goal.returns-clause-left
returns-clause-left g c = λ tells can image left.
    let is = (c.args.store.now.stands c.requires.open tells).header_is in
    beside_shows c.args.store.now.header (g.D.Disk.seen c.args.store.now.disk.now) image is can.may.sound (c.write_pages.ensures.left tells image left)

pub returns-clause-saved : goal.returns-clause-saved
returns-clause-saved g c = λ tells can.
    let is = (c.args.store.now.stands c.requires.open tells).header_is in
    let file = g.D.Disk.seen c.args.store.now.disk.now in
    let new = g.D.Disk.seen c.write_pages.new.self.disk.now in
    let there = g.D.Disk.seen_is_image c.write_pages.new.self.disk.now (subst (λ b. IsTrue b) (sym c.write_pages.ensures.tells) tells) in
    let same = beside_shows c.args.store.now.header file new is can.may.sound (c.write_pages.ensures.left tells new there) in
    on_ok_weaker c.write_pages.result (λ done. all_saved c.args.header.now c.args.store.now.header c.args.marks.now.items (page_at c.args.pages.now.items) file new is c.requires.marks can same done)
    (c.write_pages.ensures.done tells)
