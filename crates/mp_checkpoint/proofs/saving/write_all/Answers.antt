-- The later sides are closed, then the pages are written, then the header is flipped.
use Rattle.std.proofs.Common.{◌≡◌, ℕ, true, List, IsTrue, sym, ap, subst, ◌∙◌}
use Rattle.mp_cells.specs.PageMaps.{page_at}
use Rattle.mp_store.specs.StoreFiles.{header_in_force}
use Rattle.mp_store.proofs.ShownAfter.{on_ok_both}
use Rattle.mp_checkpoint.specs.Saving.{ShowsNew}
use Rattle.mp_checkpoint.proofs.Shown.{can_write, shows_before, roots_saved, flip_shows, flip_done}
use Rattle.mp_checkpoint.proofs.saving.write_all.Goals as goal

pub returns-clause-left : goal.returns-clause-left
returns-clause-left g c = λ tells may marked image left.
    let d = g.D.Disk in
    let header = c.args.header.now in
    let pages = page_at c.args.pages.now.items in
    let file = d.seen c.args.store.now.disk.now in
    let shut = d.seen c.close_later.new.self.disk.now in
    let saved = d.seen c.write_marked.new.store.disk.now in
    let tells' = subst (λ b. IsTrue b) (sym c.close_later.ensures.tells) tells in
    let tells'' = subst (λ b. IsTrue b) (sym c.write_marked.ensures.still.tells) tells' in
    let can = can_write header c.args.store.now.header c.args.marks.now.items pages file shut (c.args.store.now.stands c.requires.open tells).header_is may marked
    (c.close_later.ensures.left tells shut (d.seen_is_image c.close_later.new.self.disk.now tells')) (c.in_ok-close_later.ensures.closed tells) in
    let all = c.in_ok-write_marked.ensures.saved tells' can.1 in
    shows_before header pages file shut image can.0
    (flip_shows header pages shut saved image all (c.flip_header.ensures.views tells'' image left)
    (c.flip_header.ensures.sound tells'' all.same.sound all.homes (roots_saved header pages shut saved may.roots all) image left))

pub returns-clause-saved : goal.returns-clause-saved
returns-clause-saved g c = λ tells may marked.
    let d = g.D.Disk in
    let header = c.args.header.now in
    let pages = page_at c.args.pages.now.items in
    let file = d.seen c.args.store.now.disk.now in
    let shut = d.seen c.close_later.new.self.disk.now in
    let saved = d.seen c.write_marked.new.store.disk.now in
    let flipped = c.flip_header.new.self in
    let tells' = subst (λ b. IsTrue b) (sym c.close_later.ensures.tells) tells in
    let tells'' = subst (λ b. IsTrue b) (sym c.write_marked.ensures.still.tells) tells' in
    let told = subst (λ b. IsTrue b) (sym c.flip_header.ensures.tells) tells'' in
    let can = can_write header c.args.store.now.header c.args.marks.now.items pages file shut (c.args.store.now.stands c.requires.open tells).header_is may marked
    (c.close_later.ensures.left tells shut (d.seen_is_image c.close_later.new.self.disk.now tells')) (c.in_ok-close_later.ensures.closed tells) in
    let all = c.in_ok-write_marked.ensures.saved tells' can.1 in
    on_ok_both {A = flipped.live ≡ true} {B = header_in_force (d.seen flipped.disk.now) ≡ header} {C = (image : List ℕ) → d.image flipped.disk.now image → ShowsNew header pages file image}
    c.flip_header.result c.flip_header.ensures.live (c.flip_header.ensures.shown tells'') (λ live shown image left.
    let at = (flipped.stands live told).only image left in
    flip_done header pages file image may.next (ap header_in_force at ∙ shown)
    (shows_before header pages file shut image can.0
    (flip_shows header pages shut saved image all (c.flip_header.ensures.views tells'' image left)
    (c.flip_header.ensures.sound tells'' all.same.sound all.homes (roots_saved header pages shut saved may.roots all) image left))))
