-- The two gates over what was read.
use Rattle.std.proofs.Common.{◌≡◌, [], ◌∷◌, IsTrue, ap, ◌∙◌}
use Rattle.std.proofs.lemmas.Result.{on_ok_weaker}
use Rattle.mp_outside.specs.Disks.{written}
use Rattle.mp_store.specs.FreshStores.{closed_file, pages_file}
use Rattle.mp_store.proofs.fresh.open_pages.Goals as goal

pub returns-clause-done : goal.returns-clause-done
unfolding pages_file
returns-clause-done g c = λ tells. λ was.
    let told : IsTrue (g.D.Disk.tells c.write_part.new.disk) = rw (c.in_ok-write_part.ensures.tells) tells in
    let told' : IsTrue (g.D.Disk.tells c.write_part-2.new.disk) = rw (c.in_ok-write_part-2.ensures.tells) told in
    let first : g.D.Disk.seen c.write_part.new.disk ≡ written 128 (165 ∷ []) closed_file = c.in_ok-write_part.ensures.written tells ∙ ap (written 128 (165 ∷ [])) was in
    let second = c.in_ok-write_part-2.ensures.written told ∙ ap (written 2208 (165 ∷ [])) first in
    on_ok_weaker c.sync.result (λ safe. c.sync.ensures.quiet.same ∙ second) (c.sync.ensures.safe told')
