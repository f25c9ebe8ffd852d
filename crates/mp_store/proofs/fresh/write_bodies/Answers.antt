-- The three bodies over zeros.
use Rattle.std.proofs.Common.{◌≡◌, ℕ, List, IsTrue, ap, ◌∙◌}
use Rattle.std.proofs.lemmas.Result.{on_ok_weaker}
use Rattle.mp_outside.specs.Disks.{written}
use Rattle.mp_store.specs.Layout.{store_length}
use Rattle.mp_store.specs.HeaderSides.{header_body}
use Rattle.mp_store.specs.PageSides.{page_body}
use Rattle.mp_store.specs.FreshStores.{zeros, fresh_header, fresh_meta, fresh_root, closed_file}
use Rattle.mp_store.proofs.fresh.write_bodies.Goals as goal

pub returns-clause-done : goal.returns-clause-done
unfolding closed_file
returns-clause-done g c = λ tells. λ was.
    let told : IsTrue (g.D.Disk.tells c.write_part.new.disk) = rw (c.in_ok-write_part.ensures.tells) tells in
    let told' : IsTrue (g.D.Disk.tells c.write_part-2.new.disk) = rw (c.in_ok-write_part-2.ensures.tells) told in
    let told'' : IsTrue (g.D.Disk.tells c.write_part-3.new.disk) = rw (c.in_ok-write_part-3.ensures.tells) told' in
    let one = written 129 (page_body 1 fresh_meta) (zeros store_length) in
    let two = written 2209 (page_body 1 fresh_root) one in
    let first : g.D.Disk.seen c.write_part.new.disk ≡ one =
    c.in_ok-write_part.ensures.written tells ∙ ap (λ (b : List ℕ). written 129 b (g.D.Disk.seen c.args.disk.now)) c.map_body.ensures.body ∙ ap (written 129 (page_body 1 fresh_meta)) was in
    let second : g.D.Disk.seen c.write_part-2.new.disk ≡ two =
    c.in_ok-write_part-2.ensures.written told ∙ ap (λ (b : List ℕ). written 2209 b (g.D.Disk.seen c.write_part.new.disk)) c.root_body.ensures.body ∙ ap (written 2209 (page_body 1 fresh_root)) first in
    let third : g.D.Disk.seen c.write_part-3.new.disk ≡ written 1 (header_body fresh_header) two =
    c.in_ok-write_part-3.ensures.written told' ∙ ap (λ (b : List ℕ). written 1 b (g.D.Disk.seen c.write_part-2.new.disk)) c.header_body.ensures.body ∙ ap (written 1 (header_body fresh_header)) second in
    on_ok_weaker c.sync.result (λ safe. c.sync.ensures.quiet.same ∙ third) (c.sync.ensures.safe told'')
