-- A side left so is a page left so, and a whole one is the page in force.
use Rattle.std.proofs.Common.{◌≡◌, ℕ, IsTrue, List, length, ap, sym, subst, arith}
use Rattle.mp_store.specs.PageSides.{page_body}
use Rattle.mp_store.specs.SideWrites.{SideLeft, open_side, idle_place}
use Rattle.mp_store.proofs.NewSides.{Shows, page_shown}
use Rattle.mp_store.proofs.ShownAfter.{page_left, page_written, on_ok_both}
use Rattle.mp_store.proofs.SoundAfter.{page_sound, page_homes}
use Rattle.mp_store.proofs.updates.write_page_over.Goals as goal

pub returns-clause-shown : goal.returns-clause-shown
returns-clause-shown g c = λ tells. λ store. λ counted. λ smaller.
    let old = g.D.Disk.seen c.args.disk.now in
    let body = c.page_body.result in
    let page = c.args.page.now in
    let generation = c.args.generation in
    let long : length (open_side body) ≡ 1040 = omega (arith, c.page_body.ensures.long) in
    let shows : Shows (open_side body) generation page = subst (λ (b : List ℕ). Shows (open_side b) generation page) (sym c.page_body.ensures.body) (page_shown generation page c.ranges.generation.fits c.page_body.ensures.page) in
    on_ok_both c.write_page_side.result (c.write_page_side.ensures.done tells) (c.write_page_side.ensures.room tells)
    (λ done room. page_written c.args.store.now.generation store c.args.number generation page (open_side body) old (g.D.Disk.seen c.write_page_side.new.disk) long shows counted smaller room done)

pub returns-clause-views : goal.returns-clause-views
returns-clause-views g c = λ tells. λ only. λ image. λ left.
    let old = g.D.Disk.seen c.args.disk.now in
    let body = c.page_body.result in
    let page = c.args.page.now in
    let generation = c.args.generation in
    let long : length (open_side body) ≡ 1040 = omega (arith, c.page_body.ensures.long) in
    let shows : Shows (open_side body) generation page = subst (λ (b : List ℕ). Shows (open_side b) generation page) (sym c.page_body.ensures.body) (page_shown generation page c.ranges.generation.fits c.page_body.ensures.page) in
    page_left c.args.store.now.generation c.args.number generation page (open_side body) old image long shows (c.write_page_side.ensures.images tells only image left)

pub returns-clause-sides : goal.returns-clause-sides
returns-clause-sides g c = λ tells. λ only.
    let still : IsTrue (g.D.Disk.tells c.write_page_side.new.disk) = rw (c.write_page_side.ensures.tells) tells in
    let seen = g.D.Disk.seen c.write_page_side.new.disk in
    (returns-clause-views g c tells only seen (g.D.Disk.seen_is_image c.write_page_side.new.disk still)).sides

pub returns-clause-sound : goal.returns-clause-sound
unfolding page_body
returns-clause-sound g c = λ tells. λ only. λ is. λ sound. λ fits_map. λ fits_root. λ image. λ left.
    let old = g.D.Disk.seen c.args.disk.now in
    let page = c.args.page.now in
    let generation = c.args.generation in
    let body = c.page_body.ensures.body in
    let long : length (open_side (page_body generation page)) ≡ 1040 = omega (arith, ap length body, c.page_body.ensures.long) in
    let left' = subst (λ (b : List ℕ). SideLeft (idle_place c.args.store.now.generation c.args.number old) (open_side b) old image) body (c.write_page_side.ensures.images tells only image left) in
    page_sound c.args.store.now c.args.number generation page old image long c.requires.generation c.ranges.generation.fits c.page_body.ensures.page left' is sound fits_map fits_root

pub returns-clause-homes : goal.returns-clause-homes
returns-clause-homes g c = λ tells. λ only. λ image. λ left. λ store. λ was.
    let old = g.D.Disk.seen c.args.disk.now in
    let page = c.args.page.now in
    let generation = c.args.generation in
    let body = c.page_body.ensures.body in
    let long : length (open_side (page_body generation page)) ≡ 1040 = omega (arith, ap length body, c.page_body.ensures.long) in
    let left' = subst (λ (b : List ℕ). SideLeft (idle_place c.args.store.now.generation c.args.number old) (open_side b) old image) body (c.write_page_side.ensures.images tells only image left) in
    page_homes c.args.store.now.generation c.args.number generation page old image long c.requires.generation c.ranges.generation.fits c.page_body.ensures.page left' store was
