-- A side left so is a header left so, and a whole one of a greater generation is the header in force.
use Rattle.std.proofs.Common.{◌≡◌, ℕ, ◌<◌, List, length, refl, ap, ◌∙◌, subst, arith}
use Rattle.mp_store.specs.declared.headers.Header.{Header}
use Rattle.mp_store.specs.HeaderSides.{header_body, header_of}
use Rattle.mp_store.specs.SideWrites.{SideLeft, open_side, idle_header_place}
use Rattle.mp_store.proofs.NewSides.{header_shown}
use Rattle.mp_store.proofs.ShownAfter.{header_left, header_written, on_ok_both}
use Rattle.mp_store.proofs.SoundAfter.{header_sound_after}
use Rattle.mp_store.proofs.updates.flip_over.Goals as goal

pub returns-clause-shown : goal.returns-clause-shown
returns-clause-shown g c = λ tells. λ was.
    let old = g.D.Disk.seen c.args.disk.now in
    let body = c.header_body.result in
    let header = c.args.header.now in
    let long : length (open_side body) ≡ 64 = omega (arith, c.header_body.ensures.long) in
    let h = c.requires.header in
    let reads : header_of (open_side body) ≡ header = ap (λ (b : List ℕ). header_of (open_side b)) (c.header_body.ensures.body) ∙ header_shown header h.generation (omega (arith, h.base)) (omega (arith, h.llsn)) (omega (arith, h.version)) in
    let greater = subst (λ (x : Header). x.generation < header.generation) was c.requires.generation in
    on_ok_both c.write_header_side.result (c.write_header_side.ensures.room tells) (c.write_header_side.ensures.done tells)
    (λ room done. header_written header (open_side body) old (g.D.Disk.seen c.write_header_side.new.disk) long refl reads greater room done)

pub returns-clause-views : goal.returns-clause-views
returns-clause-views g c = λ tells. λ only. λ image. λ left.
    let old = g.D.Disk.seen c.args.disk.now in
    let body = c.header_body.result in
    let header = c.args.header.now in
    let long : length (open_side body) ≡ 64 = omega (arith, c.header_body.ensures.long) in
    let h = c.requires.header in
    let reads : header_of (open_side body) ≡ header = ap (λ (b : List ℕ). header_of (open_side b)) (c.header_body.ensures.body) ∙ header_shown header h.generation (omega (arith, h.base)) (omega (arith, h.llsn)) (omega (arith, h.version)) in
    header_left header (open_side body) old image long reads (c.write_header_side.ensures.images tells only image left)

pub returns-clause-sound : goal.returns-clause-sound
returns-clause-sound g c = λ tells. λ only. λ is. λ sound. λ homes. λ roots. λ image. λ left.
    let old = g.D.Disk.seen c.args.disk.now in
    let header = c.args.header.now in
    let body = c.header_body.ensures.body in
    let long : length (open_side (header_body header)) ≡ 64 = omega (arith, ap length body, c.header_body.ensures.long) in
    let left' = subst (λ (b : List ℕ). SideLeft (idle_header_place old) (open_side b) old image) body (c.write_header_side.ensures.images tells only image left) in
    let greater = subst (λ (x : Header). x.generation < header.generation) is c.requires.generation in
    header_sound_after header old image long c.requires.header left' greater sound homes roots
