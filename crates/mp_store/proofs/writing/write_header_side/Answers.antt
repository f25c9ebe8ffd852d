-- What writing the side leaves, at the place of the side that isn't in force.
use Rattle.std.proofs.Common.{◌≡◌, ℕ, ◌+◌, ◌≤◌, List, IsTrue, length, drop, sym, ap, ◌∙◌, arith}
use Rattle.mp_outside.specs.Disks.{Only}
use Rattle.mp_store.specs.declared.sides.Side.TheVariants.{First, Second}
use Rattle.mp_store.specs.Layout.{is_open, header_place, header_side, other}
use Rattle.mp_store.specs.HeaderSides.{header_in}
use Rattle.mp_store.specs.StoreFiles.{header_side_in_force}
use Rattle.mp_store.specs.SideWrites.{open_side, idle_header_place}
use Rattle.mp_store.proofs.Halves.{header_gate, header_place_most}
use Rattle.mp_store.proofs.WrittenSides.{moved_left}
use Rattle.mp_store.proofs.writing.write_header_side.Goals as goal

pub returns-clause-images : goal.returns-clause-images
returns-clause-images g c = λ tells. λ only. λ image. λ left.
    let file = g.D.Disk.seen c.args.disk.now in
    let same = c.in_ok-home.ensures.quiet.same in
    let side = c.other-side.result in
    let first : c.split_at.result.0.now ≡ header_side First file = c.split_at.ensures.front ∙ c.in_ok-home.ensures.first tells in
    let second : c.split_at.result.1.now ≡ header_side Second file = c.split_at.ensures.back ∙ c.in_ok-home.ensures.second tells in
    let side_is : side ≡ other (header_side_in_force file) =
    c.other-side.ensures ∙ ap other (c.header_in.ensures ∙ ap (λ (x : List ℕ). header_in x c.split_at.result.1.now) first ∙ ap (λ (x : List ℕ). header_in (header_side First file) x) second) in
    let place_is : c.header_place.result ≡ header_place side = c.header_place.ensures in
    let gate = c.is_gate_open-was_open.ensures ∙ header_gate side _ _ file first second ∙ ap (λ (n : ℕ). is_open (drop n file)) (sym place_is) ∙ ap (λ (f : List ℕ). is_open (drop c.header_place.result f)) (sym same) in
    let tells' : IsTrue (g.D.Disk.tells c.read_headers.new.disk) = rw (c.in_ok-home.ensures.tells) tells in
    let only' : Only (g.D.Disk.seen c.read_headers.new.disk) (g.D.Disk.image c.read_headers.new.disk) = λ c' old. only c' (c.in_ok-home.ensures.quiet.no_new c' old) ∙ sym same in
    let room : c.header_place.result + 1 + length c.args.body.now ≤ length (g.D.Disk.seen c.read_headers.new.disk) =
    omega (arith, ap length same, c.in_ok-home.ensures.long tells, header_place_most side, c.requires) in
    moved_left c.header_place.result (idle_header_place file) (open_side c.args.body.now) (g.D.Disk.seen c.read_headers.new.disk) file image (place_is ∙ ap header_place side_is) same
    (c.write_side.ensures.images tells' only' room gate image left)
