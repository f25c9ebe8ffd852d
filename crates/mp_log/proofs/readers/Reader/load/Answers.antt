-- The batch that was read.
use Rattle.std.proofs.Common.{◌≡◌, ◌+◌, List, ℕ, IsTrue, Option, Ok, length, take, drop, refl, sym, ap, subst, ◌∙◌}
use Rattle.std.specs.Prelude.{IfSome}
use Rattle.mp_log.specs.Reading.{Nexts, IsNextBatch}
use Rattle.mp_log.specs.Readers.{ReaderView, IsLoaded}
use Rattle.mp_log.proofs.Given.{is_loaded}
use Rattle.mp_log.proofs.readers.Reader.load.Goals as goal

pub returns-in-Ok-Some-clause-exact : goal.returns-in-Ok-Some-clause-exact
returns-in-Ok-Some-clause-exact g c = λ tells.
    let file = g.D.Disk.seen c.args.disk.now in
    let place = c.self.inside.place in
    let still : IsTrue (g.D.Disk.tells c.length.new.self) = rw c.in-Ok.ensures.tells tells in
    let size : c.in-Ok.size ≡ length (g.D.Disk.seen c.length.new.self) = c.in-Ok.ensures.is tells ∙ ap length (sym c.in-Ok.ensures.quiet.same) in
    let told = subst (λ (next : Option (ℕ × ℕ)). Nexts place.node place.last (g.D.Disk.seen c.length.new.self) place.gate c.clear.new.self.items c.load.new.llsns.items (Ok next)) c.in-Ok-Some.field-0-is (c.in-Ok-Some.ensures.exact still size) in
    let next = subst (λ (f : List ℕ). IsNextBatch place.node place.last f place.gate c.clear.new.self.items c.load.new.llsns.items c.in-Ok-Some.count c.in-Ok-Some.end) c.in-Ok.ensures.quiet.same told in
    let read = subst (λ (found : Option (ℕ × ℕ)). IfSome found (λ n. c.load.new.self ≡ take n.0 (drop (place.gate + 5) (g.D.Disk.seen c.length.new.self)))) c.in-Ok-Some.field-0-is (c.in-Ok-Some.ensures.bytes still) in
    let bytes : c.load.new.self ≡ take c.in-Ok-Some.count (drop (place.gate + 5) file) = read ∙ ap (λ (f : List ℕ). take c.in-Ok-Some.count (drop (place.gate + 5) f)) c.in-Ok.ensures.quiet.same in
    let new : ReaderView = record { place = record { node = place.node; gate = place.gate + (5 + c.in-Ok-Some.count); last = c.in-Ok-Some.end }; bytes = c.load.new.self; state = c.self.inside.state } in
    let old : ReaderView = record { place = place; bytes = c.self.inside.batch; state = c.self.inside.state } in
    subst (λ (o : ReaderView). IsLoaded file o new) c.self.view_is (is_loaded file c.clear.new.self.items c.load.new.llsns.items old new c.in-Ok-Some.count c.in-Ok-Some.end next bytes refl)
