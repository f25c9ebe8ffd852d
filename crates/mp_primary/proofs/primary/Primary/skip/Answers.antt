use Rattle.std.proofs.Common.{ap, ◌∙◌}
use Rattle.std.specs.List.{slice_get}
use Rattle.mp_book.specs.declared.session.Session.{Session}
use Rattle.mp_primary.proofs.OpenSessions.{one_of}
use Rattle.mp_primary.proofs.PlainTurns.{skipped_inside, to_stop}
use Rattle.mp_primary.proofs.primary.Primary.skip.Goals as goal

pub returns : goal.returns
returns g c = λ run n s line comes.
    let own = c.requires.comes in
    let skipping = ap (λ (x : Session). x.stage) (one_of (slice_get c.args.self.now.book.sessions.items c.args.number) (own.2) s own.4.next.found comes.next.found) ∙ own.5 in
    skipped_inside g.D.Disk _ c.args.self.now c.self.view_is run c.answer.new.self n c.args.number s line (to_stop g.D.Disk run c.args.self.now n c.args.number s line comes) skipping c.requires.up c.answer.ensures.answered c.answer.ensures.book
