use Rattle.mp_primary.proofs.Stops.{stop_next, stop_here}
use Rattle.mp_primary.proofs.primary.Primary.stop_now.Goals as goal

pub answer-requires-clause-next : goal.answer-requires-clause-next
answer-requires-clause-next g c =
    let w = c.requires.work in
    stop_next g.D.Disk w.0 w.1 _ c.args.self.now c.self.view_is w.2 w.3 w.4 c.args.number w.5 w.6 w.7 w.8 c.args.former

pub returns : goal.returns
returns g c = λ shared old before n trace s line comes gone may.
    stop_here g.D.Disk shared old _ c.args.self.now c.self.view_is before n trace c.args.number s line comes gone c.args.former
    c.answer.new.self c.answer.ensures.answered c.answer.ensures.book may
