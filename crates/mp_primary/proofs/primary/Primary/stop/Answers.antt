use Rattle.std.proofs.Common.{refl}
use Rattle.mp_primary.proofs.PlainTurns.{stopped_inside, stopped_reply}
use Rattle.mp_primary.proofs.primary.Primary.stop.Goals as goal

pub returns-clause-told : goal.returns-clause-told
returns-clause-told g c =
    let own = c.requires.comes in
    stopped_reply g.D.Disk _ c.args.self.now c.self.view_is own.0 c.answer.new.self own.1 c.args.number own.2 own.3 own.4 c.self.inside.down refl c.answer.ensures.answered

pub returns-clause-stops : goal.returns-clause-stops
returns-clause-stops g c = λ run n s line comes.
    stopped_inside g.D.Disk _ c.args.self.now c.self.view_is run c.answer.new.self n c.args.number s line comes c.self.inside.down refl c.requires.down c.answer.ensures.answered c.answer.ensures.book
