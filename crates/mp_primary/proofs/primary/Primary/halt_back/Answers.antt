use Rattle.std.proofs.Common.{◌≡◌, refl, sym, subst}
use Rattle.mp_desk.specs.declared.halts.BackHalt.{BackHalt}
use Rattle.mp_primary.specs.GoingOn.{LeavesRows}
use Rattle.mp_primary.proofs.TakenBack.{then_waits, stop_asked, stop_room, stops}
use Rattle.mp_primary.proofs.primary.Primary.halt_back.Goals as goal

pub returns-in-Word : goal.returns-in-Word
returns-in-Word g c = λ run old before n s line halted.
    then_waits g.D.Disk run old c.args.self.now before n c.args.number s line halted.comes halted.quiet halted.counts c.in-Word.wait (subst (LeavesRows g.D.Disk old c.args.self.now before n) c.in-Word.is halted.left)

pub answer-requires-clause-next : goal.answer-requires-clause-next
answer-requires-clause-next g c =
    let halted = c.requires.halted.6 in
    stop_asked g.D.Disk c.requires.halted.0 c.requires.halted.1 c.args.self.now c.requires.halted.2 c.requires.halted.3 c.args.number c.requires.halted.4 c.requires.halted.5 halted.comes halted.quiet halted.counts _ c.self.view_is c.self.inside.down

pub answer-requires-clause-room : goal.answer-requires-clause-room
answer-requires-clause-room g c =
    let halted = c.requires.halted.6 in
    stop_room g.D.Disk c.requires.halted.0 c.requires.halted.1 c.args.self.now c.requires.halted.2 c.requires.halted.3 c.args.number c.requires.halted.4 c.requires.halted.5 halted.comes halted.quiet halted.counts _ c.self.view_is c.self.inside.down

pub returns-in-Failed : goal.returns-in-Failed
returns-in-Failed g c = λ run old before n s line halted.
    let left = subst (LeavesRows g.D.Disk old c.args.self.now before n) c.in-Failed.is halted.left in
    stops g.D.Disk run old c.args.self.now before n c.args.number s line halted.comes halted.quiet halted.counts _ c.self.view_is c.self.inside.down refl left.1 c.answer.new.self c.answer.ensures.answered c.answer.ensures.book
