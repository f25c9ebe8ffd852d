use Rattle.std.proofs.Common.{◌≡◌, refl, sym, ap, subst}
use Rattle.mp_primary.specs.Primaries.{PrimaryView}
use Rattle.mp_primary.specs.GoingOn.{LeavesRows}
use Rattle.mp_primary.proofs.TakenBack.{leaving_waits, leaving_stops}
use Rattle.mp_primary.proofs.primary.Primary.halt_leaving.Goals as goal

pub returns-in-Word : goal.returns-in-Word
returns-in-Word g c = λ run old before n number s halted.
    leaving_waits g.D.Disk run old c.args.self.now before n number s halted.stands halted.found halted.task halted.quiet c.in-Word.wait (subst (LeavesRows g.D.Disk old c.args.self.now before n) c.in-Word.is halted.left) halted.may_go_on

pub returns-in-Failed : goal.returns-in-Failed
returns-in-Failed g c = λ run old before n number s halted.
    let left = subst (LeavesRows g.D.Disk old c.args.self.now before n) c.in-Failed.is halted.left in
    leaving_stops g.D.Disk run old c.args.self.now before n number s halted.stands halted.found halted.task halted.quiet c.self.inside.down (ap (λ (v : PrimaryView g.row.D.Denot). v.down) c.self.view_is) left.1 halted.may_go_on
