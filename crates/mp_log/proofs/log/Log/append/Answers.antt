-- The tail has one mtr more.
use Rattle.std.proofs.Common.{◌≡◌, ◌<◌, ap}
use Rattle.mp_log.proofs.Appended.{appended}
use Rattle.mp_log.proofs.log.Log.append.Goals as goal

pub returns-clause-appended : goal.returns-clause-appended
returns-clause-appended g c = rw (← c.self.view_is) (λ batches pending stands.
    let same = ap (λ log. log.tail) c.self.view_is in
    let node : c.args.mtr.now.node ≡ c.self.inside.tail.node = rw same c.requires.node in
    let above : c.self.inside.tail.last < c.args.mtr.now.llsn = rw same c.requires.above in
    rw c.append.ensures (appended batches pending c.args.mtr.now c.self.inside.tail _ _ c.requires.sound node above stands))
