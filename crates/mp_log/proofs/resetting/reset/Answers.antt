-- First the gate, then the cut.
use Rattle.std.proofs.Common.{IsTrue}
use Rattle.mp_gated.proofs.Behind.{CallsMade-trans}
use Rattle.mp_log.proofs.resetting.reset.Goals as goal

pub returns-clause-either : goal.returns-clause-either
returns-clause-either g c = λ batches tells holds left is_left.
    let tells' : IsTrue (g.D.Disk.tells c.close_first.new.disk) = rw c.in_ok-close_first.ensures.tells tells in
    c.cut_behind_first.ensures.either batches tells' (c.in_ok-close_first.ensures.closed tells) (c.in_ok-close_first.ensures.either batches tells holds) left is_left

pub returns-clause-calls : goal.returns-clause-calls
returns-clause-calls g c = CallsMade-trans c.in_ok-close_first.ensures.calls c.cut_behind_first.ensures.calls
