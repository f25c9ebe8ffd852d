-- What closing left, the sync leaves.
use Rattle.mp_store.proofs.LaterShown.{shut_left, only_shut}
use Rattle.mp_store.proofs.later.close_all_later.Goals as goal

pub returns-in_err-close_homes-clause-left : goal.returns-in_err-close_homes-clause-left
returns-in_err-close_homes-clause-left g c = λ tells. λ room. λ only. λ image. λ left.
    let file = g.D.Disk.seen c.args.disk.now in
    let all = c.in_err-close_homes.ensures.kept tells file room (only_shut c.args.generation file (g.D.Disk.image c.args.disk.now) only) in
    shut_left c.args.generation file image (all.leaves image left)

pub returns-clause-left : goal.returns-clause-left
returns-clause-left g c = λ tells. λ room. λ only. λ image. λ left.
    let file = g.D.Disk.seen c.args.disk.now in
    let all = c.in_ok-close_homes.ensures.kept tells file room (only_shut c.args.generation file (g.D.Disk.image c.args.disk.now) only) in
    shut_left c.args.generation file image (all.leaves image (c.sync.ensures.quiet.no_new image left))
