-- The home's halves are its sides.
use Rattle.std.proofs.Common.{rules, arith, ◌+◌, ◌*◌}
use Rattle.mp_store.proofs.Halves.{front_half, back_half, enough}
use Rattle.mp_store.proofs.reading.read_home.Goals as goal

pub returns-clause-first : goal.returns-clause-first
returns-clause-first g c = λ tells. front_half 1040 (128 + 2080 * c.args.number) _ _ (rw (c.page_place.ensures) at (c.in_ok-read_exactly.ensures.bytes tells))

pub returns-clause-second : goal.returns-clause-second
returns-clause-second g c = λ tells. back_half 1040 (128 + 2080 * c.args.number) _ _ (rw (c.page_place.ensures) at (c.in_ok-read_exactly.ensures.bytes tells))

pub returns-clause-long : goal.returns-clause-long
returns-clause-long g c = λ tells.
    let whole = enough 2080 (128 + 2080 * c.args.number) (g.D.Disk.seen c.args.disk.now) c.read_exactly.new.into (omega arith) (search rules) (rw (c.page_place.ensures) at (c.in_ok-read_exactly.ensures.bytes tells)) in omega (arith, whole)
