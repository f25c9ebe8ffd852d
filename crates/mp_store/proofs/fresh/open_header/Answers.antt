-- The gate as it was, or open before all else of a fresh store.
use Rattle.std.proofs.Common.{◌≤◌, [], ◌∷◌, length, ap, ◌∙◌, subst, arith}
use Rattle.std.proofs.lemmas.Result.{on_ok_weaker}
use Rattle.mp_outside.specs.Disks.{written}
use Rattle.mp_store.specs.FreshStores.{fresh_file, NoHeader}
use Rattle.mp_store.proofs.FreshImages.{gate_left}
use Rattle.mp_store.proofs.fresh.open_header.Goals as goal

pub returns-clause-done : goal.returns-clause-done
unfolding fresh_file
returns-clause-done g c = λ tells. λ was. on_ok_weaker c.write_safely.result (λ is. is ∙ ap (written 0 (165 ∷ [])) was) (c.write_safely.ensures.written tells)

pub returns-clause-left : goal.returns-clause-left
returns-clause-left g c = λ tells. λ was. λ only. λ all. λ image. λ left.
    let from = c.write_safely.ensures.images tells image left in
    let long : 1 ≤ length (g.D.Disk.seen c.args.disk.now) = omega (arith, all.long) in
    gate_left (g.D.Disk.seen c.args.disk.now) from.0 image was long (subst NoHeader was all.none) (only from.0 from.1) from.2
