-- The lanes are filled, and the least head is taken.
use Rattle.std.proofs.Common.{Ok, refl, sym, subst}
use Rattle.mp_files.specs.Nine.{seen_at}
use Rattle.mp_recover.specs.Merging.{GivesMerged}
use Rattle.mp_recover.proofs.Merged.{gives_head}
use Rattle.mp_recover.proofs.merging.next_of.Goals as goal

pub returns-clause-gives : goal.returns-clause-gives
returns-clause-gives g c = λ mtrs tell merges.
    let d = g.D.Disk in
    let files = seen_at d c.args.logs.now.items in
    let mid = c.fill_all.new.lanes.items in
    let new = c.take_at.new.lanes.items in
    let e = c.in-Ok.ensures in
    let after = e.fills merges.lefts tell merges.left in
    let least = c.least-place.ensures.least in
    let took = c.take_at.ensures.took least.lane least.there in
    subst (λ h. GivesMerged files mtrs new (Ok h)) (sym took.0)
    (gives_head mid new files merges.lefts c.least-place.result e.lanes e.sound after.0 after.1 merges.ascend c.least-place.ensures.bound least c.take_at.ensures.others took.1
    least.lane.head refl mtrs merges.mtrs_are)
