-- The node is dealt out, the primaries run, and their nodes are gathered.
use Rattle.std.proofs.Common.{refl, sym, ◌∙◌}
use Rattle.mp_threads.proofs.RanApart.{all_may_join, same_apart, ended_apart}
use Rattle.mp_threads.proofs.threads.run_apart.Goals as goal

pub gather-requires-clause-runners : goal.gather-requires-clause-runners
gather-requires-clause-runners g c =
    let mid = c.deal.new.members in
    all_may_join g.D.Disk mid.shared mid.primaries.items c.run_lists.new.primaries.items c.in_ok-runners.runners.items
    c.run_lists.new.runners.items c.run_lists.ensures.ran

pub returns-then-gather-clause-same : goal.returns-then-gather-clause-same
returns-then-gather-clause-same g c =
    same_apart g.D.Disk c.args.members.now c.deal.new.members c.deal.ensures.rest c.in_ok-runners.runners.items _
    c.run_lists.new.runners.items refl refl c.run_lists.ensures.ran

pub returns-clause-ended : goal.returns-clause-ended
returns-clause-ended g c =
    ended_apart g.D.Disk c.args.members.now c.deal.new.members c.deal.ensures.rest c.in_ok-runners.runners.items _
    c.run_lists.new.runners.items refl refl c.run_lists.ensures.ran
    c.in_ok-runners.ensures.left c.in_ok-runners.ensures.dealt (sym c.gather.ensures.short ∙ c.if-gather.false) c.gather.ensures.node
    c.gather.ensures.reached

pub returns-clause-same : goal.returns-clause-same
returns-clause-same g c =
    same_apart g.D.Disk c.args.members.now c.deal.new.members c.deal.ensures.rest c.in_ok-runners.runners.items _
    c.run_lists.new.runners.items refl refl c.run_lists.ensures.ran
