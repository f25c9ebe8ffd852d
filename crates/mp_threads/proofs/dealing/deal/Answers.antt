-- The part of the primary at the next place is there, and is split off.
use Rattle.std.proofs.Common.{◌+◌, List, [], take, sym, subst, arith}
use Rattle.std.specs.List.{AllByRecursion}
use Rattle.mp_files.proofs.Places.{at_place}
use Rattle.mp_shared.specs.Nodes.{NodeView, Reached}
use Rattle.mp_threads.specs.declared.runner.Runner.{Runner}
use Rattle.mp_threads.specs.Threads.{StandsAlone}
use Rattle.mp_threads.specs.Dealing.{HasLeft, AllDealt}
use Rattle.mp_threads.proofs.Dealt.{left_next, may_deal, dealt}
use Rattle.mp_threads.proofs.DealtOut.{BeginsSo, all_one, dealt_next, dealt_whole, all_may_run}
use Rattle.mp_threads.proofs.dealing.deal.Goals as goal

pub split_off-requires-clause-part : goal.split_off-requires-clause-part
split_off-requires-clause-part g c =
    let m = c.args.members.now in
    let l = c.loop-place in
    let lt = c.loop-place-test.true in
    let end = c.len-place-end.ensures in
    let pr = at_place m.primaries.items l.place (grind arith) in
    may_deal g.D.Disk c.requires.runs.0 m c.requires.runs.1 l.place l.members.node l.invariant.left pr.0 pr.1

pub loop-place-preserved : goal.loop-place-preserved
loop-place-preserved g c =
    let m = c.args.members.now in
    let l = c.loop-place in
    let lt = c.loop-place-test.true in
    let end = c.len-place-end.ensures in
    let pr = at_place m.primaries.items l.place (grind arith) in
    let r = c.in_ok-runner.runner in
    let own = c.in_ok-runner.ensures.own in
    let rest = c.in_ok-runner.ensures.rest in
    record {
      rest = record { shared = l.invariant.rest.shared; primaries = l.invariant.rest.primaries; idle = l.invariant.rest.idle };
      left = subst (λ (n : NodeView). HasLeft m.node (l.place + 1) n) (sym rest.0)
          (left_next m.node l.place l.members.node l.invariant.left (subst Reached rest.0 rest.1));
      dealt = λ work runs.
          let alone = dealt g.D.Disk work m runs l.place l.members.node l.invariant.left pr.0 pr.1 (subst Reached own.0 own.1) in
          let stands = subst (λ (n : NodeView). StandsAlone g.D.Disk work m.shared pr.0 n []) (sym own.0) alone in
          subst (λ (rs : List Runner). AllDealt g.D.Disk work m.shared (take (l.place + 1) m.primaries.items) rs)
          (sym c.in_ok-push.ensures.items)
          (dealt_next g.D.Disk work m.shared m.primaries.items l.place l.runners.items pr.0 r pr.1 (l.invariant.dealt work runs) stands);
      begins = subst (λ (rs : List Runner). AllByRecursion BeginsSo rs) (sym c.in_ok-push.ensures.items)
          (all_one BeginsSo l.runners.items r l.invariant.begins (c.in_ok-runner.ensures.sessions, c.in_ok-runner.ensures.enough));
    }

pub returns-clause-may : goal.returns-clause-may
returns-clause-may g c =
    let m = c.args.members.now in
    let l = c.loop-place in
    let work = c.requires.runs.0 in
    all_may_run g.D.Disk work m.shared m.primaries.items l.runners.items
    (dealt_whole g.D.Disk work m.shared m.primaries.items l.place l.runners.items (grind arith) (l.invariant.dealt work c.requires.runs.1)) l.invariant.begins
