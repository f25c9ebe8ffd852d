-- A runner more is joined, the first of those that were left.
use Rattle.std.proofs.Common.{◌||◌, ap, sym, subst, ◌∙◌, rules, arith}
use Rattle.mp_shared.specs.Nodes.{NodeView}
use Rattle.mp_threads.specs.Dealing.{MayJoin}
use Rattle.mp_threads.proofs.FirstJoined.{first_joined, rest_may_join, first_short}
use Rattle.mp_threads.proofs.gathering.gather.Goals as goal

pub loop-gathered-preserved : goal.loop-gathered-preserved
loop-gathered-preserved c =
    let l = c.loop-gathered in
    let rs = l.runners.items in
    let rest = c.remove.new.self.items in
    let r = c.remove.result in
    let removed = c.remove.ensures in
    let joined = c.gather_one-short.ensures in
    record {
      node = subst (λ (n : NodeView). MayJoin c.args.shared.now n) (sym joined.node)
          (record { its_run = l.invariant.node.its_run; frames = l.invariant.node.frames });
      may = rest_may_join rest r c.args.shared.now rs removed.items (grind arith) l.invariant.may;
      reached = joined.reached;
      joined = first_joined rest r l.node c.gather_one-short.new.node joined.node rs (grind arith) removed.value
          removed.items ∙ l.invariant.joined;
      short = first_short rest r l.short (l.short || c.gather_one-short.result) (ap (λ b. l.short || b) joined.short) rs (grind arith)
          removed.value removed.items ∙ l.invariant.short;
      left = search rules;
    }
