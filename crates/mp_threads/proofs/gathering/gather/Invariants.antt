-- What comes of the node and the runners that are left is what comes of all.
use Rattle.std.proofs.Common.{◌≡◌, ◌+◌, ◌||◌, vec_len}
use Rattle.std.specs.List.{AllByRecursion, list_any}
use Rattle.mp_shared.specs.Nodes.{Reached}
use Rattle.mp_threads.specs.Dealing.{joined_runners, MayJoin}
use Rattle.mp_threads.proofs.gathering.gather.Given as goal

abbrev pub invariant-loop-gathered : goal.invariant-loop-gathered
invariant-loop-gathered l = record {
  node : MayJoin l.shared l.node;
  may : AllByRecursion (λ r. MayJoin l.shared r.node) l.runners.items;
  reached : Reached l.node;
  joined : joined_runners l.node l.runners.items ≡ joined_runners l.initial.node l.initial.runners.items;
  short : (l.short || list_any (λ r. r.short) l.runners.items) ≡ list_any (λ r. r.short) l.initial.runners.items;
  left : vec_len l.runners + l._gathered ≡ vec_len l.initial.runners;
}
