use Rattle.std.proofs.Common.{◌≡◌, ◌-◌, ◌≤◌, List, length, map, vec_capacity, vec_len}
use Rattle.mp_verdict.specs.Orders.{NodeEntry}
use Rattle.mp_lineup.specs.LiningUp.{AreListed}
use Rattle.mp_lineup.proofs.TakenAnswers.{AreTaken}
use Rattle.mp_lineup.proofs.merging.take_all.Given as goal

abbrev pub invariant-loop-above : goal.invariant-loop-above
invariant-loop-above l = record {
  count : vec_len l.taken ≡ l.above;
  room : length l.order ≤ vec_capacity l.taken;
  so_far : (given : List NodeEntry) → AreListed given l.order (map (λ list. list.items) l.initial.lists.items)
      → AreTaken given l.order (length l.order - l.above) (map (λ list. list.items) l.lists.items) l.taken.items;
}
