use Rattle.std.proofs.Common.{◌≡◌, length, map, take, drop}
use Rattle.mp_schedule.specs.Schedules.{without_mark}
use Rattle.mp_schedule.proofs.schedule.forget_within.Given as goal

abbrev pub invariant-loop-place : goal.invariant-loop-place
invariant-loop-place l = record {
  count : length l.tries.items ≡ length l.fn.tries.items;
  done : take l.place l.tries.items ≡ map without_mark (take l.place l.fn.tries.items);
  rest : drop l.place l.tries.items ≡ drop l.place l.fn.tries.items;
}
