use Rattle.std.proofs.Common.{◌≡◌, ◌+◌, ◌≤◌, ◌++◌, map, vec_capacity, vec_len}
use Rattle.mp_lineup.specs.LiningUp.{work_over}
use Rattle.mp_lineup.specs.NewMembers.{AreNewMembers}
use Rattle.mp_lineup.proofs.making.make_each.Given as goal

abbrev pub invariant-loop-place : goal.invariant-loop-place
invariant-loop-place g l = record {
  made : AreNewMembers g.D.Disk (work_over l.script l.base) l.primaries.items;
  count : vec_len l.primaries ≡ l.place;
  left : vec_len l.logs + l.place ≡ 8;
  logs : map (λ pr. pr.media.log) l.primaries.items ++ l.logs.items ≡ l.initial.logs.items;
  room : l.script.primaries ≤ vec_capacity l.primaries;
}
