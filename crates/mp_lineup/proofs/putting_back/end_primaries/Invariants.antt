use Rattle.std.proofs.Common.{◌≡◌, ◌+◌, ◌≤◌, ◌++◌, map, vec_capacity, vec_len}
use Rattle.mp_lineup.proofs.putting_back.end_primaries.Given as goal

abbrev pub invariant-loop-put : goal.invariant-loop-put
invariant-loop-put g l = record {
  all : l.disks.items ++ map (λ pr. pr.media.log.disk) l.primaries.items ≡ l.initial.disks.items ++ map (λ pr. pr.media.log.disk) l.initial.primaries.items;
  answers : map (λ list. list.items) l.lists.items ++ map (λ pr. pr.book.answers.items) l.primaries.items
      ≡ map (λ list. list.items) l.initial.lists.items ++ map (λ pr. pr.book.answers.items) l.initial.primaries.items;
  left : vec_len l.primaries + l._put ≡ vec_len l.initial.primaries;
  room : vec_len l.disks + vec_len l.primaries ≤ vec_capacity l.disks;
  lists : vec_len l.lists + vec_len l.primaries ≤ vec_capacity l.lists;
  capacity : vec_capacity l.disks ≡ vec_capacity l.initial.disks;
}
