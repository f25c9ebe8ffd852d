use Rattle.std.proofs.Common.{◌≡◌, ◌+◌, ◌≤◌, ◌++◌, map, vec_capacity, vec_len}
use Rattle.mp_lineup.proofs.putting_back.put_logs.Given as goal

abbrev pub invariant-loop-put : goal.invariant-loop-put
invariant-loop-put g l = record {
  all : l.disks.items ++ map (λ log. log.disk) l.logs.items ≡ l.initial.disks.items ++ map (λ log. log.disk) l.initial.logs.items;
  left : vec_len l.logs + l._put ≡ vec_len l.initial.logs;
  room : vec_len l.disks + vec_len l.logs ≤ vec_capacity l.disks;
}
