-- the mtrs so far, and what the rest is read as
use Rattle.std.proofs.Common.{◌≡◌, ◌+◌, ◌-◌, length}
use Rattle.mp_log.specs.Reading.{mtrs_at}
use Rattle.mp_log.proofs.Checked.{SoFar}
use Rattle.mp_log.proofs.batches.check_batch.Given as goal

abbrev pub invariant-loop : goal.invariant-loop
invariant-loop l = record {
  place : l.start + length l.rest ≡ l.place + length l.bytes;
  so_far : SoFar (mtrs_at (length l.bytes) l.node l.fn.last l.bytes l.place) l.bytes l.node l.fn.last l.initial.llsns.items (length l.bytes - l.counter) l.last l.start l.rest l.llsns.items;
}
