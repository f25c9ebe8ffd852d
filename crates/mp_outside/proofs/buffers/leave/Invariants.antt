-- The bytes so far are as the crash leaves them, the others as they were.
use Rattle.std.proofs.Common.{◌≡◌, ℕ, ◌<◌, ◌≤◌, get_or}
use Rattle.mp_outside.specs.Marks.{mark_at, left_of}
use Rattle.mp_outside.proofs.buffers.leave.Given as goal

abbrev pub invariant-loop-place : goal.invariant-loop-place
invariant-loop-place l = record {
  done : (k : ℕ) → k < l.place → get_or l.buffer k 0 ≡ left_of (mark_at l.marks k) l.choice (get_or l.initial.buffer k 0) (get_or l.synced k 0);
  rest : (k : ℕ) → l.place ≤ k → get_or l.buffer k 0 ≡ get_or l.initial.buffer k 0;
}
