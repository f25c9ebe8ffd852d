use Rattle.std.proofs.Common.{◌≡◌, ◌<◌, ◌||◌, ℕ, false, length, drop, get_or}
use Rattle.mp_script.specs.Entries.{is_declared}
use Rattle.mp_schedule.proofs.schedule.declared_in.Given as goal

abbrev pub invariant-loop-on : goal.invariant-loop-on
invariant-loop-on l = record {
  size : length l.declared ≡ 256;
  seen : (session : ℕ) → session < 256 → (get_or l.declared session false || is_declared (drop l.on-index l.sessions) session) ≡ is_declared l.sessions session;
}
