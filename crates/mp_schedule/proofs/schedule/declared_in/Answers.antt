-- At first no session is seen to be declared.
use Rattle.std.proofs.Common.{◌≡◌, ◌||◌, ℕ, zero, suc, Bool, false, replicate, get_or, refl, ap}
use Rattle.mp_script.specs.Entries.{is_declared}
use Rattle.mp_schedule.proofs.schedule.declared_in.Goals as goal

none_seen : (n session : ℕ) → get_or (replicate n false) session false ≡ false
none_seen zero session = refl
none_seen (suc n) zero = refl
none_seen (suc n) (suc session) = none_seen n session

pub loop-on-init : goal.loop-on-init
loop-on-init c = record {
  size = refl;
  seen = λ session small. ap (λ (b : Bool). b || is_declared c.args.sessions.now session) (none_seen 256 session);
}
