use Rattle.std.proofs.Common.{◌≡◌, ◌++◌, ◌-◌, ◌≤◌, map}
use Rattle.mp_script.specs.InTheirPart.{count_from}
use Rattle.mp_generate.specs.Generated.{generated_session, generated_sessions}
use Rattle.mp_generate.proofs.making.generated_sessions.Given as goal

abbrev pub invariant-loop-session : goal.invariant-loop-session
invariant-loop-session l = record {
  within : l.session ≤ 17;
  pushed : l.sessions.items ++ map generated_session (count_from l.session (17 - l.session)) ≡ generated_sessions;
}
