use Rattle.std.proofs.Common.{arith}
use Rattle.mp_generate.specs.Generated.{generated_session, generated_sessions}
use Rattle.mp_generate.proofs.Filling.{pushed}
use Rattle.mp_generate.proofs.making.generated_sessions.Goals as goal

pub loop-session-preserved : goal.loop-session-preserved
loop-session-preserved c =
    let items = c.loop-session.sessions.items in
    record {
      within = omega (arith, c.loop-session-test.true);
      pushed = pushed generated_session c.loop-session.session 17 items c.push.new.self.items generated_sessions
          c.loop-session-test.true c.in_ok-push.ensures.ok c.loop-session.invariant.pushed;
    }
