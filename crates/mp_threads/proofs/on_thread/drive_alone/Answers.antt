-- A round more: a try, marks forgotten, or a turn without a session.
use Rattle.std.proofs.Common.{sym, subst}
use Rattle.mp_schedule.specs.Schedules.{HasSessions}
use Rattle.mp_schedule.proofs.Counting.{sessions_forgotten}
use Rattle.mp_threads.proofs.DrivenAlone.{drove_nothing, drove_both}
use Rattle.mp_threads.proofs.on_thread.drive_alone.Goals as goal

pub loop-init : goal.loop-init
loop-init g c = record {
  can_next = tt;
  is_finite = tt;
  drove = drove_nothing g.D.Disk c.args.shared.now c.args.primary.now c.args.runner.now c.requires.may;
}

pub loop-preserved-in-Continue-1 : goal.loop-preserved-in-Continue-1
loop-preserved-in-Continue-1 g c = record {
  can_next = tt;
  is_finite = tt;
  drove = drove_both g.D.Disk c.args.shared.now c.args.primary.now c.loop.primary c.try_at.new.primary c.args.runner.now c.loop.runner
      c.try_at.new.runner
      c.loop.invariant.drove c.try_at.ensures.drove;
}

pub returns-in_err-try_at-in-Try-clause-drove : goal.returns-in_err-try_at-in-Try-clause-drove
returns-in_err-try_at-in-Try-clause-drove g c =
    drove_both g.D.Disk c.args.shared.now c.args.primary.now c.loop.primary c.try_at.new.primary c.args.runner.now c.loop.runner
    c.try_at.new.runner
    c.loop.invariant.drove c.try_at.ensures.drove

pub loop-preserved-in-Forget : goal.loop-preserved-in-Forget
loop-preserved-in-Forget g c =
    let drove = c.loop.invariant.drove in
    record {
      can_next = tt;
      is_finite = tt;
      drove = record {
        on = drove.on;
        same = drove.same;
        sessions = subst HasSessions (sym c.forget.ensures) (sessions_forgotten c.loop.runner.schedule.tries.items drove.sessions);
        enough = drove.enough;
      };
    }

pub returns-in_err-rest-in-Over-clause-drove : goal.returns-in_err-rest-in-Over-clause-drove
returns-in_err-rest-in-Over-clause-drove g c =
    drove_both g.D.Disk c.args.shared.now c.args.primary.now c.loop.primary c.rest.new.primary c.args.runner.now c.loop.runner
    c.rest.new.runner
    c.loop.invariant.drove c.rest.ensures.drove

pub returns-then-branch-clause-drove : goal.returns-then-branch-clause-drove
returns-then-branch-clause-drove g c =
    drove_both g.D.Disk c.args.shared.now c.args.primary.now c.loop.primary c.rest.new.primary c.args.runner.now c.loop.runner
    c.rest.new.runner
    c.loop.invariant.drove c.rest.ensures.drove

pub loop-preserved : goal.loop-preserved
loop-preserved g c = record {
  can_next = tt;
  is_finite = tt;
  drove = drove_both g.D.Disk c.args.shared.now c.args.primary.now c.loop.primary c.rest.new.primary c.args.runner.now c.loop.runner
      c.rest.new.runner
      c.loop.invariant.drove c.rest.ensures.drove;
}
