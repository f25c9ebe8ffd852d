-- Whatever the turn came to, the sessions that are left to try are those that they were.
use Rattle.std.proofs.Common.{sym, subst}
use Rattle.mp_schedule.specs.declared.schedule.TryState.TheVariants.{Waiting, Over}
use Rattle.mp_schedule.specs.Schedules.{HasSessions}
use Rattle.mp_schedule.proofs.Counting.{sessions_stand, sessions_forgotten}
use Rattle.mp_threads.proofs.on_thread.try_at.Goals as goal

pub returns-in-Answered : goal.returns-in-Answered
returns-in-Answered g c =
    let tries = c.args.runner.now.schedule.tries.items in
    let over = sessions_stand tries c.finish.new.self.tries.items c.args.place Over c.requires.place c.finish.ensures
    c.requires.may.sessions in
    record {
      drove = record {
        on = c.take_turn.ensures.on;
        same = c.take_turn.ensures.same;
        sessions = subst HasSessions (sym c.forget.ensures) (sessions_forgotten c.finish.new.self.tries.items over);
        enough = c.requires.may.enough;
      };
    }

pub returns-in-Waiting : goal.returns-in-Waiting
returns-in-Waiting g c =
    let tries = c.args.runner.now.schedule.tries.items in
    record {
      drove = record {
        on = c.take_turn.ensures.on;
        same = c.take_turn.ensures.same;
        sessions = sessions_stand tries c.wait.new.self.tries.items c.args.place Waiting c.requires.place c.wait.ensures
            c.requires.may.sessions;
        enough = c.requires.may.enough;
      };
    }

pub returns-in-Done : goal.returns-in-Done
returns-in-Done g c =
    let tries = c.args.runner.now.schedule.tries.items in
    record {
      drove = record {
        on = c.take_turn.ensures.on;
        same = c.take_turn.ensures.same;
        sessions = sessions_stand tries c.finish-in-Done.new.self.tries.items c.args.place Over c.requires.place
            c.finish-in-Done.ensures c.requires.may.sessions;
        enough = c.requires.may.enough;
      };
    }
