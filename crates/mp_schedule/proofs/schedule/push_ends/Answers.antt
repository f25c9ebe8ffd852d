use Rattle.std.proofs.Common.{◌++◌, Global, Vec, map, filter, [], ◌∷◌, sym, ap, ◌∙◌, arith}
use Rattle.mp_script.specs.Entries.{is_declared}
use Rattle.mp_script.specs.InTheirPart.{count_from}
use Rattle.mp_schedule.specs.declared.schedule.Try.{Try}
use Rattle.mp_schedule.specs.Schedules.{free_try}
use Rattle.mp_schedule.proofs.Ends.{ends_pushed, ends_passed, ends_all}
use Rattle.mp_schedule.proofs.schedule.push_ends.Goals as goal
use Rattle.mp_schedule.proofs.schedule.push_ends.Goals.{then-is_declared+in_ok-push, else-is_declared}

pub loop-session-preserved : goal.loop-session-preserved
loop-session-preserved c =
    let p = is_declared c.args.sessions.now in
    let all = c.args.tries.now.items ++ map free_try (filter p (count_from 1 64)) in
    let session = c.loop-session.session in
    record {
      within = omega (arith, c.loop-session-test.true);
      pushed = elim c.if-is_declared.branch [
        | then-is_declared+in_ok-push w ↦
            let more = ap (λ (v : Vec Try Global). v.items) w.tries-is ∙ w.in_ok-push.ensures.items ∙ ap (λ (t : Try). c.loop-session.tries.items ++ t ∷ []) w.free_try.ensures in
            ends_pushed p session c.loop-session.tries.items c.if-is_declared.tries.items all c.loop-session-test.true (sym c.is_declared.ensures ∙ w.if-is_declared.true) more c.loop-session.invariant.pushed
        | else-is_declared w ↦
            let same = ap (λ (v : Vec Try Global). v.items) w.tries-is in
            ends_passed p session c.loop-session.tries.items c.if-is_declared.tries.items all c.loop-session-test.true (sym c.is_declared.ensures ∙ w.if-is_declared.false) same c.loop-session.invariant.pushed
      ];
    }

pub returns : goal.returns
returns c =
    let p = is_declared c.args.sessions.now in
    let all = c.args.tries.now.items ++ map free_try (filter p (count_from 1 64)) in
    ends_all p c.loop-session.session c.loop-session.tries.items all (omega (arith, c.loop-session.invariant.within, c.loop-session-test.false)) c.loop-session.invariant.pushed
