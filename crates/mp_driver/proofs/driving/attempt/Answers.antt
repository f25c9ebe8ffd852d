-- A try of a session that is on a member: behind its turn, and the serving turns where it waits, the tries left stay on members.
use Rattle.std.proofs.Common.{length, arith}
use Rattle.std.proofs.lemmas.Option.{slice_get_within}
use Rattle.mp_schedule.specs.Schedules.{free_try}
use Rattle.mp_schedule.specs.declared.schedule.TryState.TheVariants.{Waiting, Over}
use Rattle.mp_members.proofs.SameMembers.{AreSameMembers-trans}
use Rattle.mp_driver.proofs.Tried.{on_there, on_set, on_forgotten}
use Rattle.mp_driver.proofs.Turned.{DrivesOn-trans}
use Rattle.mp_driver.proofs.driving.attempt.Goals as goal

pub place_of-member-requires : goal.place_of-member-requires
place_of-member-requires g c =
    let on = on_there c.args.sessions.now (length c.args.members.now.primaries.items) c.args.schedule.now.tries.items c.args.place (free_try c.args.session) c.requires.on c.requires.found in
    let high = on.5 in
    (on.0, on.1, on.2, on.3, on.4, omega (arith, high))

pub turn_at-requires-clause-session : goal.turn_at-requires-clause-session
turn_at-requires-clause-session g c =
    let on = on_there c.args.sessions.now (length c.args.members.now.primaries.items) c.args.schedule.now.tries.items c.args.place (free_try c.args.session) c.requires.on c.requires.found in
    let is = on.2 in
    let low = on.3 in
    omega (arith, is, low)

pub finish-requires : goal.finish-requires
finish-requires g c = slice_get_within c.args.schedule.now.tries.items c.args.place (free_try c.args.session) c.requires.found

pub wait-requires : goal.wait-requires
wait-requires g c = slice_get_within c.args.schedule.now.tries.items c.args.place (free_try c.args.session) c.requires.found

pub finish-requires-in-Done : goal.finish-requires-in-Done
finish-requires-in-Done g c = slice_get_within c.args.schedule.now.tries.items c.args.place (free_try c.args.session) c.requires.found

pub returns-in_err-serve-in-Waiting-clause-same : goal.returns-in_err-serve-in-Waiting-clause-same
returns-in_err-serve-in-Waiting-clause-same g c =
    AreSameMembers-trans g.D.Disk c.args.members.now c.turn_at.new.members c.serve.new.members c.turn_at.ensures.same c.serve.ensures.same

pub returns-in-Answered-clause-on : goal.returns-in-Answered-clause-on
returns-in-Answered-clause-on g c t there =
    let over = on_set c.args.sessions.now (length c.args.members.now.primaries.items) c.args.schedule.now.tries.items c.finish.new.self.tries.items c.args.place Over (free_try c.args.session) c.requires.found c.finish.ensures c.requires.on in
    let forgotten = on_forgotten c.args.sessions.now (length c.args.members.now.primaries.items) c.finish.new.self.tries.items over in
    (rw (← c.forget.ensures) at forgotten) t there

pub returns-then-not-is_page_wait-clause-drives : goal.returns-then-not-is_page_wait-clause-drives
returns-then-not-is_page_wait-clause-drives g c =
    DrivesOn-trans g.D.Disk c.args.members.now c.turn_at.new.members c.serve.new.members c.in_ok-turn_at.ensures.turn.drives c.in_ok-serve-in-Waiting.ensures.drives

pub returns-then-not-is_page_wait-clause-on : goal.returns-then-not-is_page_wait-clause-on
returns-then-not-is_page_wait-clause-on g c =
    on_set c.args.sessions.now (length c.args.members.now.primaries.items) c.args.schedule.now.tries.items c.wait.new.self.tries.items c.args.place Waiting (free_try c.args.session) c.requires.found c.wait.ensures c.requires.on

pub returns-then-not-is_page_wait-clause-same : goal.returns-then-not-is_page_wait-clause-same
returns-then-not-is_page_wait-clause-same g c =
    AreSameMembers-trans g.D.Disk c.args.members.now c.turn_at.new.members c.serve.new.members c.turn_at.ensures.same c.serve.ensures.same

pub returns-else-not-is_page_wait-clause-drives : goal.returns-else-not-is_page_wait-clause-drives
returns-else-not-is_page_wait-clause-drives g c =
    DrivesOn-trans g.D.Disk c.args.members.now c.turn_at.new.members c.serve.new.members c.in_ok-turn_at.ensures.turn.drives c.in_ok-serve-in-Waiting.ensures.drives

pub returns-else-not-is_page_wait-clause-same : goal.returns-else-not-is_page_wait-clause-same
returns-else-not-is_page_wait-clause-same g c =
    AreSameMembers-trans g.D.Disk c.args.members.now c.turn_at.new.members c.serve.new.members c.turn_at.ensures.same c.serve.ensures.same

pub returns-in-Done-clause-on : goal.returns-in-Done-clause-on
returns-in-Done-clause-on g c =
    on_set c.args.sessions.now (length c.args.members.now.primaries.items) c.args.schedule.now.tries.items c.finish-in-Done.new.self.tries.items c.args.place Over (free_try c.args.session) c.requires.found c.finish-in-Done.ensures c.requires.on
