use Rattle.std.proofs.Common.{map, ◌∙◌, arith}
use Rattle.std.proofs.lemmas.Result.{IfOk-weaker}
use Rattle.mp_cluster.proofs.DrivenMembers.{same_numbers, step_listed, step_told}
use Rattle.mp_cluster.proofs.SameDisks.{same_count, stopped_there}
use Rattle.mp_cluster.proofs.step.step_members.Goals as goal

pub end_run-ended-requires-clause-numbers : goal.end_run-ended-requires-clause-numbers
end_run-ended-requires-clause-numbers g c = same_numbers g.D.Disk c.args.script.now c.args.base c.args.members c.drive_script-driven.new.members c.requires.lined_up c.drive_script-driven.ensures.same

pub end_run-ended-requires-clause-room : goal.end_run-ended-requires-clause-room
end_run-ended-requires-clause-room g c =
    let room = c.requires.room in let count = same_count g.D.Disk c.args.members c.drive_script-driven.new.members c.drive_script-driven.ensures.same in omega (arith, room, count)

pub returns-in_err-driven-clause-there : goal.returns-in_err-driven-clause-there
returns-in_err-driven-clause-there g c =
    stopped_there g.D.Disk c.args.members c.drive_script-driven.new.members c.end_run-ended.new.disks.items c.drive_script-driven.ensures.same c.end_run-ended.ensures.put_back

pub returns-in_err-order-clause-there : goal.returns-in_err-order-clause-there
returns-in_err-order-clause-there g c =
    stopped_there g.D.Disk c.args.members c.drive_script-driven.new.members c.end_run-ended.new.disks.items c.drive_script-driven.ensures.same c.end_run-ended.ensures.put_back

pub tell-requires : goal.tell-requires
tell-requires g c =
    step_listed g.D.Disk c.args.script.now c.requires.spelled c.args.base c.args.members c.drive_script-driven.new.members c.requires.lined_up c.drive_script-driven.ensures.same c.in_ok-driven.ensures.ended
    c.deref.result.now (map (λ list. list.items) c.in_ok-order.lists.items) (c.deref.ensures.value ∙ c.in_ok-order.ensures.order) c.in_ok-order.ensures.lists

pub returns-clause-there : goal.returns-clause-there
returns-clause-there g c =
    stopped_there g.D.Disk c.args.members c.drive_script-driven.new.members c.end_run-ended.new.disks.items c.drive_script-driven.ensures.same c.end_run-ended.ensures.put_back

pub returns-clause-told : goal.returns-clause-told
returns-clause-told g c = IfOk-weaker c.tell.result _ _
    (λ transcript told. step_told g.D.Disk c.args.script.now c.requires.spelled c.args.base c.args.members c.drive_script-driven.new.members c.requires.lined_up c.drive_script-driven.ensures.same c.in_ok-driven.ensures.ended
    c.deref.result.now (map (λ list. list.items) c.in_ok-order.lists.items) (c.deref.ensures.value ∙ c.in_ok-order.ensures.order) c.in_ok-order.ensures.lists
    c.in_ok-order.downs.items c.in_ok-order.ensures.downs transcript told c.end_run-ended.new.disks.items c.end_run-ended.ensures.put_back c.law_left_outcome.ensures.step)
    c.tell.ensures
