use Rattle.std.proofs.Common.{[], map, arith}
use Rattle.std.proofs.lemmas.List.{length-map}
use Rattle.std.proofs.lemmas.Result.{IfOk-weaker}
use Rattle.mp_model.specs.declared.replies.Answer.{Answer}
use Rattle.mp_model.specs.Listed.{Listed}
use Rattle.mp_supports.specs.Work.{Work}
use Rattle.mp_members.specs.Running.{RunsApart}
use Rattle.mp_lineup.specs.LiningUp.{work_over}
use Rattle.mp_cluster.proofs.DrivenMembers.{first_apart, same_numbers, few_lists, apart_told}
use Rattle.mp_cluster.proofs.SameDisks.{same_count, stopped_there}
use Rattle.mp_cluster.proofs.run.run_members.Goals as goal

pub run_apart-ran-requires-clause-runs : goal.run_apart-ran-requires-clause-runs
run_apart-ran-requires-clause-runs g c = λ κs. λ within.
    let its : (work : Work) × RunsApart g.D.Disk work c.args.members [] = (work_over c.args.script.now c.args.base, first_apart g.D.Disk c.args.script.now c.args.base c.args.members c.requires.lined_up) in its

pub end_run-ended-requires-clause-numbers : goal.end_run-ended-requires-clause-numbers
end_run-ended-requires-clause-numbers g c = same_numbers g.D.Disk c.args.script.now c.args.base c.args.members c.run_apart-ran.new.members c.requires.lined_up c.run_apart-ran.ensures.same

pub end_run-ended-requires-clause-room : goal.end_run-ended-requires-clause-room
end_run-ended-requires-clause-room g c =
    let room = c.requires.room in let count = same_count g.D.Disk c.args.members c.run_apart-ran.new.members c.run_apart-ran.ensures.same in omega (arith, room, count)

pub returns-in_err-ran-clause-there : goal.returns-in_err-ran-clause-there
returns-in_err-ran-clause-there g c =
    stopped_there g.D.Disk c.args.members c.run_apart-ran.new.members c.end_run-ended.new.disks.items c.run_apart-ran.ensures.same c.end_run-ended.ensures.put_back

pub returns-in_err-lists-clause-there : goal.returns-in_err-lists-clause-there
returns-in_err-lists-clause-there g c =
    stopped_there g.D.Disk c.args.members c.run_apart-ran.new.members c.end_run-ended.new.disks.items c.run_apart-ran.ensures.same c.end_run-ended.ensures.put_back

pub run_transcript_of-requires : goal.run_transcript_of-requires
run_transcript_of-requires g c =
    let many = length-map c.in_ok-lists.lists.items (λ (list : Listed Answer). list.items) in
    let few = few_lists g.D.Disk c.args.script.now c.requires.spelled c.args.base c.args.members c.run_apart-ran.new.members c.requires.lined_up c.run_apart-ran.ensures.same
    (map (λ list. list.items) c.in_ok-lists.lists.items) c.in_ok-lists.ensures.lists in
    omega (arith, many, few)

pub returns-clause-there : goal.returns-clause-there
returns-clause-there g c =
    stopped_there g.D.Disk c.args.members c.run_apart-ran.new.members c.end_run-ended.new.disks.items c.run_apart-ran.ensures.same c.end_run-ended.ensures.put_back

pub returns-clause-told : goal.returns-clause-told
returns-clause-told g c = IfOk-weaker c.run_transcript_of.result _ _
    (λ transcript told. apart_told g.D.Disk c.args.script.now c.requires.spelled c.args.base c.args.members c.run_apart-ran.new.members c.requires.lined_up c.run_apart-ran.ensures.same
    (map (λ list. list.items) c.in_ok-lists.lists.items) c.in_ok-lists.ensures.lists c.in_ok-ran.ensures.ended
    c.in_ok-lists.downs.items c.in_ok-lists.ensures.downs transcript told c.end_run-ended.new.disks.items c.end_run-ended.ensures.put_back c.law_left_outcome.ensures.run)
    c.run_transcript_of.ensures
