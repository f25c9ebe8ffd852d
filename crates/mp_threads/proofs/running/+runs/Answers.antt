-- Beside no other primary nothing is left; and what the others have may go to another thread.
use denote.Param.Send.{sendable}
use Rattle.std.proofs.Common.{length, sym, ◌∙◌}
use Rattle.std.proofs.lemmas.Bool.{eqb-true}
use Rattle.std.proofs.Crossing.{crosses}
use Rattle.mp_shared.proofs.Sent.{shared_sync}
use Rattle.mp_threads.proofs.RanApart.{none_ran}
use Rattle.mp_threads.proofs.Sent.{primary_send, runner_send}
use Rattle.mp_threads.proofs.running.+runs.Goals as goal

pub run_beside-returns-then-is_empty-clause-others : goal.run_beside-returns-then-is_empty-clause-others
run_beside-returns-then-is_empty-clause-others g t c =
    let empty = eqb-true (length c.args.primaries.now) 0 (sym c.is_empty.ensures ∙ c.if-is_empty.true) in
    none_ran g.D.Disk c.args.shared.now c.args.primaries.now c.args.runners.now empty c.requires.others

pub run_beside-join_mut-requires-send-F : goal.run_beside-join_mut-requires-send-F
run_beside-join_mut-requires-send-F g t c κs within = search (sendable, crosses, primary_send, runner_send, shared_sync) depth 30
