use denote.Param.Send.{sendable}
use Rattle.std.proofs.Crossing.{crosses}
use Rattle.mp_shared.proofs.Sent.{node_send, shared_sync}
use Rattle.mp_changes.proofs.stops.Stop.TheSendSync as stop
use Rattle.mp_changes.proofs.change_runs.changes_by_four.Goals as goal

pub join-requires-send-F : goal.join-requires-send-F
join-requires-send-F g c κs within = search (sendable, crosses, node_send, shared_sync) depth 20

pub join-requires-send-A : goal.join-requires-send-A
join-requires-send-A g c κs within = search (sendable, crosses, node_send, stop.the_send) depth 20
