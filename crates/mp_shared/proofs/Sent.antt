-- A node may go to another thread, and a table be shared by threads: a snapshot has no bytes.
use denote.RattleType.{RattleType}
use denote.Param.Send.{IsSend, IsSync, sendable, view_send}
use denote.Param.SendFields.{declared_send}
use Rattle.std.specs.contracts.snapshot.Snapshot as Snapshot
use Rattle.atomic_table.proofs.shared.Seat.TheSendSync as seat
use Rattle.mp_shared.proofs.shared.Shared.TheSendSync as shared
use Rattle.mp_shared.proofs.held_locks.HeldLocks.TheSendSync as locks
use Rattle.mp_shared.proofs.slot_counts.SlotCounts.TheSendSync as counts
use Rattle.mp_page.proofs.Sent.{page_send}
use Rattle.mp_shared.specs.contracts.shared.Shared as Shared
use Rattle.mp_shared.specs.contracts.held_locks.HeldLocks as HeldLocks
use Rattle.mp_shared.specs.contracts.slot_counts.SlotCounts as SlotCounts
use Rattle.mp_shared.specs.contracts.node.Node.{the_row}
use Rattle.mp_shared.specs.contracts.node.Node.TheInside as inside

snapshot_send : (Y : RattleType) → IsSend (Snapshot.the_row Y)
snapshot_send Y = record { owned = λ d vs. ((λ vss. (tt, ((λ uss. (tt, tt)), tt))), tt); leaving = λ k f vs. tt }

locks_send : IsSend HeldLocks.the_row
locks_send = locks.the_send

counts_send : IsSend SlotCounts.the_row
counts_send = counts.the_send

inside_send : IsSend inside.the_row
inside_send = declared_send inside.the_type (search (page_send, seat.the_send, sendable) depth 20, (snapshot_send Shared.the_row, (counts_send, (locks_send, tt))))

pub node_send : IsSend the_row
node_send = view_send inside.the_row _ _ _ _ inside_send

pub shared_sync : IsSync Shared.the_row
shared_sync = shared.the_sync
