-- A primary, and what it has on its thread, may go to another thread: a snapshot has no bytes.
use denote.RattleType.{RattleType}
use denote.Param.Send.{IsSend, sendable, view_send}
use denote.Param.SendFields.{declared_send}
use Rattle.std.proofs.Crossing.{crosses}
use Rattle.std.specs.contracts.snapshot.Snapshot as Snapshot
use Rattle.mp_outside.specs.declared.disks.Disk.{Ghosts}
use Rattle.mp_model.proofs.list.Items.TheSendSync as items
use Rattle.mp_model.proofs.ids.TrxName.TheSendSync as trx_name
use Rattle.mp_script.proofs.statements.SessionOn.TheSendSync as session_on
use Rattle.mp_script.specs.contracts.statements.Script as Script
use Rattle.mp_core_trx.proofs.opening.Base.TheSendSync as base
use Rattle.mp_book.proofs.book.Book.TheSendSync as book
use Rattle.mp_desk.proofs.desk.Desk.TheSendSync as desk
use Rattle.mp_desk.proofs.media.Media.TheSendSync as media
use Rattle.mp_schedule.proofs.schedule.Schedule.TheSendSync as schedule
use Rattle.mp_shared.proofs.Sent.{node_send}
use Rattle.mp_primary.specs.contracts.primary.Primary as Primary
use Rattle.mp_primary.specs.contracts.primary.Primary.TheInside as inside
use Rattle.mp_threads.specs.contracts.runner.Runner as Runner

snapshot_send : (Y : RattleType) → IsSend (Snapshot.the_row Y)
snapshot_send Y = record { owned = λ d vs. ((λ vss. (tt, ((λ uss. (tt, tt)), tt))), tt); leaving = λ k f vs. tt }

module _ (D : RattleType) (g : Ghosts D.Denot) (disk : IsSend D) where
  inside_send : IsSend (inside.the_row D g)
  inside_send = declared_send (inside.the_type D g) (
    search sendable,
    (
      search (sendable, crosses),
      (
        snapshot_send Script.the_row,
        (
          base.the_send,
          (
            search (sendable, items.the_send, trx_name.the_send) depth 20,
            (
              search (sendable, items.the_send, session_on.the_send) depth 20,
              (book.the_send, (desk.the_send, (media.the_send D g disk, (search sendable, tt)))),
            ),
          ),
        ),
      ),
    ),
  )

  pub primary_send : IsSend (Primary.the_row D g)
  primary_send = view_send (inside.the_row D g) _ _ _ _ inside_send

pub runner_send : IsSend Runner.the_row
runner_send = declared_send Runner.the_type (node_send, (schedule.the_send, (search sendable, tt)))
