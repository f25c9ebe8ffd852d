-- What a slot shows of a transaction.
use Rattle.std.specs.Prelude.{◌≡◌, ℕ, ◌==◌, List, if◌then◌else◌}
use Rattle.mp_machine.specs.Machine.{run, AllAllowed}
use Rattle.mp_machine.specs.View.{ViewAgrees}
use Rattle.mp_model.specs.declared.ids.TrxId.{TrxId}
use Rattle.mp_core_trx.specs.declared.slot.SlotTag.{SlotTag}
use Rattle.mp_core_trx.specs.declared.slot.SlotTag.TheVariants.{Free as FreeTag, Active as ActiveTag, Prep as PrepTag, Committed as CommittedTag}
use Rattle.mp_core_trx.specs.declared.slot.Shown.{Shown}
use Rattle.mp_machine.specs.Lists.{IsIn}
use Rattle.mp_core_trx.specs.Words.{shows}
use Rattle.mp_core_trx.specs.Parts.{draw_of, shown_at, HasBegun, HasDrawnNothing}
use Rattle.mp_core_trx.specs.World.{TrxWorld, begun_in, slot_rows_in, drawn_in}
use Rattle.mp_core.specs.declared.event.CoreEvent.{CoreEvent}
use Rattle.mp_core.specs.World.{core_part, core}
use Rattle.mp_shared.specs.Nodes.{NodeView}
use Rattle.mp_trx_fusion.specs.declared.slot_status.SlotStatus.{SlotStatus}
use Rattle.mp_trx_fusion.specs.declared.slot_status.SlotStatus.TheVariants.{Active, Prep, Committed, Free, Other}

abbrev pub status_by : SlotTag → ℕ → SlotStatus
status_by FreeTag cts = Free
status_by ActiveTag cts = Active
status_by PrepTag cts = Prep
status_by CommittedTag cts = Committed cts

-- where the transaction stands, if the slot shows its version
abbrev pub status_of : TrxId → Shown → SlotStatus
status_of id x = if x.version == id.version then status_by x.tag x.cts else Other

-- what a status says of the transaction in a world
abbrev pub StatusSays : TrxId → SlotStatus → TrxWorld → Type 0
StatusSays id Active w = HasBegun (begun_in w id.node) id × HasDrawnNothing (drawn_in w id.node) id
StatusSays id Prep w = HasBegun (begun_in w id.node) id
StatusSays id (Committed cts) w = IsIn (draw_of id cts) (drawn_in w id.node)
StatusSays id Free w = HasDrawnNothing (drawn_in w id.node) id × (shown_at (slot_rows_in w id.node) id.slot ≡ shows FreeTag id.version 0)
StatusSays id Other w = HasBegun (begun_in w id.node) id → ⊥

-- that is so in a world that can be reached and agrees with what the node knew
abbrev pub Stood : NodeView → TrxId → SlotStatus → Type 0
Stood n id status = (events : List CoreEvent) × AllAllowed (core n.run.opening) events × ViewAgrees (core_part (run (core n.run.opening) events)) n.parts × StatusSays id status (run (core n.run.opening) events).trx
