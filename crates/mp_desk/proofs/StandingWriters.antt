-- What a load of the slot of a version's writer says of a write over the version.
use Rattle.std.proofs.Common.{◌≡◌, ◌≢◌, ℕ, ◌<◌, ◌≤◌, Some, Result, Ok, Err, IfErr, OnOk, sym, subst, ◌∙◌, inl, inr}
use Rattle.mp_machine.specs.View.{part_in}
use Rattle.mp_model.specs.declared.ids.TrxId.{TrxId}
use Rattle.mp_cells.specs.declared.rows.Row.{Row}
use Rattle.mp_core_trx.specs.declared.part.Begun.{Begun}
use Rattle.mp_core_trx.specs.declared.slot.Shown.{Shown}
use Rattle.mp_core_trx.specs.declared.slot.SlotTag.TheVariants as tags
use Rattle.mp_core_trx.specs.Words.{shows, shown_of}
use Rattle.mp_core_trx.specs.Events.{with_slot_load}
use Rattle.mp_core.specs.declared.part.CorePart.{CorePart}
use Rattle.mp_shared.specs.Nodes.{Run, NodeView, Reached}
use Rattle.mp_trx_fusion.specs.Calls.{with_trx}
use Rattle.mp_trx_fusion.specs.Statuses.{status_of, Stood}
use Rattle.mp_trx_fusion.specs.declared.slot_status.SlotStatus.{SlotStatus}
use Rattle.mp_trx_fusion.specs.declared.slot_status.SlotStatus.TheVariants as statuses
use Rattle.mp_supports.specs.Seeing.{IsSeenBy}
use Rattle.mp_desk.specs.declared.desk.Desk.{Desk}
use Rattle.mp_desk.specs.declared.halts.WriteHalt.{WriteHalt}
use Rattle.mp_desk.specs.declared.halts.WriteHalt.TheVariants as halts
use Rattle.mp_desk.specs.Desks.{IsAtDesk}
use Rattle.mp_desk.specs.Statements.{ReadsIn, HasBegunWriter}
use Rattle.mp_desk.specs.Writes.{HasUnfreedWriter, ShowsWriter, ShowsOpenWriter, IsOpenStatus, StopsWrite, Withstands}
use Rattle.mp_desk.proofs.ReachedFacts.{run_facts}
use Rattle.mp_desk.proofs.SlotShown.{the_load, as_shown, shown_as, seen_below}

pub begun_writer : (n : NodeView) (row : Row) → HasUnfreedWriter n row → HasBegunWriter n row
begun_writer n row unfreed id is w facts agrees = (unfreed id is w facts agrees).0

-- the slot of a writer that isn't freed doesn't show FREE
pub not_freed : (n : NodeView) (row : Row) (id : TrxId) (status : SlotStatus) → Reached n → HasUnfreedWriter n row → row.writer ≡ Some id → Stood n id status → status ≡ statuses.Free → ⊥
not_freed n row id status reached unfreed is stood free =
    let here = subst (Stood n id) free stood in
    (unfreed id is _ (run_facts n.run.opening reached.fair here.0 here.1) here.2).1 here.3.1

module _ (run : Run) (desk : Desk) (p : ℕ) (a b : NodeView) (at : IsAtDesk run desk p a) (id : TrxId) (word : ℕ) (becomes : b ≡ with_trx a p (with_slot_load id.node id.slot word) 1) (reached : Reached b) (trx : Begun) (reads : ReadsIn p trx a)
    (row : Row) (is : row.writer ≡ Some id) (other : id ≢ trx.id) (status : SlotStatus) (by : status ≡ status_of id (shown_of word)) where
  module _ (r : CorePart) (now : part_in b.parts p ≡ Some r) where
    shown_writer : (x : Shown) → shown_of word ≡ x → ShowsWriter r trx.id row id x
    shown_writer x shown =
        let l = the_load run desk p a b at id word becomes reached trx reads row is other r now in
        record { writer = is; other = other; load = l.load; is_load = l.is_load; shown = as_shown run desk p a b at id word becomes reached trx reads row is other r now x shown }

    shown_status : (x : SlotStatus) → status ≡ x → x ≡ status_of id (shown_of word)
    shown_status x same = sym same ∙ by

    open_writer : IsOpenStatus status → ShowsOpenWriter r trx.id row id
    open_writer (inl active) = inl (shown_writer (shows tags.Active id.version 0) (shown_as run desk p a b at id word becomes reached trx reads row is other r now statuses.Active (shown_status statuses.Active active)))
    open_writer (inr prep) = inr (shown_writer (shows tags.Prep id.version 0) (shown_as run desk p a b at id word becomes reached trx reads row is other r now statuses.Prep (shown_status statuses.Prep prep)))

    stops_as : (halt : WriteHalt) → StopsWrite trx id status halt → Withstands r trx row halt
    stops_as (halts.Word wait) h = absurd h
    stops_as (halts.Writer one) h = subst (λ (k : TrxId). ShowsOpenWriter r trx.id row k × (trx.id.version ≤ k.version)) (sym h.0) (open_writer h.1, h.2)
    stops_as (halts.Conflict one cts) h =
        subst (λ (k : TrxId). ShowsWriter r trx.id row k (shows tags.Committed k.version cts) × (trx.view < cts)) (sym h.0)
        (shown_writer (shows tags.Committed id.version cts) (shown_as run desk p a b at id word becomes reached trx reads row is other r now (statuses.Committed cts) (shown_status (statuses.Committed cts) h.1)), h.2)
    stops_as (halts.Held one) h = subst (λ (k : TrxId). ShowsOpenWriter r trx.id row k × (k.version < trx.id.version)) (sym h.0) (open_writer h.1, h.2)
    stops_as halts.Full h = absurd h
    stops_as halts.Failed h = absurd h

  pub stands_over : (result : Result (Unit {0}) WriteHalt) → OnOk result ((cts : ℕ) × (status ≡ statuses.Committed cts) × (cts ≤ trx.view)) → OnOk result ((r : CorePart) → part_in b.parts p ≡ Some r → IsSeenBy r trx.id trx.view row)
  stands_over (Ok done) h = λ r now. seen_below run desk p a b at id word becomes reached trx reads row is other r now h.0 (shown_status r now (statuses.Committed h.0) h.1) h.2
  stands_over (Err halt) h = tt

  pub stands_stop : (result : Result (Unit {0}) WriteHalt) → IfErr result (StopsWrite trx id status) → IfErr result (λ halt. (r : CorePart) → part_in b.parts p ≡ Some r → Withstands r trx row halt)
  stands_stop (Ok done) h = tt
  stands_stop (Err halt) h = λ r now. stops_as r now halt h
