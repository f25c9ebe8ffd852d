-- What a write leaves, from its first look to its mtr.
use Rattle.std.proofs.Common.{◌≡◌, ℕ, List, [], ◌∷◌, None, Some, sym, ap, subst, ◌∙◌, inl, inr, ⊎_elim}
use mathlib.Core.Logic.{dite}
use native.Mathlib.Decide.{ℕ_discrete}
use Rattle.mp_machine.specs.Lists.{IsIn}
use Rattle.mp_machine.specs.View.{part_in}
use Rattle.mp_cells.specs.declared.records.Mtr.{Mtr}
use Rattle.mp_cells.specs.declared.rows.Row.{Row}
use Rattle.mp_cells.specs.Plans.{Plan}
use Rattle.mp_core_trx.specs.declared.part.Begun.{Begun}
use Rattle.mp_core_trx.specs.declared.part.SlotRow.{SlotRow}
use Rattle.mp_core_trx.specs.declared.slot.SlotTag.TheVariants.{Active}
use Rattle.mp_core_trx.specs.Parts.{Shows}
use Rattle.mp_core_pages.specs.declared.part.Placed.{Placed}
use Rattle.mp_core_pages.specs.declared.part.LockRow.{LockRow}
use Rattle.mp_core_pages.specs.PageParts.{held_at}
use Rattle.mp_core.specs.declared.part.CorePart.{CorePart}
use Rattle.mp_core.specs.CoreExtends.{CoreExtends}
use Rattle.mp_core.specs.OwnMtrs.{row_restored_by, TrxMtr, trx_mtrs}
use Rattle.mp_shared.specs.Nodes.{NodeView, HoldsPart}
use Rattle.mp_shared.specs.PageSteps.{held_in}
use Rattle.mp_shared.proofs.Holding.{held_part}
use Rattle.mp_buffer_fusion.proofs.Visiting.{one_part, held_is}
use Rattle.mp_supports.specs.Seeing.{IsSeenBy}
use Rattle.mp_supports.specs.Steps.{OnlyLooked, MadeOne}
use Rattle.mp_supports.proofs.SeesMore.{settled_more}
use Rattle.mp_desk.specs.declared.desk.Desk.{Desk}
use Rattle.mp_desk.specs.declared.halts.WriteHalt.{WriteHalt}
use Rattle.mp_desk.specs.declared.halts.WriteHalt.TheVariants as halts
use Rattle.mp_desk.specs.Desks.{Moves, KeepsLocks}
use Rattle.mp_desk.specs.Making.{IsMadeAfter, SomeForced}
use Rattle.mp_desk.specs.Planned.{HasTaken}
use Rattle.mp_desk.specs.Statements.{IsReader, ReadsIn, StaysQuiet, MakesThen}
use Rattle.mp_desk.specs.Writes.{HaltsPlan, HaltsWrite}
use Rattle.mp_desk.proofs.Moving.{moves_both, looks_go, locks_same}
use Rattle.mp_desk.proofs.AtDesk.{wait_later}
use Rattle.mp_desk.proofs.PutBackRows.{quiet_then, quiet_forced}

-- ---- parts

quiet_made : (x : Placed Mtr) (q r s : CorePart) → StaysQuiet q r → MadeOne x r s → MakesThen x q s
quiet_made x q r s a b = record { between = r; quiet = a; made = b }

forced_locks : (q r : CorePart) → SomeForced q r → r.pages.locks ≡ q.pages.locks
forced_locks q r (inl same) = ap (λ (x : CorePart). x.pages.locks) same
forced_locks q r (inr h) = h.locks

seen_more : (q r : CorePart) → CoreExtends q r → (trx : Begun) (row : Row) → IsSeenBy q trx.id trx.view row → IsSeenBy r trx.id trx.view row
seen_more q r e trx row h = ⊎_elim (λ own. inl own) (λ settled. inr (settled_more q r e trx.view row settled)) h

reader_quiet : (p : ℕ) (trx : Begun) (q r : CorePart) → StaysQuiet q r → IsReader p trx q → IsReader p trx r
reader_quiet p trx q r quiet reads = record {
  node = reads.node;
  begun = subst (λ (l : List Begun). IsIn trx l) (sym quiet.begun) reads.begun;
  active = subst (λ (l : List SlotRow). Shows l trx.id Active) (sym quiet.rows) reads.active;
  whole = subst (λ (l : List (Placed Mtr)). (m : TrxMtr) → IsIn m (trx_mtrs l) → m.of ≡ Some trx.id → row_restored_by m.mtr ≡ None) (sym quiet.made) reads.whole;
}

-- ---- nodes

module _ (p : ℕ) where
  pub force_quiet : (a b c : NodeView) → Moves StaysQuiet p a b → Moves SomeForced p b c → Moves StaysQuiet p a c
  force_quiet a b c quiet forced = moves_both p StaysQuiet SomeForced StaysQuiet (λ q r s x y. quiet_then q r s x (quiet_forced r s y)) a b c quiet forced

  pub makes_then : (x : Placed Mtr) (a b c : NodeView) → Moves StaysQuiet p a b → Moves (MadeOne x) p b c → Moves (MakesThen x) p a c
  makes_then x a b c quiet made = moves_both p StaysQuiet (MadeOne x) (MakesThen x) (quiet_made x) a b c quiet made

  pub made_after : (x : Placed Mtr) (a b : NodeView) → Moves StaysQuiet p a b → IsMadeAfter b x → IsMadeAfter a x
  made_after x a b quiet after = record {
    above_made = λ k q m has made. dite (ℕ_discrete k p)
        (λ same.
        let now = quiet.mine q (ap (part_in a.parts) (sym same) ∙ has) in
        after.above_made k now.0 m (ap (part_in b.parts) same ∙ now.1) (subst (λ (l : List (Placed Mtr)). IsIn m l) (sym now.2.made) made))
        (λ other. after.above_made k q m (quiet.others k other ∙ has) made);
  }

  module _ (a b : NodeView) (held : HoldsPart a p) where
    pub force_held : Moves SomeForced p a b → (k : ℕ) → held_in b p k ≡ held_in a p k
    force_held forced k =
        let has = held_part a p held in
        let now = forced.mine has.0 has.1 in
        held_is b p k now.0 now.1 ∙ ap (λ (l : List LockRow). held_at l k) (forced_locks has.0 now.0 now.2) ∙ sym (held_is a p k has.0 has.1)

    pub force_locks : Moves SomeForced p a b → KeepsLocks p a b
    force_locks forced = locks_same p a b (force_held forced)

    pub quiet_reads : Moves StaysQuiet p a b → (trx : Begun) → ReadsIn p trx a → ReadsIn p trx b
    quiet_reads quiet trx reads r there =
        let has = held_part a p held in
        let now = quiet.mine has.0 has.1 in
        subst (IsReader p trx) (one_part (part_in b.parts p) now.0 r now.1 there) (reader_quiet p trx has.0 now.0 now.2 (reads has.0 has.1))

    pub quiet_seen : Moves StaysQuiet p a b → (trx : Begun) (row : Row) → ((q : CorePart) → part_in a.parts p ≡ Some q → IsSeenBy q trx.id trx.view row) → (r : CorePart) → part_in b.parts p ≡ Some r → IsSeenBy r trx.id trx.view row
    quiet_seen quiet trx row seen r there =
        let has = held_part a p held in
        let now = quiet.mine has.0 has.1 in
        subst (λ (x : CorePart). IsSeenBy x trx.id trx.view row) (one_part (part_in b.parts p) now.0 r now.1 there) (seen_more has.0 now.0 now.2.extends trx row (seen has.0 has.1))

-- the pages of a plan stay taken
pub taken_on : (p : ℕ) (desk : Desk) (plan : Plan) (a b : NodeView) → ((k : ℕ) → held_in b p k ≡ held_in a p k) → HasTaken p desk.pool plan a → HasTaken p desk.pool plan b
taken_on p desk [] a b same taken = tt
taken_on p desk (step ∷ plan) a b same taken = ((taken.0.0, same step.0 ∙ taken.0.1), taken_on p desk plan a b same taken.1)

-- ---- halts

pub halts_plan : (p : ℕ) (trx : Begun) (key : ℕ) (a b c : NodeView) (halt : WriteHalt) → (r : CorePart) × (part_in c.parts p ≡ Some r) → Moves OnlyLooked p a b → HaltsPlan p b c halt → HaltsWrite p trx key a c halt
halts_plan p trx key a b c (halts.Word wait) some moves h = wait_later p a b c wait (looks_go p a b moves) h
halts_plan p trx key a b c (halts.Writer id) some moves h = absurd h
halts_plan p trx key a b c (halts.Conflict id cts) some moves h = absurd h
halts_plan p trx key a b c (halts.Held id) some moves h = absurd h
halts_plan p trx key a b c halts.Full some moves h = h
halts_plan p trx key a b c halts.Failed some moves h = absurd h
