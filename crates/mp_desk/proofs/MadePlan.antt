-- What making a planned mtr, or a commit record, leaves of the desk.
use Rattle.std.proofs.Common.{◌≡◌, ℕ, ◌+◌, ◌<◌, true, List, [], ◌∷◌, ◌++◌, length, Some, refl, sym, ap, subst, ◌∙◌, inr}
use Rattle.std.proofs.lemmas.Bool.{false≢true}
use Rattle.std.specs.List.{AllByRecursion}
use Rattle.mp_machine.specs.View.{part_in}
use Rattle.mp_model.specs.declared.ids.TrxId.{TrxId}
use Rattle.mp_cells.specs.declared.records.Record.{Record}
use Rattle.mp_cells.specs.declared.records.Record.TheVariants as records
use Rattle.mp_cells.specs.declared.records.Mtr.{Mtr}
use Rattle.mp_cells.specs.Plans.{Plan, plan_of, touches}
use Rattle.mp_cells.specs.Writes.{IsStep}
use Rattle.mp_core_pages.specs.declared.opening.TheConstants.{MOST_MTRS}
use Rattle.mp_core_pages.specs.declared.page_lock.Held.TheVariants.{Write}
use Rattle.mp_core_pages.specs.declared.part.Placed.{Placed}
use Rattle.mp_core.specs.declared.part.CorePart.{CorePart}
use Rattle.mp_shared.specs.Nodes.{Run, NodeView, Reached}
use Rattle.mp_shared.specs.PageSteps.{held_in}
use Rattle.mp_shared.proofs.Holding.{held_part}
use Rattle.mp_buffer_fusion.specs.Buffers.{IsBuffered, pool_recorded}
use Rattle.mp_desk.specs.declared.desk.Desk.{Desk}
use Rattle.mp_desk.specs.Desks.{IsAtDesk, KeepsLocks}
use Rattle.mp_desk.specs.Planned.{HasTaken}
use Rattle.mp_desk.specs.Making.{llsn_in, mtr_of_plan, mtr_of_commit, MayPlan, MakesMtr, IsUndoAfter}
use Rattle.mp_desk.proofs.PlanRecords.{plan_of_records}
use Rattle.mp_desk.proofs.Makeable.{taken_page, planned_steps}
use Rattle.mp_desk.proofs.MtrAtDesk.{mtr_at_desk, mtr_locks}

-- ---- a planned mtr

module _ (run : Run) (desk : Desk) (p : ℕ) (n : NodeView) (at : IsAtDesk run desk p n) (own : desk.mtr.node ≡ p) (taken : HasTaken p desk.pool desk.plan n)
    (may : (q : CorePart) → part_in n.parts p ≡ Some q → MayPlan q desk.plan) (few : (q : CorePart) → part_in n.parts p ≡ Some q → length q.pages.made < MOST_MTRS)
    (x : Placed Mtr) (its : x.mtr ≡ mtr_of_plan desk) (later : NodeView) (made : MakesMtr p x n later) (reached : Reached later) where
  abbrev m : Mtr
  m = mtr_of_plan desk

  plan_is : plan_of m.records ≡ desk.plan
  plan_is = plan_of_records m.llsn (llsn_in desk.pool) desk.plan

  pages_taken : (k : ℕ) → touches k (plan_of m.records) ≡ true → IsBuffered desk.pool k × (held_in n p k ≡ Write)
  pages_taken k touch = taken_page run desk p n at own taken may k (sym (ap (touches k) plan_is) ∙ touch)

  steps : AllByRecursion IsStep (plan_of m.records)
  steps = subst (AllByRecursion IsStep) (sym plan_is) (planned_steps run desk p n at own taken may (few (held_part n p at.part).0 (held_part n p at.part).1))

  pub made_at_desk : (new : Desk) → new.pool ≡ pool_recorded m.llsn m.records desk.pool → new.llsn ≡ m.llsn → IsUndoAfter desk.plan desk.undo new.undo → IsAtDesk run new p later
  made_at_desk new pool llsn undo = mtr_at_desk run desk p n at m refl pages_taken steps x its later made reached new pool llsn (subst (λ (l : Plan). IsUndoAfter l desk.undo new.undo) (sym plan_is) undo)

  pub made_locks : KeepsLocks p n later
  made_locks = mtr_locks run desk p n at m refl pages_taken steps x its later made reached

-- ---- a commit record

module _ (run : Run) (desk : Desk) (p : ℕ) (n : NodeView) (at : IsAtDesk run desk p n) (id : TrxId) (cts : ℕ)
    (x : Placed Mtr) (its : x.mtr ≡ mtr_of_commit p (desk.llsn + 1) id cts) (later : NodeView) (made : MakesMtr p x n later) (reached : Reached later) where
  none_touched : (k : ℕ) → touches k (plan_of (mtr_of_commit p (desk.llsn + 1) id cts).records) ≡ true → IsBuffered desk.pool k × (held_in n p k ≡ Write)
  none_touched k touch = absurd (false≢true touch)

  pub commit_at_desk : (new : Desk) → new.pool ≡ desk.pool → new.llsn ≡ desk.llsn + 1 → new.undo ≡ desk.undo → IsAtDesk run new p later
  commit_at_desk new pool llsn undo = mtr_at_desk run desk p n at (mtr_of_commit p (desk.llsn + 1) id cts) refl none_touched tt x its later made reached new pool llsn (inr (undo, λ page there. there))

  pub commit_locks : KeepsLocks p n later
  commit_locks = mtr_locks run desk p n at (mtr_of_commit p (desk.llsn + 1) id cts) refl none_touched tt x its later made reached

-- the commit record's mtr, as it is put together
pub commit_is : (node p llsn : ℕ) (id : TrxId) (cts : ℕ) (items none : List Record) → node ≡ p → none ≡ [] → items ≡ none ++ records.Commit id cts ∷ [] → record { node = node; llsn = llsn; records = items } ≡ mtr_of_commit p llsn id cts
commit_is node p llsn id cts items none own empty is = λ i. record { node = own i; llsn = llsn; records = (is ∙ ap (λ l. l ++ records.Commit id cts ∷ []) empty) i }
