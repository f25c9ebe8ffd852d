-- The pages of a plan are changed one after another.
use Rattle.std.proofs.Common.{◌≡◌, ℕ, zero, suc, ◌<◌, ◌≤◌, List, [], ◌∷◌, ◌++◌, length, drop, slice_get, Option, Some, None, IsSome, Result, MatchOption, IsOk, IsErr, sym, ap, subst, ◌∙◌, inl, inr, arith, append_assoc, length-append}
use Rattle.std.specs.Option.{IfSome}
use Rattle.std.proofs.lemmas.Bool.{false≢true}
use Rattle.mp_machine.specs.Lists.{IsIn}
use Rattle.mp_cells.specs.declared.changes.Change.{Change}
use Rattle.mp_cells.specs.declared.changes.Change.TheVariants.{MakeUndo}
use Rattle.mp_cells.specs.declared.records.Record.{Record}
use Rattle.mp_cells.specs.declared.records.Record.TheVariants as records
use Rattle.mp_cells.specs.declared.changes.NotApplicable.{NotApplicable}
use Rattle.mp_cells.specs.PageView.{PageView}
use Rattle.mp_cells.specs.Changes.{applied, HasCells}
use Rattle.mp_cells.specs.Plans.{Plan, CanApply}
use Rattle.mp_cells.specs.Writes.{IsStep}
use Rattle.mp_cells.proofs.ChangeCells.{has_cells}
use Rattle.mp_buffer_fusion.specs.declared.buffer.Buffer.{Buffer}
use Rattle.mp_buffer_fusion.specs.Buffers.{buffer_of, IsBuffered, pool_changed, pool_recorded, ChangesBuffer}
use Rattle.mp_supports.proofs.Places.{drop_at}
use Rattle.mp_desk.specs.Making.{llsn_in, records_of_plan, CanChangeBuffers}
use Rattle.mp_desk.proofs.BufferPlans.{one_buffer, recorded_more, records_go_on}

pub if_some_is : {X : Type 0} (P : X → Type 0) (o : Option X) (x : X) → o ≡ Some x → IfSome o P → P x
if_some_is P o x is h = subst (λ y. IfSome y P) is h

-- So many changes of a plan were made: the records, and the buffers, are those of the changes so far
pub record ChangedSoFar (llsn : ℕ) (first : List Buffer) (plan : Plan) (i : ℕ) (pool : List Buffer) (items : List Record) : Type 0 where
  pub listed : items ++ records_of_plan llsn (llsn_in pool) (drop i plan) ≡ records_of_plan llsn (llsn_in first) plan
  pub made : pool ≡ pool_recorded llsn items first
  pub rest : CanChangeBuffers llsn pool (drop i plan)
  pub count : length items ≡ i

module _ (llsn : ℕ) (first : List Buffer) (plan : Plan) (i : ℕ) (pool : List Buffer) (items : List Record) (so_far : ChangedSoFar llsn first plan i pool items) where
  module _ (step : ℕ × Change) (at : slice_get plan i ≡ Some step) where
    next : CanChangeBuffers llsn pool (step ∷ drop (suc i) plan)
    next = subst (CanChangeBuffers llsn pool) (drop_at plan i step at) so_far.rest

    -- the next change can be made
    pub step_is : IsStep step
    step_is = next.0

    pub step_buffer : (b : Buffer) × (buffer_of pool step.0 ≡ Some b) × CanApply step.1 b.page
    step_buffer = next.1

    -- and then it was
    pub changed_more : (page prev : ℕ) (change : Change) (later : List Buffer) → step.0 ≡ page → step.1 ≡ change → prev ≡ (step_buffer.0).page.llsn → later ≡ pool_changed llsn page change pool
        → ChangedSoFar llsn first plan (suc i) later (items ++ records.Page page prev change ∷ [])
    changed_more page prev change later page_is change_is prev_is later_is =
        let b = step_buffer in
        let item : records.Page step.0 (b.0).page.llsn step.1 ≡ records.Page page prev change = λ j. records.Page (page_is j) (sym prev_is j) (change_is j) in
        let pool_is : pool_changed llsn step.0 step.1 pool ≡ later = (λ j. pool_changed llsn (page_is j) (change_is j) pool) ∙ sym later_is in
        let listed : items ++ records_of_plan llsn (llsn_in pool) (drop i plan) ≡ (items ++ records.Page page prev change ∷ []) ++ records_of_plan llsn (llsn_in later) (drop (suc i) plan) =
        ap (λ (l : Plan). items ++ records_of_plan llsn (llsn_in pool) l) (drop_at plan i step at)
        ∙ ap (λ (l : List Record). items ++ l) (records_go_on llsn step (drop (suc i) plan) pool b.0 b.1)
        ∙ (λ j. items ++ item j ∷ records_of_plan llsn (llsn_in (pool_is j)) (drop (suc i) plan))
        ∙ sym (append_assoc items (records.Page page prev change ∷ []) (records_of_plan llsn (llsn_in later) (drop (suc i) plan))) in
        record {
          listed = sym listed ∙ so_far.listed;
          made = later_is ∙ ap (pool_changed llsn page change) so_far.made ∙ sym (recorded_more llsn items page prev change first);
          rest = subst (λ l. CanChangeBuffers llsn l (drop (suc i) plan)) pool_is next.2;
          count = let more = length-append items (records.Page page prev change ∷ []) in let count = so_far.count in omega (arith, more, count);
        }

    module _ (page : ℕ) (change : Change) (page_is : step.0 ≡ page) (change_is : step.1 ≡ change) where
      pub page_within : page < 4096
      page_within = subst (λ k. k < 4096) page_is step_is.0

      here : buffer_of pool page ≡ Some step_buffer.0
      here = ap (buffer_of pool) (sym page_is) ∙ step_buffer.1

      pub page_buffered : IsBuffered pool page
      page_buffered none = let both : None ≡ Some step_buffer.0 = sym none ∙ here in cc

      pub change_cells : HasCells change
      change_cells = subst HasCells change_is (has_cells step.1 step_is.1)

      can_here : (b : Buffer) → buffer_of pool page ≡ Some b → CanApply change b.page
      can_here b is = subst (λ (x : Buffer). CanApply change x.page) (one_buffer (buffer_of pool page) step_buffer.0 b here is) (subst (λ x. CanApply x (step_buffer.0).page) change_is step_buffer.2)

      -- so it was
      pub was_changed : (later : List Buffer) (result : Result (Unit {0}) NotApplicable) → (b : Buffer) × (buffer_of pool page ≡ Some b) × ChangesBuffer llsn page change b pool later result
          → IsOk result × (later ≡ pool_changed llsn page change pool)
      was_changed later result told = by_case (applied change (told.0).page) (can_here told.0 told.1) told.2
        where
          by_case : (o : Option PageView) → IsSome o → MatchOption o (IsErr result × (later ≡ pool)) (λ _. IsOk result × (later ≡ pool_changed llsn page change pool)) → IsOk result × (later ≡ pool_changed llsn page change pool)
          by_case None some said = absurd (false≢true some)
          by_case (Some y) some said = said

      pub same_page : (b : Buffer) → buffer_of pool page ≡ Some b → b.page.llsn ≡ (step_buffer.0).page.llsn
      same_page b is = ap (λ (x : Buffer). x.page.llsn) (one_buffer (buffer_of pool page) b step_buffer.0 is here)

pub undo_step : (step : ℕ × Change) (page : ℕ) → step.0 ≡ page → step.1 ≡ MakeUndo → step ≡ (page, MakeUndo)
undo_step step page page_is change_is = λ i. (page_is i, change_is i)

-- the steps before a place make no undo page
abbrev pub NoUndoBefore : ℕ → Plan → Type 0
NoUndoBefore i plan = (j page : ℕ) → j < i → slice_get plan j ≡ Some (page, MakeUndo) → ⊥

pub undo_in : (plan : Plan) (i page : ℕ) → slice_get plan i ≡ Some (page, MakeUndo) → IsIn (page, MakeUndo) plan
undo_in [] i page at = absurd cc
undo_in (step ∷ plan) zero page at = let one : (page, MakeUndo) ≡ step = cc in inl one
undo_in (step ∷ plan) (suc i) page at = inr (undo_in plan i page at)

place_of_undo : (plan : Plan) (page : ℕ) → IsIn (page, MakeUndo) plan → (i : ℕ) × (i < length plan) × (slice_get plan i ≡ Some (page, MakeUndo))
place_of_undo [] page there = absurd there
place_of_undo (step ∷ plan) page (inl is) = (zero, omega arith, ap Some (sym is))
place_of_undo (step ∷ plan) page (inr there) = let rest = place_of_undo plan page there in (suc rest.0, (let less = rest.1 in omega (arith, less)), rest.2)

pub no_undo_in : (plan : Plan) (i : ℕ) → length plan ≤ i → NoUndoBefore i plan → (page : ℕ) → IsIn (page, MakeUndo) plan → ⊥
no_undo_in plan i end none page there = let at = place_of_undo plan page there in none at.0 page (let less = at.1 in omega (arith, less, end)) at.2
