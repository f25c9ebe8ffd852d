use Rattle.std.proofs.Common.{◌≡◌, ℕ, ◌<◌, Bool, true, false, ◌==◌, if◌then◌else◌, List, [], ◌∷◌, slice_get, Option, None, Some, refl, sym, ap, subst, inl, inr, arith}
use Rattle.std.proofs.lemmas.Bool.{false≢true}
use Rattle.mp_machine.specs.Lists.{IsIn}
use Rattle.mp_machine.specs.View.{part_in}
use Rattle.mp_cells.specs.declared.changes.Change.TheVariants.{MakeUndo}
use Rattle.mp_cells.specs.declared.records.Mtr.{Mtr}
use Rattle.mp_cells.specs.declared.records.Record.{Record}
use Rattle.mp_cells.specs.declared.records.Record.TheVariants as records
use Rattle.std.specs.Option.{IfSome}
use Rattle.mp_cells.specs.Plans.{Plan, plan_of, CanApply}
use Rattle.mp_cells.specs.SmallMaps.{fresh_map}
use Rattle.mp_cells.specs.Writes.{rows_kept, WellPut}
use Rattle.mp_core_pages.specs.declared.part.Placed.{Placed}
use Rattle.mp_core_pages.specs.Histories.{placed}
use Rattle.mp_core_pages.specs.PageEvents.{with_mtr}
use Rattle.mp_core.specs.declared.part.CorePart.{CorePart}
use Rattle.mp_core.specs.Contents.{contents_of}
use Rattle.mp_core.specs.MtrKinds.{MayPutOver}
use Rattle.mp_histories.specs.SmallHistory.{small_trx, small_row, small_put}
use Rattle.mp_histories.proofs.Contents.{put_else}
use Rattle.mp_histories.proofs.SmallPuts.{small_put_is_well}
use Rattle.mp_facts.specs.SmallParts.{active_part, put_part}
use Rattle.mp_shared.specs.Nodes.{NodeView}
use Rattle.mp_shared.specs.PageSteps.{with_pages}
use Rattle.mp_shared.specs.SmallNodes.{node_of_first}
use Rattle.mp_buffer_fusion.specs.declared.buffer.Buffer.{Buffer}
use Rattle.mp_buffer_fusion.specs.PoolExamples.{blank_buffer}
use Rattle.mp_supports.specs.Steps.{MadeOne}
use Rattle.mp_desk.proofs.Moving.{moves_pages}
use Rattle.mp_desk.proofs.MtrMade.{made_one}
use Rattle.mp_desk.proofs.SmallMaking.{only_first, made_count, restore_after}
use Rattle.mp_desk.proofs.making_examples.law_making_examples.Goals as goal

abbrev first_prev : List Record → ℕ
first_prev [] = 0
first_prev (records.Page page prev change ∷ items) = prev
first_prev (records.Commit id cts ∷ items) = 0

one_not_zero : {A : Type 0} → ◌≡◌ {A = ℕ} 1 0 → A
one_not_zero e = absurd (omega (arith, e))

pub returns-clause-records : goal.returns-clause-records
returns-clause-records c = refl

pub returns-clause-other_llsns : goal.returns-clause-other_llsns
returns-clause-other_llsns c e = one_not_zero (ap first_prev e)

pub returns-clause-llsn : goal.returns-clause-llsn
returns-clause-llsn c = refl

pub returns-clause-no_llsn : goal.returns-clause-no_llsn
returns-clause-no_llsn c = refl

pub returns-clause-can_change : goal.returns-clause-can_change
returns-clause-can_change c = ((omega arith, tt), (blank_buffer 0 true, refl, refl), tt)

abbrev MakesUndo : Option Buffer → Type 0
MakesUndo None = ⊥
MakesUndo (Some b) = CanApply MakeUndo b.page

pub returns-clause-not_twice : goal.returns-clause-not_twice
returns-clause-not_twice c h = false≢true (subst MakesUndo (sym h.2.1.1) h.2.1.2)

pub returns-clause-commit : goal.returns-clause-commit
returns-clause-commit c = refl

nothing_put : {A : Type 0} {X : Type 0} (x : X) → ◌≡◌ {A = List X} [] (x ∷ []) → A
nothing_put x e = absurd cc

pub returns-clause-no_other_llsn : goal.returns-clause-no_other_llsn
returns-clause-no_other_llsn c = λ e. let llsn : 8 ≡ 7 = ap (λ (m : Mtr). m.llsn) e in omega (arith, llsn)

pub returns-clause-may_plan : goal.returns-clause-may_plan
returns-clause-may_plan c = λ m is. inl record {
  row = small_row;
  id = small_trx 0;
  writer = refl;
  begun = (0, inl refl);
  active = refl;
  well = subst (λ (plan : Plan). WellPut (contents_of active_part) small_row plan) (sym is)
      (put_else (plan_of small_put.records) fresh_map (contents_of active_part) small_row (refl, (refl, (refl, (refl, tt)))) small_put_is_well);
  over = subst (λ (plan : Plan). IfSome (slice_get (rows_kept plan) 0) (MayPutOver active_part (small_trx 0))) (sym is) (inl refl);
}

pub returns-clause-no_empty_plan : goal.returns-clause-no_empty_plan
returns-clause-no_empty_plan c h = elim (h (record { node = 1; llsn = 1; records = [] }) refl) [
  | inl put ↦ nothing_put put.row put.well.puts
  | inr restore ↦ nothing_put _ restore.well.one.1
]

pub returns-clause-makes : goal.returns-clause-makes
returns-clause-makes c run =
    let before = node_of_first run active_part in
    let after = with_pages before 1 (with_mtr 0 small_put) 1 in
    let x : Placed Mtr = placed 0 small_put in
    record {
      becomes = refl;
      moves = moves_pages 1 before after active_part refl (MadeOne x) (with_mtr 0 small_put) 1 refl (made_one active_part x record { above_made = λ y there. absurd there; above_given = λ g there. absurd there });
      after_all = record { above_made = λ k q m has there. absurd (subst (λ (r : CorePart). IsIn m r.pages.made) (sym (only_first run active_part k q has)) there) };
    }

pub returns-clause-makes_none : goal.returns-clause-makes_none
returns-clause-makes_none c run h = one_not_zero (sym (ap (λ (n : NodeView). made_count (part_in n.parts 1)) h.becomes))

pub returns-clause-later : goal.returns-clause-later
returns-clause-later c = restore_after

pub returns-clause-not_at_once : goal.returns-clause-not_at_once
returns-clause-not_at_once c run h = let less : 0 < 0 = h.above_made 1 put_part (placed 0 small_put) refl (inl refl) in absurd (omega (arith, less))

some_either : (t : Bool) (a b : Buffer) → ¬ ((if t then Some a else None) ≡ None) → ¬ ((if t then Some b else None) ≡ None)
some_either true a b is none = absurd cc
some_either false a b is none = is none

pub returns-clause-same_pages : goal.returns-clause-same_pages
returns-clause-same_pages c = record { count = refl; kept = λ k is. some_either (k == 1) (blank_buffer 0 true) (blank_buffer 5 false) is }

pub returns-clause-page_lost : goal.returns-clause-page_lost
returns-clause-page_lost c h = one_not_zero (sym h.count)

pub returns-clause-undo : goal.returns-clause-undo
returns-clause-undo c = inl (1, refl, inl refl)

no_page : {A : Type 0} (page : ℕ) → None ≡ Some page → A
no_page page e = absurd cc

pub returns-clause-undo_missed : goal.returns-clause-undo_missed
returns-clause-undo_missed c h = elim h [ inl made ↦ no_page made.0 made.1 | inr kept ↦ kept.1 1 (inl refl) ]
