-- Each entry of a well-made history is well made over the mtrs before it, and a put keeps the version that it replaces;
-- pages that were made undo pages stay so.
use Rattle.std.proofs.Common.{◌≡◌, ℕ, ◌<◌, ◌==◌, Bool, true, false, if◌then◌else◌, ◌∷◌, [], length, slice_get, Some, None, IsSome, refl, sym, ap, subst, ◌∙◌, inl, inr, arith}
use mathlib.Core.Bool.{false≢true}
use Rattle.std.proofs.lemmas.Bool.{eqb-true, eq-eqb}
use Rattle.mp_machine.specs.Lists.{IsIn}
use Rattle.mp_cells.specs.declared.changes.Change.{Change}
use Rattle.mp_cells.specs.declared.changes.Change.TheVariants.{MakeUndo}
use Rattle.mp_cells.specs.declared.kinds.Kind.TheVariants.{Blank, Undo}
use Rattle.mp_cells.specs.declared.records.Mtr.{Mtr}
use Rattle.mp_cells.specs.declared.rows.Row.{Row}
use Rattle.mp_cells.specs.PageView.{PageView, is_of, undo_page}
use Rattle.mp_cells.specs.Trees.{PageMap, IsClean}
use Rattle.mp_cells.specs.Plans.{Plan, CanApply, page_or, changed_page, after_change, after_plan, Meets, plan_of}
use Rattle.mp_cells.specs.Writes.{rows_put}
use Rattle.mp_cells.specs.PageMaps.{after_mtr}
use Rattle.mp_cells.proofs.MtrPages.{mtr_content}
use Rattle.mp_histories.specs.Histories.{History, older, entry_at, pages_after}
use Rattle.mp_histories.specs.Chains.{row_of_key, RunsFrom}
use Rattle.mp_histories.proofs.Standing.{has_chains}
use Rattle.mp_histories.proofs.Applying.{meets_of}
use Rattle.mp_histories.proofs.Lists.{some_same, none_some}
use Rattle.mp_core.specs.OwnMtrs.{row_put_by, row_kept_by}
use Rattle.mp_facts.proofs.LiveSteps.{older_all, older_one}
use Rattle.mp_facts.proofs.MtrShapes.{put_shape, restore_shape}
use Rattle.mp_facts.proofs.UndoRecords.{kind_after_plan, kept_is}

-- an entry stands before the length
pub entry_within : (at : ℕ) (history : History) (mtr : Mtr) → entry_at at history ≡ Some mtr → at < length history
entry_within at [] mtr is = absurd (none_some mtr is)
entry_within at (m ∷ history) mtr is = by_place (length history == at) refl is (entry_within at history mtr)
  where
    by_place : (b : Bool) → (length history == at) ≡ b → (if b then Some m else entry_at at history) ≡ Some mtr → (entry_at at history ≡ Some mtr → at < length history) → at < length (m ∷ history)
    by_place true e is rest = let same = eqb-true (length history) at e in omega (arith, same)
    by_place false e is rest = let less = rest is in omega (arith, less)

pub entry_runs : (opening : PageMap) (history : History) (at : ℕ) (mtr : Mtr) → RunsFrom opening history → entry_at at history ≡ Some mtr → RunsFrom opening (mtr ∷ older at history)
entry_runs opening [] at mtr runs is = absurd (none_some mtr is)
entry_runs opening (m ∷ history) at mtr runs is = by_place (length history == at) refl is (entry_runs opening history at mtr runs.1)
  where
    here : length history ≡ at → Some m ≡ Some mtr → RunsFrom opening (mtr ∷ older at (m ∷ history))
    here place is =
        let first : older at (m ∷ history) ≡ history = ap (λ (k : ℕ). older k (m ∷ history)) (sym place) ∙ older_one (length history) m history (omega arith) ∙ older_all history in
        subst (λ (h : History). RunsFrom opening (mtr ∷ h)) (sym first) (subst (λ (x : Mtr). RunsFrom opening (x ∷ history)) (some_same m mtr is) runs)

    by_place : (b : Bool) → (length history == at) ≡ b → (if b then Some m else entry_at at history) ≡ Some mtr → (entry_at at history ≡ Some mtr → RunsFrom opening (mtr ∷ older at history)) → RunsFrom opening (mtr ∷ older at (m ∷ history))
    by_place true e is rest = here (eqb-true (length history) at e) is
    by_place false e is rest = subst (λ (h : History). RunsFrom opening (mtr ∷ h)) (sym (older_one at m history (let less = entry_within at history mtr is in omega (arith, less)))) (rest is)

module _ (base : ℕ) (opening : PageMap) (clean : IsClean base opening) where
  -- the undo record that a put keeps is the version that it replaces
  pub put_replaced : (before : History) (mtr : Mtr) (row former : Row) → RunsFrom opening (mtr ∷ before) → row_put_by mtr ≡ Some row → row_kept_by mtr ≡ Some former → former ≡ row_of_key (pages_after opening before) row.key
  put_replaced before mtr row former runs put kept = elim (runs.0.kind) [
    | inl p ↦
        let shape = put_shape mtr p.row (pages_after opening before) p.well in
        let same : p.row ≡ row = some_same p.row row (sym shape.put ∙ put) in
        let same_kept : p.well.keeps.0 ≡ former = some_same p.well.keeps.0 former (sym shape.former ∙ kept) in
        sym same_kept ∙ kept_is (pages_after opening before) (plan_of mtr.records) p.row p.well.keeps.0 p.well (has_chains base opening clean before runs.1).tree p.well.keeps.1 ∙ ap (λ (r : Row). row_of_key (pages_after opening before) r.key) same
    | inr (inl p) ↦ absurd (none_some row (sym (restore_shape mtr p.well.one.0 p.row p.well.one.1).put ∙ put))
    | inr (inr p) ↦ absurd (none_some row (sym (ap (λ (plan : Plan). slice_get (rows_put plan) 0) (ap plan_of p.alone)) ∙ put))
  ]

-- ---- undo pages

module _ (page : PageView) where
  made_by : (b : Bool) → IsSome (if b then Some (undo_page page.llsn []) else None) → (page_or page (if b then Some (undo_page page.llsn []) else None)).kind ≡ Undo
  made_by true may = refl
  made_by false may = absurd (false≢true may)

make_undo : (page : PageView) → CanApply MakeUndo page → (changed_page MakeUndo page).kind ≡ Undo
make_undo page may = made_by page (is_of Blank page) may

pub plan_makes_undo : (plan : Plan) (pages : PageMap) (n : ℕ) → Meets plan pages → IsIn (n, MakeUndo) plan → (after_plan plan pages n).kind ≡ Undo
plan_makes_undo [] pages n meets has = absurd has
plan_makes_undo (step ∷ plan) pages n meets (inl is) =
    kind_after_plan plan (after_change step pages) meets.1 n
    (subst (λ (s : ℕ × Change). CanApply s.1 (pages s.0) → (after_change s pages n).kind ≡ Undo) is
    (λ may. ap (λ (b : Bool). (if b then changed_page MakeUndo (pages n) else pages n).kind) (eq-eqb n n refl) ∙ make_undo (pages n) may) meets.0)
plan_makes_undo (step ∷ plan) pages n meets (inr has) = plan_makes_undo plan (after_change step pages) n meets.1 has

mtr_kind : (mtr : Mtr) (pages : PageMap) (n : ℕ) → (after_plan (plan_of mtr.records) pages n).kind ≡ Undo → (after_mtr mtr pages n).kind ≡ Undo
mtr_kind mtr pages n is = sym (ap (λ (p : PageView). p.kind) (mtr_content mtr pages n)) ∙ is

module _ (base : ℕ) (opening : PageMap) (clean : IsClean base opening) where
  pub made_undo : (history : History) (mtr : Mtr) (n : ℕ) → RunsFrom opening history → IsIn mtr history → IsIn (n, MakeUndo) (plan_of mtr.records) → (pages_after opening history n).kind ≡ Undo
  made_undo [] mtr n runs has makes = absurd has
  made_undo (m ∷ history) mtr n runs (inl is) makes =
      mtr_kind m (pages_after opening history) n
      (plan_makes_undo (plan_of m.records) (pages_after opening history) n (meets_of base opening clean history m runs) (subst (λ (x : Mtr). IsIn (n, MakeUndo) (plan_of x.records)) is makes))
  made_undo (m ∷ history) mtr n runs (inr has) makes =
      mtr_kind m (pages_after opening history) n
      (kind_after_plan (plan_of m.records) (pages_after opening history) (meets_of base opening clean history m runs) n (made_undo history mtr n runs.1 has makes))

-- an entry stands in the history
pub entry_in : (at : ℕ) (history : History) (mtr : Mtr) → entry_at at history ≡ Some mtr → IsIn mtr history
entry_in at [] mtr is = absurd (none_some mtr is)
entry_in at (m ∷ history) mtr is = by_place (length history == at) is (entry_in at history mtr)
  where
    by_place : (b : Bool) → (if b then Some m else entry_at at history) ≡ Some mtr → (entry_at at history ≡ Some mtr → IsIn mtr history) → IsIn mtr (m ∷ history)
    by_place true is rest = inl (sym (some_same m mtr is))
    by_place false is rest = inr (rest is)
