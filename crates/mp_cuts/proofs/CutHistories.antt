-- A valid cut, in the order of recovery, is a cut of the history.
use Rattle.std.proofs.Common.{◌≡◌, ℕ, zero, suc, ◌<◌, ◌≤◌, ◌==◌, Bool, true, List, [], ◌∷◌, ◌++◌, drop, length, filter, reverse, Option, None, slice_get, refl, sym, ap, subst, ◌∙◌, inl, inr, arith, eq-eqb}
use Rattle.std.specs.List.{AllByRecursion}
use Rattle.std.proofs.lemmas.Bool.{cases_lt}
use Rattle.std.proofs.lemmas.Grind.{reverse_onto}
use Rattle.mp_machine.specs.Lists.{IsIn}
use Rattle.mp_machine.proofs.Lists.{in_grown}
use Rattle.mp_cells.specs.declared.records.Mtr.{Mtr}
use Rattle.mp_cells.specs.PageView.{PageView, blank_page}
use Rattle.mp_cells.specs.Plans.{page_or}
use Rattle.mp_histories.specs.Histories.{History}
use Rattle.mp_histories.specs.Chains.{RunsFrom}
use Rattle.mp_histories.specs.Cuts.{Rise, IsCut, PrevsHold, in_log_order}
use Rattle.mp_histories.proofs.Writers.{decided}
use Rattle.mp_histories.proofs.Lists.{filter-in, filter-out}
use Rattle.mp_histories.proofs.Closing.{logged_is_cut}
use Rattle.mp_histories.proofs.Cutting.{cut_runs}
use Rattle.mp_histories.proofs.PageLlsns.{cut_prevs}
use Rattle.mp_core.specs.declared.opening.CoreOpening.{CoreOpening}
use Rattle.mp_core.specs.World.{CoreWorld}
use Rattle.mp_core.specs.Invariant.{NumbersFit, CoreInv}
use Rattle.mp_facts.specs.Facts.{opening_pages}
use Rattle.mp_cuts.specs.ValidCuts.{mtrs_in_time, durable_in, IsValidCut}
use Rattle.mp_cuts.proofs.Climbing.{first_or_later, climbs_above}
use Rattle.mp_cuts.proofs.OrderedCuts.{each_by_in, in_each, nodes, in_time_of, climbs_of, last_kept, keep, kept_of, whole_of, climbs_whole}
use Rattle.mp_cuts.proofs.RisingHistories.{rises, prevs_hold}
use Rattle.mp_cuts.proofs.ClosedCuts.{closed}
use Rattle.mp_cuts.proofs.OnceCommitted.{all_logged_kept}

-- ---- what stands in lists

pub in_filter : (p : Mtr → Bool) (xs : List Mtr) (m : Mtr) → IsIn m xs → p m ≡ true → IsIn m (filter p xs)
in_filter p [] m has e = absurd has
in_filter p (x ∷ xs) m (inl same) e = subst (λ (l : List Mtr). IsIn m l) (sym (filter-in p x xs (ap p (sym same) ∙ e))) (inl same)
in_filter p (x ∷ xs) m (inr has) e = elim (decided (p x)) [
  | inl t ↦ subst (λ (l : List Mtr). IsIn m l) (sym (filter-in p x xs t)) (inr (in_filter p xs m has e))
  | inr t ↦ subst (λ (l : List Mtr). IsIn m l) (sym (filter-out p x xs t)) (in_filter p xs m has e)
]

in_first : (xs ys : List Mtr) (m : Mtr) → IsIn m xs → IsIn m (xs ++ ys)
in_first [] ys m has = absurd has
in_first (x ∷ xs) ys m (inl same) = inl same
in_first (x ∷ xs) ys m (inr has) = inr (in_first xs ys m has)

pub in_reverse : (xs : List Mtr) (m : Mtr) → IsIn m xs → IsIn m (reverse xs)
in_reverse [] m has = has
in_reverse (x ∷ xs) m (inl same) = subst (λ (l : List Mtr). IsIn m l) (sym (reverse_onto xs x [])) (in_grown (x ∷ []) (reverse xs) m (inl same))
in_reverse (x ∷ xs) m (inr has) = subst (λ (l : List Mtr). IsIn m l) (sym (reverse_onto xs x [])) (in_first (reverse xs) (x ∷ []) m (in_reverse xs m has))

-- ---- the opening's pages

past_blank : (pages : List PageView) (n : ℕ) → length pages ≤ n → slice_get pages n ≡ None
past_blank [] n le = refl
past_blank (x ∷ pages) zero le = absurd (omega (arith, le))
past_blank (x ∷ pages) (suc n) le = past_blank pages n (omega (arith, le))

pub opening_low : (o : CoreOpening) → NumbersFit o → (n : ℕ) → (opening_pages o n).llsn ≤ o.trx.base.llsn
opening_low o fair n = elim (cases_lt n 4096) [
  | inl lt ↦ fair.clean.llsns n lt
  | inr le ↦
      let count = fair.count in
      let none : (opening_pages o n).llsn ≡ 0 = ap (λ (x : Option PageView). (page_or (blank_page 0) x).llsn) (past_blank o.pages n (omega (arith, count, le))) in
      omega (arith, none)
]

module _ (o : CoreOpening) (fair : NumbersFit o) (w : CoreWorld) (i : CoreInv o w) where
  -- each mtr stands among those of its node
  its_own : (m : Mtr) → IsIn m w.pages.history → IsIn m (mtrs_in_time w m.node)
  its_own m has = subst (λ (l : List Mtr). IsIn m l) (sym (in_time_of o fair w i m.node))
      (in_filter (λ (x : Mtr). x.node == m.node) (reverse w.pages.history) m (in_reverse w.pages.history m has) (eq-eqb m.node m.node refl))

  pub all_above : AllByRecursion (λ (m : Mtr). o.trx.base.llsn < m.llsn) w.pages.history
  all_above = each_by_in (λ (m : Mtr). o.trx.base.llsn < m.llsn) w.pages.history
      (λ m has. in_each (λ (x : Mtr). o.trx.base.llsn < x.llsn) (mtrs_in_time w m.node) (climbs_above o.trx.base.llsn (mtrs_in_time w m.node) (climbs_of o fair w i m.node)) m (its_own m has))

  pub rise : Rise w.pages.history
  rise = rises o w.pages.history i.pages.mtr_history.order

  module _ (count : ℕ → ℕ) (valid : IsValidCut o w count) where
    abbrev pub kept : Mtr → Bool
    kept = keep o fair w i count

    -- the cut as a history, in the order of recovery
    abbrev pub cut : History
    cut = in_log_order (filter kept w.pages.history)

    -- all durable mtrs are in it
    pub durable_kept : (m : Mtr) → IsIn m w.pages.history → m.llsn ≤ durable_in o w m.node → kept m ≡ true
    durable_kept m has durable =
        let rest = drop (count m.node) (mtrs_in_time w m.node) in
        let mine : IsIn m (kept_of o fair w i count m.node ++ rest) = subst (λ (l : List Mtr). IsIn m l) (sym (whole_of o fair w i count m.node)) (its_own m has) in
        elim (first_or_later o.trx.base.llsn (kept_of o fair w i count m.node) rest (climbs_whole o fair w i count m.node) m mine) [
          | inl first ↦ first
          | inr later ↦
              let above : durable_in o w m.node < m.llsn = in_each (λ (x : Mtr). durable_in o w m.node < x.llsn) rest (valid m.node) m later in
              absurd (omega (arith, above, durable))
        ]

    pub is_cut : IsCut w.pages.history cut
    is_cut = logged_is_cut kept w.pages.history rise (closed o w i (last_kept o fair w i count) durable_kept rise) (nodes o fair w i)

    pub runs : RunsFrom (opening_pages o) w.pages.history → RunsFrom (opening_pages o) cut
    runs all = cut_runs o.trx.base.llsn (opening_pages o) fair.clean w.pages.history all cut is_cut

    pub prevs : PrevsHold (opening_pages o) cut
    prevs = cut_prevs (opening_pages o) w.pages.history (prevs_hold o w.pages.history i.pages.mtr_history.order) cut is_cut

    pub above : AllByRecursion (λ (m : Mtr). o.trx.base.llsn < m.llsn) cut
    above = all_logged_kept (λ (m : Mtr). o.trx.base.llsn < m.llsn) kept w.pages.history all_above
