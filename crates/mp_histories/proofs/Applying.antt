-- The changes of a well-made mtr can be applied when they come.
use Rattle.std.proofs.Common.{ℕ, ◌∷◌, sym, ap, subst, inl, inr}
use Rattle.std.specs.List.{AllByRecursion}
use Rattle.mp_cells.specs.declared.records.Mtr.{Mtr}
use Rattle.mp_cells.specs.Trees.{PageMap, height_of, IsClean}
use Rattle.mp_cells.specs.Plans.{Plan, Meets, plan_of}
use Rattle.mp_cells.specs.Writes.{IsStep}
use Rattle.mp_cells.proofs.Links.{agrees_itself}
use Rattle.mp_histories.specs.Histories.{History, pages_after}
use Rattle.mp_histories.specs.Chains.{RunsFrom}
use Rattle.mp_histories.proofs.Standing.{has_chains}

module _ (base : ℕ) (opening : PageMap) (clean : IsClean base opening) (made : History) (mtr : Mtr) (runs : RunsFrom opening (mtr ∷ made)) where
  abbrev pages : PageMap
  pages = pages_after opening made

  pub meets_of : Meets (plan_of mtr.records) pages
  meets_of = elim (runs.0.kind) [
    | inl p ↦ (p.well.writes pages (agrees_itself (plan_of mtr.records) pages) (height_of pages) (has_chains base opening clean made runs.1).tree).meets
    | inr (inl p) ↦ (p.well.restores pages (agrees_itself (plan_of mtr.records) pages) (height_of pages) (has_chains base opening clean made runs.1).tree).meets
    | inr (inr p) ↦ subst (λ (plan : Plan). Meets plan pages) (sym (ap plan_of p.alone)) tt
  ]

  pub steps_of : AllByRecursion IsStep (plan_of mtr.records)
  steps_of = elim (runs.0.kind) [
    | inl p ↦ (p.well.writes pages (agrees_itself (plan_of mtr.records) pages) (height_of pages) (has_chains base opening clean made runs.1).tree).changes
    | inr (inl p) ↦ (p.well.restores pages (agrees_itself (plan_of mtr.records) pages) (height_of pages) (has_chains base opening clean made runs.1).tree).changes
    | inr (inr p) ↦ subst (AllByRecursion IsStep) (sym (ap plan_of p.alone)) tt
  ]
