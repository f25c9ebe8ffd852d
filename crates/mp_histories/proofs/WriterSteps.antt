-- One more mtr keeps the order of writers.
use Rattle.std.proofs.Common.{◌≡◌, ℕ, ◌⊎◌, true, List, [], ◌∷◌, Option, Some, None, is_some, sym, ap, subst, ◌∙◌, inl, inr}
use mathlib.Core.Bool.{false≢true}
use Rattle.std.specs.List.{AllByRecursion}
use Rattle.mp_model.specs.declared.ids.TrxId.{TrxId}
use Rattle.mp_cells.specs.declared.records.Mtr.{Mtr}
use Rattle.mp_cells.specs.declared.rows.Row.{Row}
use Rattle.mp_cells.specs.Trees.{PageMap, IsClean}
use Rattle.mp_histories.specs.KeyOps.{FirstIs}
use Rattle.mp_histories.specs.Commits.{Stamps, MayCover, PutsFit}
use Rattle.mp_histories.specs.Histories.{History, pages_after, Version, by_version, rows_of_versions, ops_on, live_on}
use Rattle.mp_histories.specs.Chains.{row_over, row_of_key, RunsFrom, CoversRows, IsPutAt}
use Rattle.mp_histories.proofs.MtrSteps.{KeyPut}
use Rattle.mp_histories.proofs.Standing.{has_chains, step_of}
use Rattle.mp_histories.proofs.LiveRows.{live_put_at}

module _ (committed drew : Stamps) where
  has_writer : (writer : Option TrxId) → is_some writer ≡ true → writer ≡ None → ⊥
  has_writer None h e = absurd (false≢true h)
  has_writer (Some id) h e = absurd cc

  over_live : (vs : List Version) (last head : Row) (writer : Option TrxId) → head ≡ row_over (rows_of_versions vs) last → AllByRecursion (λ v. is_some v.row.writer ≡ true) vs → ((head.writer ≡ None) ⊎ MayCover committed drew head.writer writer) → FirstIs (λ top. MayCover committed drew (by_version top) writer) vs
  over_live [] last head writer e all over = tt
  over_live (v ∷ vs) last head writer e all over = elim over [
    | inl none ↦ absurd (has_writer v.row.writer all.0 (ap (λ (r : Row). r.writer) (sym e) ∙ none))
    | inr may ↦ subst (λ (r : Row). MayCover committed drew r.writer writer) e may
  ]

  have_writers : (made : History) (key : ℕ) (vs : List Version) → AllByRecursion (IsPutAt made key) vs → AllByRecursion (λ v. is_some v.row.writer ≡ true) vs
  have_writers made key [] h = tt
  have_writers made key (v ∷ vs) h = (h.0.writer, have_writers made key vs h.1)

  module _ (base : ℕ) (opening : PageMap) (clean : IsClean base opening) (made : History) (mtr : Mtr) (runs : RunsFrom opening (mtr ∷ made)) (covers : CoversRows committed drew (pages_after opening made) mtr) where
    covers_live : (key : ℕ) (k : KeyPut opening made mtr key) → FirstIs (λ top. MayCover committed drew (by_version top) (by_version k.version)) (live_on key made)
    covers_live key k =
        let row : Row = k.version.row in
        let pages : PageMap = pages_after opening made in
        let all = subst (AllByRecursion (λ (r : Row). ((row_of_key pages r.key).writer ≡ None) ⊎ MayCover committed drew (row_of_key pages r.key).writer r.writer)) k.puts covers in
        let over : ((row_of_key pages key).writer ≡ None) ⊎ MayCover committed drew (row_of_key pages key).writer row.writer =
        subst (λ (n : ℕ). ((row_of_key pages n).writer ≡ None) ⊎ MayCover committed drew (row_of_key pages n).writer row.writer) k.key_is all.0 in
        over_live (live_on key made) (row_of_key opening key) (row_of_key pages key) row.writer ((has_chains base opening clean made runs.1).head key)
        (have_writers made key (live_on key made) (live_put_at base opening clean made runs.1 key)) over

    pub fits_step : (key : ℕ) → PutsFit by_version committed drew (ops_on key made) → PutsFit by_version committed drew (ops_on key (mtr ∷ made))
    fits_step key fit = elim ((step_of base opening clean mtr made runs).keys key) [
      | inl k ↦ subst (PutsFit by_version committed drew) (sym k.ops) fit
      | inr (inl k) ↦ subst (PutsFit by_version committed drew) (sym k.ops) (covers_live key k, fit)
      | inr (inr k) ↦ subst (PutsFit by_version committed drew) (sym k.ops) fit
    ]
