-- What an mtr leaves of each page: by its plan, and by its records one after another.
use Rattle.std.proofs.Common.{◌≡◌, ℕ, ◌==◌, ◌||◌, Bool, true, false, cond, List, [], ◌∷◌, refl, sym, ap, ◌∙◌, inl, inr, arith}
use mathlib.Core.Bool.{false≢true}
use Rattle.std.proofs.lemmas.Bool.{cases_eq, eq-eqb}
use Rattle.std.proofs.lemmas.Bool.Decides.{nat_tests}
use Rattle.mp_cells.specs.declared.records.Record.{Record}
use Rattle.mp_cells.specs.declared.records.Record.TheVariants as records
use Rattle.mp_cells.specs.declared.records.Mtr.{Mtr}
use Rattle.mp_cells.specs.declared.changes.Change.{Change}
use Rattle.mp_cells.specs.PageView.{PageView, SameContent}
use Rattle.mp_cells.specs.Trees.{PageMap}
use Rattle.mp_cells.specs.Plans.{Plan, changed_page, with_page, after_plan, of_page, after_changes, plan_of, touches}
use Rattle.mp_cells.specs.PageMaps.{stamp, after_mtr, after_records}
use Rattle.mp_cells.proofs.ByPage.{with_page-here, with_page-other, after_plan-page}
use Rattle.mp_cells.proofs.Llsns.{with_llsn, after_changes-llsn}

-- a page that no step changes has no changes
pub of_page-untouched : (plan : Plan) (n : ℕ) → touches n plan ≡ false → of_page n plan ≡ []
of_page-untouched [] n h = refl
of_page-untouched (step ∷ plan) n h = by_test (n == step.0) (of_page-untouched plan n) h
  where
    by_test : (t : Bool) → (touches n plan ≡ false → of_page n plan ≡ []) → (t || touches n plan) ≡ false → cond t (step.1 ∷ of_page n plan) (of_page n plan) ≡ []
    by_test true rest e = absurd (false≢true (sym e))
    by_test false rest e = rest e

stamp_content : (t : Bool) (llsn : ℕ) (page : PageView) → SameContent page (stamp t llsn page)
stamp_content true llsn page = refl
stamp_content false llsn page = refl

pub mtr_content : (mtr : Mtr) (pages : PageMap) (n : ℕ) → SameContent (after_plan (plan_of mtr.records) pages n) (after_mtr mtr pages n)
mtr_content mtr pages n =
    let plan = plan_of mtr.records in
    rw (after_plan-page plan pages n) (stamp_content (touches n plan) mtr.llsn (after_changes (of_page n plan) (pages n)))

pub mtr_touched : (mtr : Mtr) (pages : PageMap) (n : ℕ) → touches n (plan_of mtr.records) ≡ true → (after_mtr mtr pages n).llsn ≡ mtr.llsn
mtr_touched mtr pages n h = ap (λ (t : Bool). (stamp t mtr.llsn (after_changes (of_page n (plan_of mtr.records)) (pages n))).llsn) h

pub mtr_untouched : (mtr : Mtr) (pages : PageMap) (n : ℕ) → touches n (plan_of mtr.records) ≡ false → after_mtr mtr pages n ≡ pages n
mtr_untouched mtr pages n h =
    ap (λ (t : Bool). stamp t mtr.llsn (after_changes (of_page n (plan_of mtr.records)) (pages n))) h
    ∙ ap (λ (changes : List Change). after_changes changes (pages n)) (of_page-untouched (plan_of mtr.records) n h)

stamped_twice : (t : Bool) (llsn : ℕ) (page : PageView) → stamp t llsn (with_llsn llsn page) ≡ with_llsn llsn page
stamped_twice true llsn page = refl
stamped_twice false llsn page = refl

pub by_records : (llsn : ℕ) (items : List Record) (pages : PageMap) (n : ℕ) → after_records llsn items pages n ≡ stamp (touches n (plan_of items)) llsn (after_changes (of_page n (plan_of items)) (pages n))
by_records llsn [] pages n = refl
by_records llsn (records.Commit id cts ∷ items) pages n = by_records llsn items pages n
by_records llsn (records.Page page prev change ∷ items) pages n =
    let plan = plan_of items in
    let new = with_llsn llsn (changed_page change (pages page)) in
    by_records llsn items (with_page pages page new) n ∙ (elim (cases_eq n page) [
      | inl same ↦
          let test : (n == page) ≡ true = eq-eqb n page same in
          let here : with_page pages page new n ≡ with_llsn llsn (changed_page change (pages n)) = ap (with_page pages page new) same ∙ with_page-here pages page new ∙ ap (λ (m : ℕ). with_llsn llsn (changed_page change (pages m))) (sym same) in
          ap (λ (p : PageView). stamp (touches n plan) llsn (after_changes (of_page n plan) p)) here
          ∙ ap (stamp (touches n plan) llsn) (after_changes-llsn (of_page n plan) (changed_page change (pages n)) llsn)
          ∙ stamped_twice (touches n plan) llsn (after_changes (of_page n plan) (changed_page change (pages n)))
          ∙ ap (λ (t : Bool). stamp (t || touches n plan) llsn (after_changes (cond t (change ∷ of_page n plan) (of_page n plan)) (pages n))) (sym test)
      | inr other ↦
          let test : (n == page) ≡ false = grind (arith, nat_tests) in
          ap (λ (p : PageView). stamp (touches n plan) llsn (after_changes (of_page n plan) p)) (with_page-other pages page new n other)
          ∙ ap (λ (t : Bool). stamp (t || touches n plan) llsn (after_changes (cond t (change ∷ of_page n plan) (of_page n plan)) (pages n))) (sym test)
    ])
