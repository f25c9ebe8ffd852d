-- By what the small log reads as, and by the place that a primary's number leaves.
use Rattle.std.proofs.Common.{◌≡◌, ℕ, List, [], ◌∷◌, map, Option, Some, None, refl, sym, ap, ◌∙◌, arith}
use Rattle.mp_cells.specs.declared.records.Mtr.{Mtr}
use Rattle.mp_log.specs.Opening.{first_above}
use Rattle.mp_store.specs.StoreFiles.{header_in_force}
use Rattle.mp_recover.specs.SmallLogs.{small_image}
use Rattle.mp_opening.specs.Openings.{least_above}
use Rattle.mp_opening.specs.SmallOpenings.{one_mtr_log}
use Rattle.mp_opening.proofs.SmallMtrs.{one_read}
use Rattle.mp_opening.proofs.examples.law_above_examples.Goals as goal

least_is : (store : List ℕ) (base : ℕ) → (header_in_force store).llsn ≡ base → least_above (small_image store one_mtr_log) 0 ≡ first_above base (6 ∷ [])
least_is store base e =
    ap (λ (x : List Mtr × Option ℕ). first_above (header_in_force store).llsn (map (λ (m : Mtr). m.llsn) x.0)) one_read ∙ ap (λ (n : ℕ). first_above n (6 ∷ [])) e

pub returns-clause-least : goal.returns-clause-least
returns-clause-least c = λ store e. least_is store 5 e

pub returns-clause-not_least : goal.returns-clause-not_least
returns-clause-not_least c = λ store e. least_is store 6 e

pub returns-clause-first : goal.returns-clause-first
returns-clause-first c = λ store e. record { place = 0; primary_is = refl; within = omega arith; least = least_is store 5 e; before = λ other lt. absurd (omega (arith, lt)) }

pub returns-clause-not_first : goal.returns-clause-not_first
returns-clause-not_first c = λ store e first.
    let here : first.place ≡ 0 = omega (arith, first.primary_is) in
    let is : ◌≡◌ {A = Option ℕ} None (Some 6) = sym (least_is store 6 e) ∙ ap (least_above (small_image store one_mtr_log)) (sym here) ∙ first.least in
    absurd cc

pub returns-clause-not_zero : goal.returns-clause-not_zero
returns-clause-not_zero c = λ image llsn first. absurd (omega (arith, first.primary_is))

pub returns-clause-not_nine : goal.returns-clause-not_nine
returns-clause-not_nine c = λ image llsn first. absurd (omega (arith, first.primary_is, first.within))
