-- The records of a plan: its changes again, each with the LLSN that its page has when it comes.
use Rattle.std.proofs.Common.{◌≡◌, ℕ, zero, suc, ◌<◌, ◌≤◌, ◌==◌, ◌||◌, Bool, true, false, List, [], ◌∷◌, length, slice_get, Some, refl, sym, ap, subst, ◌∙◌, arith, eq-eqb, ne_eqb}
use Rattle.std.specs.List.{AllByRecursion}
use mathlib.Core.Bool.{false≢true}
use mathlib.Core.Logic.{dite}
use native.Mathlib.Decide.{ℕ_discrete}
use Rattle.mp_machine.specs.Lists.{updated}
use Rattle.mp_machine.proofs.Lists.{updated_here, updated_else}
use Rattle.mp_cells.specs.declared.changes.Change.{Change}
use Rattle.mp_cells.specs.declared.records.Record.TheVariants as records
use Rattle.mp_cells.specs.Mtrs.{IsPageRecord, AreRecords}
use Rattle.mp_cells.specs.Plans.{Plan, plan_of, touches}
use Rattle.mp_cells.specs.Writes.{IsStep}
use Rattle.mp_core_pages.specs.Histories.{PrevsFit}
use Rattle.mp_core.specs.Contents.{touched_by}
use Rattle.mp_desk.specs.Making.{records_of_plan}

-- a plan has a step at each place below its length
pub some_at : {T : Type 0} (xs : List T) (i : ℕ) → i < length xs → (x : T) × (slice_get xs i ≡ Some x)
some_at [] i below = absurd (omega (arith, below))
some_at (y ∷ xs) zero below = (y, refl)
some_at (y ∷ xs) (suc i) below = some_at xs i (omega (arith, below))

-- the changes are the plan's
pub plan_of_records : (llsn : ℕ) (before : ℕ → ℕ) (plan : Plan) → plan_of (records_of_plan llsn before plan) ≡ plan
plan_of_records llsn before [] = refl
plan_of_records llsn before (step ∷ plan) = ap (λ (l : Plan). step ∷ l) (plan_of_records llsn (updated before step.0 llsn) plan)

pub count_of_records : (llsn : ℕ) (before : ℕ → ℕ) (plan : Plan) → length (records_of_plan llsn before plan) ≡ length plan
count_of_records llsn before [] = refl
count_of_records llsn before (step ∷ plan) = ap suc (count_of_records llsn (updated before step.0 llsn) plan)

-- a page is changed by a step, or by a later one
pub touched_first : (step : ℕ × Change) (plan : Plan) (k : ℕ) → k ≡ step.0 → touches k (step ∷ plan) ≡ true
touched_first step plan k same = ap (λ t. t || touches k plan) (eq-eqb k step.0 same)

or_true : (t : Bool) → (t || true) ≡ true
or_true true = refl
or_true false = refl

pub touched_later : (step : ℕ × Change) (plan : Plan) (k : ℕ) → touches k plan ≡ true → touches k (step ∷ plan) ≡ true
touched_later step plan k later = ap (λ t. (k == step.0) || t) later ∙ or_true (k == step.0)

-- what holds of the page of each step holds of each page that is changed
pub of_touched : (P : ℕ → Type 0) (plan : Plan) → AllByRecursion (λ step. P step.0) plan → (k : ℕ) → touches k plan ≡ true → P k
of_touched P [] all k touch = absurd (false≢true touch)
of_touched P (step ∷ plan) all k touch =
    dite (ℕ_discrete k step.0)
    (λ same. subst P (sym same) all.0)
    (λ other. of_touched P plan all.1 k (sym (ap (λ t. t || touches k plan) (ne_eqb k step.0 other)) ∙ touch))

-- two ways to know the LLSNs of pages that agree on the pages of a plan
updated_agree : (f g : ℕ → ℕ) (n llsn k : ℕ) → (¬ (k ≡ n) → f k ≡ g k) → updated f n llsn k ≡ updated g n llsn k
updated_agree f g n llsn k same =
    dite (ℕ_discrete k n)
    (λ is. ap (updated f n llsn) is ∙ updated_here f n llsn ∙ sym (updated_here g n llsn) ∙ ap (updated g n llsn) (sym is))
    (λ other. updated_else f n llsn k other ∙ same other ∙ sym (updated_else g n llsn k other))

-- give the same records
pub same_records : (llsn : ℕ) (f g : ℕ → ℕ) (plan : Plan) → ((k : ℕ) → f k ≡ g k) → records_of_plan llsn f plan ≡ records_of_plan llsn g plan
same_records llsn f g [] same = refl
same_records llsn f g (step ∷ plan) same =
    let first : records.Page step.0 (f step.0) step.1 ≡ records.Page step.0 (g step.0) step.1 = ap (λ n. records.Page step.0 n step.1) (same step.0) in
    let rest = same_records llsn (updated f step.0 llsn) (updated g step.0 llsn) plan (λ k. updated_agree f g step.0 llsn k (λ _. same k)) in
    λ i. first i ∷ rest i

-- each record tells the LLSN that its page has
pub prevs_fit : (llsn : ℕ) (f g : ℕ → ℕ) (plan : Plan) → ((k : ℕ) → touches k plan ≡ true → f k ≡ g k) → PrevsFit llsn g (touched_by (records_of_plan llsn f plan))
prevs_fit llsn f g [] same = tt
prevs_fit llsn f g (step ∷ plan) same = (
  same step.0 (touched_first step plan step.0 refl),
  prevs_fit llsn (updated f step.0 llsn) (updated g step.0 llsn) plan (λ k touch. updated_agree f g step.0 llsn k (λ _. same k (touched_later step plan k touch))),
)

updated_most : (f : ℕ → ℕ) (n llsn k : ℕ) → f k ≤ llsn → updated f n llsn k ≤ llsn
updated_most f n llsn k most =
    dite (ℕ_discrete k n)
    (λ is. let now = ap (updated f n llsn) is ∙ updated_here f n llsn in omega (arith, now))
    (λ other. let now = updated_else f n llsn k other in omega (arith, now, most))

-- a log may hold them
page_records : (llsn : ℕ) (f : ℕ → ℕ) (plan : Plan) → AllByRecursion IsStep plan → ((k : ℕ) → touches k plan ≡ true → f k ≤ llsn) → AllByRecursion (IsPageRecord llsn) (records_of_plan llsn f plan)
page_records llsn f [] steps most = tt
page_records llsn f (step ∷ plan) steps most = (
  (steps.0.0, most step.0 (touched_first step plan step.0 refl), steps.0.1),
  page_records llsn (updated f step.0 llsn) plan steps.1 (λ k touch. updated_most f step.0 llsn k (most k (touched_later step plan k touch))),
)

pub are_records : (llsn : ℕ) (f : ℕ → ℕ) (plan : Plan) → AllByRecursion IsStep plan → ((k : ℕ) → touches k plan ≡ true → f k ≤ llsn) → 1 ≤ length plan → length plan ≤ 20 → AreRecords llsn (records_of_plan llsn f plan)
are_records llsn f [] steps most some few = absurd (omega (arith, some))
are_records llsn f (step ∷ plan) steps most some few =
    let count = count_of_records llsn f (step ∷ plan) in
    (omega (arith, count, some), omega (arith, count, few), page_records llsn f (step ∷ plan) steps most)
