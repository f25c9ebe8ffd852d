-- What no call of a schedule looks at again: tries in front that are all over, and those behind which none waits.
use Rattle.std.proofs.Common.{◌≡◌, ℕ, zero, suc, ◌<◌, ◌≤◌, ◌⊎◌, Bool, true, false, List, [], ◌∷◌, map, replicate, take, drop, Option, None, Some, refl, sym, ap, ap₂, subst, ◌∙◌, inl, inr, ⊎_elim, arith}
use Rattle.std.specs.List.{slice_get, slice_set, AllByRecursion}
use Rattle.std.specs.Option.{option_map}
use Rattle.std.proofs.lemmas.Option.{none-some, same_Some, slice_get-map}
use Rattle.mp_schedule.specs.declared.schedule.Try.{Try}
use Rattle.mp_schedule.specs.declared.schedule.TryState.{TryState}
use Rattle.mp_schedule.specs.declared.schedule.TryState.TheVariants.{Free, Waiting, Over}
use Rattle.mp_schedule.specs.Schedules.{free_try, is_left, is_free, without_mark, without_marks, AreOverBelow, NoneWaitsFrom}
use Rattle.mp_schedule.proofs.Scanning.{ScannedTo, over_left}

-- a place is the one that was written, or is as it was
set_cases : {X : Type 0} (l : List X) (i j : ℕ) (x y : X) → slice_get (slice_set l i x) j ≡ Some y → ((i ≡ j) × (x ≡ y)) ⊎ (slice_get l j ≡ Some y)
set_cases [] i j x y e = absurd (none-some y e)
set_cases (z ∷ l) zero zero x y e = inl (refl, same_Some x y e)
set_cases (z ∷ l) zero (suc j) x y e = inr e
set_cases (z ∷ l) (suc i) zero x y e = inr e
set_cases (z ∷ l) (suc i) (suc j) x y e = ⊎_elim (λ s. inl (ap suc s.0, s.1)) (λ o. inr o) (set_cases l i j x y e)

-- ---- a try stands otherwise

pub over_set : (tries : List Try) (place bound less : ℕ) (t : Try) → AreOverBelow bound tries → less ≤ bound → (place < less → is_left t.state ≡ false)
    → AreOverBelow less (slice_set tries place t)
over_set tries place bound less t over fewer now k x below at = ⊎_elim
    (λ (s : (place ≡ k) × (t ≡ x)). ap (λ (y : Try). is_left y.state) (sym s.1) ∙ now (omega (arith, below, s.0)))
    (λ (o : slice_get tries k ≡ Some x). over k x (omega (arith, below, fewer)) o)
    (set_cases tries place k t x at)

pub unmarked_set : (tries : List Try) (place bound more : ℕ) (t : Try) → NoneWaitsFrom bound tries → bound ≤ more → (more ≤ place → is_left t.state ≡ is_free t.state)
    → NoneWaitsFrom more (slice_set tries place t)
unmarked_set tries place bound more t unmarked fewer now k x behind at = ⊎_elim
    (λ (s : (place ≡ k) × (t ≡ x)). subst (λ (y : Try). is_left y.state ≡ is_free y.state) s.1 (now (omega (arith, behind, s.0))))
    (λ (o : slice_get tries k ≡ Some x). unmarked k x (omega (arith, behind, fewer)) o)
    (set_cases tries place k t x at)

-- ---- one more is over

pub over_more : (tries : List Try) (place next : ℕ) (x : Try) → AreOverBelow place tries → slice_get tries place ≡ Some x → x.state ≡ Over → next ≡ suc place → AreOverBelow next tries
over_more tries place next x over at is more k t below there = ⊎_elim
    (λ (same : k ≡ place).
    let found : Some x ≡ Some t = sym at ∙ subst (λ n. slice_get tries n ≡ Some t) same there in
    ap (λ (y : Try). is_left y.state) (sym (same_Some x t found)) ∙ ap is_left is)
    (λ (less : k < place). over k t less there)
    (equal_or_below k place (omega (arith, below, more)))
  where
    equal_or_below : (a b : ℕ) → a < suc b → (a ≡ b) ⊎ (a < b)
    equal_or_below a b less = grind arith

-- ---- marks that are forgotten

unmarked_left : (s : TryState) (session : ℕ) → is_left (without_mark (record { session = session; state = s })).state ≡ is_left s
unmarked_left Free session = refl
unmarked_left Waiting session = refl
unmarked_left Over session = refl

unmarked_free : (s : TryState) (session : ℕ)
    → is_left (without_mark (record { session = session; state = s })).state ≡ is_free (without_mark (record { session = session; state = s })).state
unmarked_free Free session = refl
unmarked_free Waiting session = refl
unmarked_free Over session = refl

-- a place of what is left of marks shows what was there
from_unmarked : (tries : List Try) (k : ℕ) (x : Try) → slice_get (without_marks tries) k ≡ Some x → (t : Try) × (slice_get tries k ≡ Some t) × (without_mark t ≡ x)
from_unmarked tries k x at = go (slice_get tries k) refl (sym (slice_get-map without_mark tries k) ∙ at)
  where
    go : (o : Option Try) → slice_get tries k ≡ o → option_map without_mark (slice_get tries k) ≡ Some x → (t : Try) × (slice_get tries k ≡ Some t) × (without_mark t ≡ x)
    go None is e = absurd (none-some x (sym (ap (option_map without_mark) is) ∙ e))
    go (Some t) is e = (t, is, same_Some (without_mark t) x (sym (ap (option_map without_mark) is) ∙ e))

pub forgotten_over : (tries : List Try) (bound : ℕ) → AreOverBelow bound tries → AreOverBelow bound (without_marks tries)
forgotten_over tries bound over k x below at =
    let was = from_unmarked tries k x at in
    ap (λ (y : Try). is_left y.state) (sym was.2) ∙ unmarked_left was.0.state was.0.session ∙ over k was.0 below was.1

pub forgotten_unmarked : (tries : List Try) → NoneWaitsFrom 0 (without_marks tries)
forgotten_unmarked tries k x behind at =
    let was = from_unmarked tries k x at in
    subst (λ (y : Try). is_left y.state ≡ is_free y.state) was.2 (unmarked_free was.0.state was.0.session)

-- what is over has no mark to forget, and neither has what doesn't wait
same_over : (s : TryState) (session : ℕ) → is_left s ≡ false → ◌≡◌ {A = Try} (record { session = session; state = s }) (without_mark (record { session = session; state = s }))
same_over Free session e = absurd cc
same_over Waiting session e = absurd cc
same_over Over session e = refl

same_unmarked : (s : TryState) (session : ℕ) → is_left s ≡ is_free s → ◌≡◌ {A = Try} (without_mark (record { session = session; state = s })) (record { session = session; state = s })
same_unmarked Free session e = refl
same_unmarked Waiting session e = absurd cc
same_unmarked Over session e = refl

pub over_unmarked : (tries : List Try) (p : ℕ) → AreOverBelow p tries → take p tries ≡ map without_mark (take p tries)
over_unmarked tries zero over = refl
over_unmarked [] (suc p) over = refl
over_unmarked (x ∷ tries) (suc p) over =
    ap₂ (λ (y : Try) (l : List Try). y ∷ l) (same_over x.state x.session (over 0 x (omega arith) refl))
    (over_unmarked tries p (λ k t below at. over (suc k) t (omega (arith, below)) at))

-- behind a place that none waits from, forgetting changes nothing
pub forgotten_whole : (old now : List Try) (p : ℕ) → take p now ≡ map without_mark (take p old) → drop p now ≡ drop p old → NoneWaitsFrom p old → now ≡ without_marks old
forgotten_whole [] [] zero done rest unmarked = refl
forgotten_whole (x ∷ old) [] zero done rest unmarked = absurd cc
forgotten_whole [] (y ∷ now) zero done rest unmarked = absurd cc
forgotten_whole (x ∷ old) (y ∷ now) zero done rest unmarked =
    let head : y ≡ x = cc in
    let tail : now ≡ old = cc in
    ap₂ (λ (z : Try) (l : List Try). z ∷ l) (head ∙ sym (same_unmarked x.state x.session (unmarked 0 x (omega arith) refl)))
    (forgotten_whole old now 0 refl tail (λ k t behind at. unmarked (suc k) t (omega arith) at))
forgotten_whole [] [] (suc p) done rest unmarked = refl
forgotten_whole (x ∷ old) [] (suc p) done rest unmarked = absurd cc
forgotten_whole [] (y ∷ now) (suc p) done rest unmarked = absurd cc
forgotten_whole (x ∷ old) (y ∷ now) (suc p) done rest unmarked =
    let head : y ≡ without_mark x = cc in
    let tail : take p now ≡ map without_mark (take p old) = cc in
    ap₂ (λ (z : Try) (l : List Try). z ∷ l) head
    (forgotten_whole old now p tail rest (λ k t behind at. unmarked (suc k) t (omega (arith, behind)) at))

-- ---- a scan begins behind what is over

all_over : (tries : List Try) (p : ℕ) → AreOverBelow p tries → AllByRecursion (λ t. t.state ≡ Over) (take p tries)
all_over tries zero over = tt
all_over [] (suc p) over = tt
all_over (x ∷ tries) (suc p) over = (is_over x.state (over 0 x (omega arith) refl), all_over tries p (λ k t below at. over (suc k) t (omega (arith, below)) at))
  where
    is_over : (s : TryState) → is_left s ≡ false → s ≡ Over
    is_over Free e = absurd cc
    is_over Waiting e = absurd cc
    is_over Over e = refl

pub scan_begins_behind : (tries : List Try) (place n : ℕ) → 256 ≤ n → AreOverBelow place tries → ScannedTo tries place (replicate n false) false
scan_begins_behind tries place n enough over = record {
  busy_are = λ s within. idle n s (omega (arith, within, enough)) ∙ ap (λ (b : Bool). Some b) (sym (over_left s (take place tries) all));
  none = λ k session below may. left_not_over (over k (free_try session) below may.found);
  waits_is = inr (refl, all);
}
  where
    all : AllByRecursion (λ t. t.state ≡ Over) (take place tries)
    all = all_over tries place over

    left_not_over : true ≡ false → ⊥
    left_not_over e = cc

    idle : (n s : ℕ) → s < n → slice_get (replicate n false) s ≡ Some false
    idle zero s less = absurd (omega (arith, less))
    idle (suc n) zero less = refl
    idle (suc n) (suc s) less = idle n s (omega (arith, less))
