-- The least head of filled lanes is the first of what is left; without one nothing is left.
use Rattle.std.proofs.Common.{◌≡◌, ◌≢◌, ℕ, zero, suc, ◌+◌, ◌<◌, ◌≤◌, ◌^◌, ◌==◌, Bool, true, false, cond, List, [], ◌∷◌, ◌++◌, length, slice_get, Option, Some, None, Ok, IfSome, refl, sym, ap, subst, ◌∙◌, inl, inr, arith}
use Rattle.std.specs.List.{flat_map}
use Rattle.std.proofs.lemmas.Bool.Decides.{nat_tests}
use Rattle.mp_cells.specs.declared.records.Mtr.{Mtr}
use Rattle.mp_cells.specs.Mtrs.{IsMtr}
use Rattle.mp_files.proofs.Places.{same_some, at_place}
use Rattle.mp_histories.specs.KeyOps.{FirstIs}
use Rattle.mp_histories.specs.Cuts.{log_place}
use Rattle.mp_recover.specs.declared.lanes.Lane.{Lane}
use Rattle.mp_recover.specs.PageRecords.{by_log_place}
use Rattle.mp_recover.specs.Merging.{head_place, left_behind, LaneLeft, LaneSound, EachLane, LanesLeft, FilledBelow, fault_at, IsLeast, places_from, InLogOrder, all_left, GivesMerged}
use Rattle.mp_recover.proofs.Filling.{here_or_not}
use Rattle.mp_recover.proofs.MergeOrder.{AllFrom, ascending_from, rest_from, takes_least}

flat_none : (bound start count : ℕ) (lefts : ℕ → List Mtr) → start + count ≤ bound → ((k : ℕ) → k < bound → lefts k ≡ []) → flat_map lefts (places_from start count) ≡ []
flat_none bound start zero lefts le none = refl
flat_none bound start (suc count) lefts le none =
    ap (λ (xs : List Mtr). xs ++ flat_map lefts (places_from (start + 1) count)) (none start (omega (arith, le))) ∙ flat_none bound (start + 1) count lefts (omega (arith, le)) none

-- an mtr that a log may hold is before a lane without a head
below_none : (m : Mtr) → IsMtr m → log_place m < 2 ^ 66
below_none m is = omega (arith, is.llsn, is.node_most)

same_place : (k : ℕ) → (k == k) ≡ true
same_place k = grind (arith, nat_tests)

other_place : (k at : ℕ) → k ≢ at → (k == at) ≡ false
other_place k at apart = grind (arith, nat_tests, apart)

-- what is left where one mtr was taken at a place
abbrev taken_at : ℕ → List Mtr → (ℕ → List Mtr) → ℕ → List Mtr
taken_at at rest lefts k = cond (k == at) rest (lefts k)

module _ (lanes new : List Lane) (files : ℕ → List ℕ) (lefts : ℕ → List Mtr) (at : ℕ)
    (eight : length lanes ≡ 8)
    (sound : EachLane LaneSound lanes)
    (left : LanesLeft lanes files lefts)
    (filled : FilledBelow 8 lanes files lefts)
    (ascend : (place : ℕ) → InLogOrder (lefts place))
    (bound : at < 8)
    (least : IsLeast 8 lanes at)
    (others : (k : ℕ) → k ≢ at → slice_get new k ≡ slice_get lanes k)
    (now : slice_get new at ≡ Some (record least.lane { head = None })) where
  -- a lane without a head has nothing left, and the log no fault
  none_left : (k : ℕ) (lane : Lane) (head : Option Mtr) → k < 8 → slice_get lanes k ≡ Some lane → lane.head ≡ head → least.lane.head ≡ None → (lefts k ≡ []) × (fault_at files k ≡ None)
  none_left k lane None lt is e none = filled k lane lt is e
  none_left k lane (Some m) lt is e none =
      let le : head_place least.lane.head ≤ head_place lane.head = least.least k lane lt is in
      let high : head_place least.lane.head ≡ 2 ^ 66 = ap head_place none in
      let its : head_place lane.head ≡ log_place m = ap head_place e in
      let low = below_none m (subst (λ (h : Option Mtr). IfSome h IsMtr) e (sound k lane is)) in
      absurd (omega (arith, le, high, its, low))

  none_at : least.lane.head ≡ None → (k : ℕ) → k < 8 → (lefts k ≡ []) × (fault_at files k ≡ None)
  none_at none k lt = let lane = at_place lanes k (omega (arith, lt, eight)) in none_left k lane.0 lane.0.head lt lane.1 refl none

  -- a lane's head is the first of what is left there
  first_left : (n k : ℕ) (lane : Lane) (head : Option Mtr) → k < 8 → slice_get lanes k ≡ Some lane → lane.head ≡ head → n ≤ head_place head → FirstIs (λ x. n ≤ log_place x) (lefts k)
  first_left n k lane None lt is e le = subst (FirstIs (λ x. n ≤ log_place x)) (sym (filled k lane lt is e).0) tt
  first_left n k lane (Some m) lt is e le =
      let its = subst (λ (h : Option Mtr). left_behind h lane.over lane.reader (files k) (lefts k) (fault_at files k)) e (left k lane is) in
      subst (FirstIs (λ x. n ≤ log_place x)) (sym its.1) le

  module _ (m : Mtr) (head : least.lane.head ≡ Some m) where
    abbrev mine : left_behind (Some m) least.lane.over least.lane.reader (files at) (lefts at) (fault_at files at)
    mine = subst (λ (h : Option Mtr). left_behind h least.lane.over least.lane.reader (files at) (lefts at) (fault_at files at)) head (left at least.lane least.there)

    abbrev rest : List Mtr
    rest = mine.0

    place_is : head_place least.lane.head ≡ log_place m
    place_is = ap head_place head

    all_behind : (k : ℕ) → k < 8 → AllFrom (log_place m) (lefts k)
    all_behind k lt =
        let lane = at_place lanes k (omega (arith, lt, eight)) in
        ascending_from (log_place m) (lefts k) (ascend k) (first_left (log_place m) k lane.0 lane.0.head lt lane.1 refl (subst (λ (n : ℕ). n ≤ head_place lane.0.head) place_is (least.least k lane.0 lt lane.1)))

    before_behind : (k : ℕ) → k < at → AllFrom (log_place m + 1) (lefts k)
    before_behind k lt =
        let lane = at_place lanes k (omega (arith, lt, bound, eight)) in
        let strict = least.first k lane.0 lt lane.1 in
        ascending_from (log_place m + 1) (lefts k) (ascend k) (first_left (log_place m + 1) k lane.0 lane.0.head (omega (arith, lt, bound)) lane.1 refl (omega (arith, strict, place_is)))

    abbrev taken : ℕ → List Mtr
    taken = taken_at at rest lefts

    taken_here : taken at ≡ rest
    taken_here = ap (λ (b : Bool). cond b rest (lefts at)) (same_place at)

    taken_other : (k : ℕ) → k ≢ at → taken k ≡ lefts k
    taken_other k apart = ap (λ (b : Bool). cond b rest (lefts k)) (other_place k at apart)

    order_here : InLogOrder (m ∷ rest)
    order_here = subst InLogOrder mine.1 (ascend at)

    taken_ascend : (k : ℕ) → InLogOrder (taken k)
    taken_ascend k = elim (here_or_not k at) [
      | inl e ↦ subst (λ (n : ℕ). InLogOrder (taken n)) (sym e) (subst InLogOrder (sym taken_here) order_here.1)
      | inr apart ↦ subst InLogOrder (sym (taken_other k apart)) (ascend k)
    ]

    taken_behind : (k : ℕ) → k < 8 → AllFrom (log_place m) (taken k)
    taken_behind k lt = elim (here_or_not k at) [
      | inl e ↦ subst (λ (n : ℕ). AllFrom (log_place m) (taken n)) (sym e) (subst (AllFrom (log_place m)) (sym taken_here) (rest_from m rest order_here))
      | inr apart ↦ subst (AllFrom (log_place m)) (sym (taken_other k apart)) (all_behind k lt)
    ]

    rest_remains : LaneLeft (record least.lane { head = None }) (files at) rest (fault_at files at)
    rest_remains = subst (λ (b : Bool). left_behind None b least.lane.reader (files at) rest (fault_at files at)) (sym mine.2) mine.3

    taken_left : LanesLeft new files taken
    taken_left k lane is = elim (here_or_not k at) [
      | inl e ↦
          let its : record least.lane { head = None } ≡ lane = same_some (record least.lane { head = None }) lane (sym now ∙ subst (λ (n : ℕ). slice_get new n ≡ Some lane) e is) in
          subst (λ (n : ℕ). LaneLeft lane (files n) (taken n) (fault_at files n)) (sym e)
          (subst (λ (l : Lane). LaneLeft l (files at) (taken at) (fault_at files at)) its
          (subst (λ (ms : List Mtr). LaneLeft (record least.lane { head = None }) (files at) ms (fault_at files at)) (sym taken_here) rest_remains))
      | inr apart ↦ subst (λ (ms : List Mtr). LaneLeft lane (files k) ms (fault_at files k)) (sym (taken_other k apart)) (left k lane (sym (others k apart) ∙ is))
    ]

    pub gives_some : (mtrs : List Mtr) → mtrs ≡ all_left lefts → GivesMerged files mtrs new (Ok (Some m))
    gives_some mtrs e = (
      all_left taken,
      e ∙ takes_least lefts taken m at (mine.1 ∙ ap (λ (ms : List Mtr). m ∷ ms) (sym taken_here)) taken_other 8 0 8 (omega arith) (omega (arith, bound)) (omega arith) taken_behind before_behind,
      record { lefts = taken; left = taken_left; ascend = taken_ascend; mtrs_are = refl },
    )

  pub gives_none : least.lane.head ≡ None → (mtrs : List Mtr) → mtrs ≡ all_left lefts → GivesMerged files mtrs new (Ok None)
  gives_none none mtrs e = (e ∙ ap by_log_place (flat_none 8 0 8 lefts (omega arith) (λ k lt. (none_at none k lt).0)), λ k lt. (none_at none k lt).1)

  pub gives_head : (head : Option Mtr) → least.lane.head ≡ head → (mtrs : List Mtr) → mtrs ≡ all_left lefts → GivesMerged files mtrs new (Ok head)
  gives_head None e mtrs is = gives_none e mtrs is
  gives_head (Some m) e mtrs is = gives_some m e mtrs is
