-- A cut is, in the order of recovery, the mtrs of the history that are up to the last one kept of their nodes.
use Rattle.std.proofs.Common.{◌≡◌, ℕ, zero, suc, ◌+◌, ◌<◌, ◌≤◌, ◌⊎◌, ◌==◌, Bool, cond, List, [], ◌∷◌, ◌++◌, take, drop, filter, flat_map, reverse, refl, sym, ap, subst, ◌∙◌, inl, inr, arith, take-append-drop}
use Rattle.std.specs.List.{AllByRecursion}
use Rattle.std.proofs.lemmas.Bool.{cases_lt}
use Rattle.std.proofs.lemmas.List.{reverse-reverse}
use Rattle.mp_machine.specs.Lists.{IsIn}
use Rattle.mp_cells.specs.declared.records.Mtr.{Mtr}
use Rattle.mp_cells.specs.Orders.{sorted_by}
use Rattle.mp_cells.proofs.KeyEdits.{All-filter, All-append}
use Rattle.mp_log.specs.Logs.{last_after}
use Rattle.mp_histories.specs.Histories.{mtrs_by_node}
use Rattle.mp_histories.specs.Cuts.{log_place, in_log_order}
use Rattle.mp_histories.proofs.LogOrder.{HasNode}
use Rattle.mp_histories.proofs.Sorting.{filter-reverse, filter-swap, all_reverse}
use Rattle.mp_histories.proofs.Merging.{same_order}
use Rattle.mp_core_pages.specs.declared.part.Placed.{Placed}
use Rattle.mp_core.specs.declared.opening.CoreOpening.{CoreOpening}
use Rattle.mp_core.specs.World.{CoreWorld}
use Rattle.mp_core.specs.Invariant.{NumbersFit, CoreInv}
use Rattle.mp_recover.specs.Images.{all_primaries}
use Rattle.mp_cuts.specs.ValidCuts.{mtrs_in_time, mtrs_of_cut}
use Rattle.mp_cuts.proofs.Climbing.{Climbs, is_up_to, first_ones, in_time, climbs_in_time}
use Rattle.mp_cuts.proofs.NodeLists.{AllOf, in_time_is, all_of_node, all_taken, nodes_from, one_of_all, before_all, beyond_all}

-- ---- lists

filter_same : (p q : Mtr → Bool) (xs : List Mtr) → AllByRecursion (λ m. p m ≡ q m) xs → filter p xs ≡ filter q xs
filter_same p q [] all = refl
filter_same p q (x ∷ xs) all = ap (λ (b : Bool). cond b (x ∷ filter p xs) (filter p xs)) all.0 ∙ ap (λ (ms : List Mtr). cond (q x) (x ∷ ms) ms) (filter_same p q xs all.1)

each_same : (upto : ℕ → ℕ) (n : ℕ) (xs : List Mtr) → AllOf n xs → AllByRecursion (λ m. is_up_to (upto m.node) m ≡ is_up_to (upto n) m) xs
each_same upto n [] all = tt
each_same upto n (x ∷ xs) all = (ap (λ (k : ℕ). is_up_to (upto k) x) all.0, each_same upto n xs all.1)

pub each_by_in : (P : Mtr → Type 0) (xs : List Mtr) → ((x : Mtr) → IsIn x xs → P x) → AllByRecursion P xs
each_by_in P [] all = tt
each_by_in P (x ∷ xs) all = (all x (inl refl), each_by_in P xs (λ y has. all y (inr has)))

pub in_each : (P : Mtr → Type 0) (xs : List Mtr) → AllByRecursion P xs → (x : Mtr) → IsIn x xs → P x
in_each P [] all x has = absurd has
in_each P (y ∷ xs) all x (inl same) = subst P (sym same) all.0
in_each P (y ∷ xs) all x (inr has) = in_each P xs all.1 x has

none_of : (n : ℕ) (xs : List Mtr) → AllByRecursion (λ m. (1 ≤ m.node) × (m.node ≤ 8)) xs → (n < 1) ⊎ (9 ≤ n) → AllOf n xs → xs ≡ []
none_of n [] fit out own = refl
none_of n (x ∷ xs) fit (inl low) own = absurd (let e = own.0 in let f = fit.0.0 in omega (arith, e, f, low))
none_of n (x ∷ xs) fit (inr high) own = absurd (let e = own.0 in let f = fit.0.1 in omega (arith, e, f, high))

module _ (o : CoreOpening) (fair : NumbersFit o) (w : CoreWorld) (i : CoreInv o w) where
  -- ---- what nodes there are

  pub has_node : (m : Mtr) → IsIn m w.pages.history → (1 ≤ m.node) × (m.node ≤ 8)
  has_node m has =
      let its = i.pages.mtr_history.makers m has in
      let most = fair.trx.some_primaries.1 in
      let high = its.1 in
      (its.0, omega (arith, most, high))

  pub nodes : AllByRecursion HasNode w.pages.history
  nodes = each_by_in HasNode w.pages.history (λ m has. (has_node m has).1)

  nodes_fit : AllByRecursion (λ m. (1 ≤ m.node) × (m.node ≤ 8)) w.pages.history
  nodes_fit = each_by_in (λ (m : Mtr). (1 ≤ m.node) × (m.node ≤ 8)) w.pages.history has_node

  -- ---- what each made

  pub in_time_of : (n : ℕ) → mtrs_in_time w n ≡ mtrs_by_node n (reverse w.pages.history)
  in_time_of n = ap (λ (l : List (Placed Mtr)). in_time l) (i.pages.mtr_history.own n) ∙ in_time_is n w.pages.history

  pub climbs_of : (n : ℕ) → Climbs o.trx.base.llsn (mtrs_in_time w n)
  climbs_of n = climbs_in_time o.trx.base.llsn (w.pages.made n) (i.pages.mtr_logs.ascend n)

  pub own_of : (n : ℕ) → AllOf n (mtrs_in_time w n)
  own_of n = subst (AllOf n) (sym (in_time_of n)) (all_of_node n (reverse w.pages.history))

  pub out_of_all : (n : ℕ) → (n < 1) ⊎ (9 ≤ n) → mtrs_in_time w n ≡ []
  out_of_all n out = none_of n (mtrs_in_time w n)
      (subst (AllByRecursion (λ (m : Mtr). (1 ≤ m.node) × (m.node ≤ 8))) (sym (in_time_of n))
      (All-filter (λ (m : Mtr). (1 ≤ m.node) × (m.node ≤ 8)) (λ (m : Mtr). m.node == n) (reverse w.pages.history)
      (all_reverse log_place (λ (m : Mtr). (1 ≤ m.node) × (m.node ≤ 8)) w.pages.history nodes_fit)))
      out (own_of n)

  module _ (count : ℕ → ℕ) where
    -- the LLSN of the last mtr that the cut keeps of a node, or the base
    abbrev pub last_kept : ℕ → ℕ
    last_kept n = last_after o.trx.base.llsn (take (count n) (mtrs_in_time w n))

    abbrev pub keep : Mtr → Bool
    keep m = is_up_to (last_kept m.node) m

    abbrev pub kept_of : ℕ → List Mtr
    kept_of n = take (count n) (mtrs_in_time w n)

    -- of each node the history's kept mtrs are the first ones of the node
    pub whole_of : (n : ℕ) → kept_of n ++ drop (count n) (mtrs_in_time w n) ≡ mtrs_in_time w n
    whole_of n = take-append-drop (count n) (mtrs_in_time w n)

    pub climbs_whole : (n : ℕ) → Climbs o.trx.base.llsn (kept_of n ++ drop (count n) (mtrs_in_time w n))
    climbs_whole n = subst (Climbs o.trx.base.llsn) (sym (whole_of n)) (climbs_of n)

    first_kept : (n : ℕ) → filter (is_up_to (last_kept n)) (mtrs_in_time w n) ≡ kept_of n
    first_kept n =
        ap (filter (is_up_to (last_kept n))) (sym (whole_of n))
        ∙ first_ones o.trx.base.llsn (kept_of n) (drop (count n) (mtrs_in_time w n)) (climbs_whole n)

    by_node : (n : ℕ) → mtrs_by_node n (reverse (filter keep w.pages.history)) ≡ kept_of n
    by_node n =
        let H = reverse w.pages.history in
        ap (mtrs_by_node n) (sym (filter-reverse keep w.pages.history))
        ∙ filter-swap (λ (m : Mtr). m.node == n) keep H
        ∙ filter_same keep (is_up_to (last_kept n)) (mtrs_by_node n H) (each_same last_kept n (mtrs_by_node n H) (all_of_node n H))
        ∙ ap (filter (is_up_to (last_kept n))) (sym (in_time_of n))
        ∙ first_kept n

    own_kept : (n : ℕ) → AllOf n (kept_of n)
    own_kept n = all_taken (λ (m : Mtr). m.node ≡ n) (count n) (mtrs_in_time w n) (own_of n)

    none_kept : (n : ℕ) → (n < 1) ⊎ (9 ≤ n) → kept_of n ≡ []
    none_kept n out = none_of n (kept_of n)
        (all_taken (λ (m : Mtr). (1 ≤ m.node) × (m.node ≤ 8)) (count n) (mtrs_in_time w n) (subst (AllByRecursion (λ (m : Mtr). (1 ≤ m.node) × (m.node ≤ 8))) (sym (out_of_all n out)) tt))
        out (own_kept n)

    of_primaries : (n : ℕ) → mtrs_by_node n (flat_map kept_of all_primaries) ≡ kept_of n
    of_primaries n = elim (cases_lt n 1) [
      | inl low ↦ before_all kept_of own_kept n 1 8 low ∙ sym (none_kept n (inl low))
      | inr some ↦ elim (cases_lt n 9) [
        | inl lt ↦ one_of_all kept_of own_kept n 1 8 some (omega (arith, lt))
        | inr high ↦ beyond_all kept_of own_kept n 1 8 (omega (arith, high)) ∙ sym (none_kept n (inr high))
      ]
    ]

    nodes_kept : (k : ℕ) (start : ℕ) → AllByRecursion HasNode (flat_map kept_of (nodes_from start k))
    nodes_kept zero start = tt
    nodes_kept (suc k) start = All-append HasNode (kept_of start) (flat_map kept_of (nodes_from (start + 1) k))
        (all_taken HasNode (count start) (mtrs_in_time w start) (subst (AllByRecursion HasNode) (sym (in_time_of start))
        (All-filter HasNode (λ (m : Mtr). m.node == start) (reverse w.pages.history) (all_reverse log_place HasNode w.pages.history nodes))))
        (nodes_kept k (start + 1))

    -- in the order of recovery
    pub cut_is : mtrs_of_cut w count ≡ reverse (in_log_order (filter keep w.pages.history))
    cut_is =
        same_order (flat_map kept_of all_primaries) (reverse (filter keep w.pages.history)) (nodes_kept 8 1)
        (all_reverse log_place HasNode (filter keep w.pages.history) (All-filter HasNode keep w.pages.history nodes))
        (λ n. of_primaries n ∙ sym (by_node n))
        ∙ sym (reverse-reverse (sorted_by log_place (reverse (filter keep w.pages.history))))
