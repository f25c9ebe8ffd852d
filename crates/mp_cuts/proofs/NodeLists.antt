-- What each node made, out of the history; and lists of nodes one after another.
use Rattle.std.proofs.Common.{◌≡◌, ◌≢◌, ℕ, zero, suc, ◌+◌, ◌<◌, ◌≤◌, ◌==◌, Bool, true, false, cond, if◌then◌else◌, List, [], ◌∷◌, ◌++◌, length, take, map, flat_map, reverse, refl, sym, ap, subst, ◌∙◌, inl, inr, arith, eqb-true, eq-eqb, append-nil}
use Rattle.std.specs.List.{AllByRecursion}
use Rattle.std.proofs.lemmas.Bool.{cases_lt}
use Rattle.std.proofs.lemmas.Grind.{reverse_onto}
use Rattle.std.proofs.lemmas.List.Elements.{filter-append}
use Rattle.mp_cells.specs.declared.records.Mtr.{Mtr}
use Rattle.mp_histories.specs.Histories.{History, mtrs_by_node}
use Rattle.mp_histories.proofs.Lists.{filter-in, filter-out}
use Rattle.mp_histories.proofs.Writers.{decided}
use Rattle.mp_histories.proofs.Sorting.{filter-reverse}
use Rattle.mp_core_pages.specs.declared.part.Placed.{Placed}
use Rattle.mp_core_pages.specs.Histories.{placed, made_by}
use Rattle.mp_core.specs.Contents.{page_ops}
use Rattle.mp_cuts.proofs.Climbing.{in_time, mtrs_more}

by_node_is : (n : ℕ) (history : History) → map (λ (x : Placed Mtr). x.mtr) (made_by page_ops n history) ≡ mtrs_by_node n history
by_node_is n [] = refl
by_node_is n (m ∷ history) = by_test (m.node == n) (by_node_is n history)
  where
    by_test : (b : Bool) → map (λ (x : Placed Mtr). x.mtr) (made_by page_ops n history) ≡ mtrs_by_node n history
        → map (λ (x : Placed Mtr). x.mtr) (if b then placed (length history) m ∷ made_by page_ops n history else made_by page_ops n history) ≡ cond b (m ∷ mtrs_by_node n history) (mtrs_by_node n history)
    by_test true rest = ap (λ (ms : List Mtr). m ∷ ms) rest
    by_test false rest = rest

mtrs_reversed : (xs : List (Placed Mtr)) → map (λ (x : Placed Mtr). x.mtr) (reverse xs) ≡ reverse (map (λ (x : Placed Mtr). x.mtr) xs)
mtrs_reversed [] = refl
mtrs_reversed (x ∷ xs) =
    ap (map (λ (y : Placed Mtr). y.mtr)) (reverse_onto xs x []) ∙ mtrs_more (reverse xs) (x ∷ [])
    ∙ ap (λ (ms : List Mtr). ms ++ x.mtr ∷ []) (mtrs_reversed xs)
    ∙ sym (reverse_onto (map (λ (y : Placed Mtr). y.mtr) xs) x.mtr [])

-- a node's own mtrs, in the order of making, are those of the history
pub in_time_is : (n : ℕ) (history : History) → in_time (made_by page_ops n history) ≡ mtrs_by_node n (reverse history)
in_time_is n history = mtrs_reversed (made_by page_ops n history) ∙ ap reverse (by_node_is n history) ∙ sym (filter-reverse (λ (m : Mtr). m.node == n) history)

-- ---- lists of one node

abbrev pub AllOf : ℕ → List Mtr → Type 0
AllOf n mtrs = AllByRecursion (λ m. m.node ≡ n) mtrs

pub all_of_node : (n : ℕ) (xs : List Mtr) → AllOf n (mtrs_by_node n xs)
all_of_node n [] = tt
all_of_node n (x ∷ xs) = elim (decided (x.node == n)) [
  | inl e ↦ subst (AllOf n) (sym (filter-in (λ (m : Mtr). m.node == n) x xs e)) (eqb-true x.node n e, all_of_node n xs)
  | inr e ↦ subst (AllOf n) (sym (filter-out (λ (m : Mtr). m.node == n) x xs e)) (all_of_node n xs)
]

pub all_taken : (P : Mtr → Type 0) (count : ℕ) (xs : List Mtr) → AllByRecursion P xs → AllByRecursion P (take count xs)
all_taken P zero xs all = tt
all_taken P (suc count) [] all = tt
all_taken P (suc count) (x ∷ xs) all = (all.0, all_taken P count xs all.1)

own_stay : (n : ℕ) (xs : List Mtr) → AllOf n xs → mtrs_by_node n xs ≡ xs
own_stay n [] all = refl
own_stay n (x ∷ xs) all = filter-in (λ (m : Mtr). m.node == n) x xs (eq-eqb x.node n all.0) ∙ ap (λ (ms : List Mtr). x ∷ ms) (own_stay n xs all.1)

others_go : (n k : ℕ) (xs : List Mtr) → n ≢ k → AllOf k xs → mtrs_by_node n xs ≡ []
others_go n k [] apart all = refl
others_go n k (x ∷ xs) apart all = elim (decided (x.node == n)) [
  | inl e ↦ absurd (apart (sym (eqb-true x.node n e) ∙ all.0))
  | inr e ↦ filter-out (λ (m : Mtr). m.node == n) x xs e ∙ others_go n k xs apart all.1
]

-- ---- the nodes one after another

abbrev pub nodes_from : ℕ → ℕ → List ℕ
nodes_from start zero = []
nodes_from start (suc count) = start ∷ nodes_from (start + 1) count

module _ (f : ℕ → List Mtr) (own : (k : ℕ) → AllOf k (f k)) (n : ℕ) where
  of_first : (start : ℕ) (ks : List ℕ) → mtrs_by_node n (flat_map f (start ∷ ks)) ≡ mtrs_by_node n (f start) ++ mtrs_by_node n (flat_map f ks)
  of_first start ks = filter-append (λ (m : Mtr). m.node == n) (f start) (flat_map f ks)

  pub before_all : (start count : ℕ) → n < start → mtrs_by_node n (flat_map f (nodes_from start count)) ≡ []
  before_all start zero lt = refl
  before_all start (suc count) lt =
      of_first start (nodes_from (start + 1) count)
      ∙ ap (λ (ms : List Mtr). ms ++ mtrs_by_node n (flat_map f (nodes_from (start + 1) count))) (others_go n start (f start) (λ e. omega (arith, e, lt)) (own start))
      ∙ before_all (start + 1) count (omega (arith, lt))

  pub one_of_all : (start count : ℕ) → start ≤ n → n < start + count → mtrs_by_node n (flat_map f (nodes_from start count)) ≡ f n
  one_of_all start zero low high = absurd (omega (arith, low, high))
  one_of_all start (suc count) low high = of_first start (nodes_from (start + 1) count) ∙ (elim (cases_lt start n) [
    | inl lt ↦
        let end : n < start + 1 + count = omega (arith, high) in
        ap (λ (ms : List Mtr). ms ++ mtrs_by_node n (flat_map f (nodes_from (start + 1) count))) (others_go n start (f start) (λ e. omega (arith, e, lt)) (own start))
        ∙ one_of_all (start + 1) count (omega (arith, lt)) end
    | inr le ↦
        let e : n ≡ start = omega (arith, low, le) in
        let here : mtrs_by_node n (f start) ≡ f n = ap (λ (k : ℕ). mtrs_by_node n (f k)) (sym e) ∙ own_stay n (f n) (own n) in
        ap (λ (ms : List Mtr). ms ++ mtrs_by_node n (flat_map f (nodes_from (start + 1) count))) here
        ∙ ap (λ (ms : List Mtr). f n ++ ms) (before_all (start + 1) count (omega (arith, le)))
        ∙ append-nil (f n)
  ])

  pub beyond_all : (start count : ℕ) → start + count ≤ n → mtrs_by_node n (flat_map f (nodes_from start count)) ≡ []
  beyond_all start zero high = refl
  beyond_all start (suc count) high =
      of_first start (nodes_from (start + 1) count)
      ∙ ap (λ (ms : List Mtr). ms ++ mtrs_by_node n (flat_map f (nodes_from (start + 1) count))) (others_go n start (f start) (λ e. omega (arith, e, high)) (own start))
      ∙ beyond_all (start + 1) count (omega (arith, high))
