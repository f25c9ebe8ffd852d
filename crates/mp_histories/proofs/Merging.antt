-- Lists with the same mtrs of each node are one in the order of logs.
use Rattle.std.proofs.Common.{◌≡◌, ◌≢◌, ℕ, ◌≤◌, ◌==◌, false, List, [], ◌∷◌, refl, sym, ap, subst, ◌∙◌, inl, inr, arith}
use Rattle.std.specs.List.{AllByRecursion}
use Rattle.std.proofs.lemmas.Bool.{cases_eq, eq-eqb}
use Rattle.std.proofs.lemmas.Bool.Decides.{nat_tests}
use Rattle.mp_cells.specs.declared.records.Mtr.{Mtr}
use Rattle.mp_cells.specs.Orders.{sorted_by}
use Rattle.mp_cells.proofs.KeyEdits.{All-filter}
use Rattle.mp_histories.specs.Histories.{mtrs_by_node}
use Rattle.mp_histories.specs.Cuts.{log_place}
use Rattle.mp_histories.proofs.Sorting.{Ascends, filter_sorted, all_sorted, ascends_sorted}
use Rattle.mp_histories.proofs.LogOrder.{HasNode}
use Rattle.mp_histories.proofs.Lists.{heads_same, tails_same, nothing_there, filter-in, filter-out}

by_node-in : (node : ℕ) (mtr : Mtr) (mtrs : List Mtr) → mtr.node ≡ node → mtrs_by_node node (mtr ∷ mtrs) ≡ mtr ∷ mtrs_by_node node mtrs
by_node-in node mtr mtrs e = filter-in (λ (m : Mtr). m.node == node) mtr mtrs (eq-eqb mtr.node node e)

by_node-out : (node : ℕ) (mtr : Mtr) (mtrs : List Mtr) → mtr.node ≢ node → mtrs_by_node node (mtr ∷ mtrs) ≡ mtrs_by_node node mtrs
by_node-out node mtr mtrs ne = let test : (mtr.node == node) ≡ false = grind (arith, nat_tests) in filter-out (λ (m : Mtr). m.node == node) mtr mtrs test

-- what holds of all holds of a node's first
first_of_node : (P : Mtr → Type 0) (node : ℕ) (mtrs : List Mtr) (mtr : Mtr) (rest : List Mtr) → mtr ∷ rest ≡ mtrs_by_node node mtrs → AllByRecursion P mtrs → P mtr
first_of_node P node mtrs mtr rest e all = (subst (AllByRecursion P) (sym e) (All-filter P (λ (m : Mtr). m.node == node) mtrs all)).0

abbrev SameNodes : List Mtr → List Mtr → Type 0
SameNodes one other = (node : ℕ) → mtrs_by_node node one ≡ mtrs_by_node node other

-- the first ones are one: each is at or above the other
first_same : (x y : Mtr) (xs ys : List Mtr) → Ascends log_place (x ∷ xs) → Ascends log_place (y ∷ ys) → HasNode x → HasNode y → SameNodes (x ∷ xs) (y ∷ ys) → x ≡ y
first_same x y xs ys a b nx ny same = elim (cases_eq x.node y.node) [
  | inl e ↦ heads_same x y (mtrs_by_node y.node xs) (mtrs_by_node y.node ys) (sym (by_node-in y.node x xs e) ∙ same y.node ∙ by_node-in y.node y ys refl)
  | inr ne ↦
      let mine : x ∷ mtrs_by_node x.node xs ≡ mtrs_by_node x.node ys = sym (by_node-in x.node x xs refl) ∙ same x.node ∙ by_node-out x.node y ys (λ (e : y.node ≡ x.node). ne (sym e)) in
      let its : y ∷ mtrs_by_node y.node ys ≡ mtrs_by_node y.node xs = sym (by_node-in y.node y ys refl) ∙ sym (same y.node) ∙ by_node-out y.node x xs ne in
      let up : log_place y ≤ log_place x = first_of_node (λ (m : Mtr). log_place y ≤ log_place m) x.node ys x (mtrs_by_node x.node xs) mine b.0 in
      let down : log_place x ≤ log_place y = first_of_node (λ (m : Mtr). log_place x ≤ log_place m) y.node xs y (mtrs_by_node y.node ys) its a.0 in
      absurd (ne (omega (arith, up, down, nx, ny)))
]

rest_same : (x y : Mtr) (xs ys : List Mtr) → x ≡ y → SameNodes (x ∷ xs) (y ∷ ys) → SameNodes xs ys
rest_same x y xs ys e same node = elim (cases_eq x.node node) [
  | inl here ↦
      let there : y.node ≡ node = ap (λ (m : Mtr). m.node) (sym e) ∙ here in
      tails_same x y (mtrs_by_node node xs) (mtrs_by_node node ys) (sym (by_node-in node x xs here) ∙ same node ∙ by_node-in node y ys there)
  | inr ne ↦
      let other : y.node ≢ node = λ (k : y.node ≡ node). ne (ap (λ (m : Mtr). m.node) e ∙ k) in
      sym (by_node-out node x xs ne) ∙ same node ∙ by_node-out node y ys other
]

one_list : (xs ys : List Mtr) → Ascends log_place xs → Ascends log_place ys → AllByRecursion HasNode xs → AllByRecursion HasNode ys → SameNodes xs ys → xs ≡ ys
one_list [] [] a b nx ny same = refl
one_list [] (y ∷ ys) a b nx ny same = absurd (nothing_there y (mtrs_by_node y.node ys) (same y.node ∙ by_node-in y.node y ys refl))
one_list (x ∷ xs) [] a b nx ny same = absurd (nothing_there x (mtrs_by_node x.node xs) (sym (same x.node) ∙ by_node-in x.node x xs refl))
one_list (x ∷ xs) (y ∷ ys) a b nx ny same =
    let first : x ≡ y = first_same x y xs ys a b nx.0 ny.0 same in
    ap (λ (m : Mtr). m ∷ xs) first ∙ ap (λ (ms : List Mtr). y ∷ ms) (one_list xs ys a.1 b.1 nx.1 ny.1 (rest_same x y xs ys first same))

pub same_order : (one other : List Mtr) → AllByRecursion HasNode one → AllByRecursion HasNode other → SameNodes one other → sorted_by log_place one ≡ sorted_by log_place other
same_order one other nx ny same =
    one_list (sorted_by log_place one) (sorted_by log_place other) (ascends_sorted log_place one) (ascends_sorted log_place other) (all_sorted log_place HasNode one nx) (all_sorted log_place HasNode other ny)
    (λ node. filter_sorted log_place (λ (m : Mtr). m.node == node) one ∙ ap (sorted_by log_place) (same node) ∙ sym (filter_sorted log_place (λ (m : Mtr). m.node == node) other))
