-- The row of a key after a row was put.
use Rattle.std.proofs.Common.{◌≡◌, ℕ, ◌<◌, ◌≤◌, ◌==◌, nat_lt, Bool, true, false, cond, List, [], ◌∷◌, ◌++◌, filter, Option, Some, None, refl, sym, ap, ◌∙◌, inl, inr, arith}
use Rattle.std.proofs.lemmas.Bool.{cases_lt, eq-eqb}
use Rattle.std.proofs.lemmas.Bool.Decides.{nat_tests}
use Rattle.mp_cells.specs.declared.rows.Row.{Row}
use Rattle.mp_cells.specs.Keys.{with_cell}
use Rattle.mp_cells.specs.Trees.{row_at}

module _ (k : ℕ) (new : Row) where
  -- a key that isn't below the new one is not among the lower rows
  past_lower : (rows tail : List Row) → new.key ≤ k → row_at k (filter (λ (r : Row). nat_lt r.key new.key) rows ++ tail) ≡ row_at k tail
  past_lower [] tail le = refl
  past_lower (x ∷ rows) tail le = elim (cases_lt x.key new.key) [
    | inl under ↦
        let kept : filter (λ (r : Row). nat_lt r.key new.key) (x ∷ rows) ≡ x ∷ filter (λ (r : Row). nat_lt r.key new.key) rows = grind (arith, nat_tests) in
        let test : (x.key == k) ≡ false = grind (arith, nat_tests) in
        rw kept (ap (λ (b : Bool). cond b (Some x) (row_at k (filter (λ (r : Row). nat_lt r.key new.key) rows ++ tail))) test ∙ past_lower rows tail le)
    | inr over ↦
        let gone : filter (λ (r : Row). nat_lt r.key new.key) (x ∷ rows) ≡ filter (λ (r : Row). nat_lt r.key new.key) rows = grind (arith, nat_tests) in
        rw gone (past_lower rows tail le)
  ]

  -- a lower key has its row there
  in_lower : (rows tail : List Row) → k < new.key → row_at k tail ≡ None → row_at k (filter (λ (r : Row). nat_lt r.key new.key) rows ++ tail) ≡ row_at k rows
  in_lower [] tail lt none = none
  in_lower (x ∷ rows) tail lt none = elim (cases_lt x.key new.key) [
    | inl under ↦
        let kept : filter (λ (r : Row). nat_lt r.key new.key) (x ∷ rows) ≡ x ∷ filter (λ (r : Row). nat_lt r.key new.key) rows = grind (arith, nat_tests) in
        rw kept (ap (λ (rest : Option Row). cond (x.key == k) (Some x) rest) (in_lower rows tail lt none))
    | inr over ↦
        let gone : filter (λ (r : Row). nat_lt r.key new.key) (x ∷ rows) ≡ filter (λ (r : Row). nat_lt r.key new.key) rows = grind (arith, nat_tests) in
        let test : (x.key == k) ≡ false = grind (arith, nat_tests) in
        rw gone (in_lower rows tail lt none ∙ ap (λ (b : Bool). cond b (Some x) (row_at k rows)) (sym test))
  ]

  -- a higher key has its row among the higher ones, and no other key has
  in_higher : (rows : List Row) → new.key < k → row_at k (filter (λ (r : Row). nat_lt new.key r.key) rows) ≡ row_at k rows
  in_higher [] lt = refl
  in_higher (x ∷ rows) lt = elim (cases_lt new.key x.key) [
    | inl over ↦
        let kept : filter (λ (r : Row). nat_lt new.key r.key) (x ∷ rows) ≡ x ∷ filter (λ (r : Row). nat_lt new.key r.key) rows = grind (arith, nat_tests) in
        rw kept (ap (λ (rest : Option Row). cond (x.key == k) (Some x) rest) (in_higher rows lt))
    | inr under ↦
        let gone : filter (λ (r : Row). nat_lt new.key r.key) (x ∷ rows) ≡ filter (λ (r : Row). nat_lt new.key r.key) rows = grind (arith, nat_tests) in
        let test : (x.key == k) ≡ false = grind (arith, nat_tests) in
        rw gone (in_higher rows lt ∙ ap (λ (b : Bool). cond b (Some x) (row_at k rows)) (sym test))
  ]

  not_higher : (rows : List Row) → k ≤ new.key → row_at k (filter (λ (r : Row). nat_lt new.key r.key) rows) ≡ None
  not_higher [] le = refl
  not_higher (x ∷ rows) le = elim (cases_lt new.key x.key) [
    | inl over ↦
        let kept : filter (λ (r : Row). nat_lt new.key r.key) (x ∷ rows) ≡ x ∷ filter (λ (r : Row). nat_lt new.key r.key) rows = grind (arith, nat_tests) in
        let test : (x.key == k) ≡ false = grind (arith, nat_tests) in
        rw kept (ap (λ (b : Bool). cond b (Some x) (row_at k (filter (λ (r : Row). nat_lt new.key r.key) rows))) test ∙ not_higher rows le)
    | inr under ↦
        let gone : filter (λ (r : Row). nat_lt new.key r.key) (x ∷ rows) ≡ filter (λ (r : Row). nat_lt new.key r.key) rows = grind (arith, nat_tests) in
        rw gone (not_higher rows le)
  ]

pub row_at-with_cell : (k : ℕ) (new : Row) (rows : List Row) → row_at k (with_cell (λ r. r.key) new rows) ≡ cond (new.key == k) (Some new) (row_at k rows)
row_at-with_cell k new rows = elim (cases_lt k new.key) [
  | inl below ↦
      let test : (new.key == k) ≡ false = grind (arith, nat_tests) in
      let tail : row_at k (new ∷ filter (λ (r : Row). nat_lt new.key r.key) rows) ≡ None = ap (λ (b : Bool). cond b (Some new) (row_at k (filter (λ (r : Row). nat_lt new.key r.key) rows))) test ∙ not_higher k new rows (omega arith) in
      in_lower k new rows (new ∷ filter (λ (r : Row). nat_lt new.key r.key) rows) below tail ∙ ap (λ (b : Bool). cond b (Some new) (row_at k rows)) (sym test)
  | inr from ↦ past_lower k new rows (new ∷ filter (λ (r : Row). nat_lt new.key r.key) rows) from ∙ (elim (cases_lt new.key k) [
    | inl above ↦ ap (λ (rest : Option Row). cond (new.key == k) (Some new) rest) (in_higher k new rows above)
    | inr also ↦
        let test : (new.key == k) ≡ true = eq-eqb new.key k (omega arith) in
        ap (λ (b : Bool). cond b (Some new) (row_at k (filter (λ (r : Row). nat_lt new.key r.key) rows))) test ∙ ap (λ (b : Bool). cond b (Some new) (row_at k rows)) (sym test)
  ])
]
