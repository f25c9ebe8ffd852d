-- The value of a key after writes is that of the last write of it, or else the value before.
use Rattle.std.proofs.Common.{◌≡◌, ℕ, ◌<◌, ◌≤◌, ◌==◌, nat_lt, Bool, true, false, cond, List, [], ◌∷◌, ◌++◌, filter, Option, Some, None, refl, sym, ap, ◌∙◌, inl, inr, arith, eq-eqb, ne_eqb}
use Rattle.std.proofs.lemmas.Bool.{cases_lt}
use Rattle.std.proofs.lemmas.Bool.Decides.{nat_tests}
use Rattle.std.proofs.lemmas.Grind.{common_steps}
use Rattle.mp_model.specs.declared.key_value.KeyValue.{KeyValue}
use Rattle.mp_model.specs.declared.key_value.KeyWrite.{KeyWrite}
use Rattle.mp_model.specs.Folded.{row_of, written, over, value_at}
use Rattle.mp_script.specs.LastValues.{or_else_value, last_value, value_over}

pub or_else_none : {T : Type 0} (x : Option T) → or_else_value x None ≡ x
or_else_none None = refl
or_else_none (Some x) = refl

or_else_assoc : {T : Type 0} (x y z : Option T) → or_else_value (or_else_value x y) z ≡ or_else_value x (or_else_value y z)
or_else_assoc None y z = refl
or_else_assoc (Some x) y z = refl

-- the value in two lists, one behind the other
pub value_at-append : (key : ℕ) (xs ys : List KeyValue) → value_at key (xs ++ ys) ≡ or_else_value (value_at key xs) (value_at key ys)
value_at-append key [] ys = refl
value_at-append key (x ∷ xs) ys = by_test (x.key == key) (value_at-append key xs ys)
  where
    by_test : (b : Bool) → value_at key (xs ++ ys) ≡ or_else_value (value_at key xs) (value_at key ys) → cond b (Some x.value) (value_at key (xs ++ ys)) ≡ or_else_value (cond b (Some x.value) (value_at key xs)) (value_at key ys)
    by_test true rest = refl
    by_test false rest = rest

lower_in : (key k : ℕ) (rows : List KeyValue) → key < k → value_at key (filter (λ row. nat_lt row.key k) rows) ≡ value_at key rows
lower_in key k [] lt = refl
lower_in key k (row ∷ rows) lt = grind (arith, nat_tests, common_steps, lower_in key k rows lt)

lower_out : (key k : ℕ) (rows : List KeyValue) → k ≤ key → value_at key (filter (λ row. nat_lt row.key k) rows) ≡ None
lower_out key k [] le = refl
lower_out key k (row ∷ rows) le = grind (arith, nat_tests, common_steps, lower_out key k rows le)

higher_in : (key k : ℕ) (rows : List KeyValue) → k < key → value_at key (filter (λ row. nat_lt k row.key) rows) ≡ value_at key rows
higher_in key k [] lt = refl
higher_in key k (row ∷ rows) lt = grind (arith, nat_tests, common_steps, higher_in key k rows lt)

higher_out : (key k : ℕ) (rows : List KeyValue) → key ≤ k → value_at key (filter (λ row. nat_lt k row.key) rows) ≡ None
higher_out key k [] le = refl
higher_out key k (row ∷ rows) le = grind (arith, nat_tests, common_steps, higher_out key k rows le)

row_value : (key k : ℕ) (value : Option (List ℕ)) → value_at key (row_of (record { key = k; value = value })) ≡ cond (k == key) value None
row_value key k (Some value) = refl
row_value key k None = by_test (k == key)
  where
    by_test : (b : Bool) → ◌≡◌ {A = Option (List ℕ)} None (cond b None None)
    by_test true = refl
    by_test false = refl

module _ (key : ℕ) (rows : List KeyValue) (write : KeyWrite) where
  parts : value_at key (written rows write) ≡ or_else_value (value_at key (filter (λ row. nat_lt row.key write.key) rows)) (or_else_value (cond (write.key == key) write.value None) (value_at key (filter (λ row. nat_lt write.key row.key) rows)))
  parts =
      value_at-append key (filter (λ row. nat_lt row.key write.key) rows) (row_of write ++ filter (λ row. nat_lt write.key row.key) rows)
      ∙ ap (or_else_value (value_at key (filter (λ row. nat_lt row.key write.key) rows)))
      (value_at-append key (row_of write) (filter (λ row. nat_lt write.key row.key) rows) ∙ ap (λ (x : Option (List ℕ)). or_else_value x (value_at key (filter (λ row. nat_lt write.key row.key) rows))) (row_value key write.key write.value))

  -- a write sets its key, and leaves the others
  pub value_at-written : value_at key (written rows write) ≡ cond (write.key == key) write.value (value_at key rows)
  value_at-written = elim (cases_lt key write.key) [
    | inl lt ↦
        let test : (write.key == key) ≡ false = ne_eqb write.key key (λ e. absurd (omega (arith, e, lt))) in
        parts
        ∙ ap (λ (b : Bool). or_else_value (value_at key (filter (λ row. nat_lt row.key write.key) rows)) (or_else_value (cond b write.value None) (value_at key (filter (λ row. nat_lt write.key row.key) rows)))) test
        ∙ ap (or_else_value (value_at key (filter (λ row. nat_lt row.key write.key) rows))) (higher_out key write.key rows (omega (arith, lt)))
        ∙ or_else_none (value_at key (filter (λ row. nat_lt row.key write.key) rows))
        ∙ lower_in key write.key rows lt
        ∙ sym (ap (λ (b : Bool). cond b write.value (value_at key rows)) test)
    | inr ge ↦ elim (cases_lt write.key key) [
      | inl gt ↦
          let test : (write.key == key) ≡ false = ne_eqb write.key key (λ e. absurd (omega (arith, e, gt))) in
          parts
          ∙ ap (λ (x : Option (List ℕ)). or_else_value x (or_else_value (cond (write.key == key) write.value None) (value_at key (filter (λ row. nat_lt write.key row.key) rows)))) (lower_out key write.key rows ge)
          ∙ ap (λ (b : Bool). or_else_value (cond b write.value None) (value_at key (filter (λ row. nat_lt write.key row.key) rows))) test
          ∙ higher_in key write.key rows gt
          ∙ sym (ap (λ (b : Bool). cond b write.value (value_at key rows)) test)
      | inr le ↦
          let test : (write.key == key) ≡ true = eq-eqb write.key key (omega (arith, ge, le)) in
          parts
          ∙ ap (λ (x : Option (List ℕ)). or_else_value x (or_else_value (cond (write.key == key) write.value None) (value_at key (filter (λ row. nat_lt write.key row.key) rows)))) (lower_out key write.key rows ge)
          ∙ ap (λ (b : Bool). or_else_value (cond b write.value None) (value_at key (filter (λ row. nat_lt write.key row.key) rows))) test
          ∙ ap (or_else_value write.value) (higher_out key write.key rows le)
          ∙ or_else_none write.value
          ∙ sym (ap (λ (b : Bool). cond b write.value (value_at key rows)) test)
    ]
  ]

over_or : (x y : Option (Option (List ℕ))) (old : Option (List ℕ)) → value_over (or_else_value x y) old ≡ value_over x (value_over y old)
over_or None y old = refl
over_or (Some x) y old = refl

over_test : (b : Bool) (value old : Option (List ℕ)) → value_over (cond b (Some value) None) old ≡ cond b value old
over_test true value old = refl
over_test false value old = refl

pub value_at-over : (key : ℕ) (rows : List KeyValue) (writes : List KeyWrite) → value_at key (over rows writes) ≡ value_over (last_value key writes) (value_at key rows)
value_at-over key rows [] = refl
value_at-over key rows (write ∷ writes) =
    value_at-over key (written rows write) writes
    ∙ ap (value_over (last_value key writes)) (value_at-written key rows write ∙ sym (over_test (write.key == key) write.value (value_at key rows)))
    ∙ sym (over_or (last_value key writes) (cond (write.key == key) (Some write.value) None) (value_at key rows))

pub last_value-append : (key : ℕ) (xs ys : List KeyWrite) → last_value key (xs ++ ys) ≡ or_else_value (last_value key ys) (last_value key xs)
last_value-append key [] ys = sym (or_else_none (last_value key ys))
last_value-append key (x ∷ xs) ys =
    ap (λ (v : Option (Option (List ℕ))). or_else_value v (cond (x.key == key) (Some x.value) None)) (last_value-append key xs ys)
    ∙ or_else_assoc (last_value key ys) (last_value key xs) (cond (x.key == key) (Some x.value) None)
