-- What writes folded into rows leave at each key, and when two lists of rows are one.
use Rattle.std.proofs.Common.{◌≡◌, ◌≢◌, ℕ, ◌+◌, ◌≤◌, ◌==◌, Bool, true, false, cond, List, [], ◌∷◌, ◌++◌, Option, Some, None, refl, sym, ap, subst, ◌∙◌, inl, inr, arith}
use Rattle.std.specs.Prelude.{nat_lt, filter}
use Rattle.std.proofs.lemmas.Bool.{cases_Bool, cases_eq, cases_order, eq-eqb, ne_eqb, lt-ltb, le-ltb}
use Rattle.mp_model.specs.declared.key_value.KeyValue.{KeyValue}
use Rattle.mp_model.specs.declared.key_value.KeyWrite.{KeyWrite}
use Rattle.mp_model.specs.Folded.{row_of, written, over, value_at, AscendsFrom}
use Rattle.mp_model.proofs.SortedRows.{absent_above}
use Rattle.mp_model.proofs.Edits.{written_ascends}
use Rattle.mp_cells.specs.declared.rows.Row.{Row}
use Rattle.mp_cells.specs.Trees.{top, row_at}
use Rattle.mp_cells.specs.Writes.{version_of}
use Rattle.mp_cells.proofs.KeyOrder.{Rises}
use Rattle.mp_recover.specs.KeptCommits.{write_of, present}

abbrev pub Rising : ℕ → List KeyValue → Type 0
Rising = AscendsFrom (λ row. row.key)

-- ---- two ascending lists with the same values at each key

some_value : (a b : List ℕ) → Some a ≡ Some b → a ≡ b
some_value a b h = cc

no_value : (a : List ℕ) → ◌≡◌ {A = Option (List ℕ)} None (Some a) → ⊥
no_value a h = absurd cc

at_head : (row : KeyValue) (rows : List KeyValue) → value_at row.key (row ∷ rows) ≡ Some row.value
at_head row rows = rw (eq-eqb row.key row.key refl) refl

at_other : (key : ℕ) (row : KeyValue) (rows : List KeyValue) → row.key ≢ key → value_at key (row ∷ rows) ≡ value_at key rows
at_other key row rows apart = rw (ne_eqb row.key key apart) refl

-- the first rows are one where their keys are, and where then all behind them are
heads_and_tails : (x y : KeyValue) (xs ys : List KeyValue) → Rising (x.key + 1) xs → Rising (y.key + 1) ys → ((key : ℕ) → value_at key (x ∷ xs) ≡ value_at key (y ∷ ys))
    → (((key : ℕ) → value_at key xs ≡ value_at key ys) → xs ≡ ys) → x.key ≡ y.key → x ∷ xs ≡ y ∷ ys
heads_and_tails x y xs ys ax ay same rest e =
    let value : x.value ≡ y.value = some_value x.value y.value (sym (at_head x xs) ∙ same x.key ∙ ap (λ (k : ℕ). value_at k (y ∷ ys)) e ∙ at_head y ys) in
    let head : x ≡ y = ap (λ (k : ℕ). record { key = k; value = x.value }) e ∙ ap (λ (v : List ℕ). record { key = y.key; value = v }) value in
    ap (λ (r : KeyValue). r ∷ xs) head ∙ ap (λ (rs : List KeyValue). y ∷ rs) (rest tails)
  where
    tails : (key : ℕ) → value_at key xs ≡ value_at key ys
    tails key = elim (cases_eq key x.key) [
      | inl here ↦ rw here (absent_above x.key xs (x.key + 1) ax (omega arith) ∙ sym (absent_above x.key ys (y.key + 1) ay (omega (arith, e))))
      | inr other ↦ sym (at_other key x xs (λ z. other (sym z))) ∙ same key ∙ at_other key y ys (λ z. other (sym z ∙ sym e))
    ]

pub same_values : (low low' : ℕ) (xs ys : List KeyValue) → Rising low xs → Rising low' ys → ((key : ℕ) → value_at key xs ≡ value_at key ys) → xs ≡ ys
same_values low low' [] [] ax ay same = refl
same_values low low' [] (y ∷ ys) ax ay same = absurd (no_value y.value (same y.key ∙ at_head y ys))
same_values low low' (x ∷ xs) [] ax ay same = absurd (no_value x.value (sym (same x.key) ∙ at_head x xs))
same_values low low' (x ∷ xs) (y ∷ ys) ax ay same = elim (cases_order x.key y.key) [
  | inl e ↦ heads_and_tails x y xs ys ax.1 ay.1 same (same_values (x.key + 1) (y.key + 1) xs ys ax.1 ay.1) e
  | inr (inl lt) ↦ absurd (no_value x.value (sym (sym (at_head x xs) ∙ same x.key ∙ at_other x.key y ys (λ z. omega (arith, z, lt)) ∙ absent_above x.key ys (y.key + 1) ay.1 (omega (arith, lt)))))
  | inr (inr gt) ↦ absurd (no_value y.value (sym (sym (at_head y ys) ∙ sym (same y.key) ∙ at_other y.key x xs (λ z. omega (arith, z, gt)) ∙ absent_above y.key xs (x.key + 1) ax.1 (omega (arith, gt)))))
]

-- ---- writes

-- what writes leave at a key, where this was there before
abbrev pub last_value : ℕ → List KeyWrite → Option (List ℕ) → Option (List ℕ)
last_value key [] before = before
last_value key (write ∷ writes) before = last_value key writes (cond (write.key == key) write.value before)

value_append : (key : ℕ) (xs ys : List KeyValue) → value_at key xs ≡ None → value_at key (xs ++ ys) ≡ value_at key ys
value_append key [] ys none = refl
value_append key (x ∷ xs) ys none = elim (cases_eq x.key key) [
  | inl e ↦ absurd (no_value x.value (sym none ∙ ap (λ (k : ℕ). value_at k (x ∷ xs)) (sym e) ∙ at_head x xs))
  | inr apart ↦ at_other key x (xs ++ ys) apart ∙ value_append key xs ys (sym (at_other key x xs apart) ∙ none)
]

value_first : (key : ℕ) (xs ys : List KeyValue) (value : List ℕ) → value_at key xs ≡ Some value → value_at key (xs ++ ys) ≡ Some value
value_first key [] ys value some_ = absurd (no_value value some_)
value_first key (x ∷ xs) ys value some_ = elim (cases_eq x.key key) [
  | inl e ↦ ap (λ (k : ℕ). value_at k (x ∷ xs ++ ys)) (sym e) ∙ at_head x (xs ++ ys) ∙ sym (at_head x xs) ∙ ap (λ (k : ℕ). value_at k (x ∷ xs)) e ∙ some_
  | inr apart ↦ at_other key x (xs ++ ys) apart ∙ value_first key xs ys value (sym (at_other key x xs apart) ∙ some_)
]

value_filter : (p : KeyValue → Bool) (key : ℕ) (rows : List KeyValue) → ((row : KeyValue) → row.key ≡ key → p row ≡ true) → value_at key (filter p rows) ≡ value_at key rows
value_filter p key [] in_ = refl
value_filter p key (row ∷ rows) in_ = elim (cases_eq row.key key) [
  | inl e ↦ rw (in_ row e, eq-eqb row.key key e) refl
  | inr apart ↦ elim (cases_Bool (p row)) [
    | inl kept ↦ rw (kept, ne_eqb row.key key apart) (value_filter p key rows in_)
    | inr gone ↦ rw (gone, ne_eqb row.key key apart) (value_filter p key rows in_)
  ]
]

value_filtered : (p : KeyValue → Bool) (key : ℕ) (rows : List KeyValue) → ((row : KeyValue) → row.key ≡ key → p row ≡ false) → value_at key (filter p rows) ≡ None
value_filtered p key [] out = refl
value_filtered p key (row ∷ rows) out = elim (cases_eq row.key key) [
  | inl e ↦ rw (out row e) (value_filtered p key rows out)
  | inr apart ↦ elim (cases_Bool (p row)) [
    | inl kept ↦ rw (kept, ne_eqb row.key key apart) (value_filtered p key rows out)
    | inr gone ↦ rw gone (value_filtered p key rows out)
  ]
]

value_row : (write : KeyWrite) → value_at write.key (row_of write) ≡ write.value
value_row write = by_value write.key write.value
  where
    by_value : (key : ℕ) (value : Option (List ℕ)) → value_at key (row_of (record { key = key; value = value })) ≡ value
    by_value key None = refl
    by_value key (Some value) = rw (eq-eqb key key refl) refl

value_other : (key : ℕ) (write : KeyWrite) → write.key ≢ key → value_at key (row_of write) ≡ None
value_other key write apart = by_value write.value
  where
    by_value : (value : Option (List ℕ)) → value_at key (row_of (record { key = write.key; value = value })) ≡ None
    by_value None = refl
    by_value (Some value) = rw (ne_eqb write.key key apart) refl

value_either : (key : ℕ) (xs ys : List KeyValue) (found : Option (List ℕ)) → value_at key xs ≡ found → value_at key ys ≡ None → value_at key (xs ++ ys) ≡ found
value_either key xs ys None first second = value_append key xs ys first ∙ second
value_either key xs ys (Some value) first second = value_first key xs ys value first

value_written : (key : ℕ) (rows : List KeyValue) (write : KeyWrite) → value_at key (written rows write) ≡ cond (write.key == key) write.value (value_at key rows)
value_written key rows write = elim (cases_order write.key key) [
  | inl e ↦
      subst (λ (k : ℕ). value_at k (written rows write) ≡ cond (write.key == k) write.value (value_at k rows)) e
      (rw (eq-eqb write.key write.key refl)
      (value_append write.key (filter (λ row. nat_lt row.key write.key) rows) _ (value_filtered (λ row. nat_lt row.key write.key) write.key rows (λ row z. le-ltb row.key write.key (omega (arith, z))))
      ∙ value_either write.key (row_of write) (filter (λ row. nat_lt write.key row.key) rows) write.value (value_row write) (value_filtered (λ row. nat_lt write.key row.key) write.key rows (λ row z. le-ltb write.key row.key (omega (arith, z))))))
  | inr (inl lt) ↦
      rw (ne_eqb write.key key (λ z. omega (arith, z, lt)))
      (value_append key (filter (λ row. nat_lt row.key write.key) rows) _ (value_filtered (λ row. nat_lt row.key write.key) key rows (λ row z. le-ltb row.key write.key (omega (arith, z, lt))))
      ∙ value_append key (row_of write) _ (value_other key write (λ z. omega (arith, z, lt)))
      ∙ value_filter (λ row. nat_lt write.key row.key) key rows (λ row z. lt-ltb write.key row.key (omega (arith, z, lt))))
  | inr (inr gt) ↦
      rw (ne_eqb write.key key (λ z. omega (arith, z, gt)))
      (value_either key (filter (λ row. nat_lt row.key write.key) rows) _ (value_at key rows) (value_filter (λ row. nat_lt row.key write.key) key rows (λ row z. lt-ltb row.key write.key (omega (arith, z, gt))))
      (value_append key (row_of write) _ (value_other key write (λ z. omega (arith, z, gt)))
      ∙ value_filtered (λ row. nat_lt write.key row.key) key rows (λ row z. le-ltb write.key row.key (omega (arith, z, gt)))))
]

pub value_over : (key : ℕ) (writes : List KeyWrite) (rows : List KeyValue) → value_at key (over rows writes) ≡ last_value key writes (value_at key rows)
value_over key [] rows = refl
value_over key (write ∷ writes) rows = value_over key writes (written rows write) ∙ ap (last_value key writes) (value_written key rows write)

pub over_rises : (writes : List KeyWrite) (rows : List KeyValue) → Rising 0 rows → Rising 0 (over rows writes)
over_rises [] rows rise = rise
over_rises (write ∷ writes) rows rise = over_rises writes (written rows write) (written_ascends rows write 0 (omega arith) rise)

-- ---- the rows with values of some rows

abbrev pub KeysFrom : ℕ → List Row → Type 0
KeysFrom low rows = Rises (λ (row : Row). row.key) low top rows

later_rises : (low high : ℕ) (rows : List KeyValue) → low ≤ high → Rising high rows → Rising low rows
later_rises low high [] le rise = tt
later_rises low high (row ∷ rows) le rise = (omega (arith, le, rise.0), rise.1)

row_rises : (low key : ℕ) (value : Option (List ℕ)) (rows : List KeyValue) → low ≤ key → Rising (key + 1) rows → Rising low (row_of (record { key = key; value = value }) ++ rows)
row_rises low key None rows le rest = later_rises low (key + 1) rows (omega (arith, le)) rest
row_rises low key (Some value) rows le rest = (le, rest)

pub present_rises : (low : ℕ) (rows : List Row) → KeysFrom low rows → Rising low (present rows)
present_rises low [] rise = tt
present_rises low (row ∷ rows) rise = row_rises low row.key row.value (present rows) rise.0 (present_rises (row.key + 1) rows rise.2)

pub value_present : (key low : ℕ) (rows : List Row) → KeysFrom low rows → value_at key (present rows) ≡ (version_of key (row_at key rows)).value
value_present key low [] rise = refl
value_present key low (row ∷ rows) rise = elim (cases_eq row.key key) [
  | inl e ↦
      rw (eq-eqb row.key key e)
      (value_either key (row_of (write_of row)) (present rows) row.value (subst (λ (k : ℕ). value_at k (row_of (write_of row)) ≡ row.value) e (value_row (write_of row)))
      (absent_above key (present rows) (row.key + 1) (present_rises (row.key + 1) rows rise.2) (omega (arith, e))))
  | inr apart ↦ rw (ne_eqb row.key key apart) (value_append key (row_of (write_of row)) (present rows) (value_other key (write_of row) apart) ∙ value_present key (row.key + 1) rows rise.2)
]
