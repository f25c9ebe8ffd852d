-- Rows whose keys rise, and which agree with others at each key up to a bound, are the first of these.
use Rattle.std.proofs.Common.{◌≡◌, ◌⊎◌, ℕ, zero, suc, ◌+◌, ◌<◌, ◌≤◌, nat_le, Bool, true, false, cond, List, [], ◌∷◌, ◌++◌, length, take, filter, Some, None, refl, sym, ap, subst, ◌∙◌, inl, inr, arith, append-nil, eq-eqb, ne_eqb}
use Rattle.std.specs.List.{AllByRecursion}
use Rattle.std.proofs.lemmas.Bool.{cases_lt, leb-true, cases_Bool}
use Rattle.std.proofs.lemmas.Bool.Decides.{nat_tests}
use Rattle.std.proofs.lemmas.Grind.{common_steps}
use Rattle.std.proofs.Math.Seq.{take-append_seam}
use Rattle.mp_model.specs.declared.key_value.KeyValue.{KeyValue}
use Rattle.mp_model.specs.declared.key_value.KeyWrite.{KeyWrite}
use Rattle.mp_model.specs.Folded.{value_at, AscendsFrom, KeysAscend, written, over}
use Rattle.mp_model.proofs.Edits.{written_ascends}
use Rattle.mp_script.specs.Right.{first_rows_from}
use Rattle.mp_script.proofs.Options.{some_is, not_some}

-- the keys of rows rise strictly, from a low one on
abbrev pub RowsAscend : ℕ → List KeyValue → Type 0
RowsAscend low rows = AscendsFrom (λ row. row.key) low rows

-- they are below a high one
abbrev pub RowsBelow : ℕ → List KeyValue → Type 0
RowsBelow high rows = AllByRecursion (λ row. row.key < high) rows

-- below all of the rows, and from their bound on, there is no value
pub none_ascend : (key low : ℕ) (rows : List KeyValue) → RowsAscend low rows → key < low → value_at key rows ≡ None
none_ascend key low [] r lt = refl
none_ascend key low (row ∷ rows) r lt =
    let from = r.0 in
    ap (λ (b : Bool). cond b (Some row.value) (value_at key rows)) (ne_eqb row.key key (λ e. absurd (omega (arith, e, from, lt)))) ∙ none_ascend key (row.key + 1) rows r.1 (omega (arith, from, lt))

pub none_from : (key high : ℕ) (rows : List KeyValue) → RowsBelow high rows → high ≤ key → value_at key rows ≡ None
none_from key high [] below le = refl
none_from key high (row ∷ rows) below le =
    let until = below.0 in
    ap (λ (b : Bool). cond b (Some row.value) (value_at key rows)) (ne_eqb row.key key (λ e. absurd (omega (arith, e, until, le)))) ∙ none_from key high rows below.1 le

pub value_here : (row : KeyValue) (rows : List KeyValue) → value_at row.key (row ∷ rows) ≡ Some row.value
value_here row rows = ap (λ (b : Bool). cond b (Some row.value) (value_at row.key rows)) (eq-eqb row.key row.key refl)

pub value_past : (key : ℕ) (row : KeyValue) (rows : List KeyValue) → row.key < key → value_at key (row ∷ rows) ≡ value_at key rows
value_past key row rows lt = ap (λ (b : Bool). cond b (Some row.value) (value_at key rows)) (ne_eqb row.key key (λ e. absurd (omega (arith, e, lt))))

-- the rows are the first of others, and the rest lie from the bound on
pub record IsFront (high : ℕ) (rows all : List KeyValue) : Type 0 where
  pub rest : List KeyValue
  pub whole : all ≡ rows ++ rest
  pub above : RowsAscend high rest

same_row : (x y : KeyValue) → x.key ≡ y.key → x.value ≡ y.value → x ≡ y
same_row x y k v = ap (λ (n : ℕ). record { key = n; value = x.value }) k ∙ ap (λ (z : List ℕ). record { key = y.key; value = z }) v

pub is_front : (low high : ℕ) (rows all : List KeyValue) → RowsAscend low rows → RowsBelow high rows → RowsAscend low all → ((key : ℕ) → low ≤ key → key < high → value_at key rows ≡ value_at key all) → IsFront high rows all
is_front low high [] [] r below a same = record { rest = []; whole = refl; above = tt }
is_front low high [] (y ∷ ys) r below a same = elim (cases_lt y.key high) [
  | inl lt ↦ absurd (not_some y.value (same y.key a.0 lt ∙ value_here y ys))
  | inr ge ↦ record { rest = y ∷ ys; whole = refl; above = (ge, a.1) }
]
is_front low high (x ∷ xs) [] r below a same = absurd (not_some x.value (sym (same x.key r.0 below.0) ∙ value_here x xs))
is_front low high (x ∷ xs) (y ∷ ys) r below a same =
    let x_low = r.0 in
    let x_high = below.0 in
    let y_low = a.0 in
    elim (cases_lt x.key y.key) [
      | inl lt ↦
          let none : value_at x.key (y ∷ ys) ≡ None = none_ascend x.key y.key (y ∷ ys) (omega arith, a.1) lt in
          absurd (not_some x.value (sym none ∙ sym (same x.key x_low x_high) ∙ value_here x xs))
      | inr ge ↦ elim (cases_lt y.key x.key) [
        | inl lt ↦
            let none : value_at y.key (x ∷ xs) ≡ None = none_ascend y.key x.key (x ∷ xs) (omega arith, r.1) lt in
            absurd (not_some y.value (sym none ∙ same y.key y_low (omega (arith, lt, x_high)) ∙ value_here y ys))
        | inr le ↦
            let key_is : x.key ≡ y.key = omega (arith, ge, le) in
            let value_is : x.value ≡ y.value = some_is x.value y.value (sym (value_here x xs) ∙ same x.key x_low x_high ∙ ap (λ (k : ℕ). value_at k (y ∷ ys)) key_is ∙ value_here y ys) in
            let is : x ≡ y = same_row x y key_is value_is in
            let rest = is_front (x.key + 1) high xs ys r.1 below.1 (subst (λ (k : ℕ). RowsAscend (k + 1) ys) (sym key_is) a.1)
            (λ key from until. sym (value_past key x xs (omega (arith, from))) ∙ same key (omega (arith, from, x_low)) until ∙ value_past key y ys (omega (arith, from, key_is))) in
            record { rest = rest.rest; whole = ap (λ (zs : List KeyValue). y ∷ zs) rest.whole ∙ ap (λ (z : KeyValue). z ∷ (xs ++ rest.rest)) (sym is); above = rest.above }
      ]
    ]

lower_bound : (n m : ℕ) (rows : List KeyValue) → n ≤ m → RowsAscend m rows → RowsAscend n rows
lower_bound n m [] le a = tt
lower_bound n m (row ∷ rows) le a = let from = a.0 in (omega (arith, le, from), a.1)

row_kept : (test : KeyValue → Bool) (row : KeyValue) (rows : List KeyValue) → test row ≡ true → filter test (row ∷ rows) ≡ row ∷ filter test rows
row_kept test row rows e = ap (λ (b : Bool). cond b (row ∷ filter test rows) (filter test rows)) e

row_dropped : (test : KeyValue → Bool) (row : KeyValue) (rows : List KeyValue) → test row ≡ false → filter test (row ∷ rows) ≡ filter test rows
row_dropped test row rows e = ap (λ (b : Bool). cond b (row ∷ filter test rows) (filter test rows)) e

-- with rows left out they ascend
kept_ascends : (test : KeyValue → Bool) (low : ℕ) (rows : List KeyValue) → RowsAscend low rows → RowsAscend low (filter test rows)
kept_ascends test low [] a = tt
kept_ascends test low (row ∷ rows) a =
    let from = a.0 in
    let rest = kept_ascends test (row.key + 1) rows a.1 in
    elim (cases_Bool (test row)) [
      | inl e ↦ subst (RowsAscend low) (sym (row_kept test row rows e)) (a.0, rest)
      | inr e ↦ subst (RowsAscend low) (sym (row_dropped test row rows e)) (lower_bound low (row.key + 1) (filter test rows) (omega (arith, from)) rest)
    ]

-- the rows from a key on ascend from it, and have the same values there
pub from_ascends : (key low : ℕ) (rows : List KeyValue) → RowsAscend low rows → RowsAscend key (filter (λ row. nat_le key row.key) rows)
from_ascends key low [] a = tt
from_ascends key low (row ∷ rows) a = elim (cases_Bool (nat_le key row.key)) [
  | inl e ↦ subst (RowsAscend key) (sym (row_kept (λ (r : KeyValue). nat_le key r.key) row rows e)) (leb-true key row.key e, kept_ascends (λ (r : KeyValue). nat_le key r.key) (row.key + 1) rows a.1)
  | inr e ↦ subst (RowsAscend key) (sym (row_dropped (λ (r : KeyValue). nat_le key r.key) row rows e)) (from_ascends key (row.key + 1) rows a.1)
]

pub from_values : (low key : ℕ) (rows : List KeyValue) → low ≤ key → value_at key (filter (λ row. nat_le low row.key) rows) ≡ value_at key rows
from_values low key [] le = refl
from_values low key (row ∷ rows) le = grind (arith, nat_tests, common_steps, from_values low key rows le)

all_kept : (P : KeyValue → Type 0) (test : KeyValue → Bool) (rows : List KeyValue) → AllByRecursion P rows → AllByRecursion P (filter test rows)
all_kept P test [] all = tt
all_kept P test (row ∷ rows) all = elim (cases_Bool (test row)) [
  | inl e ↦ subst (AllByRecursion P) (sym (row_kept test row rows e)) (all.0, all_kept P test rows all.1)
  | inr e ↦ subst (AllByRecursion P) (sym (row_dropped test row rows e)) (all_kept P test rows all.1)
]

all_behind : (P : KeyValue → Type 0) (xs ys : List KeyValue) → AllByRecursion P (xs ++ ys) → AllByRecursion P ys
all_behind P [] ys all = all
all_behind P (x ∷ xs) ys all = all_behind P xs ys all.1

none_left : (bound : ℕ) (rest : List KeyValue) → RowsAscend bound rest → RowsBelow bound rest → rest ≡ []
none_left bound [] a below = refl
none_left bound (row ∷ rest) a below = let from = a.0 in let until = below.0 in absurd (omega (arith, from, until))

take_all : (most : ℕ) (rows : List KeyValue) → length rows ≤ most → take most rows ≡ rows
take_all zero [] le = refl
take_all zero (row ∷ rows) le = absurd (omega (arith, le))
take_all (suc most) [] le = refl
take_all (suc most) (row ∷ rows) le = ap (λ (rs : List KeyValue). row ∷ rs) (take_all most rows (omega (arith, le)))

module _ (low high most bound : ℕ) (rows all : List KeyValue) (rises : RowsAscend low rows) (until : RowsBelow high rows) (ascend : KeysAscend all) (below : RowsBelow bound all) (same : (key : ℕ) → low ≤ key → key < high → value_at key rows ≡ value_at key all) where
  front : IsFront high rows (filter (λ row. nat_le low row.key) all)
  front = is_front low high rows (filter (λ row. nat_le low row.key) all) rises until (from_ascends low 0 all ascend) (λ key from to. same key from to ∙ sym (from_values low key all from))

  -- rows up to the bound of all, or as many as were asked for
  pub first_rows : length rows ≤ most → (high ≡ bound) ⊎ (length rows ≡ most) → rows ≡ first_rows_from low most all
  first_rows le (inl at) =
      let kept = all_kept (λ row. row.key < bound) (λ row. nat_le low row.key) all below in
      let rest_below : RowsBelow bound front.rest = all_behind (λ row. row.key < bound) rows front.rest (subst (RowsBelow bound) front.whole kept) in
      let none : front.rest ≡ [] = none_left bound front.rest (subst (λ (n : ℕ). RowsAscend n front.rest) at front.above) rest_below in
      sym (ap (take most) (front.whole ∙ ap (λ (rs : List KeyValue). rows ++ rs) none ∙ append-nil rows) ∙ take_all most rows le)
  first_rows le (inr count) =
      sym (ap (λ (n : ℕ). take n (filter (λ (row : KeyValue). nat_le low row.key) all)) (sym count) ∙ ap (take (length rows)) front.whole ∙ take-append_seam rows front.rest)

pub over_ascends : (rows : List KeyValue) (writes : List KeyWrite) → KeysAscend rows → KeysAscend (over rows writes)
over_ascends rows [] a = a
over_ascends rows (write ∷ writes) a = over_ascends (written rows write) writes (written_ascends rows write 0 (omega arith) a)
