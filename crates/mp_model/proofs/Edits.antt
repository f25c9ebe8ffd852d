-- Each edit at a key's place is the write of that key.
use Rattle.std.proofs.Common.{◌≡◌, ℕ, zero, suc, ◌+◌, ◌<◌, ◌≤◌, nat_lt, nat_le, true, false, List, [], ◌∷◌, ◌++◌, length, take, drop, set, filter, Option, Some, None, slice_get, refl, sym, ◌∙◌, inl, inr, arith}
use mathlib.Core.Bool.{false≢true}
use Rattle.std.specs.List.{insert, remove}
use Rattle.std.proofs.lemmas.Bool.Decides.{nat_tests}
use Rattle.std.proofs.lemmas.Bool.{cases_lt}
use Rattle.std.proofs.lemmas.List.{take-append-drop, set_split}
use Rattle.mp_model.specs.declared.key_value.KeyValue.{KeyValue}
use Rattle.mp_model.specs.declared.key_value.KeyWrite.{KeyWrite}
use Rattle.mp_model.specs.Folded.{KeysAscend, written, row_of, value_at, holds_key}
use Rattle.mp_model.proofs.SortedRows.{Ascend, ascends_from_lower, SplitsAtKey, split_at_key, first_value, above_all, below_none}

-- the item at a place is the first of those from it on
pub first_at : (rows : List KeyValue) (i : ℕ) (row : KeyValue) → slice_get rows i ≡ Some row → first_value (drop i rows) ≡ Some row.value
first_at [] i row e = cc
first_at (x ∷ rows) zero row e = cc
first_at (x ∷ rows) (suc i) row e = first_at rows i row e

-- where a row is found at a place, the place is within
pub holds_within : (rows : List KeyValue) (i key : ℕ) → holds_key key (drop i rows) ≡ true → i < length rows
holds_within [] zero key e = absurd (false≢true e)
holds_within [] (suc i) key e = absurd (false≢true e)
holds_within (row ∷ rows) zero key e = omega arith
holds_within (row ∷ rows) (suc i) key e = omega (arith, holds_within rows i key e)

-- the items after a place are those from it on, but for the first
pub drop_next : {T : Type 0} (xs : List T) (i : ℕ) → drop (suc i) xs ≡ drop 1 (drop i xs)
drop_next [] zero = refl
drop_next [] (suc i) = refl
drop_next (x ∷ xs) zero = refl
drop_next (x ∷ xs) (suc i) = drop_next xs i

module _ (rows : List KeyValue) (ascend : KeysAscend rows) (key i : ℕ) (below : take i rows ≡ filter (λ row. nat_lt row.key key) rows) (above : drop i rows ≡ filter (λ row. nat_le key row.key) rows) where
  splits : SplitsAtKey key (drop i rows) (filter (λ row. nat_lt key row.key) rows) (value_at key rows)
  splits = rw above (split_at_key key rows 0 ascend)

  -- the value that a look-up at the place finds
  pub found_value : (row : KeyValue) → slice_get rows i ≡ Some row → holds_key key (drop i rows) ≡ true → Some row.value ≡ value_at key rows
  found_value row is here = sym (first_at rows i row is) ∙ sym (splits.found here).1

  pub no_value : holds_key key (drop i rows) ≡ false → None ≡ value_at key rows
  no_value none = sym (splits.absent none).1

module _ (rows : List KeyValue) (ascend : KeysAscend rows) (write : KeyWrite) (i : ℕ) (below : take i rows ≡ filter (λ row. nat_lt row.key write.key) rows) (above : drop i rows ≡ filter (λ row. nat_le write.key row.key) rows) where
  -- where the key isn't there, its row is put in
  pub inserted : (value : List ℕ) → write.value ≡ Some value → holds_key write.key (drop i rows) ≡ false → insert rows i (record { key = write.key; value = value }) ≡ written rows write
  inserted value is none = rw (below, ((splits rows ascend write.key i below above).absent none).0, is) refl

  -- where it is there, its row is replaced
  pub replaced : (value : List ℕ) → write.value ≡ Some value → holds_key write.key (drop i rows) ≡ true → set rows i (record { key = write.key; value = value }) ≡ written rows write
  replaced value is here = let lt : i < length rows = holds_within rows i write.key here in rw (set_split rows i (record { key = write.key; value = value }) lt, drop_next rows i, below, ((splits rows ascend write.key i below above).found here).0, is) refl

  -- or taken out
  pub removed : write.value ≡ None → holds_key write.key (drop i rows) ≡ true → remove rows i ≡ written rows write
  removed is here = rw (drop_next rows i, below, ((splits rows ascend write.key i below above).found here).0, is) refl

  -- and where it isn't there, nothing need be taken out
  pub kept : write.value ≡ None → holds_key write.key (drop i rows) ≡ false → rows ≡ written rows write
  kept is none = sym (take-append-drop i rows) ∙ rw (below, ((splits rows ascend write.key i below above).absent none).0, is) refl

-- what a write's row and the rows after it are
ascends_with : (write : KeyWrite) (rows : List KeyValue) (low : ℕ) → low ≤ write.key → Ascend (write.key + 1) rows → Ascend low (row_of write ++ rows)
ascends_with write rows low le h = go write.value
  where
    go : (value : Option (List ℕ)) → Ascend low (row_of (record { key = write.key; value = value }) ++ rows)
    go (Some value) = (le, h)
    go None = ascends_from_lower rows low (write.key + 1) (omega arith) h

-- a write keeps the keys ascending
pub written_ascends : (rows : List KeyValue) (write : KeyWrite) (low : ℕ) → low ≤ write.key → Ascend low rows → Ascend low (written rows write)
written_ascends [] write low le h = ascends_with write [] low le tt
written_ascends (row ∷ rows) write low le h = elim (cases_lt row.key write.key) [
  | inl before ↦
      let step : written (row ∷ rows) write ≡ row ∷ written rows write = grind (arith, nat_tests) in
      rw step (h.0, written_ascends rows write (row.key + 1) (omega arith) h.1)
  | inr from ↦ from_key from
]
  where
    from_key : write.key ≤ row.key → Ascend low (written (row ∷ rows) write)
    from_key from =
        let none : filter (λ r. nat_lt r.key write.key) (row ∷ rows) ≡ [] = below_none write.key (row ∷ rows) row.key (omega arith, h.1) from in
        let others : filter (λ r. nat_lt write.key r.key) rows ≡ rows = above_all write.key rows (row.key + 1) h.1 (omega arith) in
        elim (cases_lt write.key row.key) [
          | inl past ↦
              let all : filter (λ r. nat_lt write.key r.key) (row ∷ rows) ≡ row ∷ rows = above_all write.key (row ∷ rows) row.key (omega arith, h.1) past in
              rw (none, all) (ascends_with write (row ∷ rows) low le (omega arith, h.1))
          | inr at ↦
              let all : filter (λ r. nat_lt write.key r.key) (row ∷ rows) ≡ rows = grind (arith, nat_tests, others) in
              rw (none, all) (ascends_with write rows low le (ascends_from_lower rows (write.key + 1) (row.key + 1) (omega arith) h.1))
        ]

-- so what a write leaves ascends
pub ascends_after : (rows : List KeyValue) (write : KeyWrite) → KeysAscend rows → (after : List KeyValue) → after ≡ written rows write → KeysAscend after
ascends_after rows write h after is = rw is (written_ascends rows write 0 (omega arith) h)
