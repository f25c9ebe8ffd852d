-- One round of a reading loop: the cell or record at its place, and then the rest.
use Rattle.std.proofs.Common.{◌≡◌, ℕ, suc, ◌+◌, ◌-◌, ◌*◌, ◌<◌, List, [], ◌∷◌, ◌++◌, Ok, Err, refl, sym, ap, ◌∙◌, arith}
use Rattle.std.proofs.lemmas.List.{append_assoc}
use Rattle.mp_cells.specs.declared.records.Record.{Record}
use Rattle.mp_redo.specs.Reading.{Read, and_then, cell_in, cells_in, record_at, records_at}

-- what was read so far, in front of what the rest gives
abbrev pub with_front : {X : Type 0} → List X → Read (List X) → Read (List X)
with_front front (Ok rest) = Ok (front ++ rest)
with_front front (Err place) = Err place

with_one_more : {X : Type 0} (front : List X) (x : X) (rest : Read (List X)) → with_front (front ++ x ∷ []) rest ≡ with_front front (and_then rest (λ xs. Ok (x ∷ xs)))
with_one_more front x (Ok rest) = ap Ok (append_assoc front (x ∷ []) rest)
with_one_more front x (Err place) = refl

module _ {X : Type 0} (cell_at : List ℕ → ℕ → Read X) (width : ℕ) (key : X → ℕ) where
  step : (count i least high at : ℕ) (bytes : List ℕ) → i < count
      → cells_in cell_at width key (count - i) least high bytes (at + width * i)
      ≡ and_then (cell_in cell_at key least high bytes (at + width * i)) (λ cell. and_then (cells_in cell_at width key (count - (i + 1)) (key cell + 1) high bytes (at + width * (i + 1))) (λ cells. Ok (cell ∷ cells)))
  step count i least high at bytes lt =
      let left : count - i ≡ suc (count - (i + 1)) = omega arith in
      let place : at + width * i + width ≡ at + width * (i + 1) = omega arith in
      rw (left, place) refl

  -- the cell has a fault: it is the first of all
  pub stops : (count i least high at : ℕ) (bytes : List ℕ) (cells : List X) (place : ℕ) (all : Read (List X)) → i < count
      → Err place ≡ cell_in cell_at key least high bytes (at + width * i)
      → with_front cells (cells_in cell_at width key (count - i) least high bytes (at + width * i)) ≡ all → Err place ≡ all
  stops count i least high at bytes cells place all lt fault so_far =
      ap (λ (r : Read X). with_front cells (and_then r (λ cell. and_then (cells_in cell_at width key (count - (i + 1)) (key cell + 1) high bytes (at + width * (i + 1))) (λ xs. Ok (cell ∷ xs))))) fault
      ∙ sym (ap (with_front cells) (step count i least high at bytes lt)) ∙ so_far

  -- the cell is one more
  pub next : (count i least high at : ℕ) (bytes : List ℕ) (cells made : List X) (cell : X) (bound : ℕ) (all : Read (List X)) → i < count
      → Ok cell ≡ cell_in cell_at key least high bytes (at + width * i) → made ≡ cells ++ cell ∷ [] → bound ≡ key cell + 1
      → with_front cells (cells_in cell_at width key (count - i) least high bytes (at + width * i)) ≡ all
      → with_front made (cells_in cell_at width key (count - (i + 1)) bound high bytes (at + width * (i + 1))) ≡ all
  next count i least high at bytes cells made cell bound all lt found is_made is_bound so_far =
      rw (is_made, is_bound) (with_one_more cells cell (cells_in cell_at width key (count - (i + 1)) (key cell + 1) high bytes (at + width * (i + 1)))
      ∙ ap (λ (r : Read X). with_front cells (and_then r (λ c. and_then (cells_in cell_at width key (count - (i + 1)) (key c + 1) high bytes (at + width * (i + 1))) (λ xs. Ok (c ∷ xs))))) found
      ∙ sym (ap (with_front cells) (step count i least high at bytes lt)) ∙ so_far)

-- the same of records, of which the rest also gives where it ends
abbrev pub with_records : List Record → Read (List Record × ℕ) → Read (List Record × ℕ)
with_records front (Ok rest) = Ok (front ++ rest.0, rest.1)
with_records front (Err place) = Err place

with_one_record : (front : List Record) (x : Record) (rest : Read (List Record × ℕ)) → with_records (front ++ x ∷ []) rest ≡ with_records front (and_then rest (λ xs. Ok (x ∷ xs.0, xs.1)))
with_one_record front x (Ok rest) = ap (λ (xs : List Record). Ok (xs, rest.1)) (append_assoc front (x ∷ []) rest.0)
with_one_record front x (Err place) = refl

records_step : (count i most llsn end : ℕ) (bytes : List ℕ) → i < count
    → records_at (count - i) most llsn bytes end ≡ and_then (record_at most llsn bytes end) (λ item. and_then (records_at (count - (i + 1)) most llsn bytes item.1) (λ rest. Ok (item.0 ∷ rest.0, rest.1)))
records_step count i most llsn end bytes lt =
    let left : count - i ≡ suc (count - (i + 1)) = omega arith in
    rw left refl

pub record_stops : (count i most llsn end : ℕ) (bytes : List ℕ) (items : List Record) (place : ℕ) (all : Read (List Record × ℕ)) → i < count
    → Err place ≡ record_at most llsn bytes end → with_records items (records_at (count - i) most llsn bytes end) ≡ all → Err place ≡ all
record_stops count i most llsn end bytes items place all lt fault so_far =
    ap (λ (r : Read (Record × ℕ)). with_records items (and_then r (λ item. and_then (records_at (count - (i + 1)) most llsn bytes item.1) (λ rest. Ok (item.0 ∷ rest.0, rest.1))))) fault
    ∙ sym (ap (with_records items) (records_step count i most llsn end bytes lt)) ∙ so_far

pub record_next : (count i most llsn end next : ℕ) (bytes : List ℕ) (items made : List Record) (item : Record) (all : Read (List Record × ℕ)) → i < count
    → Ok (item, next) ≡ record_at most llsn bytes end → made ≡ items ++ item ∷ [] → with_records items (records_at (count - i) most llsn bytes end) ≡ all
    → with_records made (records_at (count - (i + 1)) most llsn bytes next) ≡ all
record_next count i most llsn end next bytes items made item all lt found is_made so_far =
    rw is_made (with_one_record items item (records_at (count - (i + 1)) most llsn bytes next)
    ∙ ap (λ (r : Read (Record × ℕ)). with_records items (and_then r (λ x. and_then (records_at (count - (i + 1)) most llsn bytes x.1) (λ rest. Ok (x.0 ∷ rest.0, rest.1))))) found
    ∙ sym (ap (with_records items) (records_step count i most llsn end bytes lt)) ∙ so_far)
