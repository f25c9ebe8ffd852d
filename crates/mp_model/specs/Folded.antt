-- Commits folded into rows.
use Rattle.std.specs.Prelude.{ℕ, ◌+◌, ◌≤◌, ◌==◌, nat_lt, nat_le, if◌then◌else◌, Bool, false, List, [], ◌∷◌, ◌++◌, Option, Some, None, filter}
use Rattle.std.specs.List.{flat_map}
use Rattle.mp_model.specs.declared.key_value.KeyValue.{KeyValue}
use Rattle.mp_model.specs.declared.key_value.KeyWrite.{KeyWrite}
use Rattle.mp_model.specs.declared.histories.Commit.{Commit}

-- the row that a write leaves: none where it deletes
abbrev pub row_of : KeyWrite → List KeyValue
row_of write = left write.key write.value
  where
    left : ℕ → Option (List ℕ) → List KeyValue
    left key (Some value) = record { key = key; value = value } ∷ []
    left key None = []

-- the rows with that key set or gone
abbrev pub written : List KeyValue → KeyWrite → List KeyValue
written rows write = filter (λ row. nat_lt row.key write.key) rows ++ (row_of write ++ filter (λ row. nat_lt write.key row.key) rows)

-- the rows with these writes, one after another
abbrev pub over : List KeyValue → List KeyWrite → List KeyValue
over rows [] = rows
over rows (write ∷ writes) = over (written rows write) writes

-- the writes of the commits at or below a timestamp
abbrev pub writes_up_to : List Commit → ℕ → List KeyWrite
writes_up_to commits view = flat_map (λ commit. commit.writes.items) (filter (λ commit. nat_le commit.cts view) commits)

-- the rows that a view shows: the opening's with the commits at or below it
abbrev pub before : List KeyValue → List Commit → ℕ → List KeyValue
before rows commits view = over rows (writes_up_to commits view)

-- the value at a key
abbrev pub value_at : ℕ → List KeyValue → Option (List ℕ)
value_at key [] = None
value_at key (row ∷ rows) = if row.key == key then Some row.value else value_at key rows

-- numbers that rise strictly, from a bound on
abbrev pub AscendsFrom : {T : Type 0} → (T → ℕ) → ℕ → List T → Type 0
AscendsFrom number low [] = Unit {0}
AscendsFrom number low (x ∷ xs) = (low ≤ number x) × AscendsFrom number (number x + 1) xs

-- keys rise strictly
abbrev pub KeysAscend : List KeyValue → Type 0
KeysAscend = AscendsFrom (λ row. row.key) 0

-- timestamps rise strictly
abbrev pub TimestampsAscend : List Commit → Type 0
TimestampsAscend = AscendsFrom (λ commit. commit.cts) 0

-- the first of these rows is there and has the key
abbrev pub holds_key : ℕ → List KeyValue → Bool
holds_key key [] = false
holds_key key (row ∷ rows) = row.key == key
