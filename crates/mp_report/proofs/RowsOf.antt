-- So many rows are the first so many words, each read as a row.
use Rattle.std.proofs.Common.{◌≡◌, ◌∙◌, ℕ, zero, suc, ◌<◌, ◌≤◌, List, [], ◌∷◌, length, take, drop, Option, Some, None, Bor, refl, sym, ap, arith}
use Rattle.std.specs.Option.{option_map, option_and_then}
use Rattle.mp_model.specs.Listed.{Listed}
use Rattle.mp_model.specs.declared.key_value.KeyValue.{KeyValue}
use Rattle.mp_report.specs.Shown.{texts}
use Rattle.mp_report.specs.Reading.{◌>>=◌, read_row, read_rows, read_all}

-- the rows and what is behind them
abbrev pub with_behind : List (List ℕ) → Option (List KeyValue) → Option (List KeyValue × List (List ℕ))
with_behind behind None = None
with_behind behind (Some rows) = Some (rows, behind)

abbrev pub joined_to : Option KeyValue → Option (List KeyValue) → Option (List KeyValue)
joined_to row rows = row >>= λ item. rows >>= λ items. Some (item ∷ items)

one_row : (row : Option KeyValue) (rows : Option (List KeyValue)) (behind : List (List ℕ))
    → (row >>= λ r. with_behind behind rows >>= λ found. Some (r ∷ found.0, found.1)) ≡ with_behind behind (joined_to row rows)
one_row None rows behind = refl
one_row (Some row) None behind = refl
one_row (Some row) (Some rows) behind = refl

pub rows_in_front : (count : ℕ) (words : List (Bor (List ℕ))) → count ≤ length words
    → read_rows count (texts words) ≡ with_behind (texts (drop count words)) (read_all read_row (texts (take count words)))
rows_in_front zero words room = refl
rows_in_front (suc count) [] room = absurd (omega arith)
rows_in_front (suc count) (word ∷ words) room = rw (rows_in_front count words (omega (arith, room))) (one_row (read_row word.now) _ _)

none_behind : (row : Option KeyValue)
    → option_and_then {T = KeyValue} {U = List KeyValue × List (List ℕ)} (λ r. option_and_then {T = List KeyValue × List (List ℕ)} (λ found. Some (r ∷ found.0, found.1)) None) row ≡ None
none_behind None = refl
none_behind (Some row) = refl

pub rows_short : (count : ℕ) (words : List (Bor (List ℕ))) → length words < count → read_rows count (texts words) ≡ None
rows_short zero words short = absurd (omega arith)
rows_short (suc count) [] short = refl
rows_short (suc count) (word ∷ words) short = rw (rows_short count words (omega (arith, short))) (none_behind (read_row word.now))

with_items : (found : Option (Listed KeyValue)) (rest : List (Bor (List ℕ)))
    → with_behind (texts rest) (option_map (λ rows. rows.items) found) ≡ option_map (λ rows. (rows.items, texts rest)) found
with_items None rest = refl
with_items (Some rows) rest = refl

pub found_rows : (count : ℕ) (words front rest : List (Bor (List ℕ))) (found : Option (Listed KeyValue)) → count ≤ length words → front ≡ take count words → rest ≡ drop count words
    → option_map (λ rows. rows.items) found ≡ read_all read_row (texts front) → option_map (λ rows. (rows.items, texts rest)) found ≡ read_rows count (texts words)
found_rows count words front rest found room f r are =
    sym (with_items found rest) ∙ ap (with_behind (texts rest)) are
    ∙ ap (λ ws. with_behind (texts rest) (read_all read_row (texts ws))) f ∙ ap (λ ws. with_behind (texts ws) (read_all read_row (texts (take count words)))) r
    ∙ sym (rows_in_front count words room)
