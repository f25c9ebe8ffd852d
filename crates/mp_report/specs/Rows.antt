-- How the rows of a store are printed.
use Rattle.std.specs.Prelude.{ℕ, List, [], ◌∷◌, ◌++◌, length, map, Some, codes, decimal}
use Rattle.mp_model.specs.declared.key_value.KeyValue.{KeyValue}
use Rattle.mp_report.specs.Lines.{line, text_of_lines}
use Rattle.mp_report.specs.Pages.{held_words}

-- the line of a row
abbrev pub present_words : KeyValue → List (List ℕ)
present_words row = held_words row.key (Some row.value)

-- the last line: how many rows there are
abbrev pub rows_end_words : ℕ → List (List ℕ)
rows_end_words count = codes "end" ∷ codes "rows" ∷ decimal count ∷ []

-- the text of rows: a line for each, and how many they are
abbrev pub rows_text : List KeyValue → List ℕ
rows_text rows = text_of_lines (map present_words rows) ++ line (rows_end_words (length rows))
