-- How what a recovery made is printed.
use Rattle.std.specs.Prelude.{ℕ, List, [], ◌∷◌, ◌++◌, codes, decimal}
use Rattle.mp_report.specs.Lines.{line}
use Rattle.mp_report.specs.Rows.{rows_text}
use Rattle.mp_recover.specs.declared.recovering.Recovered.{Recovered}

-- the first line: the new base, how many commits are kept, and how many rows were rolled back
abbrev pub recovered_words : ℕ → ℕ → ℕ → List (List ℕ)
recovered_words base kept undone =
    codes "recovered" ∷ codes "base" ∷ decimal base ∷ codes "kept" ∷ decimal kept ∷ codes "undone" ∷ decimal undone ∷ []

-- the text of a recovery: its line, and the rows
abbrev pub recovered_text : Recovered → List ℕ
recovered_text made = line (recovered_words made.base made.kept made.undone) ++ rows_text made.rows.items
