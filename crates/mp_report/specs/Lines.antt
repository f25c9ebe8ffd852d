-- Printed texts are lines, and lines are words.
use Rattle.std.specs.Prelude.{ℕ, List, [], ◌∷◌, ◌++◌}
use Rattle.std.specs.List.{flat_map}
pub use Rattle.mp_script.specs.Text.{spaced}

-- a line: words with a space between each two, ended by the byte 10
abbrev pub line : List (List ℕ) → List ℕ
line [] = 10 ∷ []
line (word ∷ words) = word ++ (spaced words ++ 10 ∷ [])

-- lines, one after another
abbrev pub text_of_lines : List (List (List ℕ)) → List ℕ
text_of_lines lines = flat_map line lines
