-- How a script is written.
use Rattle.std.specs.Prelude.{ℕ, List, [], ◌∷◌, ◌++◌, map, codes}
use Rattle.std.specs.List.{flat_map, join_with_byte}
use Rattle.std.specs.Fmt.{decimal}
use Rattle.mp_script.specs.declared.statements.Stmt.{Stmt}
use Rattle.mp_script.specs.declared.statements.Stmt.TheVariants.{Begin, Get, Put, Del, Copy, Scan, Commit, Rollback}
use Rattle.mp_script.specs.declared.statements.Line.{Line}
use Rattle.mp_script.specs.declared.statements.SessionOn.{SessionOn}
use Rattle.mp_script.specs.declared.statements.Script.{Script}

-- the name of a session: the letter s and its number
abbrev pub name_text : ℕ → List ℕ
name_text session = 115 ∷ decimal session

-- the words of the first line
abbrev pub header_line_words : ℕ → List (List ℕ)
header_line_words primaries = codes "primaries" ∷ decimal primaries ∷ []

-- the words of a line that declares a session
abbrev pub session_words : SessionOn → List (List ℕ)
session_words s = codes "session" ∷ name_text s.session ∷ codes "on" ∷ decimal s.primary ∷ []

-- the words of a statement, without its session's name
abbrev pub stmt_words : Stmt → List (List ℕ)
stmt_words Begin = codes "begin" ∷ []
stmt_words (Get key) = codes "get" ∷ decimal key ∷ []
stmt_words (Put key value) = codes "put" ∷ decimal key ∷ value ∷ []
stmt_words (Del key) = codes "del" ∷ decimal key ∷ []
stmt_words (Copy from to) = codes "copy" ∷ decimal from ∷ decimal to ∷ []
stmt_words (Scan low most) = codes "scan" ∷ decimal low ∷ decimal most ∷ []
stmt_words Commit = codes "commit" ∷ []
stmt_words Rollback = codes "rollback" ∷ []

-- the words of a statement's line
abbrev pub stmt_line_words : Line → List (List ℕ)
stmt_line_words line = name_text line.session ∷ stmt_words line.stmt

-- words with a space between each two
abbrev pub words_text : List (List ℕ) → List ℕ
words_text words = join_with_byte 32 words

-- words with a space before each
abbrev pub spaced : List (List ℕ) → List ℕ
spaced words = flat_map (λ word. 32 ∷ word) words

-- a statement's line
abbrev pub line_text : Line → List ℕ
line_text line = words_text (stmt_line_words line)

-- lines, each ended by the byte 10
abbrev pub lines_text : List (List ℕ) → List ℕ
lines_text lines = flat_map (λ line. line ++ 10 ∷ []) lines

-- the first line, the sessions, the statements
abbrev pub script_lines : Script → List (List ℕ)
script_lines script = words_text (header_line_words script.primaries) ∷ (map (λ s. words_text (session_words s)) script.sessions.items ++ map line_text script.lines.items)

-- the text of a script
abbrev pub script_text : Script → List ℕ
script_text script = lines_text (script_lines script)
