-- How lines and words are run apart, and what words mean: names, numbers, and statements behind their session's name.
use Rattle.std.specs.Prelude.{◌+◌, ◌==◌, ◌<◌, ◌≤◌, ◌^◌, ◌&&◌, ◌||◌, not, nat_lt, nat_le, ℕ, length, List, [], ◌∷◌, Bool, false, Option, Some, None, Result, Ok, Err, codes, if◌then◌else◌, IsTrue, true}
use Rattle.std.specs.Str.{bytes_eq}
use Rattle.std.specs.List.{list_all, slice_split}
use Rattle.std.specs.Char.{is_ascii_digit}
use Rattle.std.specs.Str.Parse.{digits_value}
use Rattle.mp_model.specs.Values.{is_value}
use Rattle.mp_script.specs.declared.statements.Stmt.{Stmt}
use Rattle.mp_script.specs.declared.statements.Stmt.TheVariants.{Begin, Get, Put, Del, Copy, Scan, Commit, Rollback}

-- the words of a line, which each single space parts
abbrev pub words_of : List ℕ → List (List ℕ)
words_of line = slice_split (λ b. b == 32) line

-- a line is skipped where it is empty or begins with `#`
abbrev pub is_skipped : List ℕ → Bool
is_skipped [] = true
is_skipped (first ∷ rest) = first == 35

-- a kept line: its number, from 1, and its words
pub record Kept : Type 0 where
  pub number : ℕ
  pub words : List (List ℕ)

-- the kept ones of these lines, of which the first has that number
abbrev pub kept_from : ℕ → List (List ℕ) → List Kept
kept_from number [] = []
kept_from number (line ∷ lines) =
    if is_skipped line then kept_from (number + 1) lines
    else record { number = number; words = words_of line } ∷ kept_from (number + 1) lines

-- the kept lines of a script: the byte 10 parts its lines
abbrev pub kept_lines : List ℕ → List Kept
kept_lines bytes = kept_from 1 (slice_split (λ b. b == 10) bytes)

-- what stands behind the letter s in a session's name: one or more digits. Other words are no names
abbrev pub name_digits : List ℕ → Option (List ℕ)
name_digits [] = None
name_digits (letter ∷ digits) = if letter == 115 && (nat_lt 0 (length digits) && list_all is_ascii_digit digits) then Some digits else None

-- digits that don't begin with a 0 that another follows
abbrev pub is_numeral : List ℕ → Bool
is_numeral [] = false
is_numeral (first ∷ rest) = (not (first == 48) || length rest == 0) && list_all is_ascii_digit (first ∷ rest)

-- the number that a word is: `0`, or digits that begin with 1 to 9, of at most 4294967295
abbrev pub word_number : List ℕ → Option ℕ
word_number word = if is_numeral word && nat_lt (digits_value 10 word) (2 ^ 32) then Some (digits_value 10 word) else None

-- the faults, by their numbers
abbrev pub bad_header : ℕ
bad_header = 1

abbrev pub unknown_word : ℕ
unknown_word = 2

abbrev pub bad_number : ℕ
bad_number = 3

abbrev pub bad_value : ℕ
bad_value = 4

abbrev pub unknown_session : ℕ
unknown_session = 5

abbrev pub no_transaction : ℕ
no_transaction = 6

abbrev pub open_twice : ℕ
open_twice = 7

abbrev pub too_many : ℕ
too_many = 8

abbrev pub too_long : ℕ
too_long = 9

-- a statement of a verb alone
abbrev pub bare_stmt : List ℕ → Result Stmt ℕ
bare_stmt verb =
    if bytes_eq verb (codes "begin") then Ok Begin
    else if bytes_eq verb (codes "commit") then Ok Commit
    else if bytes_eq verb (codes "rollback") then Ok Rollback
    else Err unknown_word

-- a statement of that key
abbrev pub keyed : (ℕ → Stmt) → Option ℕ → Result Stmt ℕ
keyed stmt (Some key) = Ok (stmt key)
keyed stmt None = Err bad_number

-- a statement of a verb and a key
abbrev pub key_stmt : List ℕ → List ℕ → Result Stmt ℕ
key_stmt verb word =
    if bytes_eq verb (codes "get") then keyed Get (word_number word)
    else if bytes_eq verb (codes "del") then keyed Del (word_number word)
    else Err unknown_word

-- `put` with a key and a value: the key is looked at first
abbrev pub put_stmt : Option ℕ → List ℕ → Result Stmt ℕ
put_stmt None word = Err bad_number
put_stmt (Some key) word = if is_value word then Ok (Put key word) else Err bad_value

-- `copy` with two keys
abbrev pub copy_stmt : Option ℕ → Option ℕ → Result Stmt ℕ
copy_stmt None to = Err bad_number
copy_stmt (Some from) None = Err bad_number
copy_stmt (Some from) (Some to) = Ok (Copy from to)

-- `scan` with a key and how many rows it asks for, at most 100
abbrev pub scan_stmt : Option ℕ → Option ℕ → Result Stmt ℕ
scan_stmt None most = Err bad_number
scan_stmt (Some low) None = Err bad_number
scan_stmt (Some low) (Some most) = if nat_le most 100 then Ok (Scan low most) else Err too_many

-- a statement of a verb and two words
abbrev pub pair_stmt : List ℕ → List ℕ → List ℕ → Result Stmt ℕ
pair_stmt verb first second =
    if bytes_eq verb (codes "put") then put_stmt (word_number first) second
    else if bytes_eq verb (codes "copy") then copy_stmt (word_number first) (word_number second)
    else if bytes_eq verb (codes "scan") then scan_stmt (word_number first) (word_number second)
    else Err unknown_word

-- the statement that words say, or the first fault in them: the verb and its count of words, then numbers from left to
-- right, then how many rows, then the value
abbrev pub stmt_of : List (List ℕ) → Result Stmt ℕ
stmt_of [] = Err unknown_word
stmt_of (verb ∷ []) = bare_stmt verb
stmt_of (verb ∷ first ∷ []) = key_stmt verb first
stmt_of (verb ∷ first ∷ second ∷ []) = pair_stmt verb first second
stmt_of (verb ∷ first ∷ second ∷ third ∷ rest) = Err unknown_word

-- a statement whose keys are below 2^32, whose value is one, and that asks for at most 100 rows
abbrev pub IsStmt : Stmt → Type 0
IsStmt Begin = Unit {0}
IsStmt (Get key) = key < 2 ^ 32
IsStmt (Put key value) = (key < 2 ^ 32) × IsTrue (is_value value)
IsStmt (Del key) = key < 2 ^ 32
IsStmt (Copy from to) = (from < 2 ^ 32) × (to < 2 ^ 32)
IsStmt (Scan low most) = (low < 2 ^ 32) × (most ≤ 100)
IsStmt Commit = Unit {0}
IsStmt Rollback = Unit {0}
