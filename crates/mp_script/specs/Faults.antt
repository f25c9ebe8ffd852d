-- What bytes say: a script, or the first fault with its line.
use Rattle.std.specs.Prelude.{◌==◌, ◌+◌, not, nat_lt, nat_le, ℕ, List, [], ◌∷◌, length, take, count_by, Bool, Option, Some, None, Result, Ok, Err, codes, if◌then◌else◌}
use Rattle.std.specs.Result.{result_err}
use Rattle.std.specs.Str.{bytes_eq}
use Rattle.mp_script.specs.declared.statements.Stmt.{Stmt}
use Rattle.mp_script.specs.declared.statements.Stmt.TheVariants.{Begin, Get, Put, Del, Copy, Scan, Commit, Rollback}
use Rattle.mp_script.specs.declared.entries.Entry.{Entry}
use Rattle.mp_script.specs.declared.entries.Entry.TheVariants.{Session, Statement}
use Rattle.mp_script.specs.Words.{Kept, kept_lines, name_digits, word_number, stmt_of, bad_header, unknown_word, bad_number, unknown_session, no_transaction, open_twice, too_many, too_long}
use Rattle.mp_script.specs.Entries.{Said, nothing_said, with_entry, is_declared, statements, has_open_trx}

-- the number of primaries, 1 to 8
abbrev pub primaries_of : Option ℕ → Result ℕ ℕ
primaries_of None = Err bad_number
primaries_of (Some primaries) = if primaries == 0 then Err bad_number else if nat_le primaries 8 then Ok primaries else Err too_many

-- the first kept line: two words of which the first is `primaries`, then the number
abbrev pub primaries_in : List (List ℕ) → Result ℕ ℕ
primaries_in [] = Err bad_header
primaries_in (word ∷ []) = Err bad_header
primaries_in (word ∷ number ∷ []) = if bytes_eq word (codes "primaries") then primaries_of (word_number number) else Err bad_header
primaries_in (word ∷ number ∷ more ∷ rest) = Err bad_header

-- a declared session's primary, 1 to those that there are; then the session mustn't be declared above
abbrev pub on_primary : Said → ℕ → Option ℕ → Result Entry ℕ
on_primary said session None = Err bad_number
on_primary said session (Some primary) =
    if primary == 0 then Err bad_number
    else if nat_lt said.primaries primary then Err bad_number
    else if is_declared said.sessions session then Err unknown_session
    else Ok (Session (record { session = session; primary = primary }))

-- a declared session's number, 1 to 64, before its primary
abbrev pub new_session : Said → Option ℕ → Option ℕ → Result Entry ℕ
new_session said None primary = Err bad_number
new_session said (Some session) primary =
    if session == 0 then Err bad_number
    else if nat_le session 64 then on_primary said session primary
    else Err too_many

-- a declared session's name, before its number
abbrev pub declared_name : Said → Option (List ℕ) → List ℕ → Result Entry ℕ
declared_name said None primary = Err unknown_word
declared_name said (Some digits) primary = new_session said (word_number digits) (word_number primary)

-- the words behind `session`: a name, `on` and a primary's number
abbrev pub session_entry : Said → List (List ℕ) → Result Entry ℕ
session_entry said [] = Err unknown_word
session_entry said (name ∷ []) = Err unknown_word
session_entry said (name ∷ on ∷ []) = Err unknown_word
session_entry said (name ∷ on ∷ primary ∷ []) = if bytes_eq on (codes "on") then declared_name said (name_digits name) primary else Err unknown_word
session_entry said (name ∷ on ∷ primary ∷ more ∷ rest) = Err unknown_word

-- whether a statement may stand where a transaction is open, or where none is
abbrev pub may_stand : Bool → Stmt → Bool
may_stand open_now Begin = not open_now
may_stand open_now (Get key) = open_now
may_stand open_now (Put key value) = open_now
may_stand open_now (Del key) = open_now
may_stand open_now (Copy from to) = open_now
may_stand open_now (Scan low most) = open_now
may_stand open_now Commit = open_now
may_stand open_now Rollback = open_now

-- the fault of a statement that may not stand: a second `begin`, or a statement outside a transaction
abbrev pub misplaced : Bool → ℕ
misplaced open_now = if open_now then open_twice else no_transaction

-- a session's next statement: first its transaction, then the count of statements
abbrev pub next_line : Said → ℕ → Result Stmt ℕ → Result Entry ℕ
next_line said session (Err fault) = Err fault
next_line said session (Ok stmt) =
    if may_stand (has_open_trx said.lines session) stmt then
    (if nat_lt (length said.lines) 10000 then Ok (Statement (record { session = session; index = statements said.lines session + 1; stmt = stmt }))
    else Err too_many)
    else Err (misplaced (has_open_trx said.lines session))

-- a statement's session must be declared above, before its other words are looked at
abbrev pub in_session : Said → Option ℕ → List (List ℕ) → Result Entry ℕ
in_session said None words = Err bad_number
in_session said (Some session) words = if is_declared said.sessions session then next_line said session (stmt_of words) else Err unknown_session

-- a statement's first word is a name
abbrev pub stmt_entry : Said → Option (List ℕ) → List (List ℕ) → Result Entry ℕ
stmt_entry said None words = Err unknown_word
stmt_entry said (Some digits) words = in_session said (word_number digits) words

-- what a line says below those above, or its first fault
abbrev pub entry_of : Said → List (List ℕ) → Result Entry ℕ
entry_of said [] = Err unknown_word
entry_of said (first ∷ rest) = if bytes_eq first (codes "session") then session_entry said rest else stmt_entry said (name_digits first) rest

-- a fault and the number of its line, from 1
pub record FaultAt : Type 0 where
  pub fault : ℕ
  pub line : ℕ

-- goes on with what a line gives, or stops at its fault
abbrev pub at_line : {X Y : Type 0} → ℕ → Result X ℕ → (X → Result Y FaultAt) → Result Y FaultAt
at_line line (Ok x) next = next x
at_line line (Err fault) next = Err (record { fault = fault; line = line })

-- what is said below these lines too, or the first faulty one
abbrev pub said_below : Said → List Kept → Result Said FaultAt
said_below said [] = Ok said
said_below said (kept ∷ rest) = at_line kept.number (entry_of said kept.words) (λ entry. said_below (with_entry said entry) rest)

-- what all kept lines say: the first has the number of primaries
abbrev pub said_by : List Kept → Result Said FaultAt
said_by [] = Err (record { fault = bad_header; line = 1 })
said_by (kept ∷ rest) = at_line kept.number (primaries_in kept.words) (λ primaries. said_below (nothing_said primaries) rest)

-- the number of the line of the byte behind the first so many
abbrev pub line_behind : ℕ → List ℕ → ℕ
line_behind most bytes = count_by (λ b. b == 10) (take most bytes) + 1

-- what bytes say, of at most so many
abbrev pub said_within : ℕ → List ℕ → Result Said FaultAt
said_within most bytes =
    if nat_le (length bytes) most then said_by (kept_lines bytes)
    else Err (record { fault = too_long; line = line_behind most bytes })

-- the most bytes of a script
abbrev pub most_script_bytes : ℕ
most_script_bytes = 1048576

-- the first fault of bytes, where they have one
abbrev pub script_fault : List ℕ → Option FaultAt
script_fault bytes = result_err (said_within most_script_bytes bytes)
