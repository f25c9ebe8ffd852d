-- What lines say, and what stands above a line.
use Rattle.std.specs.Prelude.{◌==◌, ℕ, List, [], ◌∷◌, ◌++◌, Bool, true, false, count_by, if◌then◌else◌}
use Rattle.std.specs.List.{list_any}
use Rattle.mp_script.specs.declared.statements.Stmt.{Stmt}
use Rattle.mp_script.specs.declared.statements.Stmt.TheVariants.{Begin, Get, Put, Del, Copy, Scan, Commit, Rollback}
use Rattle.mp_script.specs.declared.statements.Line.{Line}
use Rattle.mp_script.specs.declared.statements.SessionOn.{SessionOn}
use Rattle.mp_script.specs.declared.entries.Entry.{Entry}
use Rattle.mp_script.specs.declared.entries.Entry.TheVariants.{Session, Statement}
use Rattle.mp_script.specs.Text.{session_words, stmt_line_words}

-- the words of what a line says
abbrev pub entry_words : Entry → List (List ℕ)
entry_words (Session s) = session_words s
entry_words (Statement line) = stmt_line_words line

-- what the lines above say: the number of primaries, the sessions and the statements
pub record Said : Type 0 where
  pub primaries : ℕ
  pub sessions : List SessionOn
  pub lines : List Line

-- below the first line
abbrev pub nothing_said : ℕ → Said
nothing_said primaries = record { primaries = primaries; sessions = []; lines = [] }

-- below one more line
abbrev pub with_entry : Said → Entry → Said
with_entry said (Session s) = record { primaries = said.primaries; sessions = said.sessions ++ s ∷ []; lines = said.lines }
with_entry said (Statement line) = record { primaries = said.primaries; sessions = said.sessions; lines = said.lines ++ line ∷ [] }

-- below these lines
abbrev pub said_after : Said → List Entry → Said
said_after said [] = said
said_after said (entry ∷ entries) = said_after (with_entry said entry) entries

-- whether a session is declared
abbrev pub is_declared : List SessionOn → ℕ → Bool
is_declared sessions session = list_any (λ s. session == s.session) sessions

-- how many statements a session has
abbrev pub statements : List Line → ℕ → ℕ
statements lines session = count_by (λ line. line.session == session) lines

-- behind a statement a transaction is open, unless it ends one
abbrev pub open_after : Stmt → Bool
open_after Begin = true
open_after (Get key) = true
open_after (Put key value) = true
open_after (Del key) = true
open_after (Copy from to) = true
open_after (Scan low most) = true
open_after Commit = false
open_after Rollback = false

-- whether a session's transaction is open behind these statements, where it was or wasn't before them
abbrev pub open_behind : Bool → List Line → ℕ → Bool
open_behind open_now [] session = open_now
open_behind open_now (line ∷ lines) session = open_behind (if line.session == session then open_after line.stmt else open_now) lines session

-- whether a session's transaction is open
abbrev pub has_open_trx : List Line → ℕ → Bool
has_open_trx lines session = open_behind false lines session
