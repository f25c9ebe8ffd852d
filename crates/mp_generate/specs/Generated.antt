-- A large script from a number.
use Rattle.std.specs.Prelude.{◌≡◌, ℕ, ◌+◌, ◌*◌, ◌-◌, ◌/◌, ◌%◌, ◌<◌, List, [], ◌∷◌, ◌++◌, map}
use Rattle.std.specs.List.{flat_map}
use Rattle.std.specs.Fmt.{decimal}
use Rattle.mp_machine.specs.Lists.{IsIn}
use Rattle.mp_script.specs.InTheirPart.{count_from}
use Rattle.mp_script.specs.declared.statements.Stmt.{Stmt}
use Rattle.mp_script.specs.declared.statements.Stmt.TheVariants as stmts
use Rattle.mp_script.specs.declared.statements.Line.{Line}
use Rattle.mp_script.specs.declared.statements.SessionOn.{SessionOn}
use Rattle.mp_script.specs.declared.statements.Script.{Script}
use Rattle.mp_generate.specs.declared.making.Form.{Form}
use Rattle.mp_generate.specs.declared.making.Form.TheVariants.{Begin, Put, Get, Commit}

-- The key of a session that a round is about. A session's keys are the first 32 of its thousand, and a round goes on by 7:
-- 7 and 32 have no common factor, so 32 rounds in a row have each of them
abbrev pub key_of_round : ℕ → ℕ → ℕ → ℕ
key_of_round number round session = 1000 * session + (number % 32 + 7 * round) % 32

-- the session behind one of 1 to 16, in a ring
abbrev pub next_session : ℕ → ℕ
next_session session = session % 16 + 1

-- the value that a session puts in a round, as `v3-47`
abbrev pub round_value : ℕ → ℕ → List ℕ
round_value session round = 118 ∷ (decimal session ++ 45 ∷ decimal round)

-- a session's four statements in a round, from 1
abbrev pub form_index : Form → ℕ
form_index Begin = 1
form_index Put = 2
form_index Get = 3
form_index Commit = 4

-- a session's statement of a form in a round: it puts a key of its own, and gets one of the next session
abbrev pub form_stmt : ℕ → ℕ → Form → ℕ → Stmt
form_stmt number round Begin session = stmts.Begin
form_stmt number round Put session = stmts.Put (key_of_round number round session) (round_value session round)
form_stmt number round Get session = stmts.Get (key_of_round number round (next_session session))
form_stmt number round Commit session = stmts.Commit

-- its line: each round has four statements of the session
abbrev pub generated_line : ℕ → ℕ → Form → ℕ → Line
generated_line number round form session = record {
  session = session;
  index = 4 * (round - 1) + form_index form;
  stmt = form_stmt number round form session;
}

-- the three loops: for each of 47 rounds, for each form, for each of 16 sessions
abbrev pub form_lines : ℕ → ℕ → Form → List Line
form_lines number round form = map (generated_line number round form) (count_from 1 16)

abbrev pub round_lines : ℕ → ℕ → List Line
round_lines number round = flat_map (form_lines number round) (Begin ∷ Put ∷ Get ∷ Commit ∷ [])

abbrev pub generated_lines : ℕ → List Line
generated_lines number = flat_map (round_lines number) (count_from 1 47)

-- sixteen sessions, on the primaries 1 to 4 in turn
abbrev pub generated_session : ℕ → SessionOn
generated_session session = record { session = session; primary = (session - 1) % 4 + 1 }

abbrev pub generated_sessions : List SessionOn
generated_sessions = map generated_session (count_from 1 16)

-- THE SCRIPT of a number: four primaries, these sessions and these lines
pub record IsGenerated (number : ℕ) (script : Script) : Type 0 where
  pub primaries : script.primaries ≡ 4
  pub sessions : script.sessions.items ≡ generated_sessions
  pub lines : script.lines.items ≡ generated_lines number

-- a session's key: one of the first 32 of its thousand
pub record IsKeyOf (session key : ℕ) : Type 0 where
  pub thousand : key / 1000 ≡ session
  pub first : key % 1000 < 32

-- a statement writes no key but one of its session's
abbrev pub WritesItsOwn : ℕ → Stmt → Type 0
WritesItsOwn session stmts.Begin = Unit {0}
WritesItsOwn session (stmts.Get key) = Unit {0}
WritesItsOwn session (stmts.Put key value) = IsKeyOf session key
WritesItsOwn session (stmts.Del key) = IsKeyOf session key
WritesItsOwn session (stmts.Copy from to) = IsKeyOf session to
WritesItsOwn session (stmts.Scan low most) = Unit {0}
WritesItsOwn session stmts.Commit = Unit {0}
WritesItsOwn session stmts.Rollback = Unit {0}

-- a session puts the key in one of these lines
abbrev pub IsPutIn : List Line → ℕ → ℕ → Type 0
IsPutIn lines session key =
    (line : Line) × IsIn line lines × (line.session ≡ session) × (value : List ℕ) × (line.stmt ≡ stmts.Put key value)
