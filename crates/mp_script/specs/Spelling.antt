-- Which bytes are which script.
use Rattle.std.specs.Prelude.{◌≡◌, ℕ, ◌+◌, ◌<◌, ◌≤◌, List, [], ◌∷◌, map, length, Bool, true, false, Some, Result, Ok, Err}
use Rattle.mp_script.specs.declared.statements.Stmt.{Stmt}
use Rattle.mp_script.specs.declared.statements.Stmt.TheVariants.{Begin, Get, Put, Del, Copy, Scan, Commit, Rollback}
use Rattle.mp_script.specs.declared.statements.Line.{Line}
use Rattle.mp_script.specs.declared.statements.SessionOn.{SessionOn}
use Rattle.mp_script.specs.declared.statements.Script.{Script}
use Rattle.mp_script.specs.declared.entries.Entry.{Entry}
use Rattle.mp_script.specs.declared.entries.Entry.TheVariants.{Session, Statement}
use Rattle.mp_script.specs.declared.reading.ScriptRefusal.{ScriptRefusal}
use Rattle.mp_script.specs.declared.reading.ScriptRefusal.TheVariants.{Fault, Memory}
use Rattle.mp_script.specs.Text.{header_line_words}
use Rattle.mp_script.specs.Words.{IsStmt, Kept, kept_lines}
use Rattle.mp_script.specs.Entries.{Said, nothing_said, with_entry, said_after, entry_words, is_declared, statements, has_open_trx}
use Rattle.mp_script.specs.Faults.{FaultAt, script_fault}

-- a statement may stand where a transaction is open, or where none is
abbrev pub MayStand : Bool → Stmt → Type 0
MayStand false Begin = Unit {0}
MayStand false (Get key) = ⊥
MayStand false (Put key value) = ⊥
MayStand false (Del key) = ⊥
MayStand false (Copy from to) = ⊥
MayStand false (Scan low most) = ⊥
MayStand false Commit = ⊥
MayStand false Rollback = ⊥
MayStand true Begin = ⊥
MayStand true (Get key) = Unit {0}
MayStand true (Put key value) = Unit {0}
MayStand true (Del key) = Unit {0}
MayStand true (Copy from to) = Unit {0}
MayStand true (Scan low most) = Unit {0}
MayStand true Commit = Unit {0}
MayStand true Rollback = Unit {0}

-- a session may be declared below those above
pub record MayDeclare (said : Said) (s : SessionOn) : Type 0 where
  pub session_low : 1 ≤ s.session
  pub session_high : s.session ≤ 64
  pub primary_low : 1 ≤ s.primary
  pub primary_high : s.primary ≤ said.primaries
  pub new : is_declared said.sessions s.session ≡ false

-- a statement may be said below those above: its session is declared, it has the session's next number, keys and
-- values are within their limits, its transaction is open or is to be, and fewer than 10,000 stand above
pub record MaySay (said : Said) (line : Line) : Type 0 where
  pub declared : is_declared said.sessions line.session ≡ true
  pub number : line.index ≡ statements said.lines line.session + 1
  pub within : IsStmt line.stmt
  pub stands : MayStand (has_open_trx said.lines line.session) line.stmt
  pub room : length said.lines < 10000

-- a line may say this below those above
abbrev pub EntryFits : Said → Entry → Type 0
EntryFits said (Session s) = MayDeclare said s
EntryFits said (Statement line) = MaySay said line

-- each fits what stands above it
abbrev pub AllFit : Said → List Entry → Type 0
AllFit said [] = Unit {0}
AllFit said (entry ∷ entries) = EntryFits said entry × AllFit (with_entry said entry) entries

-- what a script says
abbrev pub said_of : Script → Said
said_of script = record { primaries = script.primaries; sessions = script.sessions.items; lines = script.lines.items }

-- the kept lines are these: a header, and entries that fit and add up to the script
pub record SpellsBy (kept : List Kept) (script : Script) (entries : List Entry) : Type 0 where
  pub primaries_low : 1 ≤ script.primaries
  pub primaries_high : script.primaries ≤ 8
  pub words : map (λ k. k.words) kept ≡ header_line_words script.primaries ∷ map entry_words entries
  pub fit : AllFit (nothing_said script.primaries) entries
  pub whole : said_after (nothing_said script.primaries) entries ≡ said_of script

-- the bytes spell the script: they aren't too many, and their kept lines are its header and entries
pub record Spells (bytes : List ℕ) (script : Script) : Type 0 where
  pub size : length bytes ≤ 1048576
  pub entries : List Entry
  pub spelled : SpellsBy (kept_lines bytes) script entries

-- some bytes spell the script
abbrev pub IsSpelled : Script → Type 0
IsSpelled script = (bytes : List ℕ) × Spells bytes script

-- the same script, whatever room its lists have
pub record IsSameScript (wanted read : Script) : Type 0 where
  pub primaries : read.primaries ≡ wanted.primaries
  pub sessions : read.sessions.items ≡ wanted.sessions.items
  pub lines : read.lines.items ≡ wanted.lines.items

-- the answer is that script, or there was no memory
abbrev pub IsRead : Script → Result Script ScriptRefusal → Type 0
IsRead wanted (Ok read) = IsSameScript wanted read
IsRead wanted (Err (Fault fault line)) = ⊥
IsRead wanted (Err Memory) = Unit {0}

-- the answer is that fault, or there was no memory
abbrev pub IsScriptRefused : FaultAt → Result Script ScriptRefusal → Type 0
IsScriptRefused found (Ok read) = ⊥
IsScriptRefused found (Err (Fault fault line)) = (found.fault ≡ fault) × (found.line ≡ line)
IsScriptRefused found (Err Memory) = Unit {0}

-- a refusal names the first fault of the bytes, or the want of memory
abbrev pub NamesScriptFault : List ℕ → ScriptRefusal → Type 0
NamesScriptFault bytes (Fault fault line) = script_fault bytes ≡ Some (record { fault = fault; line = line })
NamesScriptFault bytes Memory = Unit {0}
