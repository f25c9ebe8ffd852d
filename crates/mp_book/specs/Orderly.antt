-- The statements of each session in their order.
use Rattle.std.specs.Prelude.{◌≡◌, ℕ, ◌+◌, ◌==◌, Bool, false, List, [], ◌∷◌, filter}
use Rattle.mp_script.specs.declared.statements.Line.{Line}
use Rattle.mp_script.specs.Entries.{open_after}
use Rattle.mp_script.specs.Spelling.{MayStand}

-- the statements of a session
abbrev pub session_lines : ℕ → List Line → List Line
session_lines session lines = filter (λ line. line.session == session) lines

-- each statement has the number after those before it, and may stand where a transaction is open behind them, or none is
abbrev pub AreInOrder : ℕ → Bool → List Line → Type 0
AreInOrder before open_now [] = Unit {0}
AreInOrder before open_now (line ∷ lines) = (line.index ≡ before + 1) × MayStand open_now line.stmt × AreInOrder (before + 1) (open_after line.stmt) lines

-- so it is in each session
abbrev pub IsOrderly : List Line → Type 0
IsOrderly lines = (session : ℕ) → AreInOrder 0 false (session_lines session lines)
