-- What the reader keeps while it reads.
use Rattle.std.specs.Prelude.{◌≡◌, ℕ, ◌≤◌, nat_le, List, map, length, true, false, slice_index_or}
use Rattle.std.specs.List.{list_all}
use Rattle.mp_script.specs.declared.statements.Line.{Line}
use Rattle.mp_script.specs.declared.statements.SessionOn.{SessionOn}
use Rattle.mp_script.specs.declared.drafts.Draft.{Draft}
use Rattle.mp_script.specs.declared.drafts.Tally.{Tally}
use Rattle.mp_script.specs.Entries.{Said, statements, has_open_trx}

-- the sessions that a map from sessions to primaries holds, in its order
abbrev pub sessions_of : List (ℕ × ℕ) → List SessionOn
sessions_of entries = map (λ e. record { session = e.0; primary = e.1 }) entries

-- what was said so far
abbrev pub said_in : Draft → Said
said_in draft = record { primaries = draft.primaries; sessions = sessions_of draft.sessions.entries; lines = draft.lines.items }

-- no statement, and no open transaction
abbrev pub no_tally : Tally
no_tally = record { statements = 0; has_open_trx = false }

-- a session's count of statements, and whether its transaction is open
abbrev pub tally_of : List Line → ℕ → Tally
tally_of lines session = record { statements = statements lines session; has_open_trx = has_open_trx lines session }

-- the tallies are those of the statements, and no session is above 64
pub record IsTallied (draft : Draft) : Type 0 where
  pub within : list_all (λ e. nat_le e.0 64) draft.sessions.entries ≡ true
  pub whole : length draft.tallies ≡ 65
  pub tallies : (session : ℕ) → session ≤ 64 → slice_index_or draft.tallies session no_tally ≡ tally_of draft.lines.items session
  pub room : length draft.lines.items ≤ 10000
