-- The transactions of a script by their `begin` lines.
use Rattle.std.specs.Prelude.{List, Some, map, filter}
use Rattle.mp_model.specs.declared.ids.TrxName.{TrxName}
use Rattle.mp_script.specs.declared.statements.Line.{Line}
use Rattle.mp_script.specs.Transactions.{begins}

-- a line's transaction, where the line is a `begin`
abbrev pub name_of_line : Line → TrxName
name_of_line line = record { session = line.session; first = line.index }

-- the transactions, each named by its `begin`, in the order of those lines
abbrev pub begin_names : List Line → List TrxName
begin_names lines = map name_of_line (filter (λ line. begins (Some line.stmt)) lines)
