-- Which sessions have nothing left to do.
use Rattle.std.specs.Prelude.{Bool, true, false, List}
use Rattle.std.specs.List.{list_all}
use Rattle.mp_book.specs.declared.stage.Task.{Task}
use Rattle.mp_book.specs.declared.stage.Task.TheVariants.{Statement, Unprinted, Nothing}
use Rattle.mp_book.specs.declared.session.Session.{Session}
use Rattle.mp_book.specs.Stages.{task_of}

-- the task is nothing
abbrev pub is_no_task : Task → Bool
is_no_task (Statement line) = false
is_no_task Unprinted = false
is_no_task Nothing = true

-- a session has no statement left, and no transaction to roll back
abbrev pub has_no_task : Session → Bool
has_no_task s = is_no_task (task_of s)

-- no session has anything left
abbrev pub have_no_task : List Session → Bool
have_no_task sessions = list_all has_no_task sessions
