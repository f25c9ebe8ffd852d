-- Which sessions have all their statements answered.
use Rattle.std.specs.Prelude.{Bool, List, is_none}
use Rattle.std.specs.List.{list_all}
use Rattle.mp_book.specs.declared.session.Session.{Session}
use Rattle.mp_book.specs.Stages.{next_line}

-- no statement of a session is left; its transaction may be open
abbrev pub has_no_line : Session → Bool
has_no_line s = is_none (next_line s)

-- no session has one left
abbrev pub have_no_line : List Session → Bool
have_no_line sessions = list_all has_no_line sessions
