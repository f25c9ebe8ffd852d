-- One session with one transaction, for small examples.
use Rattle.std.specs.Prelude.{ℕ, false, List, [], ◌∷◌, None, Some}
use Rattle.mp_model.specs.declared.replies.Answer.{Answer}
use Rattle.mp_model.specs.declared.replies.Reply.{Reply}
use Rattle.mp_model.specs.declared.replies.Reply.TheVariants.{Began}
use Rattle.mp_model.specs.declared.ids.TrxName.{TrxName}
use Rattle.mp_script.specs.declared.statements.Line.{Line}
use Rattle.mp_script.specs.declared.statements.SessionOn.{SessionOn}
use Rattle.mp_script.specs.declared.statements.Stmt.{Stmt}
use Rattle.mp_script.specs.declared.statements.Stmt.TheVariants.{Begin, Put, Commit}
use Rattle.mp_cells.specs.declared.rows.Row.{Row}
use Rattle.mp_core_trx.specs.declared.part.Begun.{Begun}
use Rattle.mp_book.specs.declared.stage.Stage.{Stage}
use Rattle.mp_book.specs.declared.session.Session.{Session}

-- session 1 of primary 1 begins, puts 97 at key 7, and commits
abbrev pub stated_as : ℕ → Stmt → Line
stated_as index stmt = record { session = 1; index = index; stmt = stmt }

abbrev pub put_seven : Stmt
put_seven = Put 7 (97 ∷ [])

abbrev pub three_lines : List Line
three_lines = stated_as 1 Begin ∷ stated_as 2 put_seven ∷ stated_as 3 Commit ∷ []

abbrev pub one_on_one : List SessionOn
one_on_one = record { session = 1; primary = 1 } ∷ []

abbrev pub its_name : TrxName
its_name = record { session = 1; first = 1 }

abbrev pub its_begun : Begun
its_begun = record { id = record { node = 1; slot = 0; version = 1 }; view = 0 }

-- the row that its put replaced
abbrev pub row_seven : Row
row_seven = record { key = 7; value = None; writer = None; link = None }

-- the session, so many of its statements answered, at a stage, with these rows
abbrev pub session_with : ℕ → Stage → List Row → Session
session_with next stage formers = record {
  number = 1;
  lines = record { items = three_lines; spare = 0 };
  next = next;
  stage = stage;
  formers = record { items = formers; spare = 1 };
  restored = 0;
  waits = record { items = []; spare = 1 };
  tried = false;
}

-- a statement of it is answered so
abbrev pub answered_as : ℕ → Reply → Answer
answered_as index reply = record { session = 1; index = index; reply = reply; waits = record { items = []; spare = 0 } }

abbrev pub began_alone : List Answer
began_alone = answered_as 1 (Began 0) ∷ []
