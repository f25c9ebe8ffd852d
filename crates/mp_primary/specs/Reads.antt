-- What a read of an open transaction came to, before its turn ends.
use Rattle.std.specs.Prelude.{◌≡◌, ◌⊎◌, ℕ, List, Option, Some}
use Rattle.mp_machine.specs.View.{part_in}
use Rattle.mp_model.specs.declared.key_value.KeyValue.{KeyValue}
use Rattle.mp_model.specs.declared.replies.Reply.{Reply}
use Rattle.mp_model.specs.declared.replies.Reply.TheVariants.{Got, Scanned}
use Rattle.mp_model.specs.Listed.{Listed}
use Rattle.mp_script.specs.declared.statements.Line.{Line}
use Rattle.mp_script.specs.declared.statements.Stmt.{Stmt}
use Rattle.mp_script.specs.declared.statements.Stmt.TheVariants.{Get, Scan}
use Rattle.mp_cells.specs.PageView.{PageView}
use Rattle.mp_core_trx.specs.declared.part.Begun.{Begun}
use Rattle.mp_core_pages.specs.declared.part.GivenPage.{GivenPage}
use Rattle.mp_core.specs.declared.part.CorePart.{CorePart}
use Rattle.mp_book.specs.declared.session.Session.{Session}
use Rattle.mp_book.specs.declared.stage.Stage.TheVariants.{Open}
use Rattle.mp_shared.specs.Nodes.{NodeView}
use Rattle.mp_supports.specs.Supports.{looked_trace, SupportsReply}
use Rattle.mp_desk.specs.declared.halts.ReadHalt.{ReadHalt}
use Rattle.mp_desk.specs.Desks.{Moves}
use Rattle.mp_desk.specs.Statements.{StaysQuiet}
use Rattle.mp_desk.specs.ReadHalts.{HaltsScan}
use Rattle.mp_primary.specs.Primaries.{PrimaryView}

-- a statement reads, and the reply is one of its kind
abbrev pub IsReadOf : Stmt → Reply → Type 0
IsReadOf stmt reply = ((key : ℕ) × (value : Option (List ℕ)) × (stmt ≡ Get key) × (reply ≡ Got value))
    ⊎ ((low : ℕ) × (most : ℕ) × (rows : Listed KeyValue) × (stmt ≡ Scan low most) × (reply ≡ Scanned rows))

-- A read of an open transaction came to its reply: the part was quiet since, and supports the reply by these pages
pub record FindsReply {D : Type 0} (old : PrimaryView D) (before n : NodeView) (s : Session) (line : Line) (reply : Reply)
    (pages : List (GivenPage PageView)) : Type 0 where
  pub trx : Begun
  pub stage : s.stage ≡ Open trx
  pub reads : IsReadOf line.stmt reply
  pub quiet : Moves StaysQuiet old.number before n
  pub supported : (r : CorePart) → part_in n.parts old.number ≡ Some r → SupportsReply old.work r 0 (looked_trace pages) line reply

-- Or it stopped: the part was quiet too
pub record StopsReading {D : Type 0} (old : PrimaryView D) (before n : NodeView) (s : Session) (halt : ReadHalt) : Type 0 where
  pub trx : Begun
  pub stage : s.stage ≡ Open trx
  pub quiet : Moves StaysQuiet old.number before n
  pub cause : HaltsScan old.number trx before n halt
