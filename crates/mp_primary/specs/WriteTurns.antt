-- How a write's turn stands once the desk has tried the write.
use Rattle.std.specs.Prelude.{◌≡◌, ℕ, ◌<◌, List, Option, None, Some, is_some, if◌then◌else◌, Result, Ok, Err}
use Rattle.mp_machine.specs.View.{part_in}
use Rattle.mp_model.specs.declared.replies.Reply.{Reply}
use Rattle.mp_model.specs.declared.replies.WriteVerb.{WriteVerb}
use Rattle.mp_script.specs.declared.statements.Line.{Line}
use Rattle.mp_script.specs.Right.{WritesKey}
use Rattle.mp_cells.specs.declared.records.Mtr.{Mtr}
use Rattle.mp_cells.specs.declared.rows.Row.{Row}
use Rattle.mp_cells.specs.PageView.{PageView}
use Rattle.mp_cells.specs.Trees.{row_at}
use Rattle.mp_core_trx.specs.declared.part.Begun.{Begun}
use Rattle.mp_core_pages.specs.declared.part.GivenPage.{GivenPage}
use Rattle.mp_core_pages.specs.declared.part.Placed.{Placed}
use Rattle.mp_core.specs.declared.part.CorePart.{CorePart}
use Rattle.mp_core.specs.CoreExtends.{durable_of}
use Rattle.mp_core.specs.OwnMtrs.{row_kept_by, row_restored_by, TrxMtr}
use Rattle.mp_book.specs.declared.session.Session.{Session}
use Rattle.mp_book.specs.declared.stage.Refusal.{Refusal}
use Rattle.mp_book.specs.declared.stage.Stage.TheVariants.{Open}
use Rattle.mp_book.specs.Answered.{execution_above}
use Rattle.mp_book.specs.Books.{IsRefusalReply, RefusalStands}
use Rattle.mp_outside.specs.declared.disks.Disk.{Ghosts}
use Rattle.mp_shared.specs.Nodes.{Run, NodeView}
use Rattle.mp_supports.specs.Supports.{no_trace, wrote_trace, Overwrites, SupportsReply}
use Rattle.mp_desk.specs.declared.halts.WriteHalt.{WriteHalt}
use Rattle.mp_desk.specs.declared.halts.WriteHalt.TheVariants as halts
use Rattle.mp_desk.specs.Desks.{Moves}
use Rattle.mp_desk.specs.Making.{IsMadeAfter}
use Rattle.mp_desk.specs.Statements.{StaysQuiet, MakesThen}
use Rattle.mp_desk.specs.Writes.{HaltsWrite}
use Rattle.mp_primary.specs.Primaries.{PrimaryView}
use Rattle.mp_primary.specs.Turns.{ComesTo}
use Rattle.mp_primary.specs.AtWork.{IsAtWork, HasGoneDown}

-- the mtr of a put, as the part has it
abbrev pub mtr_of_put : Begun → Placed Mtr → TrxMtr
mtr_of_put trx x = record { at = x.at; of = Some trx.id; mtr = x.mtr }

-- the version that a write replaced, where its transaction has kept none of the key
abbrev pub former_to_keep : List Row → ℕ → Row → Option Row
former_to_keep formers key former = if is_some (row_at key formers) then None else Some former

-- A refusal of a statement is right, by what the part has, and by the book
pub record IsRightRefusal {D : Type 0} (old : PrimaryView D) (n : NodeView) (line : Line) (refusal : Refusal) : Type 0 where
  pub supported : (r : CorePart) → part_in n.parts old.number ≡ Some r → (reply : Reply) → IsRefusalReply refusal line reply
      → SupportsReply old.work r 0 no_trace line reply
  pub stands : RefusalStands (execution_above old.work.lines old.work.sessions old.book.answers.items) old.number line.stmt refusal

module _ {D : Type 0} (g : Ghosts D) (run : Run) (old now : PrimaryView D) (before n : NodeView)
    (number : ℕ) (trx : Begun) (verb : WriteVerb) (key : ℕ) where
  -- A statement that writes a key is tried, for its session's open transaction
  pub record TriesWrite : Type 0 where
    pub session : Session
    pub line : Line
    pub comes : ComesTo g run old before number session line
    pub stage : session.stage ≡ Open trx
    pub writes : WritesKey line verb key

  -- The write was held up: nothing was made
  pub record IsHeldUp : Type 0 where
    pub tries : TriesWrite
    pub work : IsAtWork g run old now before n no_trace
    pub quiet : Moves StaysQuiet old.number before n

  -- The write was made, over this version: its mtr isn't durable yet, and was made after all that the node knew
  pub record HasPutRow (former : Row) : Type 0 where
    pub tries : TriesWrite
    pub pages : List (GivenPage PageView)
    pub placed : Placed Mtr
    pub work : IsAtWork g run old now before n (wrote_trace pages (mtr_of_put trx placed))
    pub made : Moves (MakesThen placed) old.number before n
    pub over : (r : CorePart) → part_in n.parts old.number ≡ Some r
        → Overwrites r pages trx.id trx.view key tries.line.stmt (mtr_of_put trx placed)
    pub kept : row_kept_by placed.mtr ≡ Some former
    pub not_restored : row_restored_by placed.mtr ≡ None
    pub former_key : former.key ≡ key
    pub fresh : (r : CorePart) → part_in n.parts old.number ≡ Some r → durable_of r < placed.mtr.llsn
    pub later : IsMadeAfter before placed

  -- The log's disk failed before the write was made
  pub record HasFailedWrite : Type 0 where
    pub tries : TriesWrite
    pub rest : now ≡ record old { desk = now.desk; media = now.media }
    pub gone : HasGoneDown g run old (record now { down = old.number }) before n no_trace
    pub quiet : Moves StaysQuiet old.number before n

  -- one of these, by what the desk answered
  abbrev pub AfterWrite : Result Row WriteHalt → Type 0
  AfterWrite (Ok former) = HasPutRow former
  AfterWrite (Err halts.Failed) = HasFailedWrite
  AfterWrite (Err halt) = IsHeldUp × HaltsWrite old.number trx key before n halt
