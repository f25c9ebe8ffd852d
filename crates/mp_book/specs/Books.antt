-- What a book's fields mean together: its answers are placed, and each session stands where its answers say.
use Rattle.std.specs.Prelude.{◌≡◌, ◌≢◌, ℕ, ◌+◌, ◌≤◌, ◌<◌, ◌⊎◌, Bool, true, false, List, [], ◌∷◌, ◌++◌, length, Option, None, Some, is_some, slice_get, slice_set, if◌then◌else◌, IfSome}
use Rattle.mp_model.specs.declared.replies.Answer.{Answer}
use Rattle.mp_model.specs.declared.replies.Reply.{Reply}
use Rattle.mp_model.specs.declared.replies.Reply.TheVariants.{Began, Got, Scanned, Wrote, Committed, CommittedNone, Unknown, RolledBack, Conflict, Held, Full, Skipped, Stopped}
use Rattle.mp_model.specs.declared.ids.TrxName.{TrxName}
use Rattle.mp_script.specs.declared.statements.Line.{Line}
use Rattle.mp_script.specs.declared.statements.SessionOn.{SessionOn}
use Rattle.mp_script.specs.declared.statements.Stmt.{Stmt}
use Rattle.mp_script.specs.declared.statements.Stmt.TheVariants as stmts
use Rattle.mp_script.specs.Entries.{open_after}
use Rattle.mp_script.specs.Execution.{Execution, answer_at, reply_at, is_session_on, runs_on}
use Rattle.mp_script.specs.Transactions.{target_of, trx_at, statements_before, refused_among, wrote_among}
use Rattle.mp_script.specs.Right.{WritesKey}
use Rattle.mp_script.specs.Below.{EachBelow, answered}
use Rattle.mp_script.specs.Spelling.{MayStand}
use Rattle.mp_cells.specs.declared.rows.Row.{Row}
use Rattle.mp_cells.specs.Trees.{row_at}
use Rattle.mp_core_trx.specs.declared.part.Begun.{Begun}
use Rattle.mp_book.specs.declared.stage.Refusal.{Refusal}
use Rattle.mp_book.specs.declared.stage.Refusal.TheVariants as refusals
use Rattle.mp_book.specs.declared.stage.Stage.{Stage}
use Rattle.mp_book.specs.declared.stage.Stage.TheVariants.{Closed, Open, Refused, Leaving, Skipping, Outside}
use Rattle.mp_book.specs.declared.session.Session.{Session}
use Rattle.mp_book.specs.declared.book.Book.{Book}
use Rattle.mp_book.specs.Orderly.{session_lines, IsOrderly}
use Rattle.mp_book.specs.Stages.{next_line, HaveOneRowEach, with_former, with_name}
use Rattle.mp_book.specs.Answered.{execution_above, NoneShowsDown, HasWrittenHere, WaitsStand, IsPlaced}

-- a session of these statements before the first is answered
pub record StartsAs (number : ℕ) (lines : List Line) (s : Session) : Type 0 where
  pub number_is : s.number ≡ number
  pub lines_are : s.lines.items ≡ lines
  pub next : s.next ≡ 0
  pub stage : s.stage ≡ Closed
  pub formers : s.formers.items ≡ []
  pub restored : s.restored ≡ 0
  pub waits : s.waits.items ≡ []

-- the same session, whatever room its lists have
pub record IsSameSession (old new : Session) : Type 0 where
  pub rest : new ≡ record old { formers = new.formers; waits = new.waits }
  pub formers : new.formers.items ≡ old.formers.items
  pub waits : new.waits.items ≡ old.waits.items

-- the session has gone on to its next statement: it stands at this stage, and keeps these rows, of which so many are put back
pub record GoesOn (old new : Session) (stage : Stage) (formers : List Row) (restored : ℕ) : Type 0 where
  pub number : new.number ≡ old.number
  pub lines : new.lines ≡ old.lines
  pub next : new.next ≡ old.next + 1
  pub stage_is : new.stage ≡ stage
  pub formers_are : new.formers.items ≡ formers
  pub restored_is : new.restored ≡ restored
  pub waits : new.waits.items ≡ []
  pub tried : new.tried ≡ false

-- of the transaction of a session's statement, how many statements behind its `begin` stand up to that one
abbrev pub statements_upto : Execution → ℕ → ℕ → ℕ
statements_upto run number index = statements_before (trx_at run number index) (index + 1)

-- the next statement, if one is left, is one for an open transaction, or one for none
abbrev pub NextFits : Bool → Session → Type 0
NextFits open_now s = IfSome (next_line s) (λ line. MayStand open_now line.stmt)

-- A session's transaction is open: its `begin` was answered with its view, none of its statements was refused, and the rows
-- kept are of the keys that were written
pub record TrxStands (run : Execution) (number : ℕ) (s : Session) (trx : Begun) : Type 0 where
  pub began : reply_at run number (trx_at run number s.next).first ≡ Some (Began trx.view)
  pub unrefused : refused_among run (trx_at run number s.next) (statements_upto run number s.next) ≡ false
  pub wrote : (key : ℕ) → wrote_among run (trx_at run number s.next) (statements_upto run number s.next) key ≡ is_some (row_at key s.formers.items)
  pub once : HaveOneRowEach s.formers.items
  pub next_fits : NextFits true s

-- a refusal's holder has written the key of the statement that it refuses
abbrev pub RefusalStands : Execution → ℕ → Stmt → Refusal → Type 0
RefusalStands run primary stmt (refusals.Held name) = IfSome (target_of stmt) (λ target. HasWrittenHere run primary target.key name)
RefusalStands run primary stmt _ = Unit {0}

-- what a session's stage says of its answers
abbrev pub StageStands : Execution → ℕ → ℕ → Session → Stage → Type 0
StageStands run primary number s Closed = NextFits false s
StageStands run primary number s (Open trx) = TrxStands run number s trx × (s.restored ≡ 0)
StageStands run primary number s (Refused trx refusal) =
    TrxStands run number s trx × ((line : Line) × (next_line s ≡ Some line) × (is_some (target_of line.stmt) ≡ true) × RefusalStands run primary line.stmt refusal)
StageStands run primary number s (Leaving trx) = TrxStands run number s trx × IfSome (next_line s) (λ line. line.stmt ≡ stmts.Rollback)
StageStands run primary number s Skipping = (refused_among run (trx_at run number s.next) (statements_upto run number s.next) ≡ true) × NextFits true s
StageStands run primary number s (Outside trx) = Unit {0}

-- A session of a primary stands where these answers say
pub record SessionStands (lines : List Line) (sessions : List SessionOn) (primary : ℕ) (answers : List Answer) (number : ℕ) (s : Session) : Type 0 where
  pub number_is : s.number ≡ number
  pub lines_are : s.lines.items ≡ (if runs_on (execution_above lines sessions answers) number primary then session_lines number lines else [])
  pub next : length (answered number answers) ≡ s.next
  pub within : s.next ≤ length s.lines.items
  pub unanswered : (index : ℕ) → s.next < index → answer_at answers number index ≡ None
  pub restored : s.restored ≤ length s.formers.items
  pub waits : IfSome (next_line s) (λ line. WaitsStand (execution_above lines sessions answers) primary line.stmt s.waits.items)
  -- unless the primary went down
  pub stage : NoneShowsDown answers → StageStands (execution_above lines sessions answers) primary number s s.stage

-- THE BOOK of a primary: its answers are placed, and each session, from 0 to 64, stands where they say
pub record IsBook (lines : List Line) (sessions : List SessionOn) (primary : ℕ) (book : Book) : Type 0 where
  pub orderly : IsOrderly lines
  pub placed : EachBelow (IsPlaced lines sessions primary) [] book.answers.items
  pub whole : length book.sessions.items ≡ 65
  pub each : (number : ℕ) (s : Session) → slice_get book.sessions.items number ≡ Some s → SessionStands lines sessions primary book.answers.items number s

-- the book's session with this number, and its next statement
pub record IsNext (book : Book) (number : ℕ) (s : Session) (line : Line) : Type 0 where
  pub found : slice_get book.sessions.items number ≡ Some s
  pub next : next_line s ≡ Some line

-- a refusal, as it is answered
abbrev pub IsRefusalReply : Refusal → Line → Reply → Type 0
IsRefusalReply (refusals.Conflict cts) line (Conflict verb c) = (c ≡ cts) × ((key : ℕ) × WritesKey line verb key)
IsRefusalReply (refusals.Held name) line (Held verb n) = (n ≡ name) × ((key : ℕ) × WritesKey line verb key)
IsRefusalReply refusals.Full line (Full verb) = (key : ℕ) × WritesKey line verb key
IsRefusalReply _ line _ = ⊥

-- behind a statement that is skipped the transaction is skipped on, or it ended
abbrev pub skipped_to : Bool → Stage
skipped_to true = Skipping
skipped_to false = Closed

-- the row that a write replaced is kept where it is the first of its key
abbrev pub KeepsFormer : List Row → ℕ → Option Row → Type 0
KeepsFormer formers key None = is_some (row_at key formers) ≡ true
KeepsFormer formers key (Some row) = (row.key ≡ key) × (row_at key formers ≡ None)

-- a session has a transaction that goes on, or that is being rolled back for this line
abbrev pub IsOpenStage : Stage → Type 0
IsOpenStage stage = (trx : Begun) × (stage ≡ Open trx)

-- the stage that a reply leaves, where it was no `begin`'s
abbrev pub stage_after : Stage → Stmt → Reply → Stage
stage_after stage stmt (Committed cts) = Closed
stage_after stage stmt CommittedNone = Closed
stage_after stage stmt RolledBack = Closed
stage_after stage stmt (Conflict verb cts) = Skipping
stage_after stage stmt (Held verb name) = Skipping
stage_after stage stmt (Full verb) = Skipping
stage_after stage stmt Skipped = skipped_to (open_after stmt)
stage_after stage stmt _ = stage

-- what a reply asks of the stage that its session has, and which stage, rows and count of rows put back it leaves
abbrev pub MayAnswer : Session → Line → Reply → Stage → List Row → ℕ → Type 0
MayAnswer s line (Began view) stage formers restored = (trx : Begun) × (s.stage ≡ Closed) × (line.stmt ≡ stmts.Begin) × (trx.view ≡ view) × (stage ≡ Open trx) × (formers ≡ []) × (restored ≡ 0)
MayAnswer s line (Got value) stage formers restored = IsOpenStage s.stage × (open_after line.stmt ≡ true) × (target_of line.stmt ≡ None) × (stage ≡ s.stage) × (formers ≡ s.formers.items) × (restored ≡ s.restored)
MayAnswer s line (Scanned rows) stage formers restored = IsOpenStage s.stage × (open_after line.stmt ≡ true) × (target_of line.stmt ≡ None) × (stage ≡ s.stage) × (formers ≡ s.formers.items) × (restored ≡ s.restored)
MayAnswer s line (Wrote verb) stage formers restored = (key : ℕ) × (former : Option Row) × IsOpenStage s.stage × WritesKey line verb key × KeepsFormer s.formers.items key former × (stage ≡ s.stage) × (formers ≡ with_former s.formers.items former) × (restored ≡ s.restored)
MayAnswer s line (Committed cts) stage formers restored = IsOpenStage s.stage × (line.stmt ≡ stmts.Commit) × (s.formers.items ≢ []) × (stage ≡ Closed) × (formers ≡ s.formers.items) × (restored ≡ s.restored)
MayAnswer s line CommittedNone stage formers restored = IsOpenStage s.stage × (line.stmt ≡ stmts.Commit) × (s.formers.items ≡ []) × (stage ≡ Closed) × (formers ≡ s.formers.items) × (restored ≡ s.restored)
MayAnswer s line (Unknown cts) stage formers restored = IsOpenStage s.stage × (line.stmt ≡ stmts.Commit) × (s.formers.items ≢ []) × (stage ≡ s.stage) × (formers ≡ s.formers.items) × (restored ≡ s.restored)
MayAnswer s line RolledBack stage formers restored = (trx : Begun) × (s.stage ≡ Leaving trx) × (line.stmt ≡ stmts.Rollback) × (s.restored ≡ length s.formers.items) × (stage ≡ Closed) × (formers ≡ s.formers.items) × (restored ≡ s.restored)
MayAnswer s line Skipped stage formers restored = (s.stage ≡ Skipping) × (stage ≡ skipped_to (open_after line.stmt)) × (formers ≡ s.formers.items) × (restored ≡ s.restored)
MayAnswer s line (Stopped by) stage formers restored = (former : Option Row) × (stage ≡ s.stage) × (formers ≡ with_former s.formers.items former) × (restored ≡ s.restored)
MayAnswer s line reply stage formers restored = (trx : Begun) × (refusal : Refusal) × (s.stage ≡ Refused trx refusal) × IsRefusalReply refusal line reply × (s.restored ≡ length s.formers.items) × (stage ≡ Skipping) × (formers ≡ s.formers.items) × (restored ≡ s.restored)

-- one session of the book is another now
pub record SetsSession (old new : Book) (number : ℕ) (after : Session) : Type 0 where
  pub answers : new.answers ≡ old.answers
  pub sessions : new.sessions.items ≡ slice_set old.sessions.items number after

-- the session's next statement is answered: the answer stands at the end, with what it waited for, and the session goes on
pub record IsAnswered (old new : Book) (number : ℕ) (s : Session) (line : Line) (reply : Reply) (stage : Stage) (formers : List Row) (restored : ℕ) : Type 0 where
  pub answer : Answer
  pub session : answer.session ≡ number
  pub index : answer.index ≡ line.index
  pub reply_is : answer.reply ≡ reply
  pub waits : answer.waits.items ≡ s.waits.items
  pub answers : new.answers.items ≡ old.answers.items ++ answer ∷ []
  pub after : Session
  pub sessions : new.sessions.items ≡ slice_set old.sessions.items number after
  pub goes : GoesOn s after stage formers restored

-- a primary's statements of a session
abbrev pub own_lines : List Line → List SessionOn → ℕ → ℕ → List Line
own_lines lines sessions primary number = if is_session_on sessions number primary then session_lines number lines else []

-- what a session had, it has, whatever room its lists have
pub record HasSameSession (old new : Book) (number : ℕ) (s : Session) : Type 0 where
  pub after : Session
  pub sessions : new.sessions.items ≡ slice_set old.sessions.items number after
  pub same : IsSameSession s after

-- a row of this session, and a name that it waits for, need no memory; and an answer besides
abbrev pub HasRoomIn : Book → ℕ → Type 0
HasRoomIn book number = (s : Session) → slice_get book.sessions.items number ≡ Some s → (0 < s.formers.spare) × (0 < s.waits.spare)

pub record HasRoom (book : Book) (number : ℕ) : Type 0 where
  pub answer : 0 < book.answers.spare
  pub in_session : HasRoomIn book number

-- the session's next statement has noted that it waits for a transaction
pub record NotesWait (old new : Book) (number : ℕ) (s : Session) (name : TrxName) : Type 0 where
  pub after : Session
  pub sets : SetsSession old new number after
  pub waits : after.waits.items ≡ with_name name s.waits.items
  pub rest : after ≡ record s { waits = after.waits }

-- a stage at which rows are put back
abbrev pub IsGoingBack : Stage → Type 0
IsGoingBack Closed = ⊥
IsGoingBack (Open trx) = ⊥
IsGoingBack (Refused trx refusal) = Unit {0}
IsGoingBack (Leaving trx) = Unit {0}
IsGoingBack Skipping = ⊥
IsGoingBack (Outside trx) = Unit {0}

-- the session's transaction is rolled back: all rows of one that it leaves are put back, or a refusal did so before
abbrev pub IsRolledBack : Session → Type 0
IsRolledBack s = (s.stage ≡ Skipping) ⊎ ((trx : Begun) × (s.stage ≡ Leaving trx) × (s.restored ≡ length s.formers.items))
