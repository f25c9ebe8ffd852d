-- What comes before the end of a turn, and leaves the primary standing: rows of a session's transaction are put back.
use Rattle.std.specs.Prelude.{◌≡◌, ◌≢◌, ℕ, ◌≤◌, ◌⊎◌, true, List, [], length, slice_get, Some, is_some}
use Rattle.mp_model.specs.declared.replies.Reply.{Reply}
use Rattle.mp_model.specs.declared.replies.Reply.TheVariants.{RolledBack, Conflict, Held, Full}
use Rattle.mp_model.specs.declared.replies.WriteVerb.{WriteVerb}
use Rattle.mp_script.specs.declared.statements.Line.{Line}
use Rattle.mp_script.specs.declared.statements.Stmt.{Stmt}
use Rattle.mp_script.specs.Transactions.{target_of}
use Rattle.mp_script.specs.Right.{WritesKey}
use Rattle.mp_core_trx.specs.declared.part.Begun.{Begun}
use Rattle.mp_book.specs.declared.book.Book.{Book}
use Rattle.mp_book.specs.declared.session.Session.{Session}
use Rattle.mp_book.specs.declared.stage.Refusal.{Refusal}
use Rattle.mp_book.specs.declared.stage.Refusal.TheVariants as refusals
use Rattle.mp_book.specs.declared.stage.Stage.{Stage}
use Rattle.mp_book.specs.declared.stage.Stage.TheVariants.{Closed, Refused, Leaving}
use Rattle.mp_book.specs.declared.stage.Task.TheVariants.{Unprinted}
use Rattle.mp_book.specs.Stages.{next_line, task_of, trx_of_stage, HaveOneRowEach}
use Rattle.mp_book.specs.Books.{SetsSession, IsGoingBack}
use Rattle.mp_outside.specs.declared.disks.Disk.{Ghosts}
use Rattle.mp_outside.specs.Faults.{Rose}
use Rattle.mp_shared.specs.Nodes.{Run, NodeView}
use Rattle.mp_supports.specs.Supports.{no_trace}
use Rattle.mp_supports.specs.Kept.{Entry, Did}
use Rattle.mp_desk.specs.declared.halts.BackHalt.{BackHalt}
use Rattle.mp_desk.specs.declared.halts.BackHalt.TheVariants as backs
use Rattle.mp_desk.specs.Desks.{Moves, MetWait}
use Rattle.mp_primary.specs.Primaries.{PrimaryView, PrimaryAgreesIn, StandsWith}
use Rattle.mp_primary.specs.Turns.{IsSessionOf, MayTakeTurn, ComesTo}

module _ {D : Type 0} where
  -- The session's transaction is being rolled back, and keeps one row of a key
  pub record GoesBackOf (pr : PrimaryView D) (number : ℕ) (s : Session) (trx : Begun) : Type 0 where
    pub found : IsSessionOf pr number s
    pub back : IsGoingBack s.stage
    pub trx_is : trx_of_stage s.stage ≡ Some trx
    pub once : HaveOneRowEach s.formers.items

  -- so many of a session's rows are counted as put back, and nothing else in the book changed
  abbrev pub CountsBack : PrimaryView D → PrimaryView D → ℕ → ℕ → Type 0
  CountsBack old new number count = (s : Session) → IsSessionOf old number s → SetsSession old.book new.book number (record s { restored = count })

  -- all rows of the session's transaction are put back
  abbrev pub IsAllBack : PrimaryView D → ℕ → Type 0
  IsAllBack pr number = (s : Session) → IsSessionOf pr number s → s.restored ≡ length s.formers.items

-- a statement's transaction was put back for its refusal, where it is a write, or for its own sake
abbrev pub MayReplyBack : Stage → Stmt → Type 0
MayReplyBack (Refused trx refusal) stmt = is_some (target_of stmt) ≡ true
MayReplyBack (Leaving trx) stmt = Unit {0}
MayReplyBack _ stmt = ⊥

-- how a write is refused
abbrev pub refusal_reply : WriteVerb → Refusal → Reply
refusal_reply verb (refusals.Conflict cts) = Conflict verb cts
refusal_reply verb (refusals.Held name) = Held verb name
refusal_reply verb refusals.Full = Full verb

-- and is answered so
abbrev pub IsReplyBack : Stage → Line → Reply → Type 0
IsReplyBack (Refused trx refusal) line reply = (verb : WriteVerb) × (key : ℕ) × WritesKey line verb key × (reply ≡ refusal_reply verb refusal)
IsReplyBack (Leaving trx) line reply = reply ≡ RolledBack
IsReplyBack _ line reply = ⊥

-- A session waits for nobody; nothing else in the book changed
pub record ForgetsWaits (old new : Book) (number : ℕ) (s : Session) : Type 0 where
  pub after : Session
  pub sets : SetsSession old new number after
  pub rest : after ≡ record s { waits = after.waits }
  pub none : after.waits.items ≡ []

-- A session is closed, and waits for nobody; nothing else in the book changed
pub record ClosesSession (old new : Book) (number : ℕ) (s : Session) : Type 0 where
  pub after : Session
  pub sets : SetsSession old new number after
  pub rest : after ≡ record s { stage = Closed; waits = after.waits }
  pub waits : after.waits.items ≡ []

module _ {D : Type 0} (g : Ghosts D) where
  -- why rows are left that weren't put back: a page couldn't be had; or the log's disk failed, and took the primary down
  abbrev pub LeavesRows : PrimaryView D → PrimaryView D → NodeView → NodeView → BackHalt → Type 0
  LeavesRows old new before after (backs.Word wait) = (new.down ≡ 0) × MetWait old.number before after wait
  LeavesRows old new before after backs.Failed = (new.down ≡ old.number) × (new.down ≢ 0) × Rose (g.faults old.media.log.disk) (g.faults new.media.log.disk)

  -- A primary goes on with a session before that one's turn ends: it stands with its node, agrees with its part as it did
  -- and answered nothing, and the session has the same statement to try, which waits for those for whom it did
  pub record GoesOnQuietly (run : Run) (old mid : PrimaryView D) (before n : NodeView) (session : ℕ) : Type 0 where
    pub stands : StandsWith g run mid n
    pub number : mid.number ≡ old.number
    pub work : mid.work ≡ old.work
    pub did : Moves (λ q r. Did q r no_trace) old.number before n
    pub goes_on : (entries : List Entry) → PrimaryAgreesIn g old entries before → PrimaryAgreesIn g mid entries n
    pub answers : mid.book.answers ≡ old.book.answers
    pub others : (other : ℕ) → other ≢ session → slice_get mid.book.sessions.items other ≡ slice_get old.book.sessions.items other
    pub same : (s : Session) → IsSessionOf old session s → (t : Session) × IsSessionOf mid session t × (next_line t ≡ next_line s) × (t.waits.items ≡ s.waits.items)
    pub down : (mid.down ≡ old.down) ⊎ ((old.down ≡ 0) × (mid.down ≡ old.number) × Rose (g.faults old.media.log.disk) (g.faults mid.media.log.disk))
    pub faults : g.faults old.media.log.disk ≤ g.faults mid.media.log.disk
    pub tells : g.tells mid.media.log.disk ≡ g.tells old.media.log.disk

  -- In a session's turn not all rows of its transaction could be put back
  pub record HaltsTurn (run : Run) (old mid : PrimaryView D) (before n : NodeView) (number : ℕ) (s : Session) (line : Line) (halt : BackHalt) : Type 0 where
    pub comes : ComesTo g run old before number s line
    pub quiet : GoesOnQuietly run old mid before n number
    pub counts : (count : ℕ) × CountsBack old mid number count
    pub left : LeavesRows old mid before n halt

  -- and none of its statements is left
  pub record HaltsLeaving (run : Run) (old mid : PrimaryView D) (before n : NodeView) (number : ℕ) (s : Session) (halt : BackHalt) : Type 0 where
    pub stands : StandsWith g run old before
    pub found : IsSessionOf old number s
    pub task : task_of s ≡ Unprinted
    pub quiet : GoesOnQuietly run old mid before n number
    pub may_go_on : MayTakeTurn mid number
    pub left : LeavesRows old mid before n halt
