-- How the commit of a session's transaction ends, before the book says so.
use Rattle.std.specs.Prelude.{◌≡◌, ◌≢◌, ℕ, ◌≤◌, ◌⊎◌, false, List, [], Option, Some, None}
use Rattle.mp_machine.specs.View.{part_in}
use Rattle.mp_model.specs.declared.replies.Reply.{Reply}
use Rattle.mp_model.specs.declared.replies.Reply.TheVariants as replies
use Rattle.mp_cells.specs.declared.rows.Row.{Row}
use Rattle.mp_core_trx.specs.declared.part.Begun.{Begun}
use Rattle.mp_core_trx.specs.Events.{with_end}
use Rattle.mp_core_pages.specs.declared.page_lock.Held.TheVariants.{No}
use Rattle.mp_core_pages.specs.PageParts.{held_at}
use Rattle.mp_core.specs.declared.part.CorePart.{CorePart}
use Rattle.mp_book.specs.declared.session.Session.{Session}
use Rattle.mp_outside.specs.declared.disks.Disk.{Ghosts}
use Rattle.mp_outside.specs.Faults.{Rose}
use Rattle.mp_shared.specs.Nodes.{Run, NodeView}
use Rattle.mp_supports.specs.Steps.{TrxStep}
use Rattle.mp_desk.specs.Desks.{IsAtDesk, Moves}
use Rattle.mp_desk.specs.Making.{IsOpenLog, MakesLater, MediaAgree}
use Rattle.mp_desk.specs.Statements.{StaysQuiet}
use Rattle.mp_desk.specs.Writes.{IsPublished, IsInTheBalance}
use Rattle.mp_primary.specs.declared.outside.CommitEnd.{CommitEnd}
use Rattle.mp_primary.specs.declared.outside.CommitEnd.TheVariants as ends
use Rattle.mp_primary.specs.Primaries.{PrimaryView}
use Rattle.mp_primary.specs.Turns.{IsSessionOf}

-- what became of the primary's part: the slot was freed; the commit is published; it is recorded, and nobody knows whether the
-- record stands; or nothing was begun
abbrev pub EndsInPart : Begun → CommitEnd → CorePart → CorePart → Type 0
EndsInPart trx ends.None q r = TrxStep q r × (r.trx ≡ with_end trx.id None q.trx)
EndsInPart trx (ends.At cts) q r = IsPublished trx cts q r
EndsInPart trx (ends.Unknown cts) q r = IsInTheBalance trx cts q r
EndsInPart trx ends.Stopped q r = StaysQuiet q r

-- the rows that the session keeps tell whether its transaction wrote
abbrev pub TellsIfWrote : List Row → CommitEnd → Type 0
TellsIfWrote formers ends.None = formers ≡ []
TellsIfWrote formers _ = formers ≢ []

-- with which number the primary is down then
abbrev pub down_by_end : ℕ → CommitEnd → ℕ
down_by_end number ends.None = 0
down_by_end number (ends.At cts) = 0
down_by_end number (ends.Unknown cts) = number
down_by_end number ends.Stopped = number

-- the timestamp that was drawn
abbrev pub stamp_at_end : CommitEnd → Option ℕ
stamp_at_end ends.None = None
stamp_at_end (ends.At cts) = Some cts
stamp_at_end (ends.Unknown cts) = Some cts
stamp_at_end ends.Stopped = None

-- how a `commit` that ended so is answered, by a primary that is down with a number
abbrev pub reply_at_end : ℕ → CommitEnd → Reply
reply_at_end down ends.None = replies.CommittedNone
reply_at_end down (ends.At cts) = replies.Committed cts
reply_at_end down (ends.Unknown cts) = replies.Unknown cts
reply_at_end down ends.Stopped = replies.Stopped down

-- the transaction is the session's still where the primary went down
abbrev pub left_at_end : Begun → CommitEnd → Option Begun
left_at_end trx ends.None = None
left_at_end trx (ends.At cts) = None
left_at_end trx (ends.Unknown cts) = Some trx
left_at_end trx ends.Stopped = Some trx

-- A primary that is up goes on so: its log takes mtrs, no page is in a buffer, and it holds no lock
pub record IsReadyAgain {D : Type 0} (new : PrimaryView D) (number : ℕ) (after : NodeView) : Type 0 where
  pub log : IsOpenLog number new.desk.llsn new.media.log
  pub empty : new.desk.pool ≡ []
  pub forced : new.media.unforced ≡ false
  pub idle : (q : CorePart) → part_in after.parts number ≡ Some q → (page : ℕ) → held_at q.pages.locks page ≡ No

module _ {D : Type 0} (g : Ghosts D) where
  -- A session's transaction has ended so at a primary that was up, whose book is as it was; where it is down now, its own log's
  -- disk failed
  pub record EndsByCommit (run : Run) (old new : PrimaryView D) (before after : NodeView) (session : ℕ) (trx : Begun) (end : CommitEnd)
      : Type 0 where
    pub rest : new ≡ record old { desk = new.desk; media = new.media; down = down_by_end old.number end }
    pub desk : IsAtDesk run new.desk old.number after
    pub own : new.desk.mtr.node ≡ old.number
    pub ended : Moves (EndsInPart trx end) old.number before after
    pub later : MakesLater old.number before after
    pub ready : down_by_end old.number end ≡ 0 → IsReadyAgain new old.number after
    pub media : MediaAgree g old.work (down_by_end old.number end) new.media old.number after
    pub faults : g.faults old.media.log.disk ≤ g.faults new.media.log.disk
    pub tells : g.tells new.media.log.disk ≡ g.tells old.media.log.disk
    pub rose : (down_by_end old.number end ≡ 0) ⊎ Rose (g.faults old.media.log.disk) (g.faults new.media.log.disk)
    pub wrote : (s : Session) → IsSessionOf old session s → TellsIfWrote s.formers.items end
