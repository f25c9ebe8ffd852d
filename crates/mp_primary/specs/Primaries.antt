-- A primary as its callers see it, and when it agrees with its part.
use Rattle.std.specs.Prelude.{◌≡◌, ℕ, true, false, List, [], length, None, Some, IfSome}
use Rattle.std.specs.List.{AllByRecursion}
use Rattle.mp_machine.specs.Lists.{IsIn}
use Rattle.mp_machine.specs.View.{part_in}
use Rattle.mp_model.specs.declared.ids.TrxName.{TrxName}
use Rattle.mp_script.specs.declared.statements.SessionOn.{SessionOn}
use Rattle.mp_script.specs.BeginNames.{begin_names}
use Rattle.mp_cells.specs.declared.records.Mtr.{Mtr}
use Rattle.mp_core_trx.specs.declared.part.Begun.{Begun}
use Rattle.mp_core_trx.specs.Parts.{IsOpen}
use Rattle.mp_core.specs.declared.part.CorePart.{CorePart}
use Rattle.mp_book.specs.declared.book.Book.{Book}
use Rattle.mp_book.specs.declared.session.Session.{Session}
use Rattle.mp_book.specs.Books.{IsBook}
use Rattle.mp_book.specs.Stages.{next_line, trx_of_stage}
use Rattle.mp_outside.specs.declared.disks.Disk.{Ghosts}
use Rattle.mp_log.specs.Tails.{LogView, LogStands}
use Rattle.mp_shared.specs.Nodes.{Run, NodeView}
use Rattle.mp_supports.specs.Work.{Work}
use Rattle.mp_supports.specs.Supports.{SupportsWaits}
use Rattle.mp_supports.specs.Kept.{Entry, answers_in, Kept}
use Rattle.mp_supports.specs.Agreement.{Opens, Mirrors, Bounds}
use Rattle.mp_supports.specs.Media.{above_base}
use Rattle.mp_desk.specs.declared.desk.Desk.{Desk}
use Rattle.mp_desk.specs.declared.media.Media.{Media}
use Rattle.mp_desk.specs.Desks.{IsAtDesk}
use Rattle.mp_desk.specs.Making.{IsOpenLog, HoldsPartOf}

-- which primary it is, what it answers, the names of all transactions in the order of their `begin` lines, where the
-- sessions are declared, its book, its desk and its log, and the number with which it is down (0 where it is up)
pub record PrimaryView (D : Type 0) : Type 0 where
  pub number : ℕ
  pub work : Work
  pub names : List TrxName
  pub places : List SessionOn
  pub book : Book
  pub desk : Desk
  pub media : Media D
  pub down : ℕ

-- A primary between two turns: its book is one of its work; while it is up, its log is open and no page is in a buffer
pub record IsBetweenTurns {D : Type 0} (pr : PrimaryView D) : Type 0 where
  pub book : IsBook pr.work.lines pr.work.sessions pr.number pr.book
  pub names : pr.names ≡ begin_names pr.work.lines
  pub places : pr.places ≡ pr.work.sessions
  pub own : pr.desk.mtr.node ≡ pr.number
  pub up : pr.down ≡ 0 → IsOpenLog pr.number pr.desk.llsn pr.media.log × (pr.desk.pool ≡ []) × (pr.media.unforced ≡ false)

-- each transaction that the part has open is a session's
abbrev pub AreSessions : CorePart → List Session → Type 0
AreSessions q sessions = (b : Begun) → IsIn b q.trx.begun → IsOpen q.trx b.id → (s : Session) × IsIn s sessions × (trx_of_stage s.stage ≡ Some b)

-- what the sessions' next statements waited for so far is supported
abbrev pub AreWaitsSupported : Work → CorePart → List Session → Type 0
AreWaitsSupported work q sessions = (s : Session) → IsIn s sessions → IfSome (next_line s) (λ line. SupportsWaits work q line s.waits.items)

-- what no statement's answer tells of began no transaction
abbrev pub BeginsByAnswer : Entry → Type 0
BeginsByAnswer e = e.answer ≡ None → e.trace.began ≡ None

-- A log as a primary begins with it: it takes mtrs, nothing is appended, and no mtr in it is above the base LLSN
pub record IsFirstLog {D : Type 0} (g : Ghosts D) (work : Work) (p : ℕ) (log : LogView D) : Type 0 where
  pub takes : IsOpenLog p work.base.llsn log
  pub nothing : log.tail.bytes ≡ []
  pub stands : g.tells log.disk ≡ true → (batches : List (List Mtr)) × LogStands batches [] log.tail (g.seen log.disk) (g.image log.disk) × (above_base work batches ≡ [])

module _ {D : Type 0} (g : Ghosts D) where
  -- THE AGREEMENT of a primary with a part, where these are its answers with what their statements left in the part. Of a
  -- primary that is down its sessions go on to no new transaction
  pub record PrimaryAgrees (pr : PrimaryView D) (entries : List Entry) (q : CorePart) : Type 0 where
    pub kept : Kept pr.work q pr.down entries
    pub answers : answers_in entries ≡ pr.book.answers.items
    pub opens : pr.down ≡ 0 → Opens pr.work q 0 pr.book.sessions.items
    pub sessions : AreSessions q pr.book.sessions.items
    pub waits : AreWaitsSupported pr.work q pr.book.sessions.items
    pub mirrors : Mirrors q pr.down pr.desk.llsn pr.desk.undo
    pub media : HoldsPartOf g pr.work pr.down pr.number pr.media q
    pub bounds : Bounds pr.work q pr.book.answers.items pr.book.sessions.items
    -- the table was opened for this many transactions, so each has a name
    pub exact : q.trx.opening.begins ≡ length (begin_names pr.work.lines)
    -- a transaction is begun only by a statement that was answered
    pub begun : AllByRecursion BeginsByAnswer entries

  -- so it does with the part that a node has of it
  abbrev pub PrimaryAgreesIn : PrimaryView D → List Entry → NodeView → Type 0
  PrimaryAgreesIn pr entries n = (q : CorePart) → part_in n.parts pr.number ≡ Some q → PrimaryAgrees pr entries q

  -- A primary stands between two turns with a node that has its part: it is at its desk, and agrees with the part
  pub record StandsWith (run : Run) (pr : PrimaryView D) (n : NodeView) : Type 0 where
    pub primary : IsBetweenTurns pr
    pub desk : IsAtDesk run pr.desk pr.number n
    pub agrees : (entries : List Entry) × PrimaryAgreesIn pr entries n
