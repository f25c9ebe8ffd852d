-- What one turn of a primary leaves.
use Rattle.std.specs.Prelude.{◌≡◌, ◌≢◌, ℕ, ◌<◌, ◌⊎◌, Bool, true, List, [], ◌∷◌, ◌++◌, ◌+◌, ◌≤◌, slice_get, Option, Some, None, IfSome}
use Rattle.std.specs.List.{AllByRecursion}
use Rattle.mp_machine.specs.Lists.{IsIn}
use Rattle.mp_machine.specs.View.{part_in}
use Rattle.mp_model.specs.declared.ids.TrxId.{TrxId}
use Rattle.mp_model.specs.declared.ids.TrxName.{TrxName}
use Rattle.mp_model.specs.declared.replies.Answer.{Answer}
use Rattle.mp_model.specs.declared.replies.Reply.{Reply}
use Rattle.mp_model.specs.declared.replies.Reply.TheVariants.{Began, Unknown, Skipped, Stopped}
use Rattle.mp_model.specs.declared.waiting.Cause.{Cause}
use Rattle.mp_model.specs.declared.waiting.Cause.TheVariants.{Word, Writer, Prep}
use Rattle.mp_model.specs.declared.waiting.Turn.{Turn}
use Rattle.mp_model.specs.declared.waiting.Turn.TheVariants as turns
use Rattle.mp_script.specs.declared.statements.Line.{Line}
use Rattle.mp_script.specs.declared.statements.Stmt.{Stmt}
use Rattle.mp_script.specs.declared.statements.Stmt.TheVariants as stmts
use Rattle.mp_model.specs.declared.replies.WriteVerb.{WriteVerb}
use Rattle.mp_model.specs.declared.replies.WriteVerb.TheVariants as verbs
use Rattle.mp_script.specs.Transactions.{Target, target_of, cts_of}
use Rattle.mp_cells.specs.declared.records.Mtr.{Mtr}
use Rattle.mp_core_trx.specs.declared.part.Begun.{Begun}
use Rattle.mp_core_pages.specs.declared.part.Placed.{Placed}
use Rattle.mp_core.specs.declared.part.CorePart.{CorePart}
use Rattle.mp_core.specs.CoreExtends.{CoreExtends}
use Rattle.mp_book.specs.declared.session.Session.{Session}
use Rattle.mp_book.specs.declared.stage.Task.TheVariants.{Unprinted}
use Rattle.mp_book.specs.declared.stage.Stage.{Stage}
use Rattle.mp_book.specs.declared.stage.Stage.TheVariants.{Closed, Open, Outside}
use Rattle.mp_book.specs.Stages.{next_line, task_of, with_name}
use Rattle.mp_book.specs.Through.{has_no_task, have_no_task}
use Rattle.mp_book.specs.Books.{IsNext, HasRoom, IsGoingBack}
use Rattle.mp_outside.specs.declared.disks.Disk.{Ghosts}
use Rattle.mp_shared.specs.Nodes.{Run, NodeView, HoldsAll}
use Rattle.mp_shared.specs.Slots.{next_slot}
use Rattle.mp_trx_fusion.specs.Calls.{no_slot_for, Knows, KnowsLess, tso_of}
use Rattle.mp_supports.specs.Work.{name_of}
use Rattle.mp_supports.specs.Supports.{IsTrxOf, IsWaitFor}
use Rattle.mp_supports.specs.Kept.{Entry}
use Rattle.mp_desk.specs.Desks.{MetWait}
use Rattle.mp_desk.specs.Statements.{IsPreparing}
use Rattle.mp_primary.specs.Primaries.{PrimaryView, PrimaryAgreesIn, StandsWith}
use Rattle.mp_primary.specs.Holders.{MetStranger}
use Rattle.mp_primary.specs.Downs.{WentOn, IsDownAsTold, FoundAllUp, FoundOneDown, WentDownHere}

-- a session that is there has nothing left to do
abbrev pub no_task_in : Option Session → Bool
no_task_in None = true
no_task_in (Some s) = has_no_task s

-- a statement writes this value at a key, or nothing there
abbrev pub IsPutStatement : Stmt → WriteVerb → ℕ → Option (List ℕ) → Type 0
IsPutStatement (stmts.Put key value) verb k written = (verb ≡ verbs.Put) × (k ≡ key) × (written ≡ Some value)
IsPutStatement (stmts.Del key) verb k written = (verb ≡ verbs.Del) × (k ≡ key) × (written ≡ None)
IsPutStatement _ verb k written = ⊥

-- no call outside a turn was made for a session at this stage
abbrev pub IsInTurns : Stage → Type 0
IsInTurns stage = (trx : Option Begun) → stage ≢ Outside trx

-- rows are put back at this stage in a turn
abbrev pub IsTakenBack : Stage → Type 0
IsTakenBack stage = IsGoingBack stage × IsInTurns stage

-- an answer tells for whom its statement waited; one that is stopped also of a transaction that it found in the same turn
abbrev pub HasWaits : List TrxName → Answer → Type 0
HasWaits waits answer = (answer.waits.items ≡ waits)
    ⊎ ((name : TrxName) × (by : ℕ) × (answer.reply ≡ Stopped by) × (answer.waits.items ≡ with_name name waits))

module _ {D : Type 0} where
  -- the primary's session with this number
  abbrev pub IsSessionOf : PrimaryView D → ℕ → Session → Type 0
  IsSessionOf pr number s = slice_get pr.book.sessions.items number ≡ Some s

  -- it is one of the sessions that a primary has, and no call outside a turn was made for it
  pub record MayTakeTurn (pr : PrimaryView D) (number : ℕ) : Type 0 where
    pub session : Session
    pub found : IsSessionOf pr number session
    pub inside : IsInTurns session.stage

  -- it is one whose transaction is to be rolled back unprinted
  pub record MayLeave (pr : PrimaryView D) (number : ℕ) : Type 0 where
    pub session : Session
    pub found : IsSessionOf pr number session
    pub task : task_of session ≡ Unprinted

  -- the session, or where none is named each session, has nothing left to do
  abbrev pub has_nothing_left : PrimaryView D → Option ℕ → Bool
  has_nothing_left pr None = have_no_task pr.book.sessions.items
  has_nothing_left pr (Some number) = no_task_in (slice_get pr.book.sessions.items number)

  -- no statement of the session is left, or none is named
  abbrev pub HasNoStatement : PrimaryView D → Option ℕ → Type 0
  HasNoStatement pr session = IfSome session (λ number. (s : Session) → IsSessionOf pr number s → next_line s ≡ None)

  -- a turn added this answer
  abbrev pub Adds : PrimaryView D → PrimaryView D → Answer → Type 0
  Adds old new answer = new.book.answers.items ≡ old.book.answers.items ++ answer ∷ []

  -- one answer was added: of the session's next statement
  pub record AddsAnswer (old : PrimaryView D) (number : ℕ) (more : List Entry) : Type 0 where
    pub session : Session
    pub line : Line
    pub next : IsNext old.book number session line
    pub answer : Answer
    pub of_session : answer.session ≡ number
    pub index : answer.index ≡ line.index
    pub waits : HasWaits session.waits.items answer
    pub entry : Entry
    pub has : entry.answer ≡ Some answer
    pub one : more ≡ entry ∷ []

  -- or an unprinted rollback ended
  pub record EndsUnprinted (old new : PrimaryView D) (number : ℕ) (more : List Entry) : Type 0 where
    pub none : more ≡ []
    pub session : Session
    pub found : IsSessionOf old number session
    pub through : next_line session ≡ None
    pub ended : (s : Session) → IsSessionOf new number s → s.stage ≡ Closed

  abbrev AddsFor : PrimaryView D → PrimaryView D → List Entry → Option ℕ → Type 0
  AddsFor old new more None = more ≡ []
  AddsFor old new more (Some number) = AddsAnswer old number more ⊎ EndsUnprinted old new number more

  -- what a turn added: one answer, or the end of an unprinted rollback, where it answered for a session; else nothing
  abbrev pub AddsNext : PrimaryView D → PrimaryView D → Option ℕ → List Entry → Turn → Type 0
  AddsNext old new session more turns.Answered = AddsFor old new more session
  AddsNext old new session more _ = more ≡ []

  -- why the turn of a session waits, by what the part has then: a word that a call read in this turn, or a transaction that doesn't
  -- fit the book; a younger transaction that holds the key which the next statement writes; or one in whose commit's midst a key
  -- is that the statement reads
  abbrev pub WaitsFor : PrimaryView D → ℕ → NodeView → NodeView → Cause → Type 0
  WaitsFor old number before after (Word wait) = MetWait old.number before after wait ⊎ (((wait ≡ no_slot_for old.number) × (next_slot before old.number ≡ None)) ⊎ MetStranger old number after wait)
  WaitsFor old number before after (Writer name) = (q : CorePart) → part_in after.parts old.number ≡ Some q
      → (s : Session) × (line : Line) × (target : Target) × IsNext old.book number s line × (target_of line.stmt ≡ Some target)
      × ((id : TrxId) × (view : ℕ) × IsTrxOf old.work q line id view × IsWaitFor old.work q line id target.key name)
  WaitsFor old number before after (Prep name) = (q : CorePart) → part_in after.parts old.number ≡ Some q
      → (s : Session) × (line : Line) × IsNext old.book number s line
      × ((id : TrxId) × (view : ℕ) × (key : ℕ) × (holder : TrxId) × IsTrxOf old.work q line id view × IsPreparing q id view key holder × (name_of old.work holder ≡ Some name))

  -- a turn that waits for a writer names it, once, among those for whom the statement waits; other turns name nobody
  abbrev pub NamesWait : PrimaryView D → PrimaryView D → ℕ → Turn → Type 0
  NamesWait old new number (turns.Waiting (Writer name)) = (s after : Session) → IsSessionOf old number s → IsSessionOf new number after → after.waits.items ≡ with_name name s.waits.items
  NamesWait old new number turns.Answered = (s : Session) → IsSessionOf new number s → s.waits.items ≡ []
  NamesWait old new number _ = (s after : Session) → IsSessionOf old number s → IsSessionOf new number after → after.waits.items ≡ s.waits.items

module _ {D : Type 0} where
  -- The turn of a session waits still, for what it waited for at that time: all others are up of whom it needs something
  pub record WaitsStill (old : PrimaryView D) (number : ℕ) (before after : NodeView) (cause : Cause) : Type 0 where
    pub at : NodeView
    pub waits : WaitsFor old number before at cause
    pub found : FoundAllUp old cause at after

  -- Or it waited at that time, and one of whom it needs something is down: the primary went down with that one's number
  pub record GoesDownWith (old new : PrimaryView D) (before after : NodeView) (number : ℕ) : Type 0 where
    pub cause : Cause
    pub at : NodeView
    pub waits : WaitsFor old number before at cause
    pub found : FoundOneDown old new cause at after

-- why a turn took the primary down
abbrev pub WentDownIn : {D : Type 0} → Ghosts D → PrimaryView D → PrimaryView D → NodeView → NodeView → Option ℕ → Type 0
WentDownIn g old new before after session = WentDownHere g old new ⊎ ((number : ℕ) × (session ≡ Some number) × GoesDownWith old new before after number)

-- where a turn waits, its cause is such
abbrev pub IfWaiting : Turn → (Cause → Type 0) → Type 0
IfWaiting (turns.Waiting cause) Is = Is cause
IfWaiting _ Is = Unit {0}

-- an answer of a primary that is down with a number (0 where it is up) tells so, unless it tells that a commit is in doubt
abbrev pub TellsDown : ℕ → Reply → Type 0
TellsDown down (Stopped by) = (by ≡ down) × (by ≢ 0)
TellsDown down (Unknown cts) = down ≢ 0
TellsDown down _ = down ≡ 0

-- the mtr that was left was made after all that the parts which a node had have made
abbrev pub IsLeftAfter : NodeView → Entry → Type 0
IsLeftAfter n e = IfSome e.trace.mtr (λ m. (k : ℕ) (q : CorePart) (x : Placed Mtr) → part_in n.parts k ≡ Some q → IsIn x q.pages.made → x.at < m.at)

module _ {D : Type 0} (g : Ghosts D) where
  -- The primary goes on to agree with its part, with what the turn added to its answers
  pub record GoesOnBy (old new : PrimaryView D) (before after : NodeView) (session : Option ℕ) (entries : List Entry) (turn : Turn) : Type 0 where
    pub more : List Entry
    pub agrees : PrimaryAgreesIn g new (entries ++ more) after
    pub adds : AddsNext old new session more turn
    pub later : AllByRecursion (IsLeftAfter before) more

  -- What a turn does, where it came to this: the primary stands on with its node, which lost nothing, and goes on to agree
  -- with its part; only the named session went on
  pub record TakesTurn (run : Run) (old new : PrimaryView D) (before after : NodeView) (session : Option ℕ) (turn : Turn) : Type 0 where
    pub stands : StandsWith g run new after
    pub number : new.number ≡ old.number
    pub work : new.work ≡ old.work
    pub went : WentOn CoreExtends old.number before after
    pub goes_on : (entries : List Entry) → PrimaryAgreesIn g old entries before → GoesOnBy old new before after session entries turn
    pub others : (other : ℕ) → session ≢ Some other → slice_get new.book.sessions.items other ≡ slice_get old.book.sessions.items other
    pub named : IfSome session (λ number. NamesWait old new number turn)
    pub cause : IfSome session (λ number. IfWaiting turn (WaitsStill old number before after))
    -- it goes down once: by its own log, or with the number of another that is down
    pub down : (new.down ≡ old.down) ⊎ ((old.down ≡ 0) × WentDownIn g old new before after session)
    pub told : IsDownAsTold new after
    pub faults : g.faults old.media.log.disk ≤ g.faults new.media.log.disk
    pub tells : g.tells new.media.log.disk ≡ g.tells old.media.log.disk
    -- a next turn may be taken for the session
    pub may_go_on : IfSome session (λ number. MayTakeTurn new number)
    -- what the answer tells
    pub begins : (a : Answer) (view : ℕ) → Adds old new a → a.reply ≡ Began view → Knows before old.number view × (HoldsAll before → view ≡ tso_of before)
    pub draws : (a : Answer) (cts : ℕ) → Adds old new a → cts_of a.reply ≡ Some cts → KnowsLess before old.number cts × (HoldsAll before → cts ≡ tso_of before + 1)
    pub skips : (a : Answer) → Adds old new a → a.reply ≡ Skipped → new.down ≡ 0
    pub stops : (a : Answer) → Adds old new a → TellsDown new.down a.reply
    -- nothing left, or down with nothing to answer
    pub done : (turn ≡ turns.Done → (new.down ≡ 0) × (has_nothing_left old session ≡ true)) × (old.down ≡ 0 → has_nothing_left old session ≡ true → turn ≡ turns.Done)
    pub stopped : ((by : ℕ) → turn ≡ turns.Stopped by → (new.down ≡ by) × (by ≢ 0) × HasNoStatement old session) × (new.down ≢ 0 → HasNoStatement old session → turn ≡ turns.Stopped new.down)

  -- A session's next statement is to be tried in a turn: the primary stands with its node, and an answer, a row and a name need
  -- no memory
  pub record ComesTo (run : Run) (pr : PrimaryView D) (n : NodeView) (number : ℕ) (s : Session) (line : Line) : Type 0 where
    pub stands : StandsWith g run pr n
    pub next : IsNext pr.book number s line
    pub inside : IsInTurns s.stage
    pub room : HasRoom pr.book number

  -- it is to be stopped, of a primary that is down: an answer alone needs no memory
  pub record ComesToStop (run : Run) (pr : PrimaryView D) (n : NodeView) (number : ℕ) (s : Session) (line : Line) : Type 0 where
    pub stands : StandsWith g run pr n
    pub next : IsNext pr.book number s line
    pub inside : IsInTurns s.stage
    pub room : 0 < pr.book.answers.spare

  -- it is a statement of an open transaction of a primary that is up
  pub record TriesAt (run : Run) (pr : PrimaryView D) (n : NodeView) (number : ℕ) (trx : Begun) (stmt : Stmt) : Type 0 where
    pub session : Session
    pub line : Line
    pub comes : ComesTo run pr n number session line
    pub up : pr.down ≡ 0
    pub stage : session.stage ≡ Open trx
    pub stmt_is : line.stmt ≡ stmt
