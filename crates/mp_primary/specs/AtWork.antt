-- A primary in the midst of a turn: since the turn began, its part did what one statement left, and its book is as it was.
use Rattle.std.specs.Prelude.{◌≡◌, ℕ, ◌+◌, ◌<◌, ◌≤◌, ◌⊎◌, true, false, [], length, Option, None, Some, is_some, IfSome}
use Rattle.mp_machine.specs.View.{part_in}
use Rattle.mp_model.specs.declared.waiting.Cause.{Cause}
use Rattle.mp_model.specs.declared.waiting.Cause.TheVariants.{Writer}
use Rattle.mp_script.specs.declared.statements.Line.{Line}
use Rattle.mp_script.specs.Transactions.{target_of}
use Rattle.mp_cells.specs.declared.rows.Row.{Row}
use Rattle.mp_core_pages.specs.declared.page_lock.Held.TheVariants.{No}
use Rattle.mp_core_pages.specs.PageParts.{held_at}
use Rattle.mp_core.specs.declared.part.CorePart.{CorePart}
use Rattle.mp_core.specs.CoreExtends.{durable_of}
use Rattle.mp_book.specs.Answered.{execution_above, HasWrittenHere}
use Rattle.mp_outside.specs.declared.disks.Disk.{Ghosts}
use Rattle.mp_outside.specs.Faults.{Rose}
use Rattle.mp_shared.specs.Nodes.{Run, NodeView}
use Rattle.mp_supports.specs.Supports.{Trace, StoppedWith}
use Rattle.mp_supports.specs.Kept.{Did}
use Rattle.mp_supports.specs.Agreement.{last_made_llsn}
use Rattle.mp_desk.specs.Desks.{IsAtDesk, Moves}
use Rattle.mp_desk.specs.Making.{IsOpenLog, MediaAgree}
use Rattle.mp_primary.specs.Primaries.{PrimaryView}
use Rattle.mp_primary.specs.Turns.{IsLeftAfter}

module _ {D : Type 0} (g : Ghosts D) where
  -- It is up and at its desk, and its log takes mtrs and holds what its part made
  pub record IsAtWork (run : Run) (old now : PrimaryView D) (before n : NodeView) (trace : Trace) : Type 0 where
    pub rest : now ≡ record old { desk = now.desk; media = now.media }
    pub up : old.down ≡ 0
    pub desk : IsAtDesk run now.desk old.number n
    pub own : now.desk.mtr.node ≡ old.number
    pub log : IsOpenLog old.number now.desk.llsn now.media.log
    pub media : MediaAgree g old.work 0 now.media old.number n
    pub did : Moves (λ q r. Did q r trace) old.number before n
    pub faults : g.faults old.media.log.disk ≤ g.faults now.media.log.disk
    pub tells : g.tells now.media.log.disk ≡ g.tells old.media.log.disk

  -- and it has let all pages go: its log is forced, no page is in a buffer, and it holds no lock
  pub record HasClearedDesk (run : Run) (old now : PrimaryView D) (before n : NodeView) (trace : Trace) : Type 0 where
    pub work : IsAtWork run old now before n trace
    pub empty : now.desk.pool ≡ []
    pub forced : now.media.unforced ≡ false
    pub durable : (q : CorePart) → part_in n.parts old.number ≡ Some q → last_made_llsn q ≡ durable_of q
    pub idle : (q : CorePart) → part_in n.parts old.number ≡ Some q → (page : ℕ) → held_at q.pages.locks page ≡ No

  -- or its log's disk has failed: it is down with its own number
  pub record HasGoneDown (run : Run) (old now : PrimaryView D) (before n : NodeView) (trace : Trace) : Type 0 where
    pub rest : now ≡ record old { desk = now.desk; media = now.media; down = old.number }
    pub up : old.down ≡ 0
    pub desk : IsAtDesk run now.desk old.number n
    pub own : now.desk.mtr.node ≡ old.number
    pub closed : now.media.log.tail.live ≡ false
    pub media : MediaAgree g old.work old.number now.media old.number n
    pub did : Moves (λ q r. Did q r trace) old.number before n
    pub rose : Rose (g.faults old.media.log.disk) (g.faults now.media.log.disk)
    pub faults : g.faults old.media.log.disk ≤ g.faults now.media.log.disk
    pub tells : g.tells now.media.log.disk ≡ g.tells old.media.log.disk

-- A statement that is stopped began nothing, and stored nothing in a slot. It made no mtr; or, where it writes, one, and may then
-- keep a row that it was the first to replace
pub record LeavesAtMostOne (line : Line) (former : Option Row) (q r : CorePart) : Type 0 where
  pub begun : r.trx.begun ≡ q.trx.begun
  pub rows : r.trx.rows ≡ q.trx.rows
  pub few : ((former ≡ None) × (r.pages.made ≡ q.pages.made))
      ⊎ ((is_some (target_of line.stmt) ≡ true) × (length r.pages.made ≡ length q.pages.made + 1))

-- What a statement that is stopped may have left: nothing; or a write, made after all that the node knew, that isn't durable
pub record MayStopWith {D : Type 0} (old : PrimaryView D) (line : Line) (former : Option Row) (before n : NodeView)
    (trace : Trace) : Type 0 where
  pub stopped : (r : CorePart) → part_in n.parts old.number ≡ Some r → StoppedWith old.work r trace line
      × IfSome trace.mtr (λ m. durable_of r < m.mtr.llsn)
  pub left : Moves (LeavesAtMostOne line former) old.number before n
  pub later : IsLeftAfter before (record { answer = None; trace = trace })

-- a writer for whom a statement waits has written its key, where it is one of this primary's
abbrev pub WroteHere : {D : Type 0} → PrimaryView D → Line → Cause → Type 0
WroteHere old line (Writer name) = IfSome (target_of line.stmt)
    (λ target. HasWrittenHere (execution_above old.work.lines old.work.sessions old.book.answers.items) old.number target.key name)
WroteHere old line _ = Unit {0}
