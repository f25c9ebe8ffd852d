-- What one try of a primary comes to, before it looks which primaries are down and tells whether it is.
use Rattle.std.specs.Prelude.{◌≡◌, ◌≢◌, ℕ, ◌⊎◌, true, List, ◌+◌, ◌≤◌, slice_get, Option, Some, IfSome}
use Rattle.mp_model.specs.declared.replies.Answer.{Answer}
use Rattle.mp_model.specs.declared.replies.Reply.TheVariants.{Began, Skipped}
use Rattle.mp_model.specs.declared.waiting.Cause.{Cause}
use Rattle.mp_model.specs.declared.waiting.Turn.{Turn}
use Rattle.mp_model.specs.declared.waiting.Turn.TheVariants as turns
use Rattle.mp_script.specs.declared.statements.Line.{Line}
use Rattle.mp_script.specs.Transactions.{cts_of}
use Rattle.mp_core.specs.CoreExtends.{CoreExtends}
use Rattle.mp_book.specs.declared.session.Session.{Session}
use Rattle.mp_outside.specs.declared.disks.Disk.{Ghosts}
use Rattle.mp_outside.specs.Faults.{Rose}
use Rattle.mp_shared.specs.Nodes.{Run, NodeView, HoldsAll}
use Rattle.mp_trx_fusion.specs.Calls.{Knows, KnowsLess, tso_of}
use Rattle.mp_supports.specs.Kept.{Entry}
use Rattle.mp_desk.specs.Desks.{Moves}
use Rattle.mp_primary.specs.Primaries.{PrimaryView, PrimaryAgreesIn, StandsWith}
use Rattle.mp_primary.specs.Downs.{OnlyDowns, WentOn, IsDownAsTold, FoundOneDown}
use Rattle.mp_primary.specs.Turns.{Adds, ComesTo, GoesOnBy, HasNoStatement, IfWaiting, MayTakeTurn, NamesWait, TellsDown, WaitsFor, has_nothing_left}

module _ {D : Type 0} (g : Ghosts D) where
  -- What a try does, where it came to this: the primary stands on with its node, which lost nothing, and goes on to agree
  -- with its part; only the named session went on
  pub record TriesTurn (run : Run) (old new : PrimaryView D) (before after : NodeView) (session : Option ℕ) (turn : Turn) : Type 0 where
    pub stands : StandsWith g run new after
    pub number : new.number ≡ old.number
    pub work : new.work ≡ old.work
    pub went : Moves CoreExtends old.number before after
    pub goes_on : (entries : List Entry) → PrimaryAgreesIn g old entries before → GoesOnBy g old new before after session entries turn
    pub others : (other : ℕ) → session ≢ Some other → slice_get new.book.sessions.items other ≡ slice_get old.book.sessions.items other
    pub named : IfSome session (λ number. NamesWait old new number turn)
    pub cause : IfSome session (λ number. IfWaiting turn (WaitsFor old number before after))
    -- where it waits it is up, and there is the room for an answer that there was
    pub up : IfWaiting turn (λ cause. new.down ≡ 0)
    pub answers : IfWaiting turn (λ cause. new.book.answers ≡ old.book.answers)
    -- it goes down by its own log alone, and once
    pub down : (new.down ≡ old.down) ⊎ ((old.down ≡ 0) × (new.down ≡ old.number) × Rose (g.faults old.media.log.disk) (g.faults new.media.log.disk))
    pub faults : g.faults old.media.log.disk ≤ g.faults new.media.log.disk
    pub tells : g.tells new.media.log.disk ≡ g.tells old.media.log.disk
    -- a next turn may be taken for the session
    pub may_go_on : IfSome session (λ number. MayTakeTurn new number)
    -- what the answer tells
    pub begins : (a : Answer) (view : ℕ) → Adds old new a → a.reply ≡ Began view → Knows before old.number view × (HoldsAll before → view ≡ tso_of before)
    pub draws : (a : Answer) (cts : ℕ) → Adds old new a → cts_of a.reply ≡ Some cts → KnowsLess before old.number cts × (HoldsAll before → cts ≡ tso_of before + 1)
    pub skips : (a : Answer) → Adds old new a → a.reply ≡ Skipped → new.down ≡ 0
    pub stops : (a : Answer) → Adds old new a → TellsDown new.down a.reply
    -- nothing left, or down with nothing to answer
    pub done : (turn ≡ turns.Done → (new.down ≡ 0) × (has_nothing_left old session ≡ true)) × (old.down ≡ 0 → has_nothing_left old session ≡ true → turn ≡ turns.Done)
    pub stopped : ((by : ℕ) → turn ≡ turns.Stopped by → (new.down ≡ by) × (by ≢ 0) × HasNoStatement old session) × (new.down ≢ 0 → HasNoStatement old session → turn ≡ turns.Stopped new.down)

  -- A primary that was up has tried something: its own word says still that it is up. It is, or its log took it down
  pub record HasTried (run : Run) (pr : PrimaryView D) (n : NodeView) : Type 0 where
    pub stands : StandsWith g run pr n
    pub word : IsDownAsTold (record pr { down = 0 }) n
    pub own : (pr.down ≡ 0) ⊎ (pr.down ≡ pr.number)

  -- It stands on with its node, and its own word says whether it is down
  pub record HasTold (run : Run) (pr : PrimaryView D) (at after : NodeView) : Type 0 where
    pub stands : StandsWith g run pr after
    pub went : WentOn OnlyDowns pr.number at after
    pub told : IsDownAsTold pr after

  -- Or it goes down with the number of another, since it waited for this
  pub record GoesDownBy (run : Run) (mid new : PrimaryView D) (at after : NodeView) (cause : Cause) : Type 0 where
    pub up : mid.down ≡ 0
    pub rest : new ≡ record mid { down = new.down }
    pub tells : HasTold run new at after
    pub found : FoundOneDown mid new cause at after

  -- A session's next statement was tried by a primary that was up
  pub record TriedLine (run : Run) (old mid : PrimaryView D) (before at : NodeView) (number : ℕ) (s : Session) (line : Line) (turn : Turn) : Type 0 where
    pub comes : ComesTo g run old before number s line
    pub up : old.down ≡ 0
    pub told : IsDownAsTold old before
    pub tries : TriesTurn run old mid before at (Some number) turn
