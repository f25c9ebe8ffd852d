-- What calls outside a turn come to, before the primary looks which primaries are down and tells whether it is.
use Rattle.std.specs.Prelude.{◌≡◌, ◌≢◌, ℕ, ◌≤◌, ◌⊎◌, List, ◌++◌, slice_get, None, Some, Result, Ok, Err}
use Rattle.std.specs.List.{AllByRecursion}
use Rattle.mp_machine.specs.View.{part_in}
use Rattle.mp_model.specs.declared.waiting.Cause.TheVariants.{Word}
use Rattle.mp_core_trx.specs.declared.part.Begun.{Begun}
use Rattle.mp_core_trx.specs.declared.slot.SlotTag.TheVariants.{Free}
use Rattle.mp_core_trx.specs.Parts.{Shows}
use Rattle.mp_core.specs.declared.part.CorePart.{CorePart}
use Rattle.mp_core.specs.CoreExtends.{CoreExtends}
use Rattle.mp_outside.specs.declared.disks.Disk.{Ghosts}
use Rattle.mp_shared.specs.Nodes.{Run, NodeView}
use Rattle.mp_supports.specs.Kept.{Entry}
use Rattle.mp_desk.specs.declared.halts.BackHalt.{BackHalt}
use Rattle.mp_desk.specs.declared.halts.BackHalt.TheVariants as backs
use Rattle.mp_desk.specs.Desks.{Moves, MetWait}
use Rattle.mp_primary.specs.declared.outside.RollRefusal.{RollRefusal}
use Rattle.mp_primary.specs.declared.outside.RollRefusal.TheVariants as refusals
use Rattle.mp_primary.specs.Primaries.{PrimaryView, PrimaryAgreesIn, StandsWith}
use Rattle.mp_primary.specs.Downs.{FoundAllUp, WentDownHere}
use Rattle.mp_primary.specs.Tries.{HasTold, GoesDownBy}
use Rattle.mp_primary.specs.OutsideCalls.{StandsOutside, IsLeftHalf}

module _ {D : Type 0} (g : Ghosts D) where
  -- A call outside a turn for a session of a primary that was up: it stands on, no answer is added, and other sessions are as
  -- they were
  pub record TriesOutside (run : Run) (old new : PrimaryView D) (before after : NodeView) (session : ℕ) : Type 0 where
    pub stands : StandsWith g run new after
    pub number : new.number ≡ old.number
    pub work : new.work ≡ old.work
    pub answers : new.book.answers.items ≡ old.book.answers.items
    pub went : Moves CoreExtends old.number before after
    pub goes_on : (entries : List Entry) → PrimaryAgreesIn g old entries before
        → (more : List Entry) × AllByRecursion (λ e. e.answer ≡ None) more × PrimaryAgreesIn g new (entries ++ more) after
    pub others : (other : ℕ) → session ≢ other → slice_get new.book.sessions.items other ≡ slice_get old.book.sessions.items other
    pub down : (new.down ≡ 0) ⊎ WentDownHere g old new
    pub faults : g.faults old.media.log.disk ≤ g.faults new.media.log.disk
    pub tells : g.tells new.media.log.disk ≡ g.tells old.media.log.disk

  -- how a rollback ended: the slot is free; or a page couldn't be had; or the log's disk failed
  abbrev pub BacksOutAs : PrimaryView D → PrimaryView D → NodeView → NodeView → ℕ → Begun → Result (Unit {0}) BackHalt → Type 0
  BacksOutAs old new before after number trx (Ok done) = (new.down ≡ 0) × StandsOutside new number None
      × ((q : CorePart) → part_in after.parts old.number ≡ Some q → Shows q.trx.rows trx.id Free)
  BacksOutAs old new before after number trx (Err (backs.Word wait)) = (new.down ≡ 0) × IsLeftHalf new number trx × MetWait old.number before after wait
  BacksOutAs old new before after number trx (Err backs.Failed) = WentDownHere g old new

  -- why a rollback stops that left rows: for a page of primaries that are up, of one that is down, or by the log
  abbrev pub RefusesFor : Run → PrimaryView D → PrimaryView D → NodeView → NodeView → BackHalt → RollRefusal → Type 0
  RefusesFor run mid new at after (backs.Word wait) (refusals.NotYet other) = (other ≡ wait) × (new ≡ mid) × HasTold g run new at after × FoundAllUp mid (Word wait) at after
  RefusesFor run mid new at after (backs.Word wait) (refusals.Stopped by) = (by ≡ new.down) × GoesDownBy g run mid new at after (Word wait)
  RefusesFor run mid new at after backs.Failed (refusals.NotYet other) = ⊥
  RefusesFor run mid new at after backs.Failed (refusals.Stopped by) = (by ≡ new.down) × (new ≡ mid) × HasTold g run new at after
