-- What calls outside a turn leave, which end a session's transaction without an answer.
use Rattle.std.specs.Prelude.{◌≡◌, ◌≢◌, ℕ, ◌≤◌, ◌⊎◌, true, List, ◌++◌, slice_get, Option, None, Some, Result, Ok, Err}
use Rattle.std.specs.List.{AllByRecursion}
use Rattle.mp_machine.specs.Lists.{IsIn}
use Rattle.mp_machine.specs.View.{part_in}
use Rattle.mp_model.specs.declared.ids.TrxId.{TrxId}
use Rattle.mp_model.specs.declared.waiting.Cause.TheVariants.{Word}
use Rattle.mp_model.specs.declared.waiting.NotYet.{NotYet}
use Rattle.mp_cells.specs.declared.records.Mtr.{Mtr}
use Rattle.mp_core_trx.specs.declared.part.Begun.{Begun}
use Rattle.mp_core_trx.specs.declared.slot.SlotTag.TheVariants.{Free}
use Rattle.mp_core_trx.specs.Parts.{Shows, draw_of}
use Rattle.mp_core.specs.declared.part.CorePart.{CorePart}
use Rattle.mp_core.specs.CoreExtends.{CoreExtends}
use Rattle.mp_core.specs.OwnMtrs.{commit_by_mtr}
use Rattle.mp_book.specs.declared.session.Session.{Session}
use Rattle.mp_book.specs.declared.stage.Stage.TheVariants.{Open, Outside}
use Rattle.mp_book.specs.Stages.{HaveOneRowEach}
use Rattle.mp_log.specs.Logs.{IsText, mtrs_of}
use Rattle.mp_outside.specs.declared.disks.Disk.{Ghosts}
use Rattle.mp_shared.specs.Nodes.{Run, NodeView}
use Rattle.mp_supports.specs.Kept.{Entry}
use Rattle.mp_primary.specs.declared.outside.CommitEnd.{CommitEnd}
use Rattle.mp_primary.specs.declared.outside.CommitEnd.TheVariants as ends
use Rattle.mp_primary.specs.declared.outside.RollRefusal.{RollRefusal}
use Rattle.mp_primary.specs.declared.outside.RollRefusal.TheVariants as refusals
use Rattle.mp_desk.specs.Desks.{MetWait}
use Rattle.mp_primary.specs.Primaries.{PrimaryView, PrimaryAgreesIn, StandsWith}
use Rattle.mp_primary.specs.Downs.{WentOn, IsDownAsTold, FoundAllUp, FoundOneDown, WentDownHere}
use Rattle.mp_primary.specs.Turns.{IsSessionOf}

module _ {D : Type 0} where
  -- the session's transaction is this one, and its rollback hasn't begun
  abbrev pub HasOpen : PrimaryView D → ℕ → Begun → Type 0
  HasOpen pr number trx = (s : Session) × IsSessionOf pr number s × (s.stage ≡ Open trx)

  -- or a call outside a turn began to roll it back, and left rows of which each key has one
  abbrev pub IsLeftHalf : PrimaryView D → ℕ → Begun → Type 0
  IsLeftHalf pr number trx = (s : Session) × IsSessionOf pr number s × (s.stage ≡ Outside (Some trx)) × HaveOneRowEach s.formers.items

  abbrev pub HasOpenStill : PrimaryView D → ℕ → Begun → Type 0
  HasOpenStill pr number trx = HasOpen pr number trx ⊎ IsLeftHalf pr number trx

  -- the session's stage is that of calls outside a turn
  abbrev pub StandsOutside : PrimaryView D → ℕ → Option Begun → Type 0
  StandsOutside pr number trx = (s : Session) × IsSessionOf pr number s × (s.stage ≡ Outside trx)

module _ {D : Type 0} (g : Ghosts D) where
  -- A call outside a turn for a session: the primary stands on, no answer is added, and other sessions are as they were
  pub record CallsOutside (run : Run) (old new : PrimaryView D) (before after : NodeView) (session : ℕ) : Type 0 where
    pub stands : StandsWith g run new after
    pub number : new.number ≡ old.number
    pub work : new.work ≡ old.work
    pub answers : new.book.answers.items ≡ old.book.answers.items
    pub went : WentOn CoreExtends old.number before after
    pub goes_on : (entries : List Entry) → PrimaryAgreesIn g old entries before
        → (more : List Entry) × AllByRecursion (λ e. e.answer ≡ None) more × PrimaryAgreesIn g new (entries ++ more) after
    pub others : (other : ℕ) → session ≢ other → slice_get new.book.sessions.items other ≡ slice_get old.book.sessions.items other
    pub told : IsDownAsTold new after
    pub faults : g.faults old.media.log.disk ≤ g.faults new.media.log.disk
    pub tells : g.tells new.media.log.disk ≡ g.tells old.media.log.disk

  -- every image of the log holds a record of this commit
  abbrev pub IsOnEachImage : PrimaryView D → TrxId → ℕ → Type 0
  IsOnEachImage pr id cts = g.tells pr.media.log.disk ≡ true → (c : List ℕ) → g.image pr.media.log.disk c
      → (batches : List (List Mtr)) × IsText batches c × ((m : Mtr) × IsIn m (mtrs_of batches) × (commit_by_mtr m ≡ Some (draw_of id cts)))

  -- how a commit ended: there was nothing to commit; at this timestamp; or the log's disk failed, behind its record or before
  abbrev pub EndsAs : PrimaryView D → PrimaryView D → ℕ → Begun → CommitEnd → Type 0
  EndsAs old new number trx ends.None = (new.down ≡ 0) × StandsOutside new number None
  EndsAs old new number trx (ends.At cts) = (new.down ≡ 0) × StandsOutside new number None × IsOnEachImage new trx.id cts
  EndsAs old new number trx (ends.Unknown cts) = WentDownHere g old new
  EndsAs old new number trx ends.Stopped = WentDownHere g old new

  -- how a rollback ended: the slot is free; or a page couldn't be had of primaries that are up, and a later call goes on; or the
  -- log's disk failed, or one that is down holds the page
  abbrev pub RollsBackAs : PrimaryView D → PrimaryView D → NodeView → NodeView → ℕ → Begun → Result (Unit {0}) RollRefusal → Type 0
  RollsBackAs old new before after number trx (Ok done) = (new.down ≡ 0) × StandsOutside new number None
      × ((q : CorePart) → part_in after.parts old.number ≡ Some q → Shows q.trx.rows trx.id Free)
  RollsBackAs old new before after number trx (Err (refusals.NotYet wait)) = (new.down ≡ 0) × IsLeftHalf new number trx
      × ((at : NodeView) × MetWait old.number before at wait × FoundAllUp old (Word wait) at after)
  RollsBackAs old new before after number trx (Err (refusals.Stopped by)) = (by ≡ new.down)
      × (WentDownHere g old new ⊎ ((wait : NotYet) × (at : NodeView) × MetWait old.number before at wait × FoundOneDown old new (Word wait) at after))
