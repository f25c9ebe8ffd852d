-- What a primary that begins its one transaction over a fresh store relies on.
use Rattle.std.specs.Prelude.{◌≡◌, ℕ, true, [], length, Some, None}
use Rattle.mp_machine.specs.View.{part_in}
use Rattle.mp_core_trx.specs.Events.{IsNode}
use Rattle.mp_core_pages.specs.PageParts.{pages_newcomer}
use Rattle.mp_core.specs.declared.part.CorePart.{CorePart}
use Rattle.mp_core.specs.World.{core_part, core_start}
use Rattle.mp_shared.specs.Nodes.{NodeView}
use Rattle.mp_outside.specs.declared.disks.Disk.{Ghosts}
use Rattle.mp_log.specs.Opening.{IsOpened, first_above}
use Rattle.mp_log.specs.Tails.{LogView}
use Rattle.mp_desk.specs.Making.{IsOpenLog}

-- The node has the part of a primary that took no step, in a run that begins so many transactions over a base of zeros
pub record HasFirstPart (n : NodeView) (p many : ℕ) : Type 0 where
  pub part : part_in n.parts p ≡ Some (core_part (core_start n.run.opening) p)
  pub node : IsNode n.run.opening.trx p
  pub base : n.run.opening.trx.base ≡ record { ts = 0; llsn = 0; version = 0 }
  pub begins : n.run.opening.trx.begins ≡ many

-- It has the part of a primary that knows nothing of pages, over the LLSN 0
pub record KnowsNoPage (n : NodeView) (p : ℕ) : Type 0 where
  pub mine : CorePart
  pub holds : part_in n.parts p ≡ Some mine
  pub node : IsNode mine.trx.opening p
  pub base : mine.trx.opening.base.llsn ≡ 0
  pub pages : mine.pages ≡ pages_newcomer

-- its part made so many mtrs
abbrev pub HasMade : NodeView → ℕ → ℕ → Type 0
HasMade n p count = (q : CorePart) → part_in n.parts p ≡ Some q → length q.pages.made ≡ count

-- A log that takes a primary's mtrs; none is appended, and none that was read is above the LLSN 0
pub record IsFreshLog {D : Type 0} (g : Ghosts D) (p : ℕ) (log : LogView D) : Type 0 where
  pub takes : IsOpenLog p 0 log
  pub nothing : log.tail.bytes ≡ []
  pub opened : g.tells log.disk ≡ true → IsOpened p log.tail log.llsns (g.seen log.disk) (g.image log.disk)
  pub none : first_above 0 log.llsns ≡ None
