-- How a primary makes an mtr of its plan, and what its log holds then.
use Rattle.std.specs.Prelude.{◌≡◌, ℕ, ◌+◌, ◌<◌, ◌≤◌, ◌⊎◌, true, List, [], ◌∷◌, length, Option, Some}
use Rattle.mp_machine.specs.Lists.{IsIn, updated}
use Rattle.mp_machine.specs.View.{part_in}
use Rattle.mp_model.specs.declared.ids.TrxId.{TrxId}
use Rattle.mp_cells.specs.declared.changes.Change.TheVariants.{MakeUndo}
use Rattle.mp_cells.specs.declared.records.Record.{Record}
use Rattle.mp_cells.specs.declared.records.Record.TheVariants as records
use Rattle.mp_cells.specs.declared.records.Mtr.{Mtr}
use Rattle.mp_cells.specs.Plans.{Plan, CanApply, plan_of}
use Rattle.mp_cells.specs.Writes.{IsStep}
use Rattle.mp_core_pages.specs.declared.part.Placed.{Placed}
use Rattle.mp_core_pages.specs.Histories.{llsn_at}
use Rattle.mp_core_pages.specs.PageEvents.{with_mtr}
use Rattle.mp_core.specs.declared.part.CorePart.{CorePart}
use Rattle.mp_core.specs.MtrKinds.{MayPut, MayRestore}
use Rattle.mp_core.specs.Commits.{commit_records}
use Rattle.mp_core.specs.Contents.{page_ops}
use Rattle.mp_core.specs.CoreExtends.{durable_of}
use Rattle.mp_core.specs.OwnMtrs.{TrxMtr, trx_mtrs}
use Rattle.mp_outside.specs.declared.disks.Disk.{Ghosts}
use Rattle.mp_log.specs.Logs.{most_batch_bytes}
use Rattle.mp_log.specs.Tails.{LogView}
use Rattle.mp_shared.specs.Nodes.{NodeView}
use Rattle.mp_shared.specs.PageSteps.{with_pages}
use Rattle.mp_buffer_fusion.specs.declared.buffer.Buffer.{Buffer}
use Rattle.mp_buffer_fusion.specs.Buffers.{buffer_of, pool_changed, IsBuffered}
use Rattle.mp_supports.specs.Work.{Work}
use Rattle.mp_supports.specs.Steps.{MadeOne, Forced}
use Rattle.mp_supports.specs.Agreement.{last_made_llsn}
use Rattle.mp_supports.specs.Media.{OnDisk}
use Rattle.mp_desk.specs.declared.desk.Desk.{Desk}
use Rattle.mp_desk.specs.declared.media.Media.{Media}
use Rattle.mp_desk.specs.Desks.{Moves, shown_by}

-- the LLSN of the page in a buffer, or 0
abbrev pub llsn_in : List Buffer → ℕ → ℕ
llsn_in pool k = llsn_at page_ops (shown_by pool k)

-- the records of a plan, each with the LLSN that its page has before it
abbrev pub records_of_plan : ℕ → (ℕ → ℕ) → Plan → List Record
records_of_plan llsn llsn_before [] = []
records_of_plan llsn llsn_before (step ∷ plan) = records.Page step.0 (llsn_before step.0) step.1 ∷ records_of_plan llsn (updated llsn_before step.0 llsn) plan

-- the changes of a plan can be made in the buffers, one after another, by an mtr of this LLSN
abbrev pub CanChangeBuffers : ℕ → List Buffer → Plan → Type 0
CanChangeBuffers llsn pool [] = Unit {0}
CanChangeBuffers llsn pool (step ∷ plan) = IsStep step × ((b : Buffer) × (buffer_of pool step.0 ≡ Some b) × CanApply step.1 b.page)
    × CanChangeBuffers llsn (pool_changed llsn step.0 step.1 pool) plan

-- the planned mtr of a desk, under the LLSN after its own
abbrev pub mtr_of_plan : Desk → Mtr
mtr_of_plan desk = record { node = desk.mtr.node; llsn = desk.llsn + 1; records = records_of_plan (desk.llsn + 1) (llsn_in desk.pool) desk.plan }

-- the mtr that records a commit
abbrev pub mtr_of_commit : ℕ → ℕ → TrxId → ℕ → Mtr
mtr_of_commit p llsn id cts = record { node = p; llsn = llsn; records = commit_records id cts }

-- the part may make an mtr of this plan: it puts a row, or puts one back
abbrev pub MayPlan : CorePart → Plan → Type 0
MayPlan q plan = (m : Mtr) → plan_of m.records ≡ plan → MayPut q m ⊎ MayRestore q m

-- an mtr was made after all that the parts which a node has had made
pub record IsMadeAfter (n : NodeView) (x : Placed Mtr) : Type 0 where
  pub above_made : (k : ℕ) (q : CorePart) (m : Placed Mtr) → part_in n.parts k ≡ Some q → IsIn m q.pages.made → m.at < x.at

-- each mtr that the part has more was made after all that the parts which the node had then had made
abbrev pub MakesLater : ℕ → NodeView → NodeView → Type 0
MakesLater p before after = (q r : CorePart) → part_in before.parts p ≡ Some q → part_in after.parts p ≡ Some r → (m : TrxMtr) → IsIn m (trx_mtrs r.pages.made)
    → IsIn m (trx_mtrs q.pages.made) ⊎ ((k : ℕ) (s : CorePart) (x : Placed Mtr) → part_in before.parts k ≡ Some s → IsIn x s.pages.made → x.at < m.at)

-- The primary made an mtr: the mtr, and nothing else, is new in its part, and it was made after all that the node knew
pub record MakesMtr (p : ℕ) (x : Placed Mtr) (before after : NodeView) : Type 0 where
  pub becomes : after ≡ with_pages before p (with_mtr x.at x.mtr) 1
  pub moves : Moves (MadeOne x) p before after
  pub after_all : IsMadeAfter before x

-- the same buffers are there, whatever is in them
pub record HasSamePages (old new : List Buffer) : Type 0 where
  pub count : length new ≡ length old
  pub kept : (k : ℕ) → IsBuffered old k → IsBuffered new k

-- the undo page that a plan makes last is the current one; where it makes none, the current one stays
abbrev pub IsUndoAfter : Plan → Option ℕ → Option ℕ → Type 0
IsUndoAfter plan old new = ((page : ℕ) × (new ≡ Some page) × IsIn (page, MakeUndo) plan)
    ⊎ ((new ≡ old) × ((page : ℕ) → IsIn (page, MakeUndo) plan → ⊥))

-- A log that takes mtrs: it is the primary's, and has none above this LLSN; what is appended is no more than a batch may have
pub record IsOpenLog {D : Type 0} (p llsn : ℕ) (log : LogView D) : Type 0 where
  pub live : log.tail.live ≡ true
  pub node : log.tail.node ≡ p
  pub last : log.tail.last ≤ llsn
  pub fits : length log.tail.bytes ≤ most_batch_bytes

-- WHAT THE MEDIA HOLD of the part of the primary with this number, where both began at one base: the log is that primary's, also
-- once it is closed; the part has an mtr where something is unforced
module _ {D : Type 0} (g : Ghosts D) where
  pub record HoldsPartOf (work : Work) (down number : ℕ) (media : Media D) (q : CorePart) : Type 0 where
    pub base : q.trx.opening.base ≡ work.base
    pub node : media.log.tail.node ≡ number
    pub on_disk : OnDisk work q down media.log.tail media.unforced (g.tells media.log.disk) (g.seen media.log.disk) (g.image media.log.disk)
    pub some_made : media.unforced ≡ true → 0 < length q.pages.made

  abbrev pub MediaAgree : Work → ℕ → Media D → ℕ → NodeView → Type 0
  MediaAgree work down media p n = (q : CorePart) → part_in n.parts p ≡ Some q → HoldsPartOf work down p media q

  -- they agree for some work: who forces them needs to know no more
  abbrev pub MediaAgreeSomehow : Media D → ℕ → NodeView → Type 0
  MediaAgreeSomehow media p n = (work : Work) × MediaAgree work 0 media p n

-- all mtrs of the part are durable then, and nothing else changed
abbrev pub AllForced : CorePart → CorePart → Type 0
AllForced q r = (last_made_llsn r ≡ durable_of r) × ((r ≡ q) ⊎ Forced (last_made_llsn q) q r)

-- its mtrs were made durable, or nothing changed
abbrev pub SomeForced : CorePart → CorePart → Type 0
SomeForced q r = (r ≡ q) ⊎ Forced (last_made_llsn q) q r
