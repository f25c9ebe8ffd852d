-- A primary's desk: when it agrees with the primary's part, and what the calls that bring pages to it do.
use Rattle.std.specs.Prelude.{◌≡◌, ◌≢◌, ℕ, ◌+◌, ◌<◌, ◌≤◌, ◌⊎◌, max, true, false, List, [], length, Some, IfSome}
use Rattle.mp_machine.specs.Lists.{IsIn}
use Rattle.mp_machine.specs.View.{part_in}
use Rattle.mp_model.specs.declared.waiting.NotYet.{NotYet}
use Rattle.mp_model.specs.declared.waiting.WordKind.TheVariants.{Lock}
use Rattle.mp_cells.specs.declared.records.Mtr.{Mtr}
use Rattle.mp_cells.specs.declared.rows.Link.{Link}
use Rattle.mp_cells.specs.declared.rows.Row.{Row}
use Rattle.mp_cells.specs.PageView.{PageView}
use Rattle.mp_cells.specs.Trees.{PageMap, IsTree, root, leaf_at}
use Rattle.mp_cells.specs.Writes.{record_in, undo_at}
use Rattle.mp_plans.specs.Fitting.{IsLeafOf}
use Rattle.mp_core_trx.specs.Parts.{newest}
use Rattle.mp_core_pages.specs.declared.page_lock.Held.TheVariants.{No, Write}
use Rattle.mp_core_pages.specs.declared.part.GivenPage.{GivenPage}
use Rattle.mp_core_pages.specs.declared.part.Placed.{Placed}
use Rattle.mp_core_pages.specs.PageParts.{told_llsn}
use Rattle.mp_core.specs.declared.part.CorePart.{CorePart}
use Rattle.mp_core.specs.Contents.{page_ops}
use Rattle.mp_core.specs.CoreExtends.{CoreExtends}
use Rattle.mp_core.specs.World.{CoreWorld, core_part}
use Rattle.mp_machine.specs.View.{ViewAgrees}
use Rattle.mp_facts.specs.Facts.{Facts, pages_now}
use Rattle.mp_shared.specs.Nodes.{Run, NodeView, HoldsPart, Reached}
use Rattle.mp_shared.specs.PageSteps.{held_in, MissedFrame}
use Rattle.mp_lock_fusion.specs.LockCalls.{CouldNotRead, CouldNotWrite}
use Rattle.mp_buffer_fusion.specs.declared.buffer.Buffer.{Buffer}
use Rattle.mp_buffer_fusion.specs.Buffers.{buffer_of, IsBuffered}
use Rattle.mp_buffer_fusion.specs.Agreement.{AgreesWith}
use Rattle.mp_buffer_fusion.specs.Fetching.{frame_missed}
use Rattle.mp_tree.specs.Searches.{IsOnPath}
use Rattle.mp_page.specs.Pagers.{Handed, Extends}
use Rattle.std.specs.Option.{option_map}
use Rattle.mp_supports.specs.Steps.{OnlyLooked}
use Rattle.mp_supports.specs.Agreement.{last_made_llsn, HasMadeUndo}
use Rattle.mp_desk.specs.declared.desk.Desk.{Desk}

-- The desk agrees with its primary's part: the buffers have the contents that the part has; the LLSN is not below that of
-- the last mtr made or of a page in a buffer, and not above all that the part made or was told; the current undo page is one
-- that the part made
pub record DeskAgrees (desk : Desk) (q : CorePart) : Type 0 where
  pub pool : AgreesWith desk.pool q.pages
  pub not_below : last_made_llsn q ≤ desk.llsn
  pub not_above : desk.llsn ≤ max (last_made_llsn q) (told_llsn page_ops q.pages.given)
  pub seen : (k : ℕ) (b : Buffer) → buffer_of desk.pool k ≡ Some b → b.page.llsn ≤ desk.llsn
  pub undo_page : IfSome desk.undo (λ page. (2 ≤ page) × (page < 4096) × HasMadeUndo q page)

-- Only the part of one primary changed, and so; what it knows of primaries that are down stays
pub record Moves (So : CorePart → CorePart → Type 0) (p : ℕ) (before after : NodeView) : Type 0 where
  pub run : after.run ≡ before.run
  pub frames : after.frames ≡ before.frames
  pub others : (n : ℕ) → n ≢ p → part_in after.parts n ≡ part_in before.parts n
  pub mine : (q : CorePart) → part_in before.parts p ≡ Some q → (r : CorePart) × (part_in after.parts p ≡ Some r) × So q r × (r.downs ≡ q.downs)

-- A primary is at work at its desk: its node has the primary's part and no frame, and the desk agrees with the part
pub record IsAtDesk (run : Run) (desk : Desk) (p : ℕ) (n : NodeView) : Type 0 where
  pub its_run : n.run ≡ run
  pub reached : Reached n
  pub part : HoldsPart n p
  pub frames : n.frames ≡ []
  pub agrees : (q : CorePart) → part_in n.parts p ≡ Some q → DeskAgrees desk q
  -- a page whose buffer isn't clean is the primary's to write
  pub written : (k : ℕ) (b : Buffer) → buffer_of desk.pool k ≡ Some b → b.clean ≡ false → held_in n p k ≡ Write

-- a page was given to the part since it was this one: after all that was made then, and knowing as much
pub record IsGivenSince (start q : CorePart) (k : ℕ) (page : PageView) (g : GivenPage PageView) : Type 0 where
  pub given : IsIn g q.pages.given
  pub number : g.number ≡ k
  pub page_is : g.page ≡ page
  pub knew : newest start.trx ≤ g.known
  pub since : (x : Placed Mtr) → IsIn x start.pages.made → x.at < g.height

-- all buffers are clean, and each has a page that was given to the part since it was this one
abbrev pub AreGivenSince : CorePart → CorePart → List Buffer → Type 0
AreGivenSince start q pool = (b : Buffer) → IsIn b pool
    → (b.clean ≡ true) × ((g : GivenPage PageView) × IsGivenSince start q b.number b.page g)

-- so it is of the primary's part in a node, since some part of it
abbrev pub IsReadAfresh : Desk → ℕ → NodeView → Type 0
IsReadAfresh desk p n = (q : CorePart) → part_in n.parts p ≡ Some q
    → (start : CorePart) × CoreExtends start q × AreGivenSince start q desk.pool

-- the desk is as it was, but that more pages may be in buffers and the LLSN may be greater
pub record KeepsDesk (old new : Desk) : Type 0 where
  pub undo : new.undo ≡ old.undo
  pub llsn : old.llsn ≤ new.llsn
  pub buffers : (k : ℕ) (b : Buffer) → buffer_of old.pool k ≡ Some b
      → (c : Buffer) × (buffer_of new.pool k ≡ Some c) × (c.page ≡ b.page) × (c.clean ≡ b.clean)

-- the plan and the mtr are as they were
abbrev pub HasSameWork : Desk → Desk → Type 0
HasSameWork old new = (new.plan ≡ old.plan) × (new.mtr ≡ old.mtr)

-- each lock that was held is held
pub record KeepsLocks (p : ℕ) (before after : NodeView) : Type 0 where
  pub written : (k : ℕ) → held_in before p k ≡ Write → held_in after p k ≡ Write
  pub held : (k : ℕ) → held_in before p k ≢ No → held_in after p k ≢ No

-- A call brought at most so many pages to the desk. The part only looked, and what is in buffers since an earlier part of it
-- was given to it since then
pub record Brings (most p : ℕ) (old new : Desk) (before after : NodeView) : Type 0 where
  pub looked : Moves OnlyLooked p before after
  pub desk : KeepsDesk old new
  pub locks : KeepsLocks p before after
  pub few : length new.pool ≤ length old.pool + most
  pub given : (start q r : CorePart) → part_in before.parts p ≡ Some q → CoreExtends start q → AreGivenSince start q old.pool
      → part_in after.parts p ≡ Some r → AreGivenSince start r new.pool

-- Why one call for a page was refused: its lock's word, read in that call, excluded it, or its frame was missed
abbrev pub MissesHere : ℕ → NodeView → NodeView → NotYet → Type 0
MissesHere p before after wait =
    ((wait.of ≡ Lock) × (CouldNotRead p wait.at before wait.seen after ⊎ CouldNotWrite p wait.at before wait.seen after))
    ⊎ ((wait ≡ frame_missed wait.at) × MissedFrame p wait.at before after)

-- somewhere between two states of a node, a call for a page was refused so
pub record MetWait (p : ℕ) (before after : NodeView) (wait : NotYet) : Type 0 where
  pub from : NodeView
  pub to : NodeView
  pub came : Moves CoreExtends p before from
  pub met : MissesHere p from to wait
  pub went : Moves CoreExtends p to after

-- a buffer has the leaf of a key, under its lock
pub record HasLeaf (desk : Desk) (p key number : ℕ) (n : NodeView) : Type 0 where
  pub leaf : Buffer
  pub buffer : buffer_of desk.pool number ≡ Some leaf
  pub its_leaf : IsLeafOf key leaf.page
  pub lock : held_in n p number ≢ No

-- what the buffers show of each page
abbrev pub shown_by : List Buffer → Handed
shown_by pool k = option_map (λ (b : Buffer). b.page) (buffer_of pool k)

-- over any tree that has what the buffers show, the page is the leaf of the key, and each page on the way has a buffer
pub record IsWayTo (pool : List Buffer) (key number : ℕ) : Type 0 where
  pub end : (pages : PageMap) → Extends pages (shown_by pool) → (height : ℕ) → IsTree pages height
      → number ≡ (leaf_at pages height key root).page
  pub on_way : (pages : PageMap) → Extends pages (shown_by pool) → (height : ℕ) → IsTree pages height
      → (n : ℕ) → IsOnPath key pages n → IsBuffered pool n

-- what holds in each world that can be reached and agrees with what the node knows
abbrev pub InEachWorld : NodeView → (CoreWorld → Type 0) → Type 0
InEachWorld n Holds = (w : CoreWorld) → Facts n.run.opening w → ViewAgrees (core_part w) n.parts → Holds w

-- an undo record lies at the link, now and after all further steps
abbrev pub LiesAt : ℕ → NodeView → Link → Type 0
LiesAt p n link = (after : NodeView) → Moves CoreExtends p n after → InEachWorld after
    (λ w. (row : Row) × (undo_at (pages_now n.run.opening w) link ≡ Some row))

-- an undo page that was given shows this record at the link
pub record IsRecordAt (q : CorePart) (link : Link) (row : Row) : Type 0 where
  pub page : GivenPage PageView
  pub given : IsIn page q.pages.given
  pub number : page.number ≡ link.page
  pub row_is : record_in page.page link.index ≡ Some row
