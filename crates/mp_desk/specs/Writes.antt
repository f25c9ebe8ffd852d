-- What a write of a transaction leaves in its primary's part, why it stops, and how rows are put back and commits recorded.
use Rattle.std.specs.Prelude.{◌≡◌, ◌≢◌, ℕ, ◌+◌, ◌<◌, ◌≤◌, ◌⊎◌, List, length, drop, Option, Some, None}
use Rattle.mp_machine.specs.Lists.{IsIn}
use Rattle.mp_machine.specs.View.{part_in}
use Rattle.mp_model.specs.declared.ids.TrxId.{TrxId}
use Rattle.mp_cells.specs.declared.records.Mtr.{Mtr}
use Rattle.mp_cells.specs.declared.rows.Row.{Row}
use Rattle.mp_cells.specs.Trees.{row_at}
use Rattle.mp_cells.specs.Writes.{version_of}
use Rattle.mp_plans.specs.Fitting.{IsLeafOf}
use Rattle.mp_core_trx.specs.declared.part.Begun.{Begun}
use Rattle.mp_core_trx.specs.declared.part.SlotLoad.{SlotLoad}
use Rattle.mp_core_trx.specs.declared.slot.Shown.{Shown}
use Rattle.mp_core_trx.specs.declared.slot.SlotTag.TheVariants.{Free, Active, Prep, Committed}
use Rattle.mp_core_trx.specs.Words.{shows, shown_of}
use Rattle.mp_core_trx.specs.Parts.{draw_of, shown_at, HasBegun, Shows}
use Rattle.mp_core_trx.specs.World.{begun_in, slot_rows_in}
use Rattle.mp_core.specs.declared.part.CorePart.{CorePart}
use Rattle.mp_core.specs.CoreExtends.{durable_of}
use Rattle.mp_core.specs.OwnMtrs.{row_put_by, row_kept_by, row_restored_by, first_former, TrxMtr, trx_mtrs}
use Rattle.mp_shared.specs.Nodes.{NodeView}
use Rattle.mp_trx_fusion.specs.declared.slot_status.SlotStatus.{SlotStatus}
use Rattle.mp_trx_fusion.specs.declared.slot_status.SlotStatus.TheVariants as statuses
use Rattle.mp_buffer_fusion.specs.declared.buffer.Buffer.{Buffer}
use Rattle.mp_buffer_fusion.specs.Buffers.{buffer_of}
use Rattle.mp_supports.specs.Seeing.{IsLoadOf, IsSettledFor}
use Rattle.mp_supports.specs.Supports.{no_trace, commit_trace, RecordsCommit, IsBlocked, IsHeldBy, HasNoRoom}
use Rattle.mp_supports.specs.Kept.{Did}
use Rattle.mp_desk.specs.declared.halts.WriteHalt.{WriteHalt}
use Rattle.mp_desk.specs.declared.halts.WriteHalt.TheVariants as halts
use Rattle.mp_desk.specs.Desks.{MetWait, IsWayTo, InEachWorld}

-- The mtr puts this value at a key for a transaction, over this version, which the transaction may replace
pub record PutsValue (r : CorePart) (trx : Begun) (key : ℕ) (value : Option (List ℕ)) (former : Row) (m : Mtr) : Type 0 where
  pub row : Row
  pub put : row_put_by m ≡ Some row
  pub writer : row.writer ≡ Some trx.id
  pub its_key : row.key ≡ key
  pub value_is : row.value ≡ value
  pub not_restored : row_restored_by m ≡ None
  pub kept : row_kept_by m ≡ Some former
  pub former_key : former.key ≡ key
  pub over : (former.writer ≡ Some trx.id) ⊎ IsSettledFor r trx.view former

-- The buffer of a key's leaf, to which all pages on the way have buffers, shows this newest version of the key
pub record ShowsReplaced (pool : List Buffer) (key : ℕ) (row : Row) : Type 0 where
  pub number : ℕ
  pub leaf : Buffer
  pub buffer : buffer_of pool number ≡ Some leaf
  pub its_leaf : IsLeafOf key leaf.page
  pub row_is : row ≡ version_of key (row_at key leaf.page.rows)
  pub way : IsWayTo pool key number

-- in each world that can be, the writer of a version, if it has one, was begun and isn't freed
abbrev pub HasUnfreedWriter : NodeView → Row → Type 0
HasUnfreedWriter n row = (id : TrxId) → row.writer ≡ Some id → InEachWorld n
    (λ w. HasBegun (begun_in w.trx id.node) id × ¬ (shown_at (slot_rows_in w.trx id.node) id.slot ≡ shows Free id.version 0))

-- The writer of a version is another transaction, whose slot, loaded, showed this
pub record ShowsWriter (q : CorePart) (own : TrxId) (row : Row) (id : TrxId) (x : Shown) : Type 0 where
  pub writer : row.writer ≡ Some id
  pub other : id ≢ own
  pub load : SlotLoad
  pub is_load : IsLoadOf q id load
  pub shown : shown_of load.word ≡ x

-- it is open
abbrev pub ShowsOpenWriter : CorePart → TrxId → Row → TrxId → Type 0
ShowsOpenWriter q own row id = ShowsWriter q own row id (shows Active id.version 0) ⊎ ShowsWriter q own row id (shows Prep id.version 0)

-- what a status of another transaction says against a write: it is open and no older; it committed above the view; it is
-- open and older
abbrev pub IsOpenStatus : SlotStatus → Type 0
IsOpenStatus status = (status ≡ statuses.Active) ⊎ (status ≡ statuses.Prep)

abbrev pub StopsWrite : Begun → TrxId → SlotStatus → WriteHalt → Type 0
StopsWrite trx id status (halts.Writer other) = (other ≡ id) × IsOpenStatus status × (trx.id.version ≤ id.version)
StopsWrite trx id status (halts.Conflict other cts) = (other ≡ id) × (status ≡ statuses.Committed cts) × (trx.view < cts)
StopsWrite trx id status (halts.Held other) = (other ≡ id) × IsOpenStatus status × (id.version < trx.id.version)
StopsWrite trx id status _ = ⊥

-- why a transaction may not replace a version
abbrev pub Withstands : CorePart → Begun → Row → WriteHalt → Type 0
Withstands q trx row (halts.Writer id) = ShowsOpenWriter q trx.id row id × (trx.id.version ≤ id.version)
Withstands q trx row (halts.Conflict id cts) = ShowsWriter q trx.id row id (shows Committed id.version cts) × (trx.view < cts)
Withstands q trx row (halts.Held id) = ShowsOpenWriter q trx.id row id × (id.version < trx.id.version)
Withstands q trx row _ = ⊥

-- why a write isn't planned and its pages aren't taken
abbrev pub HaltsPlan : ℕ → NodeView → NodeView → WriteHalt → Type 0
HaltsPlan p before after (halts.Word wait) = MetWait p before after wait
HaltsPlan p before after halts.Full = (r : CorePart) → part_in after.parts p ≡ Some r → HasNoRoom r
HaltsPlan p before after _ = ⊥

-- why a write stops, by what the part has then: a page couldn't be had; another transaction, no older, holds the key; one
-- committed it above the view; an older one holds it; too few pages are clear; or the log's disk failed
abbrev pub HaltsWrite : ℕ → Begun → ℕ → NodeView → NodeView → WriteHalt → Type 0
HaltsWrite p trx key before after (halts.Word wait) = MetWait p before after wait
HaltsWrite p trx key before after (halts.Writer id) = (r : CorePart) → part_in after.parts p ≡ Some r
    → IsHeldBy r trx.id key id × (trx.id.version ≤ id.version)
HaltsWrite p trx key before after (halts.Conflict id cts) = (r : CorePart) → part_in after.parts p ≡ Some r
    → IsBlocked r trx.id key id (shows Committed id.version cts) × (trx.view < cts)
HaltsWrite p trx key before after (halts.Held id) = (r : CorePart) → part_in after.parts p ≡ Some r
    → IsHeldBy r trx.id key id × (id.version < trx.id.version)
HaltsWrite p trx key before after halts.Full = (r : CorePart) → part_in after.parts p ≡ Some r → HasNoRoom r
HaltsWrite p trx key before after halts.Failed = Unit {0}

-- the rows that stood before a transaction's first puts of its keys are these
abbrev pub HasFormers : CorePart → TrxId → List Row → Type 0
HasFormers q id formers = (key : ℕ) → first_former q.pages.made id key ≡ row_at key formers

-- The rows of a transaction from one place up to another were put back, each by one mtr; nothing else was made
pub record PutsBackRows (id : TrxId) (formers : List Row) (from upto : ℕ) (q r : CorePart) : Type 0 where
  pub did : Did q r no_trace
  pub begun : r.trx.begun ≡ q.trx.begun
  pub rows : r.trx.rows ≡ q.trx.rows
  pub more : from ≤ upto
  pub within : upto ≤ length formers
  pub counted : length r.pages.made + from ≡ length q.pages.made + upto
  pub left : HasFormers r id (drop upto formers)
  pub others : (other : TrxId) → other ≢ id → (key : ℕ) → first_former r.pages.made other key ≡ first_former q.pages.made other key
  pub its : (m : TrxMtr) → IsIn m (trx_mtrs r.pages.made) → IsIn m (trx_mtrs q.pages.made) ⊎ (m.of ≡ Some id)

-- The transaction was prepared, drew this timestamp, and its commit was recorded; nothing else was made
pub record CommitsAt (trx : Begun) (cts : ℕ) (q r : CorePart) : Type 0 where
  pub mtr : TrxMtr
  pub did : Did q r (commit_trace (draw_of trx.id cts) mtr)
  pub recorded : RecordsCommit r trx.id trx.view cts mtr
  pub begun : r.trx.begun ≡ q.trx.begun
  pub counted : length r.pages.made ≡ length q.pages.made + 1
  pub formers : (id : TrxId) (key : ℕ) → first_former r.pages.made id key ≡ first_former q.pages.made id key
  pub other_slots : (slot : ℕ) → slot ≢ trx.id.slot → shown_at r.trx.rows slot ≡ shown_at q.trx.rows slot
  pub its : (m : TrxMtr) → IsIn m (trx_mtrs r.pages.made) → IsIn m (trx_mtrs q.pages.made) ⊎ ((m ≡ mtr) × (row_restored_by mtr.mtr ≡ None))

-- and the record is durable, and the slot shows the commit
pub record IsPublished (trx : Begun) (cts : ℕ) (q r : CorePart) : Type 0 where
  pub commits : CommitsAt trx cts q r
  pub durable : commits.mtr.mtr.llsn ≤ durable_of r
  pub shown : shown_at r.trx.rows trx.id.slot ≡ shows Committed trx.id.version cts

-- or it is not known whether it is, since the log's disk failed; the slot shows that the commit has begun
pub record IsInTheBalance (trx : Begun) (cts : ℕ) (q r : CorePart) : Type 0 where
  pub commits : CommitsAt trx cts q r
  pub not_durable : durable_of r < commits.mtr.mtr.llsn
  pub shown : Shows r.trx.rows trx.id Prep
