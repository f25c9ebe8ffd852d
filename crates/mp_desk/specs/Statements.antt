-- What the statements of a transaction do to its primary's part, and what each finds.
use Rattle.std.specs.Prelude.{◌≡◌, ◌≢◌, ℕ, ◌<◌, ◌≤◌, ◌⊎◌, List, [], ◌∷◌, ◌++◌, length, Option, Some, None}
use Rattle.mp_machine.specs.Lists.{IsIn}
use Rattle.mp_machine.specs.View.{part_in}
use Rattle.mp_model.specs.declared.ids.TrxId.{TrxId}
use Rattle.mp_model.specs.declared.key_value.KeyValue.{KeyValue}
use Rattle.mp_cells.specs.declared.records.Mtr.{Mtr}
use Rattle.mp_cells.specs.declared.rows.Row.{Row}
use Rattle.mp_cells.specs.PageView.{PageView, IsPage}
use Rattle.mp_plans.specs.Fitting.{IsLeafOf}
use Rattle.mp_tree.specs.declared.search.LeafRows.{LeafRows}
use Rattle.mp_tree.specs.Searches.{rows_above}
use Rattle.mp_cells.specs.Trees.{top}
use Rattle.mp_core_trx.specs.declared.part.Begun.{Begun}
use Rattle.mp_core_trx.specs.declared.part.SlotLoad.{SlotLoad}
use Rattle.mp_core_trx.specs.declared.slot.SlotTag.TheVariants.{Active, Prep}
use Rattle.mp_core_trx.specs.Words.{shows, shown_of}
use Rattle.mp_core_trx.specs.World.{begun_in}
use Rattle.mp_core_trx.specs.Parts.{newest, HasBegun, Shows}
use Rattle.mp_core_pages.specs.declared.part.GivenPage.{GivenPage}
use Rattle.mp_core_pages.specs.declared.part.Placed.{Placed}
use Rattle.mp_core.specs.declared.part.CorePart.{CorePart}
use Rattle.mp_core.specs.CoreExtends.{CoreExtends}
use Rattle.mp_core.specs.OwnMtrs.{row_restored_by, TrxMtr, trx_mtrs}
use Rattle.mp_shared.specs.Nodes.{NodeView}
use Rattle.mp_supports.specs.Seeing.{ShowsNewest, ShowsNext, IsLoadOf, IsHidden, IsSeenBy, Sees, IsStretch, ScansTo}
use Rattle.mp_supports.specs.Steps.{OnlyLooked, MadeOne}
use Rattle.mp_desk.specs.declared.desk.Desk.{Desk}
use Rattle.mp_desk.specs.declared.reading.Sight.{Sight}
use Rattle.mp_desk.specs.declared.reading.Sight.TheVariants as sights
use Rattle.mp_desk.specs.Desks.{IsGivenSince, Moves, KeepsLocks, HasSameWork, AreGivenSince, InEachWorld}

-- Nothing was begun, stored in a slot, drawn or made; mtrs may have become durable
pub record StaysQuiet (q r : CorePart) : Type 0 where
  pub extends : CoreExtends q r
  pub begun : r.trx.begun ≡ q.trx.begun
  pub rows : r.trx.rows ≡ q.trx.rows
  pub drew : r.trx.drew ≡ q.trx.drew
  pub made : r.pages.made ≡ q.pages.made

-- the part made this mtr, and was quiet before
pub record MakesThen (x : Placed Mtr) (q r : CorePart) : Type 0 where
  pub between : CorePart
  pub quiet : StaysQuiet q between
  pub made : MadeOne x between r

-- An open transaction of a primary that goes on: it was begun, is ACTIVE, and put nothing back
pub record IsReader (p : ℕ) (trx : Begun) (q : CorePart) : Type 0 where
  pub node : trx.id.node ≡ p
  pub begun : IsIn trx q.trx.begun
  pub active : Shows q.trx.rows trx.id Active
  pub whole : (m : TrxMtr) → IsIn m (trx_mtrs q.pages.made) → m.of ≡ Some trx.id → row_restored_by m.mtr ≡ None

-- so it is of the primary's part in a node
abbrev pub ReadsIn : ℕ → Begun → NodeView → Type 0
ReadsIn p trx n = (q : CorePart) → part_in n.parts p ≡ Some q → IsReader p trx q

-- A statement looked at pages and words. What is in buffers was given to the part as late as all that was there before
pub record LooksOn (p : ℕ) (old new : Desk) (before after : NodeView) : Type 0 where
  pub looked : Moves OnlyLooked p before after
  pub locks : KeepsLocks p before after
  pub work : HasSameWork old new
  pub undo : new.undo ≡ old.undo
  pub llsn : old.llsn ≤ new.llsn
  pub given : (start q r : CorePart) → part_in before.parts p ≡ Some q → CoreExtends start q → AreGivenSince start q old.pool
      → part_in after.parts p ≡ Some r → AreGivenSince start r new.pool

-- in each world that can be, the writer of a row, if it has one, was begun
abbrev pub HasBegunWriter : NodeView → Row → Type 0
HasBegunWriter n row = (id : TrxId) → row.writer ≡ Some id → InEachWorld n (λ w. HasBegun (begun_in w.trx id.node) id)

-- the part knows a timestamp at or above the transaction's view
abbrev pub KnowsView : CorePart → Begun → Type 0
KnowsView q trx = trx.view ≤ newest q.trx

-- the writer of a version is another transaction, whose slot, loaded, showed PREP
pub record IsInPrep (q : CorePart) (reader : TrxId) (row : Row) (id : TrxId) : Type 0 where
  pub writer : row.writer ≡ Some id
  pub other : id ≢ reader
  pub load : SlotLoad
  pub is_load : IsLoadOf q id load
  pub shown : shown_of load.word ≡ shows Prep id.version 0

-- how a reader with a view sees a version, by the slots' words that the part loaded
abbrev pub IsSight : CorePart → TrxId → ℕ → Row → Sight → Type 0
IsSight q reader view row sights.Seen = IsSeenBy q reader view row
IsSight q reader view row sights.Hidden = IsHidden q reader view row
IsSight q reader view row (sights.Prep id) = IsInPrep q reader row id

-- a leaf that was given to a primary's part shows this as a key's newest version
abbrev pub IsNewestIn : ℕ → NodeView → ℕ → Row → Type 0
IsNewestIn p n key row = (q : CorePart) → part_in n.parts p ≡ Some q → (leaf : GivenPage PageView) × ShowsNewest q leaf key row

-- a leaf that was given to the part since shows this as a key's newest version
pub record ShowsSince (start r : CorePart) (key : ℕ) (row : Row) : Type 0 where
  pub leaf : GivenPage PageView
  pub since : IsGivenSince start r leaf.number leaf.page leaf
  pub shows : ShowsNewest r leaf key row

-- these are the rows from a key on, and the high fence, of the key's leaf, which was given to the part since
pub record RowsSince (start r : CorePart) (low : ℕ) (found : LeafRows) : Type 0 where
  pub leaf : GivenPage PageView
  pub since : IsGivenSince start r leaf.number leaf.page leaf
  pub its_leaf : IsLeafOf low leaf.page
  pub page : IsPage leaf.page
  pub rows : found.rows ≡ rows_above low leaf.page.rows
  pub next : found.next ≡ leaf.page.high

-- the versions of a key from the newest on, all hidden, lead to this one
abbrev pub LeadsPast : CorePart → TrxId → ℕ → Row → List Row → Row → Type 0
LeadsPast q reader view row [] last = last ≡ row
LeadsPast q reader view row (next ∷ older) last =
    IsHidden q reader view row × ShowsNext q row next × LeadsPast q reader view next older last

-- a version in the chain of a key, shown by pages that were given to the part, is of a writer in PREP
pub record IsPreparing (q : CorePart) (reader : TrxId) (view key : ℕ) (id : TrxId) : Type 0 where
  pub leaf : GivenPage PageView
  pub newest_row : Row
  pub shows_newest : ShowsNewest q leaf key newest_row
  pub older : List Row
  pub row : Row
  pub leads : LeadsPast q reader view newest_row older row
  pub in_prep : IsInPrep q reader row id

-- What a reader found of a key since an earlier part: its value is that of the version that it sees, by a leaf that was
-- given to the part since
pub record FindsValue (start r : CorePart) (trx : Begun) (key : ℕ) (value : Option (List ℕ)) : Type 0 where
  pub leaf : GivenPage PageView
  pub found : Row
  pub sees : Sees r (leaf ∷ []) trx.id trx.view key found
  pub value_is : value ≡ found.value
  pub since : (x : Placed Mtr) → IsIn x start.pages.made → x.at < leaf.height

-- the leaf that a scan rests on was given to the part since
pub record FindsRows (start r : CorePart) (trx : Begun) (low most : ℕ) (rows : List KeyValue) : Type 0 where
  pub pages : List (GivenPage PageView)
  pub high : ℕ
  pub count : ℕ
  pub scans : ScansTo r pages trx.id trx.view count low high rows
  pub few : length rows ≤ most
  pub end : (high ≡ top) ⊎ (length rows ≡ most)
  pub given : (g : GivenPage PageView) → IsIn g pages → IsIn g r.pages.given
  pub since : (g : GivenPage PageView) → IsIn g pages → (x : Placed Mtr) → IsIn x start.pages.made → x.at < g.height

-- these rows were added, of one leaf's keys from low up to a bound; the leaf was given to the part since
pub record FindsStretch (start r : CorePart) (trx : Begun) (low next : ℕ) (old new : List KeyValue) : Type 0 where
  pub leaf : GivenPage PageView
  pub more : List KeyValue
  pub added : new ≡ old ++ more
  pub stretch : IsStretch r (leaf ∷ []) trx.id trx.view low next more
  pub since : (x : Placed Mtr) → IsIn x start.pages.made → x.at < leaf.height
