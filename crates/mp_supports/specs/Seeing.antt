-- What a node's part shows of the versions of a key: a leaf that it was given has the newest, undo pages that it was given
-- have the older ones, and slots' words that it loaded say which of them a transaction sees.
use Rattle.std.specs.Prelude.{◌≡◌, ◌≢◌, ℕ, zero, suc, ◌<◌, ◌≤◌, ◌⊎◌, ◌&&◌, nat_le, nat_lt, true, filter, List, [], ◌∷◌, ◌++◌, Option, None, Some, is_some}
use Rattle.mp_machine.specs.Lists.{IsIn}
use Rattle.mp_model.specs.declared.ids.TrxId.{TrxId}
use Rattle.mp_model.specs.declared.key_value.KeyValue.{KeyValue}
use Rattle.mp_cells.specs.declared.rows.Link.{Link}
use Rattle.mp_cells.specs.declared.rows.Row.{Row}
use Rattle.mp_cells.specs.PageView.{PageView}
use Rattle.mp_cells.specs.Trees.{row_at}
use Rattle.mp_cells.specs.Writes.{record_in, version_of}
use Rattle.mp_plans.specs.Fitting.{IsLeafOf}
use Rattle.mp_core_trx.specs.declared.part.SlotLoad.{SlotLoad}
use Rattle.mp_core_trx.specs.declared.slot.SlotTag.TheVariants.{Free, Active, Committed}
use Rattle.mp_core_trx.specs.Words.{shows, shown_of}
use Rattle.mp_core_pages.specs.declared.part.GivenPage.{GivenPage}
use Rattle.mp_core.specs.declared.part.CorePart.{CorePart}
use Rattle.mp_core.specs.OwnMtrs.{row_put_by, TrxMtr, trx_mtrs}

-- A leaf that was given shows this as a key's newest version: its row, or a gone row without a writer where it has none
pub record ShowsNewest (p : CorePart) (leaf : GivenPage PageView) (key : ℕ) (newest : Row) : Type 0 where
  pub given : IsIn leaf p.pages.given
  pub its_leaf : IsLeafOf key leaf.page
  pub newest_is : newest ≡ version_of key (row_at key leaf.page.rows)

-- An undo page that was given has this record at the link of a version
pub record ShowsNext (p : CorePart) (row next : Row) : Type 0 where
  pub link : Link
  pub linked : row.link ≡ Some link
  pub page : GivenPage PageView
  pub given : IsIn page p.pages.given
  pub number : page.number ≡ link.page
  pub next_is : record_in page.page link.index ≡ Some next

-- The node loaded the word of the transaction's slot
pub record IsLoadOf (p : CorePart) (id : TrxId) (load : SlotLoad) : Type 0 where
  pub loaded : IsIn load p.trx.loaded
  pub of : load.of ≡ id.node
  pub slot : load.slot ≡ id.slot

-- it showed the transaction committed at a timestamp
abbrev pub LoadedCommit : TrxId → ℕ → SlotLoad → Type 0
LoadedCommit id cts load = shown_of load.word ≡ shows Committed id.version cts

-- it hides the transaction's versions from a view: it was ACTIVE when the node knew the view, it committed above it, or it
-- was freed
abbrev pub HidesFrom : TrxId → ℕ → SlotLoad → Type 0
HidesFrom id view load =
    ((shown_of load.word ≡ shows Active id.version 0) × (view ≤ load.after))
    ⊎ (((cts : ℕ) × LoadedCommit id cts load × (view < cts)) ⊎ (shown_of load.word ≡ shows Free id.version 0))

-- a version of another transaction, that a reader with this view doesn't see
pub record IsHidden (p : CorePart) (reader : TrxId) (view : ℕ) (row : Row) : Type 0 where
  pub writer : TrxId
  pub its_writer : row.writer ≡ Some writer
  pub other : writer ≢ reader
  pub load : SlotLoad
  pub is_load : IsLoadOf p writer load
  pub hides : HidesFrom writer view load

-- a version whose writer committed at or below a view
pub record IsCommittedBelow (p : CorePart) (view : ℕ) (row : Row) : Type 0 where
  pub writer : TrxId
  pub its_writer : row.writer ≡ Some writer
  pub load : SlotLoad
  pub is_load : IsLoadOf p writer load
  pub cts : ℕ
  pub committed : LoadedCommit writer cts load
  pub within : cts ≤ view

-- a version that every transaction with the view sees; one that the reader sees
abbrev pub IsSettledFor : CorePart → ℕ → Row → Type 0
IsSettledFor p view row = (row.writer ≡ None) ⊎ IsCommittedBelow p view row

abbrev pub IsSeenBy : CorePart → TrxId → ℕ → Row → Type 0
IsSeenBy p reader view row = (row.writer ≡ Some reader) ⊎ IsSettledFor p view row

-- from a version down its links, past the hidden ones, to the first that is seen
abbrev pub LeadsToSeen : CorePart → TrxId → ℕ → Row → List Row → Row → Type 0
LeadsToSeen p reader view row [] found = (found ≡ row) × IsSeenBy p reader view row
LeadsToSeen p reader view row (next ∷ older) found = IsHidden p reader view row × ShowsNext p row next × LeadsToSeen p reader view next older found

-- below a height the reader did nothing but put rows: it put nothing back, and hasn't committed
abbrev pub HasOnlyPut : CorePart → TrxId → ℕ → Type 0
HasOnlyPut p reader height = (m : TrxMtr) → IsIn m (trx_mtrs p.pages.made) → m.of ≡ Some reader → m.at < height → is_some (row_put_by m.mtr) ≡ true

-- What the node was given of a key shows a reader with a view this version
pub record Sees (p : CorePart) (pages : List (GivenPage PageView)) (reader : TrxId) (view key : ℕ) (found : Row) : Type 0 where
  pub leaf : GivenPage PageView
  pub rests : IsIn leaf pages
  pub knew : view ≤ leaf.known
  pub newest : Row
  pub shows : ShowsNewest p leaf key newest
  pub older : List Row
  pub leads : LeadsToSeen p reader view newest older found
  pub only_put : HasOnlyPut p reader leaf.height

-- the row of a version, where it has a value
abbrev pub key_value_of : ℕ → Option (List ℕ) → List KeyValue
key_value_of key None = []
key_value_of key (Some value) = record { key = key; value = value } ∷ []

-- rows of a leaf, each seen as one of these rows, or as gone
abbrev pub AreSeenAs : CorePart → TrxId → ℕ → List Row → List KeyValue → Type 0
AreSeenAs p reader view [] rows = rows ≡ []
AreSeenAs p reader view (newest ∷ others) rows =
    (older : List Row) × (found : Row) × (rest : List KeyValue) × LeadsToSeen p reader view newest older found
    × (rows ≡ key_value_of newest.key found.value ++ rest) × AreSeenAs p reader view others rest

-- one leaf's keys from low up to a bound, and the rows that are seen of them
pub record IsStretch (p : CorePart) (pages : List (GivenPage PageView)) (reader : TrxId) (view low next : ℕ) (rows : List KeyValue) : Type 0 where
  pub leaf : GivenPage PageView
  pub rests : IsIn leaf pages
  pub given : IsIn leaf p.pages.given
  pub its_leaf : IsLeafOf low leaf.page
  pub some_keys : low < next
  pub within : next ≤ leaf.page.high
  pub knew : view ≤ leaf.known
  pub seen : AreSeenAs p reader view (filter (λ row. nat_le low row.key && nat_lt row.key next) leaf.page.rows) rows
  pub only_put : HasOnlyPut p reader leaf.height

-- so many stretches, one after another, from a key up to a bound
abbrev pub ScansTo : CorePart → List (GivenPage PageView) → TrxId → ℕ → ℕ → ℕ → ℕ → List KeyValue → Type 0
ScansTo p pages reader view zero low high rows = (low ≡ high) × (rows ≡ [])
ScansTo p pages reader view (suc count) low high rows =
    (next : ℕ) × (first : List KeyValue) × (rest : List KeyValue) × IsStretch p pages reader view low next first
    × ScansTo p pages reader view count next high rest × (rows ≡ first ++ rest)
