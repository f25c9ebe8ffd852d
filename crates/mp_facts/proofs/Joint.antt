-- What is kept from step to step beside the core's invariant, in groups by what each reads.
use Rattle.std.specs.Prelude.{◌≡◌, ◌≢◌, ℕ, ◌<◌, ◌≤◌, ◌⊎◌, true, List, [], ◌∷◌, None, Some, is_some}
use Rattle.mp_machine.specs.Lists.{IsIn}
use Rattle.mp_model.specs.declared.ids.TrxId.{TrxId}
use Rattle.mp_cells.specs.declared.rows.Row.{Row}
use Rattle.mp_cells.specs.declared.records.Mtr.{Mtr}
use Rattle.mp_cells.specs.PageView.{PageView}
use Rattle.mp_cells.specs.Trees.{PageMap}
use Rattle.mp_cells.specs.Plans.{plan_of, touches}
use Rattle.mp_core_pages.specs.PageParts.{durable_llsn}
use Rattle.mp_plans.specs.Fitting.{IsLeafOf}
use Rattle.mp_core_trx.specs.declared.part.Begun.{Begun}
use Rattle.mp_core_trx.specs.declared.part.Draw.{Draw}
use Rattle.mp_core_trx.specs.declared.part.SlotRow.{SlotRow}
use Rattle.mp_core_trx.specs.declared.part.SlotLoad.{SlotLoad}
use Rattle.mp_core_trx.specs.declared.slot.SlotTag.TheVariants.{Free, Active, Prep}
use Rattle.mp_core_trx.specs.Words.{tag_number, shows, shown_of}
use Rattle.mp_core_trx.specs.Parts.{unused, draw_of, shown_at, HasBegun, Shows}
use Rattle.mp_core_trx.specs.World.{begun_in, slot_rows_in, drawn_in, loaded_in}
use Rattle.mp_core_pages.specs.declared.part.GivenPage.{GivenPage}
use Rattle.mp_core_pages.specs.declared.part.Placed.{Placed}
use Rattle.mp_histories.specs.KeyOps.{FirstIs, NoneBy, below_top}
use Rattle.mp_histories.specs.Commits.{Stamps, PutsFit}
use Rattle.mp_histories.specs.Histories.{History, older, pages_after, Version, by_version, rows_of_versions, ops_on, live_on}
use Rattle.mp_histories.specs.Chains.{RunsFrom, row_over, row_of_key}
use Rattle.mp_core.specs.declared.opening.CoreOpening.{CoreOpening}
use Rattle.mp_core.specs.Commits.{HasDurableRecord}
use Rattle.mp_core.specs.World.{CoreWorld}
use Rattle.mp_core.specs.OwnMtrs.{row_put_by, row_restored_by, commit_by_mtr, owner_of, first_former, TrxMtr, trx_mtrs}
use Rattle.mp_facts.specs.Facts.{opening_pages, IsPutOf, IsRestoreOf, IsCommitOf}

-- each mtr of a node is of a transaction that the node began
abbrev pub OfBegun : (ℕ → List Begun) → (ℕ → List (Placed Mtr)) → Type 0
OfBegun begun made = (n : ℕ) (t : TrxMtr) → IsIn t (trx_mtrs (made n)) → (id : TrxId) × (t.of ≡ Some id) × (id.node ≡ n) × HasBegun (begun n) id

-- and of one of the three kinds
abbrev pub OneKind : TrxMtr → Type 0
OneKind t = ((row : Row) × IsPutOf t row) ⊎ (((row : Row) × IsRestoreOf t row) ⊎ ((id : TrxId) × (cts : ℕ) × IsCommitOf t id cts))

abbrev pub OfKinds : (ℕ → List (Placed Mtr)) → Type 0
OfKinds made = (n : ℕ) (t : TrxMtr) → IsIn t (trx_mtrs (made n)) → OneKind t

-- a commit record is of who drew its timestamp
abbrev pub CommitsDrew : (ℕ → List Draw) → (ℕ → List (Placed Mtr)) → Type 0
CommitsDrew drew made = (n : ℕ) (t : TrxMtr) (id : TrxId) (cts : ℕ) → IsIn t (trx_mtrs (made n)) → commit_by_mtr t.mtr ≡ Some (draw_of id cts) → (t.of ≡ Some id) × IsIn (draw_of id cts) (drew n)

-- and the last mtr of its transaction, of which nothing was put back
abbrev pub CommitsLast : (ℕ → List (Placed Mtr)) → Type 0
CommitsLast made = (n : ℕ) (c t : TrxMtr) → IsIn c (trx_mtrs (made n)) → is_some (commit_by_mtr c.mtr) ≡ true → IsIn t (trx_mtrs (made n)) → t.of ≡ c.of → (t.at ≤ c.at) × (row_restored_by t.mtr ≡ None)

-- a slot whose word showed the end of a transaction shows it still
abbrev pub EndedStays : (ℕ → List SlotRow) → SlotLoad → Type 0
EndedStays rows l = (tag_number (shown_of l.word).tag ≢ 1) → (tag_number (shown_of l.word).tag ≢ 2) → (shown_of l.word ≡ unused) ⊎ (shown_at (rows l.of) l.slot ≡ shown_of l.word)

abbrev pub EndedStay : (ℕ → List SlotRow) → (ℕ → List SlotLoad) → Type 0
EndedStay rows loaded = (n : ℕ) (l : SlotLoad) → IsIn l (loaded n) → EndedStays rows l

-- who committed by a durable record, and who drew
abbrev pub DurableStamp : ℕ → (ℕ → List (Placed Mtr)) → (ℕ → List ℕ) → Stamps
DurableStamp base made durables writer cts = (id : TrxId) × (writer ≡ Some id) × HasDurableRecord base (made id.node) (durables id.node) id cts

abbrev pub DrawnStamp : (ℕ → List Draw) → Stamps
DrawnStamp drew writer cts = (id : TrxId) × (writer ≡ Some id) × IsIn (draw_of id cts) (drew id.node)

abbrev pub KeysFit : ℕ → (ℕ → List (Placed Mtr)) → (ℕ → List ℕ) → (ℕ → List Draw) → History → Type 0
KeysFit base made durables drew history = (key : ℕ) → PutsFit by_version (DurableStamp base made durables) (DrawnStamp drew) (ops_on key history)

-- a transaction's slot shows it ACTIVE or PREP
abbrev pub ShowsOpen : List SlotRow → TrxId → Type 0
ShowsOpen rows id = Shows rows id Active ⊎ Shows rows id Prep

-- the row below the versions of the newest one's writer
abbrev pub row_below : PageMap → History → ℕ → Row
row_below opening history key = row_over (rows_of_versions (below_top by_version (live_on key history))) (row_of_key opening key)

-- a key is a transaction's own, by the mtrs of its node and by the history: its version is the newest, and what its first
-- put kept is the row below its versions
pub record Owned (opening : PageMap) (history : History) (made : List (Placed Mtr)) (id : TrxId) (key : ℕ) : Type 0 where
  pub owner : owner_of made key ≡ Some id
  pub newest : Version
  pub rest : List Version
  pub live : live_on key history ≡ newest ∷ rest
  pub by : newest.row.writer ≡ Some id
  pub former : first_former made id key ≡ Some (row_below opening history key)

-- or it is not, by either
pub record NotOwned (history : History) (made : List (Placed Mtr)) (id : TrxId) (key : ℕ) : Type 0 where
  pub owner : owner_of made key ≢ Some id
  pub none : NoneBy by_version (Some id) (live_on key history)
  pub former : first_former made id key ≡ None

abbrev pub OwnKey : PageMap → History → List (Placed Mtr) → TrxId → ℕ → Type 0
OwnKey opening history made id key = Owned opening history made id key ⊎ NotOwned history made id key

abbrev pub OwnKeys : PageMap → History → (ℕ → List (Placed Mtr)) → (ℕ → List Begun) → (ℕ → List SlotRow) → Type 0
OwnKeys opening history made begun rows = (id : TrxId) (key : ℕ) → HasBegun (begun id.node) id → ShowsOpen (rows id.node) id → OwnKey opening history (made id.node) id key

-- who put a version that stands was begun and is not freed
abbrev pub LiveWriters : History → (ℕ → List Begun) → (ℕ → List SlotRow) → Type 0
LiveWriters history begun rows = (key : ℕ) (v : Version) (id : TrxId) → IsIn v (live_on key history) → v.row.writer ≡ Some id → HasBegun (begun id.node) id × ¬ (shown_at (rows id.node) id.slot ≡ shows Free id.version 0)

-- a version over one of another writer came after that one's commit record
abbrev pub CommittedBefore : (ℕ → List (Placed Mtr)) → Version → Version → Type 0
CommittedBefore made over under = (id : TrxId) × (t : TrxMtr) × (under.row.writer ≡ Some id) × IsIn t (trx_mtrs (made id.node)) × (is_some (commit_by_mtr t.mtr) ≡ true) × (t.of ≡ Some id) × (t.at < over.at)

abbrev pub EachCovers : (ℕ → List (Placed Mtr)) → List Version → Type 0
EachCovers made [] = Unit {0}
EachCovers made (v ∷ vs) = FirstIs (λ under. v.row.writer ≢ under.row.writer → CommittedBefore made v under) vs × EachCovers made vs

abbrev pub CoversCommitted : History → (ℕ → List (Placed Mtr)) → Type 0
CoversCommitted history made = (height key : ℕ) → EachCovers made (live_on key (older height history))

-- a restore took off the versions of its own transaction
abbrev pub TakesOwn : History → TrxMtr → Type 0
TakesOwn history t = (row : Row) → row_restored_by t.mtr ≡ Some row → (v : Version) × (rest : List Version) × (live_on row.key (older t.at history) ≡ v ∷ rest) × (v.row.writer ≡ t.of)

abbrev pub RestoresOwn : History → (ℕ → List (Placed Mtr)) → Type 0
RestoresOwn history made = (n : ℕ) (t : TrxMtr) → IsIn t (trx_mtrs (made n)) → TakesOwn history t

-- what was known as a page was given lies from the base to the TSO
abbrev pub KnownWithin : ℕ → ℕ → (ℕ → List (GivenPage PageView)) → Type 0
KnownWithin base tso given = (n : ℕ) (g : GivenPage PageView) → IsIn g (given n) → (base ≤ g.known) × (g.known ≤ tso)

-- who puts a row after a page was given draws above all that was known then
abbrev pub DrawsLater : (ℕ → List Draw) → GivenPage PageView → ℕ → TrxMtr → Type 0
DrawsLater drew g k t = (row : Row) → g.height ≤ t.at → IsPutOf t row → (id : TrxId) (cts : ℕ) → t.of ≡ Some id → IsIn (draw_of id cts) (drew k) → g.known < cts

abbrev pub PutsLater : (ℕ → List (Placed Mtr)) → (ℕ → List Draw) → (ℕ → List (GivenPage PageView)) → Type 0
PutsLater made drew given = (n : ℕ) (g : GivenPage PageView) → IsIn g (given n) → (k : ℕ) (t : TrxMtr) → IsIn t (trx_mtrs (made k)) → DrawsLater drew g k t

-- an mtr is durable, as its node said
abbrev pub MtrDurable : ℕ → (ℕ → List ℕ) → Mtr → Type 0
MtrDurable base durables m = m.llsn ≤ durable_llsn base (durables m.node)

-- it, or a later mtr of its node, changed this page
pub record LaterOn (history : History) (m : Mtr) (number : ℕ) : Type 0 where
  pub mtr : Mtr
  pub there : IsIn mtr history
  pub maker : mtr.node ≡ m.node
  pub later : m.llsn ≤ mtr.llsn
  pub touches : touches number (plan_of mtr.records) ≡ true

-- each put of a key is durable, or its node changed the leaf that has the key, by it or later
abbrev pub LeafPuts : ℕ → PageMap → History → (ℕ → List ℕ) → Type 0
LeafPuts base opening history durables = (key number : ℕ) (put : Mtr) (row : Row) → number < 4096 → IsLeafOf key (pages_after opening history number) → IsIn put history → row_put_by put ≡ Some row → row.key ≡ key
    → MtrDurable base durables put ⊎ LaterOn history put number

-- and each put of another node whose key has a leaf that was given, made before, is durable
abbrev pub GivenShown : ℕ → History → (ℕ → List ℕ) → (ℕ → List (GivenPage PageView)) → Type 0
GivenShown base history durables given = (n : ℕ) (g : GivenPage PageView) → IsIn g (given n) → (key : ℕ) (put : Mtr) (row : Row) → IsLeafOf key g.page → IsIn put (older g.height history) → row_put_by put ≡ Some row → row.key ≡ key → put.node ≢ n
    → MtrDurable base durables put

-- all of it, over the components
pub record Holds (o : CoreOpening) (tso : ℕ) (begun : ℕ → List Begun) (rows : ℕ → List SlotRow) (drew : ℕ → List Draw) (loaded : ℕ → List SlotLoad)
    (history : History) (made : ℕ → List (Placed Mtr)) (durables : ℕ → List ℕ) (given : ℕ → List (GivenPage PageView)) : Type 0 where
  pub of_begun : OfBegun begun made
  pub kinds : OfKinds made
  pub commits : CommitsDrew drew made
  pub last : CommitsLast made
  pub ended : EndedStay rows loaded
  pub runs : RunsFrom (opening_pages o) history
  pub fits : KeysFit o.trx.base.llsn made durables drew history
  pub own : OwnKeys (opening_pages o) history made begun rows
  pub writers : LiveWriters history begun rows
  pub covers : CoversCommitted history made
  pub put_back : RestoresOwn history made
  pub known : KnownWithin o.trx.base.ts tso given
  pub later : PutsLater made drew given
  pub leaf_puts : LeafPuts o.trx.base.llsn (opening_pages o) history durables
  pub shown : GivenShown o.trx.base.llsn history durables given

abbrev pub Joint : CoreOpening → CoreWorld → Type 0
Joint o w = Holds o w.trx.tso (begun_in w.trx) (slot_rows_in w.trx) (drawn_in w.trx) (loaded_in w.trx) w.pages.history w.pages.made w.pages.durables w.pages.given
