-- What holds of every world that can be reached, of the transactions and the pages together: the facts on which reads,
-- writes and recovery rest.
use Rattle.std.specs.Prelude.{◌≡◌, ◌≢◌, ℕ, ◌+◌, ◌*◌, ◌<◌, ◌≤◌, ◌⊎◌, true, List, [], ◌∷◌, ◌++◌, length, count_by, Option, None, Some, is_some}
use Rattle.mp_machine.specs.Lists.{IsIn}
use Rattle.mp_model.specs.declared.ids.TrxId.{TrxId}
use Rattle.mp_cells.specs.declared.changes.Change.TheVariants.{MakeUndo}
use Rattle.mp_cells.specs.declared.kinds.Kind.TheVariants.{Undo}
use Rattle.mp_cells.specs.declared.rows.Row.{Row}
use Rattle.mp_cells.specs.declared.records.Mtr.{Mtr}
use Rattle.mp_cells.specs.PageView.{PageView, bits_set}
use Rattle.mp_cells.specs.PageMaps.{page_at}
use Rattle.mp_cells.specs.Plans.{plan_of}
use Rattle.mp_cells.specs.Trees.{PageMap}
use Rattle.mp_core_trx.specs.declared.part.SlotLoad.{SlotLoad}
use Rattle.mp_core_trx.specs.declared.slot.SlotTag.TheVariants.{Free, Committed}
use Rattle.mp_core_trx.specs.Words.{shows, shown_of}
use Rattle.mp_core_trx.specs.Parts.{trx, draw_of, shown_at, HasBegun, HasDrawnNothing, IsOpen}
use Rattle.mp_core_trx.specs.World.{begun_in, slot_rows_in, drawn_in, loaded_in}
use Rattle.mp_core_pages.specs.declared.part.GivenPage.{GivenPage}
use Rattle.mp_core_pages.specs.PageParts.{content_at, durable_llsn}
use Rattle.mp_plans.specs.Fitting.{IsLeafOf}
use Rattle.mp_histories.specs.Commits.{PutsFit}
use Rattle.mp_histories.specs.Histories.{older, entry_at, pages_after, Version, by_version, ops_on, live_on}
use Rattle.mp_histories.specs.Chains.{RunsFrom, row_of_key}
use Rattle.mp_core.specs.declared.opening.CoreOpening.{CoreOpening}
use Rattle.mp_core.specs.Contents.{page_ops}
use Rattle.mp_core.specs.Invariant.{CoreInv}
use Rattle.mp_core.specs.World.{CoreWorld}
use Rattle.mp_core.specs.OwnMtrs.{row_put_by, row_kept_by, row_restored_by, commit_by_mtr, owner_of, TrxMtr, trx_mtrs}

-- the pages that a run began from, and those after the first so many mtrs of a world
abbrev pub opening_pages : CoreOpening → PageMap
opening_pages o = page_at o.pages

abbrev pub pages_at_height : CoreOpening → CoreWorld → ℕ → PageMap
pages_at_height o w height = pages_after (opening_pages o) (older height w.pages.history)

abbrev pub pages_now : CoreOpening → CoreWorld → PageMap
pages_now o w = pages_after (opening_pages o) w.pages.history

-- the versions of a key that stood after the first so many mtrs
abbrev pub live_at_height : CoreWorld → ℕ → ℕ → List Version
live_at_height w height key = live_on key (older height w.pages.history)

-- what a node made, each mtr with its transaction
abbrev pub made_in : CoreWorld → ℕ → List TrxMtr
made_in w n = trx_mtrs (w.pages.made n)

-- the mtr puts this row for its transaction, and does nothing else
pub record IsPutOf (m : TrxMtr) (row : Row) : Type 0 where
  pub put : row_put_by m.mtr ≡ Some row
  pub restored : row_restored_by m.mtr ≡ None
  pub commit : commit_by_mtr m.mtr ≡ None
  pub writer : row.writer ≡ m.of

-- the mtr puts this row back
pub record IsRestoreOf (m : TrxMtr) (row : Row) : Type 0 where
  pub put : row_put_by m.mtr ≡ None
  pub restored : row_restored_by m.mtr ≡ Some row
  pub commit : commit_by_mtr m.mtr ≡ None

-- the mtr records that its transaction committed at this timestamp
pub record IsCommitOf (m : TrxMtr) (id : TrxId) (cts : ℕ) : Type 0 where
  pub put : row_put_by m.mtr ≡ None
  pub restored : row_restored_by m.mtr ≡ None
  pub commit : commit_by_mtr m.mtr ≡ Some (draw_of id cts)
  pub of : m.of ≡ Some id

-- the transaction's node recorded its commit at this timestamp
pub record IsRecorded (w : CoreWorld) (id : TrxId) (cts : ℕ) : Type 0 where
  pub made : TrxMtr
  pub was_made : IsIn made (made_in w id.node)
  pub commit : commit_by_mtr made.mtr ≡ Some (draw_of id cts)

-- and the record is durable
pub record IsForced (o : CoreOpening) (w : CoreWorld) (id : TrxId) (cts : ℕ) : Type 0 where
  pub recorded : IsRecorded w id cts
  pub durable : recorded.made.mtr.llsn ≤ durable_llsn o.trx.base.llsn (w.pages.durables id.node)

-- a writer drew this timestamp; a writer's commit at it is durable
abbrev pub DrewStamp : CoreWorld → Option TrxId → ℕ → Type 0
DrewStamp w writer cts = (id : TrxId) × (writer ≡ Some id) × IsIn (draw_of id cts) (drawn_in w.trx id.node)

abbrev pub CommittedStamp : CoreOpening → CoreWorld → Option TrxId → ℕ → Type 0
CommittedStamp o w writer cts = (id : TrxId) × (writer ≡ Some id) × IsForced o w id cts

-- the node made this page an undo page
abbrev pub MadeUndo : List TrxMtr → ℕ → Type 0
MadeUndo made number = (m : TrxMtr) × IsIn m made × IsIn (number, MakeUndo) (plan_of m.mtr.records)

-- places fall along the mtrs of a node
abbrev pub MtrsFall : List TrxMtr → Type 0
MtrsFall [] = Unit {0}
MtrsFall (m ∷ made) = ((k : TrxMtr) → IsIn k made → (k.at < m.at) × (k.mtr.llsn < m.mtr.llsn)) × MtrsFall made

-- THE HISTORY: it is what the nodes made, one mtr after another, each a put, a restore or a commit of a transaction that
-- its node began
pub record HistoryFacts (o : CoreOpening) (w : CoreWorld) : Type 0 where
  -- each mtr of a node stands at its place, and is of a transaction that the node began
  pub placed : (n : ℕ) (m : TrxMtr) → IsIn m (made_in w n) → (m.at < length w.pages.history) × (entry_at m.at w.pages.history ≡ Some m.mtr) × (m.mtr.node ≡ n)
      × ((id : TrxId) × (m.of ≡ Some id) × (id.node ≡ n) × HasBegun (begun_in w.trx n) id)
  -- each mtr of the history was made by its node
  pub all_made : (at : ℕ) (mtr : Mtr) → entry_at at w.pages.history ≡ Some mtr → (m : TrxMtr) × IsIn m (made_in w mtr.node) × (m.at ≡ at) × (m.mtr ≡ mtr)
  pub in_order : (n : ℕ) → MtrsFall (made_in w n)
  pub kinds : (n : ℕ) (m : TrxMtr) → IsIn m (made_in w n) → ((row : Row) × IsPutOf m row) ⊎ (((row : Row) × IsRestoreOf m row) ⊎ ((id : TrxId) × (cts : ℕ) × IsCommitOf m id cts))
  -- a restore takes off the versions of its own transaction
  pub put_back : (n : ℕ) (m : TrxMtr) (row : Row) → IsIn m (made_in w n) → row_restored_by m.mtr ≡ Some row → (v : Version) × (rest : List Version) × (live_at_height w m.at row.key ≡ v ∷ rest) × (v.row.writer ≡ m.of)
  -- the undo record that a put keeps is the version that it replaces
  pub replaced : (at : ℕ) (mtr : Mtr) (row former : Row) → entry_at at w.pages.history ≡ Some mtr → row_put_by mtr ≡ Some row → row_kept_by mtr ≡ Some former → former ≡ row_of_key (pages_at_height o w at) row.key
  pub few : length w.pages.history ≤ 240000

-- TREES AND VERSIONS: each mtr is well made over those before it, so that the pages are always a tree with its chains; each
-- version lies over one of its own writer or of one whose commit was durable, at a timestamp below any that its writer drew
pub record VersionFacts (o : CoreOpening) (w : CoreWorld) : Type 0 where
  pub runs : RunsFrom (opening_pages o) w.pages.history
  pub fits : (key : ℕ) → PutsFit by_version (CommittedStamp o w) (DrewStamp w) (ops_on key w.pages.history)
  -- what a put lies over was committed before the put was made
  pub covers_earlier : (key : ℕ) (over under : Version) (upper rest : List Version) (height : ℕ) → live_at_height w height key ≡ upper ++ over ∷ under ∷ rest → over.row.writer ≢ under.row.writer
      → (id : TrxId) × (m : TrxMtr) × (under.row.writer ≡ Some id) × IsIn m (made_in w id.node) × (is_some (commit_by_mtr m.mtr) ≡ true) × (m.of ≡ Some id) × (m.at < over.at)
  -- after its commit record a transaction makes nothing, and before it put nothing back
  pub commit_last : (n : ℕ) (c m : TrxMtr) → IsIn c (made_in w n) → is_some (commit_by_mtr c.mtr) ≡ true → IsIn m (made_in w n) → m.of ≡ c.of → (m.at ≤ c.at) × (row_restored_by m.mtr ≡ None)
  pub commits : (n : ℕ) (m : TrxMtr) (id : TrxId) (cts : ℕ) → IsIn m (made_in w n) → commit_by_mtr m.mtr ≡ Some (draw_of id cts) → (m.of ≡ Some id) × IsIn (draw_of id cts) (drawn_in w.trx n)
  -- the pages that are taken are at most those of the opening and five for each put
  pub room : (height : ℕ) → bits_set (pages_at_height o w height 0).bits ≤ bits_set (opening_pages o 0).bits + 5 * count_by (λ m. is_some (row_put_by m)) (older height w.pages.history)

-- NOTES: what a node may rely on that was given a page or loaded a slot's word
pub record NoteFacts (o : CoreOpening) (w : CoreWorld) : Type 0 where
  -- a page was given as the mtrs made before left it
  pub given : (n : ℕ) (g : GivenPage PageView) → IsIn g (w.pages.given n) → (g.number < 4096) × (g.height ≤ length w.pages.history) × (g.page ≡ pages_at_height o w g.height g.number) × (o.trx.base.ts ≤ g.known) × (g.known ≤ w.trx.tso)
  -- who puts a row after a page was given draws above all that was known then
  pub later_puts : (n : ℕ) (g : GivenPage PageView) → IsIn g (w.pages.given n) → (k : ℕ) (m : TrxMtr) (row : Row) → IsIn m (made_in w k) → g.height ≤ m.at → IsPutOf m row
      → (id : TrxId) (cts : ℕ) → m.of ≡ Some id → IsIn (draw_of id cts) (drawn_in w.trx k) → g.known < cts
  -- the version that a leaf showed, by another node, is durable
  pub shown_forced : (n : ℕ) (g : GivenPage PageView) → IsIn g (w.pages.given n) → (key : ℕ) → IsLeafOf key g.page → (v : Version) (rest : List Version) → live_at_height w g.height key ≡ v ∷ rest
      → (k : ℕ) (m : TrxMtr) → k ≢ n → IsIn m (made_in w k) → m.at ≡ v.at → m.mtr.llsn ≤ durable_llsn o.trx.base.llsn (w.pages.durables k)
  -- a slot's word that showed a commit: the record is durable
  pub committed : (n : ℕ) (l : SlotLoad) (version cts : ℕ) → IsIn l (loaded_in w.trx n) → shown_of l.word ≡ shows Committed version cts → IsForced o w (trx l.of l.slot version) cts
  -- one that showed FREE: that transaction drew nothing, and never will
  pub freed : (n : ℕ) (l : SlotLoad) (version : ℕ) → IsIn l (loaded_in w.trx n) → shown_of l.word ≡ shows Free version 0 → HasDrawnNothing (drawn_in w.trx l.of) (trx l.of l.slot version)

-- NOW: what who steps next may rely on
pub record PresentFacts (o : CoreOpening) (w : CoreWorld) : Type 0 where
  -- the content that a node has of a page is the page's
  pub contents : (n number : ℕ) (page : PageView) → content_at page_ops (w.pages.contents n) number ≡ Some page → (number < 4096) × (page ≡ pages_now o w number)
  -- each version that stands was put by a transaction that was begun and isn't freed
  pub writers : (key : ℕ) (v : Version) (id : TrxId) → IsIn v (live_on key w.pages.history) → v.row.writer ≡ Some id → HasBegun (begun_in w.trx id.node) id × ¬ (shown_at (slot_rows_in w.trx id.node) id.slot ≡ shows Free id.version 0)
  -- a key is an open transaction's own, by its node's mtrs, exactly where the newest version is the transaction's
  pub owns : (n key : ℕ) (id : TrxId) → IsOpen (w.trx.part n) id → owner_of (w.pages.made n) key ≡ Some id → (v : Version) × (rest : List Version) × (live_on key w.pages.history ≡ v ∷ rest) × (v.row.writer ≡ Some id)
  pub held_by_open : (key : ℕ) (v : Version) (id : TrxId) → IsIn v (live_on key w.pages.history) → v.row.writer ≡ Some id → IsOpen (w.trx.part id.node) id → owner_of (w.pages.made id.node) key ≡ Some id
  -- each page that a node made an undo page is one
  pub undo_kind : (n number : ℕ) → MadeUndo (made_in w n) number → (pages_now o w number).kind ≡ Undo

-- the facts of a world
pub record Facts (o : CoreOpening) (w : CoreWorld) : Type 0 where
  pub inv : CoreInv o w
  pub of_history : HistoryFacts o w
  pub of_versions : VersionFacts o w
  pub of_notes : NoteFacts o w
  pub of_present : PresentFacts o w
