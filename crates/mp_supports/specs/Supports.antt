-- Why a reply is right, by what its primary's part has: each reply has its support, and once it has it, it keeps it.
use Rattle.std.specs.Prelude.{◌≡◌, ◌≢◌, ℕ, ◌+◌, ◌<◌, ◌≤◌, ◌⊎◌, List, [], length, Option, None, Some, MatchOption}
use Rattle.std.specs.List.{AllByRecursion}
use Rattle.mp_machine.specs.Lists.{IsIn}
use Rattle.mp_model.specs.declared.ids.TrxId.{TrxId}
use Rattle.mp_model.specs.declared.ids.TrxName.{TrxName}
use Rattle.mp_model.specs.declared.replies.Answer.{Answer}
use Rattle.mp_model.specs.declared.replies.Reply.{Reply}
use Rattle.mp_model.specs.declared.replies.Reply.TheVariants.{Began, Got, Scanned, Wrote, Committed, CommittedNone, Unknown, RolledBack, Conflict, Held, Full, Skipped, Stopped}
use Rattle.mp_model.specs.declared.replies.WriteVerb.{WriteVerb}
use Rattle.mp_script.specs.declared.statements.Line.{Line}
use Rattle.mp_script.specs.declared.statements.Stmt.{Stmt}
use Rattle.mp_script.specs.declared.statements.Stmt.TheVariants.{Begin, Get, Put, Del, Copy, Scan, Commit, Rollback}
use Rattle.mp_script.specs.Execution.{line_at}
use Rattle.mp_script.specs.Transactions.{target_of, trx_in_lines}
use Rattle.mp_script.specs.Right.{IsWithoutRepeat, WritesKey}
use Rattle.mp_cells.specs.declared.rows.Row.{Row}
use Rattle.mp_cells.specs.PageView.{PageView, bits_set}
use Rattle.mp_cells.specs.Trees.{top}
use Rattle.mp_core_trx.specs.declared.part.Begun.{Begun}
use Rattle.mp_core_trx.specs.declared.part.Draw.{Draw}
use Rattle.mp_core_trx.specs.declared.part.SlotLoad.{SlotLoad}
use Rattle.mp_core_trx.specs.declared.slot.Shown.{Shown}
use Rattle.mp_core_trx.specs.declared.slot.SlotTag.TheVariants.{Active, Prep, Committed as CommittedTag}
use Rattle.mp_core_trx.specs.Words.{shows, shown_of}
use Rattle.mp_core_trx.specs.Parts.{begun_of, draw_of}
use Rattle.mp_core_pages.specs.declared.part.GivenPage.{GivenPage}
use Rattle.mp_core.specs.declared.part.CorePart.{CorePart}
use Rattle.mp_core.specs.OwnMtrs.{row_put_by, row_kept_by, row_restored_by, commit_by_mtr, TrxMtr, trx_mtrs}
use Rattle.mp_core.specs.CoreExtends.{durable_of}
use Rattle.mp_supports.specs.Work.{Work, name_of}
use Rattle.mp_supports.specs.Seeing.{ShowsNewest, IsLoadOf, IsSettledFor, Sees, ScansTo}

-- What a statement left in its primary's part: the pages on which its reply rests, the transaction that it began, the
-- timestamp that it drew, and the mtr, other than a restore, that it made
pub record Trace : Type 0 where
  pub pages : List (GivenPage PageView)
  pub began : Option Begun
  pub drew : Option Draw
  pub mtr : Option TrxMtr

abbrev pub no_trace : Trace
no_trace = record { pages = []; began = None; drew = None; mtr = None }

-- a statement that looked at pages and did nothing else; one that began a transaction; one that wrote; one that drew, and
-- maybe recorded its commit
abbrev pub looked_trace : List (GivenPage PageView) → Trace
looked_trace pages = record no_trace { pages = pages }

abbrev pub began_trace : Begun → Trace
began_trace b = record no_trace { began = Some b }

abbrev pub wrote_trace : List (GivenPage PageView) → TrxMtr → Trace
wrote_trace pages m = record no_trace { pages = pages; mtr = Some m }

abbrev pub commit_trace : Draw → TrxMtr → Trace
commit_trace d m = record no_trace { drew = Some d; mtr = Some m }

-- The statement is one of a transaction that the part has with this id and view
pub record IsTrxOf (work : Work) (p : CorePart) (line : Line) (id : TrxId) (view : ℕ) : Type 0 where
  pub begun : IsIn (begun_of id view) p.trx.begun
  pub named : name_of work id ≡ Some (trx_in_lines work.lines line.session line.index)

-- what a write's value is: a copy writes what is seen at its source
abbrev pub IsValueWritten : CorePart → List (GivenPage PageView) → TrxId → ℕ → Stmt → Option (List ℕ) → Type 0
IsValueWritten p pages id view (Put key value) written = written ≡ Some value
IsValueWritten p pages id view (Del key) written = written ≡ None
IsValueWritten p pages id view (Copy from to) written = (found : Row) × Sees p pages id view from found × (written ≡ found.value)
IsValueWritten p pages id view _ written = ⊥

-- An mtr put the statement's value for its transaction, over a version that the transaction may replace
pub record Overwrites (p : CorePart) (pages : List (GivenPage PageView)) (id : TrxId) (view key : ℕ) (stmt : Stmt) (m : TrxMtr) : Type 0 where
  pub was_made : IsIn m (trx_mtrs p.pages.made)
  pub of : m.of ≡ Some id
  pub row : Row
  pub put : row_put_by m.mtr ≡ Some row
  pub writer : row.writer ≡ Some id
  pub its_key : row.key ≡ key
  pub value : IsValueWritten p pages id view stmt row.value
  pub former : Row
  pub kept : row_kept_by m.mtr ≡ Some former
  pub over : (former.writer ≡ Some id) ⊎ IsSettledFor p view former
  -- what the value rests on was read before
  pub read_before : AllByRecursion (λ g. g.height ≤ m.at) pages

-- An mtr records that the transaction committed at a timestamp that it drew, above its view; before it nothing of the
-- transaction was put back
pub record RecordsCommit (p : CorePart) (id : TrxId) (view cts : ℕ) (m : TrxMtr) : Type 0 where
  pub above : view < cts
  pub drawn : IsIn (draw_of id cts) p.trx.drew
  pub was_made : IsIn m (trx_mtrs p.pages.made)
  pub of : m.of ≡ Some id
  pub commit : commit_by_mtr m.mtr ≡ Some (draw_of id cts)
  pub whole : (k : TrxMtr) → IsIn k (trx_mtrs p.pages.made) → k.of ≡ Some id → k.at ≤ m.at → row_restored_by k.mtr ≡ None

-- The newest version of the key is another transaction's, whose slot showed this
pub record IsBlocked (p : CorePart) (id : TrxId) (key : ℕ) (holder : TrxId) (x : Shown) : Type 0 where
  pub leaf : GivenPage PageView
  pub newest : Row
  pub its_newest : ShowsNewest p leaf key newest
  pub writer : newest.writer ≡ Some holder
  pub other : holder ≢ id
  pub load : SlotLoad
  pub is_load : IsLoadOf p holder load
  pub shown : shown_of load.word ≡ x

-- another transaction that is open holds the key
abbrev pub IsHeldBy : CorePart → TrxId → ℕ → TrxId → Type 0
IsHeldBy p id key holder = IsBlocked p id key holder (shows Active holder.version 0) ⊎ IsBlocked p id key holder (shows Prep holder.version 0)

-- a transaction's name; where it is of the same primary, it is of another session than the statement
pub record IsNameOf (work : Work) (line : Line) (id holder : TrxId) (name : TrxName) : Type 0 where
  pub named : name_of work holder ≡ Some name
  pub apart : holder.node ≡ id.node → name.session ≢ line.session

-- A page 0 was given on which fewer than five pages are free
pub record HasNoRoom (p : CorePart) : Type 0 where
  pub meta : GivenPage PageView
  pub given : IsIn meta p.pages.given
  pub number : meta.number ≡ 0
  pub few : 4096 < bits_set meta.page.bits + 5

-- the support of each reply to a statement of a transaction, by what the statement left
abbrev pub SupportsTrxReply : Work → CorePart → Trace → Line → TrxId → ℕ → Reply → Type 0
SupportsTrxReply work p trace line id view (Got value) =
    (key : ℕ) × (found : Row) × (line.stmt ≡ Get key) × Sees p trace.pages id view key found × (value ≡ found.value) × (trace ≡ looked_trace trace.pages)
SupportsTrxReply work p trace line id view (Scanned rows) =
    (low : ℕ) × (most : ℕ) × (high : ℕ) × (count : ℕ) × (line.stmt ≡ Scan low most) × ScansTo p trace.pages id view count low high rows.items
    × (length rows.items ≤ most) × ((high ≡ top) ⊎ (length rows.items ≡ most)) × (trace ≡ looked_trace trace.pages)
SupportsTrxReply work p trace line id view (Wrote verb) =
    (key : ℕ) × (m : TrxMtr) × WritesKey line verb key × (trace ≡ wrote_trace trace.pages m) × Overwrites p trace.pages id view key line.stmt m
SupportsTrxReply work p trace line id view (Committed cts) =
    (m : TrxMtr) × (line.stmt ≡ Commit) × (trace ≡ commit_trace (draw_of id cts) m) × RecordsCommit p id view cts m × (m.mtr.llsn ≤ durable_of p)
SupportsTrxReply work p trace line id view (Unknown cts) =
    (m : TrxMtr) × (line.stmt ≡ Commit) × (trace ≡ commit_trace (draw_of id cts) m) × RecordsCommit p id view cts m
SupportsTrxReply work p trace line id view (Conflict verb cts) =
    (key : ℕ) × (holder : TrxId) × WritesKey line verb key × IsBlocked p id key holder (shows CommittedTag holder.version cts) × (view < cts) × (trace ≡ no_trace) × ((name : TrxName) × IsNameOf work line id holder name)
SupportsTrxReply work p trace line id view (Held verb name) =
    (key : ℕ) × (holder : TrxId) × WritesKey line verb key × IsHeldBy p id key holder × (holder.version < id.version) × IsNameOf work line id holder name × (trace ≡ no_trace)
SupportsTrxReply work p trace line id view (Full verb) =
    (key : ℕ) × WritesKey line verb key × HasNoRoom p × (trace ≡ no_trace)
SupportsTrxReply work p trace line id view _ = ⊥

-- what a stopped statement may have left: a write that was made before the stop
abbrev pub StoppedWith : Work → CorePart → Trace → Line → Type 0
StoppedWith work p trace line = (trace ≡ no_trace)
    ⊎ ((id : TrxId) × (view : ℕ) × (key : ℕ) × (verb : WriteVerb) × (m : TrxMtr) × IsTrxOf work p line id view × WritesKey line verb key × (trace ≡ wrote_trace trace.pages m) × Overwrites p trace.pages id view key line.stmt m)

-- the support of each reply, where the primary is down with this number (0 where it is up)
abbrev pub SupportsReply : Work → CorePart → ℕ → Trace → Line → Reply → Type 0
SupportsReply work p down trace line (Began view) =
    (b : Begun) × (line.stmt ≡ Begin) × (trace ≡ began_trace b) × IsIn b p.trx.begun × (b.view ≡ view) × (name_of work b.id ≡ Some (trx_in_lines work.lines line.session line.index))
SupportsReply work p down trace line CommittedNone = (line.stmt ≡ Commit) × (trace ≡ no_trace)
SupportsReply work p down trace line RolledBack = (line.stmt ≡ Rollback) × (trace ≡ no_trace)
SupportsReply work p down trace line Skipped = (line.stmt ≢ Begin) × (trace ≡ no_trace)
SupportsReply work p down trace line (Unknown cts) =
    (id : TrxId) × (view : ℕ) × IsTrxOf work p line id view × SupportsTrxReply work p trace line id view (Unknown cts) × (down ≡ id.node) × (down ≢ 0)
SupportsReply work p down trace line (Stopped by) = (down ≡ by) × (by ≢ 0) × StoppedWith work p trace line
SupportsReply work p down trace line reply = (id : TrxId) × (view : ℕ) × IsTrxOf work p line id view × SupportsTrxReply work p trace line id view reply

-- a write waited for another transaction that holds its key and isn't older; no part alone tells that the versions of two
-- primaries' transactions differ
abbrev pub IsWaitFor : Work → CorePart → Line → TrxId → ℕ → TrxName → Type 0
IsWaitFor work p line id key name = (holder : TrxId) × IsHeldBy p id key holder × (id.version ≤ holder.version) × IsNameOf work line id holder name

-- the support of the waits: a write waited for transactions that aren't older, each named once; nothing else waited
abbrev pub SupportsWaits : Work → CorePart → Line → List TrxName → Type 0
SupportsWaits work p line waits = MatchOption (target_of line.stmt) (waits ≡ [])
    (λ target. IsWithoutRepeat waits × AllByRecursion (λ name. (id : TrxId) × (view : ℕ) × IsTrxOf work p line id view × IsWaitFor work p line id target.key name) waits)

-- The part supports the answer, whose statement left this trace
pub record Supports (work : Work) (p : CorePart) (down : ℕ) (answer : Answer) (trace : Trace) : Type 0 where
  pub line : Line
  pub found : line_at work.lines answer.session answer.index ≡ Some line
  pub reply : SupportsReply work p down trace line answer.reply
  pub waits : SupportsWaits work p line answer.waits.items
