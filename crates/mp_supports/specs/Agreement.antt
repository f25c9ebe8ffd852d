-- When a primary's sessions and counts agree with its part.
use Rattle.std.specs.Prelude.{◌≡◌, ◌≢◌, ℕ, ◌+◌, ◌*◌, ◌≤◌, ◌<◌, ◌⊎◌, max, Bool, List, [], length, drop, slice_get, count_by, sum_by, Option, None, Some, is_some, IfSome}
use Rattle.mp_machine.specs.Lists.{IsIn}
use Rattle.mp_model.specs.declared.replies.Answer.{Answer}
use Rattle.mp_model.specs.declared.replies.Reply.{Reply}
use Rattle.mp_script.specs.declared.statements.Line.{Line}
use Rattle.mp_script.specs.Execution.{stmt_in}
use Rattle.mp_script.specs.Transactions.{target_key, trx_in_lines}
use Rattle.mp_script.specs.BeginNames.{begin_names}
use Rattle.mp_cells.specs.declared.changes.Change.TheVariants.{MakeUndo}
use Rattle.mp_cells.specs.declared.records.Mtr.{Mtr}
use Rattle.mp_cells.specs.Plans.{plan_of}
use Rattle.mp_cells.specs.Trees.{row_at}
use Rattle.mp_core_trx.specs.declared.part.Begun.{Begun}
use Rattle.mp_core_trx.specs.declared.slot.SlotTag.TheVariants.{Active}
use Rattle.mp_core_trx.specs.Parts.{IsOpen, Shows}
use Rattle.mp_core_pages.specs.declared.page_lock.Held.TheVariants.{No}
use Rattle.mp_core_pages.specs.declared.part.Placed.{Placed}
use Rattle.mp_core_pages.specs.PageParts.{held_at, last_llsn, told_llsn}
use Rattle.mp_core.specs.declared.part.CorePart.{CorePart}
use Rattle.mp_core.specs.Contents.{page_ops}
use Rattle.mp_core.specs.OwnMtrs.{row_restored_by, first_former, TrxMtr, trx_mtrs}
use Rattle.mp_book.specs.declared.session.Session.{Session}
use Rattle.mp_book.specs.declared.stage.Stage.{Stage}
use Rattle.mp_book.specs.declared.stage.Stage.TheVariants.{Refused}
use Rattle.mp_book.specs.Stages.{next_line, trx_of_stage}
use Rattle.mp_book.specs.Books.{IsRefusalReply}
use Rattle.mp_supports.specs.Work.{Work, name_of}
use Rattle.mp_supports.specs.Supports.{no_trace, SupportsReply, SupportsWaits}

-- A session's transaction as the part has it: it was begun, and is ACTIVE unless the primary is down (with this number, 0
-- where it is up); the rows that its session keeps, and hasn't put back, are those that its first writes replaced, and while
-- none was put back, none of its mtrs puts one back
pub record IsOpenAs (work : Work) (p : CorePart) (down : ℕ) (s : Session) (trx : Begun) : Type 0 where
  pub begun : IsIn trx p.trx.begun
  pub named : name_of work trx.id ≡ Some (trx_in_lines work.lines s.number s.next)
  pub active : Shows p.trx.rows trx.id Active ⊎ (down ≢ 0)
  pub formers : (key : ℕ) → first_former p.pages.made trx.id key ≡ row_at key (drop s.restored s.formers.items)
  pub whole : s.restored ≡ 0 → (m : TrxMtr) → IsIn m (trx_mtrs p.pages.made) → m.of ≡ Some trx.id → row_restored_by m.mtr ≡ None

-- a refusal that is being put back has its support
abbrev pub RefusalSupported : Work → CorePart → ℕ → Stage → Option Line → Type 0
RefusalSupported work p down (Refused trx refusal) line = IfSome line (λ l. (reply : Reply) → IsRefusalReply refusal l reply → SupportsReply work p down no_trace l reply)
RefusalSupported work p down _ line = Unit {0}

-- WHAT MIRRORS THE PART, of transactions: those that are open are the sessions', and what the next statements have found so
-- far is supported
pub record Opens (work : Work) (p : CorePart) (down : ℕ) (sessions : List Session) : Type 0 where
  pub each : (s : Session) → IsIn s sessions → IfSome (trx_of_stage s.stage) (IsOpenAs work p down s)
  pub only : (b : Begun) → IsIn b p.trx.begun → IsOpen p.trx b.id → (s : Session) × IsIn s sessions × (trx_of_stage s.stage ≡ Some b)
  pub waits : (s : Session) → IsIn s sessions → IfSome (next_line s) (λ line. SupportsWaits work p line s.waits.items)
  pub refused : (s : Session) → IsIn s sessions → RefusalSupported work p down s.stage (next_line s)

-- each session stands at the place of its number
abbrev pub StandAtNumbers : List Session → Type 0
StandAtNumbers sessions = (number : ℕ) (s : Session) → slice_get sessions number ≡ Some s → s.number ≡ number

-- a session waits for nobody now, or its next statement is the same and waits for those for whom it did
abbrev pub HasNoNewWait : Session → Session → Type 0
HasNoNewWait old new = (new.waits.items ≡ []) ⊎ ((next_line new ≡ next_line old) × (new.waits.items ≡ old.waits.items))

-- the LLSN of the last mtr that the part made, or the base
abbrev pub last_made_llsn : CorePart → ℕ
last_made_llsn p = last_llsn page_ops p.trx.opening.base.llsn p.pages.made

-- one of the part's mtrs made this page an undo page
abbrev pub HasMadeUndo : CorePart → ℕ → Type 0
HasMadeUndo p page = (x : Placed Mtr) × IsIn x p.pages.made × IsIn (page, MakeUndo) (plan_of x.mtr.records)

-- WHAT MIRRORS THE PART, of pages, as far as it speaks of the part alone: the primary's LLSN, its current undo page, and that
-- it holds no lock between two turns unless it is down
pub record Mirrors (p : CorePart) (down llsn : ℕ) (undo : Option ℕ) : Type 0 where
  pub not_below : last_made_llsn p ≤ llsn
  pub not_above : llsn ≤ max (last_made_llsn p) (told_llsn page_ops p.pages.given)
  pub undo_page : IfSome undo (λ page. (2 ≤ page) × (page < 4096) × HasMadeUndo p page)
  pub idle : (page : ℕ) → (held_at p.pages.locks page ≡ No) ⊎ (down ≢ 0)

-- how many rows a session has still to put back, where its transaction is rolled back
abbrev pub rows_left_by : Option Begun → Session → ℕ
rows_left_by None s = 0
rows_left_by (Some trx) s = length (drop s.restored s.formers.items)

abbrev pub rows_left : Session → ℕ
rows_left s = rows_left_by (trx_of_stage s.stage) s

-- the answer is a write's
abbrev pub is_of_write : List Line → Answer → Bool
is_of_write lines a = is_some (target_key (stmt_in lines a.session a.index))

-- BOUNDS: the table began as the primary does; and its mtrs, with those that may yet put rows back, are at most two for each
-- write that was answered and one for each timestamp that was drawn
pub record Bounds (work : Work) (p : CorePart) (answers : List Answer) (sessions : List Session) : Type 0 where
  pub base : p.trx.opening.base ≡ work.base
  pub begins : length (begin_names work.lines) ≤ p.trx.opening.begins
  pub few : length work.lines ≤ 10000
  pub mtrs : length p.pages.made + sum_by rows_left sessions ≤ 2 * count_by (is_of_write work.lines) answers + length p.trx.drew
