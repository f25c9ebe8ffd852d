-- Which reply to a statement is right, and which waits.
use Rattle.std.specs.Prelude.{◌≡◌, ◌≢◌, ℕ, ◌+◌, ◌*◌, ◌<◌, nat_le, Bool, true, false, ◌==◌, ◌&&◌, is_some, List, [], ◌∷◌, Some, take, filter, count_by, MatchOption}
use Rattle.std.specs.List.{list_any, AllByRecursion}
use Rattle.mp_model.specs.Folded.{value_at}
use Rattle.mp_model.specs.declared.ids.TrxName.{TrxName}
use Rattle.mp_model.specs.declared.key_value.KeyValue.{KeyValue}
use Rattle.mp_model.specs.declared.replies.WriteVerb.{WriteVerb}
use Rattle.mp_model.specs.declared.replies.Answer.{Answer}
use Rattle.mp_model.specs.declared.replies.Reply.{Reply}
use Rattle.mp_model.specs.declared.replies.Reply.TheVariants.{Began, Got, Scanned, Wrote, Committed, CommittedNone, Unknown, RolledBack, Conflict, Held, Full, Skipped, Stopped}
use Rattle.mp_script.specs.declared.statements.Line.{Line}
use Rattle.mp_script.specs.declared.statements.Stmt.TheVariants.{Begin, Get, Scan, Commit, Rollback}
use Rattle.mp_script.specs.Execution.{Execution, line_at, stmt_at, runs_on}
use Rattle.mp_script.specs.Transactions.{target_of, begins, line_place, trx_at, view_at, wrote_at, wrote_before, refused_before}
use Rattle.mp_script.specs.Seen.{acknowledgement, seen}

-- a transaction's `begin` line stands above another's
pub record BeginsBefore (run : Execution) (first second : TrxName) : Type 0 where
  pub begun : begins (stmt_at run first.session first.first) ≡ true
  pub above : line_place run.lines first.session first.first < line_place run.lines second.session second.first

-- a transaction has a write of the key that was answered ok
pub record HasWritten (run : Execution) (trx : TrxName) (key : ℕ) : Type 0 where
  pub index : ℕ
  pub its : trx_at run trx.session index ≡ trx
  pub written : wrote_at run trx.session index ≡ Some key

-- another session's acknowledged commit with this number, above the transaction's view, wrote the key
pub record CommittedAbove (run : Execution) (line : Line) (key number : ℕ) : Type 0 where
  pub answer : Answer
  pub acknowledged : acknowledgement run.answers number ≡ Some answer
  pub other : answer.session ≢ line.session
  pub above : view_at run line.session line.index < number
  pub written : wrote_before run answer.session answer.index key ≡ true

-- another session's transaction, older by its `begin` line, has written the key
pub record HeldBy (run : Execution) (line : Line) (key : ℕ) (holder : TrxName) : Type 0 where
  pub other : holder.session ≢ line.session
  pub older : BeginsBefore run holder (trx_at run line.session line.index)
  pub written : HasWritten run holder key

-- another session's transaction, younger by its `begin` line, has written the key
pub record WaitedFor (run : Execution) (line : Line) (key : ℕ) (holder : TrxName) : Type 0 where
  pub other : holder.session ≢ line.session
  pub younger : BeginsBefore run (trx_at run line.session line.index) holder
  pub written : HasWritten run holder key

-- more new pages than the store has left may be needed: a write takes five at most
abbrev pub MayBeFull : Execution → Type 0
MayBeFull run = 4096 < run.opening.taken + 5 * count_by (λ line. is_some (target_of line.stmt)) run.lines

-- a session's primary has a `down` line with this number
abbrev pub went_down : Execution → ℕ → ℕ → Bool
went_down run session by = list_any (λ down. down.by == by && runs_on run session down.primary) run.downs

-- the line is a statement with this verb that writes this key
abbrev pub WritesKey : Line → WriteVerb → ℕ → Type 0
WritesKey line verb key = target_of line.stmt ≡ Some (record { verb = verb; key = key })

-- its transaction wrote a key before it
abbrev pub HasOwnWrite : Execution → Line → Type 0
HasOwnWrite run line = (key : ℕ) × (wrote_before run line.session line.index key ≡ true)

abbrev pub HasNoOwnWrite : Execution → Line → Type 0
HasNoOwnWrite run line = (key : ℕ) → wrote_before run line.session line.index key ≡ false

-- the rows that a `scan` asks for: the first at or above its key
abbrev pub first_rows_from : ℕ → ℕ → List KeyValue → List KeyValue
first_rows_from low most rows = take most (filter (λ row. nat_le low row.key) rows)

-- the reply is right for the statement
abbrev pub IsRightReply : Execution → Line → Reply → Type 0
IsRightReply run line (Began view) = line.stmt ≡ Begin
IsRightReply run line (Got value) = (key : ℕ) × (line.stmt ≡ Get key) × (value ≡ value_at key (seen run line.session line.index))
IsRightReply run line (Scanned rows) = (low : ℕ) × (most : ℕ) × (line.stmt ≡ Scan low most) × (rows.items ≡ first_rows_from low most (seen run line.session line.index))
IsRightReply run line (Wrote verb) = (key : ℕ) × WritesKey line verb key
IsRightReply run line (Committed number) = (line.stmt ≡ Commit) × HasOwnWrite run line
IsRightReply run line CommittedNone = (line.stmt ≡ Commit) × HasNoOwnWrite run line
IsRightReply run line (Unknown number) = (line.stmt ≡ Commit) × HasOwnWrite run line
IsRightReply run line RolledBack = line.stmt ≡ Rollback
IsRightReply run line (Conflict verb number) = (key : ℕ) × WritesKey line verb key × CommittedAbove run line key number
IsRightReply run line (Held verb holder) = (key : ℕ) × WritesKey line verb key × HeldBy run line key holder
IsRightReply run line (Full verb) = (key : ℕ) × WritesKey line verb key × MayBeFull run
IsRightReply run line Skipped = begins (Some line.stmt) ≡ false
IsRightReply run line (Stopped by) = went_down run line.session by ≡ true

-- once a statement of a transaction was refused, the later ones are skipped, or stopped, and no others are skipped
abbrev pub FollowsRefusal : Bool → Reply → Type 0
FollowsRefusal refused Skipped = refused ≡ true
FollowsRefusal refused (Stopped by) = Unit {0}
FollowsRefusal refused _ = refused ≡ false

-- no transaction is named twice
abbrev pub IsWithoutRepeat : List TrxName → Type 0
IsWithoutRepeat [] = Unit {0}
IsWithoutRepeat (name ∷ names) = AllByRecursion (λ other. other ≢ name) names × IsWithoutRepeat names

-- a write waited for younger transactions of other sessions that wrote its key, each named once; nothing else waited
abbrev pub AreRightWaits : Execution → Line → List TrxName → Type 0
AreRightWaits run line waits = MatchOption (target_of line.stmt) (waits ≡ []) (λ target. IsWithoutRepeat waits × AllByRecursion (WaitedFor run line target.key) waits)

-- the answer is right for the script's statement
pub record IsRightAnswer (run : Execution) (answer : Answer) : Type 0 where
  pub line : Line
  pub found : line_at run.lines answer.session answer.index ≡ Some line
  pub reply : IsRightReply run line answer.reply
  pub follows : FollowsRefusal (refused_before run answer.session answer.index) answer.reply
  pub waits : AreRightWaits run line answer.waits.items
