-- A support once had is had after any later step.
use Rattle.std.proofs.Common.{◌≡◌, ◌≢◌, ℕ, ◌⊎◌, List, [], Option, None, Some, sym, ◌∙◌, inl, inr, ⊎_elim, arith}
use Rattle.std.specs.Prelude.{MatchOption}
use Rattle.std.specs.List.{AllByRecursion}
use Rattle.mp_script.proofs.Lists.{all_map}
use Rattle.mp_model.specs.declared.ids.TrxId.{TrxId}
use Rattle.mp_model.specs.declared.ids.TrxName.{TrxName}
use Rattle.mp_model.specs.declared.replies.Answer.{Answer}
use Rattle.mp_model.specs.declared.replies.Reply.{Reply}
use Rattle.mp_model.specs.declared.replies.Reply.TheVariants.{Began, Got, Scanned, Wrote, Committed, CommittedNone, Unknown, RolledBack, Conflict, Held, Full, Skipped, Stopped}
use Rattle.mp_script.specs.declared.statements.Line.{Line}
use Rattle.mp_script.specs.declared.statements.Stmt.{Stmt}
use Rattle.mp_script.specs.declared.statements.Stmt.TheVariants.{Begin, Get, Put, Del, Copy, Scan, Commit, Rollback}
use Rattle.mp_script.specs.Transactions.{Target, target_of}
use Rattle.mp_script.specs.Right.{IsWithoutRepeat}
use Rattle.mp_cells.specs.PageView.{PageView}
use Rattle.mp_core_trx.specs.declared.slot.Shown.{Shown}
use Rattle.mp_core_trx.specs.Parts.{begun_of, draw_of}
use Rattle.mp_core_pages.specs.declared.part.GivenPage.{GivenPage}
use Rattle.mp_core.specs.declared.part.CorePart.{CorePart}
use Rattle.mp_core.specs.OwnMtrs.{TrxMtr}
use Rattle.mp_core.specs.CoreExtends.{CoreExtends}
use Rattle.mp_supports.specs.Work.{Work}
use Rattle.mp_supports.specs.Supports.{Trace, IsTrxOf, IsValueWritten, Overwrites, RecordsCommit, IsBlocked, IsHeldBy, HasNoRoom, SupportsTrxReply, StoppedWith, SupportsReply, IsWaitFor, SupportsWaits, Supports}
use Rattle.mp_supports.proofs.Extending.{made_in, given_in, begun_in, drawn_in, made_upto}
use Rattle.mp_supports.proofs.SeesMore.{newest_more, load_more, settled_more, sees_more, scans_more}

module _ (p q : CorePart) (e : CoreExtends p q) where
  trx_more : (work : Work) (line : Line) (id : TrxId) (view : ℕ) → IsTrxOf work p line id view → IsTrxOf work q line id view
  trx_more work line id view h = record { begun = begun_in p q e (begun_of id view) h.begun; named = h.named }

  value_more : (pages : List (GivenPage PageView)) (id : TrxId) (view : ℕ) (stmt : Stmt) (written : Option (List ℕ)) → IsValueWritten p pages id view stmt written → IsValueWritten q pages id view stmt written
  value_more pages id view Begin written h = h
  value_more pages id view (Get key) written h = h
  value_more pages id view (Put key value) written h = h
  value_more pages id view (Del key) written h = h
  value_more pages id view (Copy from to) written h = (h.0, sees_more p q e pages id view from h.0 h.1, h.2)
  value_more pages id view (Scan low most) written h = h
  value_more pages id view Commit written h = h
  value_more pages id view Rollback written h = h

  overwrites_more : (pages : List (GivenPage PageView)) (id : TrxId) (view key : ℕ) (stmt : Stmt) (m : TrxMtr) → Overwrites p pages id view key stmt m → Overwrites q pages id view key stmt m
  overwrites_more pages id view key stmt m h = record {
    was_made = made_in p q e m h.was_made;
    of = h.of;
    row = h.row;
    put = h.put;
    writer = h.writer;
    its_key = h.its_key;
    value = value_more pages id view stmt h.row.value h.value;
    former = h.former;
    kept = h.kept;
    over = ⊎_elim (λ own. inl own) (λ settled. inr (settled_more p q e view h.former settled)) h.over;
    read_before = h.read_before;
  }

  records_more : (id : TrxId) (view cts : ℕ) (m : TrxMtr) → RecordsCommit p id view cts m → RecordsCommit q id view cts m
  records_more id view cts m h = record {
    above = h.above;
    drawn = drawn_in p q e (draw_of id cts) h.drawn;
    was_made = made_in p q e m h.was_made;
    of = h.of;
    commit = h.commit;
    whole = λ k there of upto. h.whole k (made_upto p q e k m h.was_made upto there) of upto;
  }

  blocked_more : (id : TrxId) (key : ℕ) (holder : TrxId) (x : Shown) → IsBlocked p id key holder x → IsBlocked q id key holder x
  blocked_more id key holder x h = record {
    leaf = h.leaf;
    newest = h.newest;
    its_newest = newest_more p q e h.leaf key h.newest h.its_newest;
    writer = h.writer;
    other = h.other;
    load = h.load;
    is_load = load_more p q e holder h.load h.is_load;
    shown = h.shown;
  }

  held_more : (id : TrxId) (key : ℕ) (holder : TrxId) → IsHeldBy p id key holder → IsHeldBy q id key holder
  held_more id key holder h = ⊎_elim (λ active. inl (blocked_more id key holder _ active)) (λ prep. inr (blocked_more id key holder _ prep)) h

  room_more : HasNoRoom p → HasNoRoom q
  room_more h = record { meta = h.meta; given = given_in p q e h.meta h.given; number = h.number; few = h.few }

  trx_reply_more : (work : Work) (trace : Trace) (line : Line) (id : TrxId) (view : ℕ) (reply : Reply) → SupportsTrxReply work p trace line id view reply → SupportsTrxReply work q trace line id view reply
  trx_reply_more work trace line id view (Began v) h = h
  trx_reply_more work trace line id view (Got value) h = (h.0, h.1, h.2, sees_more p q e trace.pages id view h.0 h.1 h.3, h.4, h.5)
  trx_reply_more work trace line id view (Scanned rows) h = (h.0, h.1, h.2, h.3, h.4, scans_more p q e trace.pages id view h.3 h.0 h.2 rows.items h.5, h.6, h.7, h.8)
  trx_reply_more work trace line id view (Wrote verb) h = (h.0, h.1, h.2, h.3, overwrites_more trace.pages id view h.0 line.stmt h.1 h.4)
  trx_reply_more work trace line id view (Committed cts) h = let durable = e.durable in let forced = h.4 in (h.0, h.1, h.2, records_more id view cts h.0 h.3, omega (arith, durable, forced))
  trx_reply_more work trace line id view CommittedNone h = h
  trx_reply_more work trace line id view (Unknown cts) h = (h.0, h.1, h.2, records_more id view cts h.0 h.3)
  trx_reply_more work trace line id view RolledBack h = h
  trx_reply_more work trace line id view (Conflict verb cts) h = (h.0, h.1, h.2, blocked_more id h.0 h.1 _ h.3, h.4, h.5, h.6)
  trx_reply_more work trace line id view (Held verb name) h = (h.0, h.1, h.2, held_more id h.0 h.1 h.3, h.4, h.5, h.6)
  trx_reply_more work trace line id view (Full verb) h = (h.0, h.1, room_more h.2, h.3)
  trx_reply_more work trace line id view Skipped h = h
  trx_reply_more work trace line id view (Stopped by) h = h

  stopped_more : (work : Work) (trace : Trace) (line : Line) → StoppedWith work p trace line → StoppedWith work q trace line
  stopped_more work trace line h =
      ⊎_elim (λ none. inl none)
      (λ w. inr (w.0, w.1, w.2, w.3, w.4, trx_more work line w.0 w.1 w.5, w.6, w.7, overwrites_more trace.pages w.0 w.1 w.2 line.stmt w.4 w.8)) h

  -- one that rests on a transaction
  in_trx : (work : Work) (trace : Trace) (line : Line) (reply : Reply)
      → (id : TrxId) × (view : ℕ) × IsTrxOf work p line id view × SupportsTrxReply work p trace line id view reply
      → (id : TrxId) × (view : ℕ) × IsTrxOf work q line id view × SupportsTrxReply work q trace line id view reply
  in_trx work trace line reply h = (h.0, h.1, trx_more work line h.0 h.1 h.2, trx_reply_more work trace line h.0 h.1 reply h.3)

  pub reply_more : (work : Work) (down after : ℕ) (trace : Trace) (line : Line) (reply : Reply) → (down ≡ 0) ⊎ (down ≡ after) → SupportsReply work p down trace line reply → SupportsReply work q after trace line reply
  reply_more work down after trace line (Began v) goes h = (h.0, h.1, h.2, begun_in p q e h.0 h.3, h.4, h.5)
  reply_more work down after trace line (Got value) goes h = in_trx work trace line (Got value) h
  reply_more work down after trace line (Scanned rows) goes h = in_trx work trace line (Scanned rows) h
  reply_more work down after trace line (Wrote verb) goes h = in_trx work trace line (Wrote verb) h
  reply_more work down after trace line (Committed cts) goes h = in_trx work trace line (Committed cts) h
  reply_more work down after trace line CommittedNone goes h = h
  reply_more work down after trace line (Unknown cts) goes h =
      let same : after ≡ (h.0).node = ⊎_elim (λ up. absurd (h.5 up)) (λ stays. sym stays ∙ h.4) goes in
      let down_still : after ≢ 0 = λ none. absurd (h.5 (h.4 ∙ sym same ∙ none)) in
      (h.0, h.1, trx_more work line h.0 h.1 h.2, trx_reply_more work trace line h.0 h.1 (Unknown cts) h.3, same, down_still)
  reply_more work down after trace line RolledBack goes h = h
  reply_more work down after trace line (Conflict verb cts) goes h = in_trx work trace line (Conflict verb cts) h
  reply_more work down after trace line (Held verb name) goes h = in_trx work trace line (Held verb name) h
  reply_more work down after trace line (Full verb) goes h = in_trx work trace line (Full verb) h
  reply_more work down after trace line Skipped goes h = h
  reply_more work down after trace line (Stopped by) goes h =
      let same : after ≡ by = ⊎_elim (λ up. absurd (h.1 (sym h.0 ∙ up))) (λ stays. sym stays ∙ h.0) goes in
      (same, h.1, stopped_more work trace line h.2)

  wait_more : (work : Work) (line : Line) (id : TrxId) (key : ℕ) (name : TrxName) → IsWaitFor work p line id key name → IsWaitFor work q line id key name
  wait_more work line id key name h = (h.0, held_more id key h.0 h.1, h.2, h.3)

  waits_by : (work : Work) (line : Line) (waits : List TrxName) (target : Option Target)
      → MatchOption target (waits ≡ []) (λ target. IsWithoutRepeat waits × AllByRecursion (λ name. (id : TrxId) × (view : ℕ) × IsTrxOf work p line id view × IsWaitFor work p line id target.key name) waits)
      → MatchOption target (waits ≡ []) (λ target. IsWithoutRepeat waits × AllByRecursion (λ name. (id : TrxId) × (view : ℕ) × IsTrxOf work q line id view × IsWaitFor work q line id target.key name) waits)
  waits_by work line waits None h = h
  waits_by work line waits (Some target) h = (
    h.0,
    all_map (λ name. (id : TrxId) × (view : ℕ) × IsTrxOf work p line id view × IsWaitFor work p line id target.key name)
        (λ name. (id : TrxId) × (view : ℕ) × IsTrxOf work q line id view × IsWaitFor work q line id target.key name) waits
        (λ name w. (w.0, w.1, trx_more work line w.0 w.1 w.2, wait_more work line w.0 target.key name w.3)) h.1,
  )

  pub waits_more : (work : Work) (line : Line) (waits : List TrxName) → SupportsWaits work p line waits → SupportsWaits work q line waits
  waits_more work line waits h = waits_by work line waits (target_of line.stmt) h

  pub supports_more : (work : Work) (down after : ℕ) (answer : Answer) (trace : Trace) → (down ≡ 0) ⊎ (down ≡ after) → Supports work p down answer trace → Supports work q after answer trace
  supports_more work down after answer trace goes h = record {
    line = h.line;
    found = h.found;
    reply = reply_more work down after trace h.line answer.reply goes h.reply;
    waits = waits_more work h.line answer.waits.items h.waits;
  }
