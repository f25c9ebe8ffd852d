-- The rows that a transaction sees have keys and values that statements may write.
use Rattle.std.proofs.Common.{◌≡◌, ℕ, zero, suc, ◌+◌, ◌<◌, ◌^◌, nat_le, nat_lt, Bool, true, false, List, [], ◌∷◌, Option, Some, None, refl, ◌==◌, ◌&&◌, filter}
use Rattle.std.specs.Prelude.{IfSome}
use Rattle.std.specs.List.{AllByRecursion, flat_map}
use Rattle.mp_model.specs.Folded.{row_of, written, over, writes_up_to, before, value_at}
use Rattle.mp_model.specs.Values.{is_value}
use Rattle.mp_model.specs.declared.histories.Commit.{Commit}
use Rattle.mp_model.specs.declared.histories.Opening.{Opening}
use Rattle.mp_model.specs.declared.ids.TrxName.{TrxName}
use Rattle.mp_model.specs.declared.key_value.KeyValue.{KeyValue}
use Rattle.mp_model.specs.declared.key_value.KeyWrite.{KeyWrite}
use Rattle.mp_model.specs.declared.replies.Answer.{Answer}
use Rattle.mp_model.specs.declared.transcripts.Transcript.{Transcript}
use Rattle.mp_script.specs.declared.statements.Line.{Line}
use Rattle.mp_script.specs.declared.statements.Script.{Script}
use Rattle.mp_script.specs.declared.statements.Stmt.{Stmt}
use Rattle.mp_script.specs.declared.statements.Stmt.TheVariants.{Begin, Get, Put, Del, Copy, Scan, Commit as CommitStmt, Rollback}
use Rattle.mp_script.specs.Execution.{Execution, execution_of, line_at, stmt_at, reply_at}
use Rattle.mp_script.specs.Seen.{write_by, write_at, writes_among, own_writes, acknowledgement, commit_by, history, rows_of_view, seen}
use Rattle.mp_script.specs.Spelling.{IsSpelled}
use Rattle.mp_script.specs.SpelledLines.{IsLineInRange, IsRowInRange}
use Rattle.mp_script.specs.Transactions.{is_wrote, trx_of, trx_at, view_of, statements_before}
use Rattle.mp_script.specs.Words.{IsStmt}
use Rattle.mp_script.proofs.Lists.{all_append}
use Rattle.mp_script.proofs.SpelledLines.{spelled_in_order}

pub all_filter : {T : Type 0} (P : T → Type 0) (test : T → Bool) (xs : List T) → AllByRecursion P xs → AllByRecursion P (filter test xs)
all_filter P test [] all_xs = tt
all_filter P test (x ∷ xs) all_xs = go (test x) refl (all_filter P test xs all_xs.1)
  where
    go : (b : Bool) → test x ≡ b → AllByRecursion P (filter test xs) → AllByRecursion P (filter test (x ∷ xs))
    go true e rest = rw e (all_xs.0, rest)
    go false e rest = rw e rest

all_flat : {S T : Type 0} (P : T → Type 0) (f : S → List T) (xs : List S) → AllByRecursion (λ x. AllByRecursion P (f x)) xs → AllByRecursion P (flat_map f xs)
all_flat P f [] all_xs = tt
all_flat P f (x ∷ xs) all_xs = all_append P (f x) (flat_map f xs) all_xs.0 (all_flat P f xs all_xs.1)

-- what a look-up finds is one of the statements
pub line_found_in : (P : Line → Type 0) (lines : List Line) (session index : ℕ) (line : Line) → AllByRecursion P lines → line_at lines session index ≡ Some line → P line
line_found_in P [] session index line all_lines found = cc
line_found_in P (x ∷ lines) session index line all_lines found = go (x.session == session && x.index == index) refl (line_found_in P lines session index line all_lines.1)
  where
    go : (b : Bool) → (x.session == session && x.index == index) ≡ b → (line_at lines session index ≡ Some line → P line) → P line
    go true e rest = let is : Some x ≡ Some line = rw e at found in let same : x ≡ line = cc in rw (← same) all_lines.0
    go false e rest = rest (rw e at found)

abbrev IsWriteInRange : KeyWrite → Type 0
IsWriteInRange write = (write.key < 2 ^ 32) × IfSome write.value (λ value. is_value value ≡ true)

rows_written : (rows : List KeyValue) (write : KeyWrite) → AllByRecursion IsRowInRange rows → IsWriteInRange write → AllByRecursion IsRowInRange (written rows write)
rows_written rows write good may = all_append IsRowInRange (filter (λ row. nat_lt row.key write.key) rows) _ (all_filter IsRowInRange (λ row. nat_lt row.key write.key) rows good)
    (all_append IsRowInRange (row_of write) _ (left write.value may.1) (all_filter IsRowInRange (λ row. nat_lt write.key row.key) rows good))
  where
    left : (value : Option (List ℕ)) → IfSome value (λ v. is_value v ≡ true) → AllByRecursion IsRowInRange (row_of (record { key = write.key; value = value }))
    left (Some value) is = (record { key = may.0; value = is }, tt)
    left None is = tt

rows_over : (rows : List KeyValue) (writes : List KeyWrite) → AllByRecursion IsRowInRange rows → AllByRecursion IsWriteInRange writes → AllByRecursion IsRowInRange (over rows writes)
rows_over rows [] good may = good
rows_over rows (write ∷ writes) good may = rows_over (written rows write) writes (rows_written rows write good may.0) may.1

pub value_found : (key : ℕ) (rows : List KeyValue) → AllByRecursion IsRowInRange rows → IfSome (value_at key rows) (λ value. is_value value ≡ true)
value_found key [] good = tt
value_found key (row ∷ rows) good = go (row.key == key) refl (value_found key rows good.1)
  where
    go : (b : Bool) → (row.key == key) ≡ b → IfSome (value_at key rows) (λ value. is_value value ≡ true) → IfSome (value_at key (row ∷ rows)) (λ value. is_value value ≡ true)
    go true e rest = rw e good.0.value
    go false e rest = rw e rest

written_by : (rows : List KeyValue) (stmt : Option Stmt) → AllByRecursion IsRowInRange rows → IfSome stmt IsStmt → AllByRecursion IsWriteInRange (write_by rows stmt)
written_by rows None good may = tt
written_by rows (Some Begin) good may = tt
written_by rows (Some (Get key)) good may = tt
written_by rows (Some (Put key value)) good may = ((may.0, may.1), tt)
written_by rows (Some (Del key)) good may = ((may, tt), tt)
written_by rows (Some (Copy from to)) good may = ((may.1, value_found from rows good), tt)
written_by rows (Some (Scan low most)) good may = tt
written_by rows (Some CommitStmt) good may = tt
written_by rows (Some Rollback) good may = tt

module _ (run : Execution) (within : AllByRecursion IsLineInRange run.lines) (opened : AllByRecursion IsRowInRange run.opening.rows.items) where
  stmt_within : (session index : ℕ) → IfSome (stmt_at run session index) IsStmt
  stmt_within session index = go (line_at run.lines session index) refl
    where
      go : (found : Option Line) → line_at run.lines session index ≡ found → IfSome (stmt_at run session index) IsStmt
      go None e = rw e tt
      go (Some line) e = rw e (line_found_in IsLineInRange run.lines session index line within e).stmt

  write_within : (rows : List KeyValue) (session index : ℕ) → AllByRecursion IsRowInRange rows → AllByRecursion IsWriteInRange (write_at run rows session index)
  write_within rows session index good = go (is_wrote (reply_at run session index)) refl
    where
      go : (b : Bool) → is_wrote (reply_at run session index) ≡ b → AllByRecursion IsWriteInRange (write_at run rows session index)
      go true e = rw e (written_by rows (stmt_at run session index) good (stmt_within session index))
      go false e = rw e tt

  writes_within : (rows : List KeyValue) (trx : TrxName) (count : ℕ) → AllByRecursion IsRowInRange rows → AllByRecursion IsWriteInRange (writes_among run (λ index. rows) trx count)
  writes_within rows trx zero good = tt
  writes_within rows trx (suc count) good =
      let made = writes_within rows trx count good in
      all_append IsWriteInRange (writes_among run (λ index. rows) trx count) _ made (write_within (over rows (writes_among run (λ index. rows) trx count)) trx.session (trx.first + suc count) (rows_over rows (writes_among run (λ index. rows) trx count) good made))

  rows_before : (commits : List Commit) (view : ℕ) → AllByRecursion (λ commit. AllByRecursion IsWriteInRange commit.writes.items) commits → AllByRecursion IsRowInRange (before run.opening.rows.items commits view)
  rows_before commits view good = rows_over run.opening.rows.items (writes_up_to commits view) opened
      (all_flat IsWriteInRange (λ (commit : Commit). commit.writes.items) (filter (λ commit. nat_le commit.cts view) commits) (all_filter (λ (commit : Commit). AllByRecursion IsWriteInRange commit.writes.items) (λ commit. nat_le commit.cts view) commits good))

  history_within : (count : ℕ) → AllByRecursion (λ commit. AllByRecursion IsWriteInRange commit.writes.items) (history run count)
  history_within zero = tt
  history_within (suc count) = all_append (λ (commit : Commit). AllByRecursion IsWriteInRange commit.writes.items) (history run count) _ (history_within count) (go (acknowledgement run.answers (run.opening.base + suc count)) (history_within count))
    where
      go : (found : Option Answer) → AllByRecursion (λ commit. AllByRecursion IsWriteInRange commit.writes.items) (history run count) → AllByRecursion (λ commit. AllByRecursion IsWriteInRange commit.writes.items) (commit_by run (history run count) (run.opening.base + suc count) found)
      go None lower = tt
      go (Some answer) lower = (writes_within (before run.opening.rows.items (history run count) (view_of run (trx_of run answer))) (trx_of run answer) (statements_before (trx_of run answer) answer.index) (rows_before (history run count) (view_of run (trx_of run answer)) lower), tt)

  pub seen_within : (session index : ℕ) → AllByRecursion IsRowInRange (seen run session index)
  seen_within session index =
      let trx = trx_at run session index in
      let rows = rows_of_view run trx in
      let good : AllByRecursion IsRowInRange (rows_of_view run trx) = rows_before (history run run.commits) (view_of run trx) (history_within run.commits) in
      rows_over rows (own_writes run (λ index. rows) trx index) good (writes_within rows trx (statements_before trx index) good)

pub spelled_seen : (script : Script) (opening : Opening) (transcript : Transcript) → IsSpelled script → AllByRecursion IsRowInRange opening.rows.items → (session index : ℕ) → AllByRecursion IsRowInRange (seen (execution_of script opening transcript) session index)
spelled_seen script opening transcript spelled opened = seen_within (execution_of script opening transcript) (spelled_in_order script spelled).within opened
