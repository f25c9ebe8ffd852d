-- The rows that mtrs put have keys that rows may have.
use Rattle.std.proofs.Common.{◌≡◌, ℕ, ◌<◌, ◌≤◌, ◌==◌, Bool, true, false, cond, List, [], ◌∷◌, Option, Some, None, refl, ap, ◌∙◌, inl, inr, arith}
use Rattle.std.specs.Prelude.{filter, map}
use Rattle.std.specs.List.{AllByRecursion}
use Rattle.std.proofs.lemmas.Bool.{cases_Bool, eqb-true}
use Rattle.mp_model.specs.declared.ids.TrxId.{TrxId}
use Rattle.mp_cells.specs.declared.changes.Change.{Change}
use Rattle.mp_cells.specs.declared.changes.Change.TheVariants.{MakeLeaf, MakeInner, MakeUndo, PutRow, RestoreRow, Cut, PutChild, PutUndo, TakePage}
use Rattle.mp_cells.specs.declared.records.Record.{Record}
use Rattle.mp_cells.specs.declared.records.Record.TheVariants as records
use Rattle.mp_cells.specs.declared.records.Mtr.{Mtr}
use Rattle.mp_cells.specs.declared.rows.Row.{Row}
use Rattle.mp_cells.specs.Mtrs.{IsMtr, IsChange, IsPageRecord, AreRecords}
use Rattle.mp_cells.specs.Plans.{plan_of}
use Rattle.mp_cells.specs.Writes.{row_put, rows_put}
use Rattle.mp_cells.specs.Trees.{top}
use Rattle.mp_cells.proofs.KeyEdits.{All-append, All-filter}
use Rattle.mp_histories.specs.Commits.{Stamp}
use Rattle.mp_histories.specs.KeyOps.{same_writer}
use Rattle.mp_histories.specs.Histories.{commit_records}
use Rattle.mp_recover.specs.KeptCommits.{KeptCommit, puts_by, kept_from, kept_commits, last_or_none, last_put}
use Rattle.mp_recover.proofs.LastCommits.{NoneWrote}

abbrev HasKey : Row → Type 0
HasKey row = row.key < top

change_put : (change : Change) → IsChange change → AllByRecursion HasKey (row_put change)
change_put (MakeLeaf low high rows) is = tt
change_put (MakeInner low high children) is = tt
change_put MakeUndo is = tt
change_put (PutRow row) is = (is.key, tt)
change_put (RestoreRow row) is = tt
change_put (Cut from) is = tt
change_put (PutChild child) is = tt
change_put (PutUndo row) is = tt
change_put (TakePage number) is = tt

pages_put : (llsn : ℕ) (items : List Record) → AllByRecursion (IsPageRecord llsn) items → AllByRecursion HasKey (rows_put (plan_of items))
pages_put llsn [] all = tt
pages_put llsn (records.Page number prev change ∷ items) all = All-append HasKey (row_put change) (rows_put (plan_of items)) (change_put change all.0.2) (pages_put llsn items all.1)
pages_put llsn (records.Commit id cts ∷ items) all = absurd all.0

records_put : (llsn : ℕ) (items : List Record) → AreRecords llsn items → AllByRecursion HasKey (rows_put (plan_of items))
records_put llsn [] are = tt
records_put llsn (records.Page number prev change ∷ items) are = pages_put llsn (records.Page number prev change ∷ items) are.2
records_put llsn (records.Commit id cts ∷ []) are = tt
records_put llsn (records.Commit id cts ∷ item ∷ items) are = pages_put llsn (records.Commit id cts ∷ item ∷ items) are.2

one_put : (id : TrxId) (node : ℕ) (mtr : Mtr) → IsMtr mtr → AllByRecursion HasKey (cond (mtr.node == node) (filter (λ row. same_writer row.writer (Some id)) (rows_put (plan_of mtr.records))) [])
one_put id node mtr is = by_node (mtr.node == node)
  where
    by_node : (b : Bool) → AllByRecursion HasKey (cond b (filter (λ row. same_writer row.writer (Some id)) (rows_put (plan_of mtr.records))) [])
    by_node true = All-filter HasKey (λ row. same_writer row.writer (Some id)) (rows_put (plan_of mtr.records)) (records_put mtr.llsn mtr.records is.records)
    by_node false = tt

puts_have : (id : TrxId) (node : ℕ) (mtrs : List Mtr) → AllByRecursion IsMtr mtrs → AllByRecursion HasKey (puts_by id node mtrs)
puts_have id node [] all = tt
puts_have id node (mtr ∷ mtrs) all = All-append HasKey _ (puts_by id node mtrs) (one_put id node mtr all.0) (puts_have id node mtrs all.1)

no_put : (key : ℕ) (rows : List Row) → AllByRecursion HasKey rows → top ≤ key → last_put key rows ≡ None
no_put key [] all le = refl
no_put key (row ∷ rows) all le = elim (cases_Bool (row.key == key)) [
  | inl e ↦ (let same : row.key ≡ key = eqb-true row.key key e in let lt : row.key < top = all.0 in absurd (omega (arith, same, lt, le)))
  | inr other ↦ ap (λ (o : Option Row). last_or_none o (cond (row.key == key) (Some row) None)) (no_put key rows all.1 le) ∙ rw other refl
]

stamps_none : (key node : ℕ) (all : List Mtr) (stamps : List Stamp) → AllByRecursion IsMtr all → top ≤ key
    → NoneWrote key (map (λ (stamp : Stamp). record { id = stamp.id; cts = stamp.cts; puts = puts_by stamp.id node all }) stamps)
stamps_none key node all [] are le = tt
stamps_none key node all (stamp ∷ stamps) are le = (no_put key (puts_by stamp.id node all) (puts_have stamp.id node all are) le, stamps_none key node all stamps are le)

kept_none : (key : ℕ) (all mtrs : List Mtr) → AllByRecursion IsMtr all → top ≤ key → NoneWrote key (kept_from all mtrs)
kept_none key all [] are le = tt
kept_none key all (mtr ∷ mtrs) are le = All-append (λ (k : KeptCommit). last_put key k.puts ≡ None) _ (kept_from all mtrs) (stamps_none key mtr.node all (commit_records mtr.records) are le) (kept_none key all mtrs are le)

-- no commit wrote to a key that no row may have
pub none_above : (key : ℕ) (mtrs : List Mtr) → AllByRecursion IsMtr mtrs → top ≤ key → NoneWrote key (kept_commits mtrs)
none_above key mtrs are le = kept_none key mtrs mtrs are le
