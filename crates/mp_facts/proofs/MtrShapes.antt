-- What an mtr that puts a row, puts one back or records a commit shows of itself, and what becomes of the owner and the
-- first former row of a key.
use Rattle.std.proofs.Common.{◌≡◌, ℕ, ◌==◌, ◌&&◌, if◌then◌else◌, List, [], ◌∷◌, slice_get, Option, Some, None, refl, ap, ◌∙◌}
use Rattle.std.specs.List.{AllByRecursion}
use Rattle.mp_model.specs.declared.ids.TrxId.{TrxId}
use Rattle.mp_cells.specs.declared.changes.Change.TheVariants.{RestoreRow}
use Rattle.mp_cells.specs.declared.records.Record.{Record}
use Rattle.mp_cells.specs.declared.records.Record.TheVariants as records
use Rattle.mp_cells.specs.declared.records.Mtr.{Mtr}
use Rattle.mp_cells.specs.declared.rows.Row.{Row}
use Rattle.mp_cells.specs.Mtrs.{IsPageRecord, AreRecords}
use Rattle.mp_cells.specs.Plans.{Plan, plan_of}
use Rattle.mp_cells.specs.Trees.{PageMap}
use Rattle.mp_cells.specs.Writes.{rows_put, rows_restored, WellPut}
use Rattle.mp_core_trx.specs.declared.part.Draw.{Draw}
use Rattle.mp_core_trx.specs.Parts.{draw_of}
use Rattle.mp_core_pages.specs.declared.part.Placed.{Placed}
use Rattle.mp_histories.specs.Histories.{commit_records}
use Rattle.mp_histories.proofs.Lists.{nothing_there}
use Rattle.mp_core.specs.OwnMtrs.{row_put_by, row_kept_by, row_restored_by, commit_told, commit_by_mtr, is_row_of, is_id, writer_in, owner_of, owner_in, committer, or_else_id, trx_of_mtr, or_else_row, first_former}

-- an mtr of pages alone has no commit record
page_records : (llsn : ℕ) (items : List Record) → AllByRecursion (IsPageRecord llsn) items → commit_records items ≡ []
page_records llsn [] all = refl
page_records llsn (records.Page page prev change ∷ items) all = page_records llsn items all.1
page_records llsn (records.Commit id cts ∷ items) all = absurd all.0

-- an mtr whose plan does something has page records alone
module _ (llsn : ℕ) (P : Plan → Type 0) (nothing : P [] → ⊥) where
  pub no_commit_records : (items : List Record) → AreRecords llsn items → P (plan_of items) → commit_records items ≡ []
  no_commit_records [] are does = refl
  no_commit_records (records.Page page prev change ∷ items) are does = page_records llsn items are.2.1
  no_commit_records (records.Commit id cts ∷ []) are does = absurd (nothing does)
  no_commit_records (records.Commit id cts ∷ item ∷ items) are does = absurd are.2.0

  pub tells_no_commit : (items : List Record) → P (plan_of items) → commit_told items ≡ None
  tells_no_commit [] does = refl
  tells_no_commit (records.Page page prev change ∷ items) does = refl
  tells_no_commit (records.Commit id cts ∷ []) does = absurd (nothing does)
  tells_no_commit (records.Commit id cts ∷ item ∷ items) does = refl

-- what tells a commit is one commit record
pub commit_alone : (items : List Record) (d : Draw) → commit_told items ≡ Some d → items ≡ records.Commit d.id d.cts ∷ []
commit_alone [] d is = absurd cc
commit_alone (records.Page page prev change ∷ items) d is = absurd cc
commit_alone (records.Commit id cts ∷ []) d is = let same : draw_of id cts ≡ d = cc in ap (λ (x : Draw). records.Commit x.id x.cts ∷ []) same
commit_alone (records.Commit id cts ∷ item ∷ items) d is = absurd cc

abbrev first_of : List Row → Option Row
first_of rows = slice_get rows 0

-- an mtr puts this row of a transaction over this one, and does nothing else
pub record PutShape (m : Mtr) (row kept : Row) : Type 0 where
  pub put : row_put_by m ≡ Some row
  pub former : row_kept_by m ≡ Some kept
  pub restored : row_restored_by m ≡ None
  pub commit : commit_by_mtr m ≡ None

pub record RestoreShape (m : Mtr) (row : Row) : Type 0 where
  pub put : row_put_by m ≡ None
  pub restored : row_restored_by m ≡ Some row
  pub commit : commit_by_mtr m ≡ None

pub record CommitShape (m : Mtr) (d : Draw) : Type 0 where
  pub put : row_put_by m ≡ None
  pub restored : row_restored_by m ≡ None
  pub commit : commit_by_mtr m ≡ Some d

abbrev Puts : Row → Plan → Type 0
Puts row plan = rows_put plan ≡ row ∷ []

abbrev PutsBack : ℕ → Row → Plan → Type 0
PutsBack page row plan = plan ≡ (page, RestoreRow row) ∷ []

puts_something : (row : Row) → Puts row [] → ⊥
puts_something row is = nothing_there row [] is

restores_something : (page : ℕ) (row : Row) → PutsBack page row [] → ⊥
restores_something page row is = nothing_there (page, RestoreRow row) [] is

pub put_shape : (m : Mtr) (row : Row) (given : PageMap) (well : WellPut given row (plan_of m.records)) → PutShape m row well.keeps.0
put_shape m row given well = record {
  put = ap first_of well.puts;
  former = ap first_of well.keeps.1;
  restored = ap first_of well.restores;
  commit = tells_no_commit m.llsn (Puts row) (puts_something row) m.records well.puts;
}

pub put_no_commit : (m : Mtr) (row : Row) → AreRecords m.llsn m.records → rows_put (plan_of m.records) ≡ row ∷ [] → commit_records m.records ≡ []
put_no_commit m row are puts = no_commit_records m.llsn (Puts row) (puts_something row) m.records are puts

pub restore_shape : (m : Mtr) (page : ℕ) (row : Row) → plan_of m.records ≡ (page, RestoreRow row) ∷ [] → RestoreShape m row
restore_shape m page row one = record {
  put = ap (λ (plan : Plan). first_of (rows_put plan)) one;
  restored = ap (λ (plan : Plan). first_of (rows_restored plan)) one;
  commit = tells_no_commit m.llsn (PutsBack page row) (restores_something page row) m.records one;
}

pub restore_no_commit : (m : Mtr) (page : ℕ) (row : Row) → AreRecords m.llsn m.records → plan_of m.records ≡ (page, RestoreRow row) ∷ [] → commit_records m.records ≡ []
restore_no_commit m page row are one = no_commit_records m.llsn (PutsBack page row) (restores_something page row) m.records are one

pub commit_shape : (m : Mtr) (d : Draw) → commit_by_mtr m ≡ Some d → CommitShape m d
commit_shape m d is =
    let alone : m.records ≡ records.Commit d.id d.cts ∷ [] = commit_alone m.records d is in
    record {
      put = ap (λ (items : List Record). first_of (rows_put (plan_of items))) alone;
      restored = ap (λ (items : List Record). first_of (rows_restored (plan_of items))) alone;
      commit = is;
    }

-- ---- which transaction it is of, whose a key is after it, and the first former row of the key after it

abbrev trx_by : List (Placed Mtr) → Option Row → Option Row → Option Draw → Option TrxId
trx_by made put restored commit = or_else_id (writer_in put) (or_else_id (owner_in made restored) (committer commit))

abbrev pub owner_next : ℕ → Option TrxId → Option Row → Option Row → Option TrxId
owner_next key before restored put = if is_row_of key restored then None else (if is_row_of key put then writer_in put else before)

abbrev pub former_next : TrxId → ℕ → Option Row → Option TrxId → Option Row → Option Row → Option Row → Option Row
former_next id key before of restored put kept =
    if is_row_of key restored && is_id id of then None
    else (if is_row_of key put && is_id id of then or_else_row before kept else before)

module _ (made : List (Placed Mtr)) (m : Mtr) where
  module _ (row kept : Row) (id : TrxId) (s : PutShape m row kept) (by : row.writer ≡ Some id) where
    pub put_of : trx_of_mtr made m ≡ Some id
    put_of = ap (λ (x : Option Row). or_else_id (writer_in x) (or_else_id (owner_in made (row_restored_by m)) (committer (commit_by_mtr m)))) s.put ∙ ap (λ (x : Option TrxId). or_else_id x (or_else_id (owner_in made (row_restored_by m)) (committer (commit_by_mtr m)))) by

    pub put_owner : (at key : ℕ) → owner_of (record { at = at; mtr = m } ∷ made) key ≡ (if row.key == key then Some id else owner_of made key)
    put_owner at key =
        ap (λ (x : Option Row). owner_next key (owner_of made key) x (row_put_by m)) s.restored
        ∙ ap (λ (x : Option Row). owner_next key (owner_of made key) None x) s.put
        ∙ ap (λ (x : Option TrxId). if row.key == key then x else owner_of made key) by

    pub put_former : (at : ℕ) (of : TrxId) (key : ℕ) → first_former (record { at = at; mtr = m } ∷ made) of key ≡ (if (row.key == key) && is_id of (Some id) then or_else_row (first_former made of key) (Some kept) else first_former made of key)
    put_former at of key =
        ap (λ (x : Option Row). former_next of key (first_former made of key) (trx_of_mtr made m) x (row_put_by m) (row_kept_by m)) s.restored
        ∙ ap (λ (x : Option Row). former_next of key (first_former made of key) (trx_of_mtr made m) None x (row_kept_by m)) s.put
        ∙ ap (λ (x : Option Row). former_next of key (first_former made of key) (trx_of_mtr made m) None (Some row) x) s.former
        ∙ ap (λ (x : Option TrxId). former_next of key (first_former made of key) x None (Some row) (Some kept)) put_of

  module _ (row : Row) (id : TrxId) (s : RestoreShape m row) (owned : owner_of made row.key ≡ Some id) where
    pub restore_of : trx_of_mtr made m ≡ Some id
    restore_of =
        ap (λ (x : Option Row). trx_by made x (row_restored_by m) (commit_by_mtr m)) s.put
        ∙ ap (λ (x : Option Row). trx_by made None x (commit_by_mtr m)) s.restored
        ∙ ap (λ (x : Option TrxId). or_else_id x (committer (commit_by_mtr m))) owned

    pub restore_owner : (at key : ℕ) → owner_of (record { at = at; mtr = m } ∷ made) key ≡ (if row.key == key then None else owner_of made key)
    restore_owner at key =
        ap (λ (x : Option Row). owner_next key (owner_of made key) x (row_put_by m)) s.restored
        ∙ ap (λ (x : Option Row). owner_next key (owner_of made key) (Some row) x) s.put

    pub restore_former : (at : ℕ) (of : TrxId) (key : ℕ) → first_former (record { at = at; mtr = m } ∷ made) of key ≡ (if (row.key == key) && is_id of (Some id) then None else first_former made of key)
    restore_former at of key =
        ap (λ (x : Option Row). former_next of key (first_former made of key) (trx_of_mtr made m) x (row_put_by m) (row_kept_by m)) s.restored
        ∙ ap (λ (x : Option Row). former_next of key (first_former made of key) (trx_of_mtr made m) (Some row) x (row_kept_by m)) s.put
        ∙ ap (λ (x : Option TrxId). former_next of key (first_former made of key) x (Some row) None (row_kept_by m)) restore_of

  module _ (d : Draw) (s : CommitShape m d) where
    pub commit_of : trx_of_mtr made m ≡ Some d.id
    commit_of =
        ap (λ (x : Option Row). trx_by made x (row_restored_by m) (commit_by_mtr m)) s.put
        ∙ ap (λ (x : Option Row). trx_by made None x (commit_by_mtr m)) s.restored
        ∙ ap (λ (x : Option Draw). trx_by made None None x) s.commit

    pub commit_owner : (at key : ℕ) → owner_of (record { at = at; mtr = m } ∷ made) key ≡ owner_of made key
    commit_owner at key =
        ap (λ (x : Option Row). owner_next key (owner_of made key) x (row_put_by m)) s.restored
        ∙ ap (λ (x : Option Row). owner_next key (owner_of made key) None x) s.put

    pub commit_former : (at : ℕ) (of : TrxId) (key : ℕ) → first_former (record { at = at; mtr = m } ∷ made) of key ≡ first_former made of key
    commit_former at of key =
        ap (λ (x : Option Row). former_next of key (first_former made of key) (trx_of_mtr made m) x (row_put_by m) (row_kept_by m)) s.restored
        ∙ ap (λ (x : Option Row). former_next of key (first_former made of key) (trx_of_mtr made m) None x (row_kept_by m)) s.put
