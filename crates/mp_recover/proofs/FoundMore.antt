-- What was found, and one mtr more.
use Rattle.std.proofs.Common.{◌≡◌, ℕ, ◌+◌, ◌<◌, ◌^◌, nat_lt, Bool, true, false, cond, List, [], ◌∷◌, ◌++◌, Option, Some, None, Result, Ok, Err, OnOk, IsTrue, refl, sym, ap, subst, ◌∙◌, inl, inr, arith}
use Rattle.std.specs.List.{AllByRecursion}
use Rattle.std.proofs.lemmas.Bool.{cases_Bool, and_parts, ltb-true}
use Rattle.std.specs.Prelude.{drop, get_or, length}
use Rattle.std.proofs.lemmas.List.{append-nil, at_drop_more}
use Rattle.mp_model.specs.declared.ids.TrxId.{TrxId}
use Rattle.mp_cells.specs.declared.changes.Change.{Change}
use Rattle.mp_cells.specs.declared.changes.Change.TheVariants.{MakeLeaf, MakeInner, MakeUndo, PutRow, RestoreRow, Cut, PutChild, PutUndo, TakePage}
use Rattle.mp_cells.specs.declared.records.Record.{Record}
use Rattle.mp_cells.specs.declared.records.Record.TheVariants as records
use Rattle.mp_cells.specs.declared.records.Mtr.{Mtr}
use Rattle.mp_cells.specs.declared.rows.Link.{Link}
use Rattle.mp_cells.specs.declared.rows.Row.{Row}
use Rattle.mp_cells.specs.Mtrs.{IsMtr, IsChange, IsPageRecord, AreRecords}
use Rattle.mp_cells.specs.Rows.{IsRow, is_origin, is_writer, is_link}
use Rattle.mp_cells.proofs.KeyEdits.{All-append}
use Rattle.mp_recover.specs.declared.commits.CommitId.{CommitId}
use Rattle.mp_recover.specs.declared.found.Found.{Found}
use Rattle.mp_recover.specs.Finding.{larger_of, greatest_of, writer_version, row_versions, change_versions, record_versions, records_versions, versions_in, llsns_in, FoundFits, NotesMtr}
use Rattle.mp_recover.specs.Redoing.{mtrs_above, commit_ids}

pub greatest_joined : (most : ℕ) (xs ys : List ℕ) → greatest_of most (xs ++ ys) ≡ greatest_of (greatest_of most xs) ys
greatest_joined most [] ys = refl
greatest_joined most (x ∷ xs) ys = greatest_joined (larger_of most x) xs ys

-- one record more
pub versions_next : (most newest newer : ℕ) (items : List Record) (i : ℕ) (item : Record) → i < length items → item ≡ get_or items i item → newer ≡ greatest_of newest (record_versions item)
    → greatest_of newest (records_versions (drop i items)) ≡ greatest_of most (records_versions items) → greatest_of newer (records_versions (drop (i + 1) items)) ≡ greatest_of most (records_versions items)
versions_next most newest newer items i item lt is step so_far =
    ap (λ (n : ℕ). greatest_of n (records_versions (drop (i + 1) items))) step ∙ sym (greatest_joined newest (record_versions item) (records_versions (drop (i + 1) items)))
    ∙ ap (λ (x : Record). greatest_of newest (record_versions x ++ records_versions (drop (i + 1) items))) is
    ∙ sym (at_drop_more (λ (xs : List Record). greatest_of newest (records_versions xs)) items i item lt) ∙ so_far

pub ok_so : {T E : Type 0} (r : Result T E) (P Q : Type 0) → (P → Q) → OnOk r P → OnOk r Q
ok_so (Ok x) P Q f h = f h
ok_so (Err e) P Q f h = h

-- ---- bounds

larger_below : (bound a b : ℕ) → a < bound → b < bound → larger_of a b < bound
larger_below bound a b l r = elim (cases_Bool (nat_lt a b)) [ inl lt ↦ rw lt r | inr ge ↦ rw ge l ]

pub greatest_below : (bound most : ℕ) (ns : List ℕ) → most < bound → AllByRecursion (λ n. n < bound) ns → greatest_of most ns < bound
greatest_below bound most [] small all = small
greatest_below bound most (n ∷ ns) small all = greatest_below bound (larger_of most n) ns (larger_below bound most n small all.0) all.1

version_small : (id : TrxId) → IsTrue (is_writer id) → id.version < 2 ^ 24
version_small id h = ltb-true id.version (2 ^ 24) (and_parts _ _ h).1

writer_small : (writer : Option TrxId) (link : Option Link) → IsTrue (is_origin writer link) → writer_version writer < 2 ^ 24
writer_small None link h = omega arith
writer_small (Some id) (Some link) h = version_small id (and_parts (is_writer id) (is_link link) h).0
writer_small (Some id) None h = absurd cc

rows_small : (rows : List Row) → AllByRecursion IsRow rows → AllByRecursion (λ n. n < 2 ^ 24) (row_versions rows)
rows_small [] all = tt
rows_small (row ∷ rows) all = (writer_small row.writer row.link all.0.origin, rows_small rows all.1)

change_small : (change : Change) → IsChange change → AllByRecursion (λ n. n < 2 ^ 24) (change_versions change)
change_small (MakeLeaf low high rows) is = rows_small rows is.1
change_small (MakeInner low high children) is = tt
change_small MakeUndo is = tt
change_small (PutRow row) is = rows_small (row ∷ []) (is, tt)
change_small (RestoreRow row) is = rows_small (row ∷ []) (is, tt)
change_small (Cut from) is = tt
change_small (PutChild child) is = tt
change_small (PutUndo row) is = rows_small (row ∷ []) (is, tt)
change_small (TakePage number) is = tt

-- what is known of the records of an mtr
pub record SmallRecords (items : List Record) : Type 0 where
  pub versions : AllByRecursion (λ n. n < 2 ^ 24) (records_versions items)
  pub timestamps : AllByRecursion (λ (c : CommitId). c.cts < 2 ^ 38) (commit_ids items)

pages_small : (llsn : ℕ) (items : List Record) → AllByRecursion (IsPageRecord llsn) items → SmallRecords items
pages_small llsn [] all = record { versions = tt; timestamps = tt }
pages_small llsn (records.Page number prev change ∷ items) all =
    let rest = pages_small llsn items all.1 in
    record {
      versions = All-append (λ n. n < 2 ^ 24) (change_versions change) (records_versions items) (change_small change all.0.2) rest.versions;
      timestamps = rest.timestamps;
    }
pages_small llsn (records.Commit id cts ∷ items) all = absurd all.0

pub records_small : (llsn : ℕ) (items : List Record) → AreRecords llsn items → SmallRecords items
records_small llsn [] are = record { versions = tt; timestamps = tt }
records_small llsn (records.Page number prev change ∷ items) are = pages_small llsn (records.Page number prev change ∷ items) are.2
records_small llsn (records.Commit id cts ∷ []) are = record { versions = (version_small id are.0, tt); timestamps = (are.2, tt) }
records_small llsn (records.Commit id cts ∷ item ∷ items) are = pages_small llsn (records.Commit id cts ∷ item ∷ items) are.2

pub noted_fits : (mtr : Mtr) (old new : Found) → IsMtr mtr → FoundFits old → NotesMtr mtr.llsn mtr.records old new → new.ids.items ≡ old.ids.items ++ commit_ids mtr.records → FoundFits new
noted_fits mtr old new is fits notes ids =
    let small = records_small mtr.llsn mtr.records is.records in
    record {
      llsn = subst (λ (n : ℕ). n < 2 ^ 62) (sym notes.llsn_is) (larger_below (2 ^ 62) old.llsn mtr.llsn fits.llsn is.llsn);
      version = subst (λ (n : ℕ). n < 2 ^ 24) (sym notes.version_is) (greatest_below (2 ^ 24) old.version (records_versions mtr.records) fits.version small.versions);
      timestamps = subst (AllByRecursion (λ (c : CommitId). c.cts < 2 ^ 38)) (sym ids) (All-append (λ (c : CommitId). c.cts < 2 ^ 38) old.ids.items (commit_ids mtr.records) fits.timestamps small.timestamps);
    }

-- ---- the first mtr, and then the others

pub first_llsns : (base most : ℕ) (mtr : Mtr) (mtrs : List Mtr) → greatest_of most (llsns_in (mtrs_above base (mtr ∷ mtrs))) ≡ greatest_of (greatest_of most (llsns_in (mtrs_above base (mtr ∷ [])))) (llsns_in (mtrs_above base mtrs))
first_llsns base most mtr mtrs = by_test (nat_lt base mtr.llsn)
  where
    by_test : (b : Bool) → greatest_of most (llsns_in (cond b (mtr ∷ mtrs_above base mtrs) (mtrs_above base mtrs))) ≡ greatest_of (greatest_of most (llsns_in (cond b (mtr ∷ []) []))) (llsns_in (mtrs_above base mtrs))
    by_test true = refl
    by_test false = refl

pub first_versions : (base most : ℕ) (mtr : Mtr) (mtrs : List Mtr) → greatest_of most (versions_in (mtrs_above base (mtr ∷ mtrs))) ≡ greatest_of (greatest_of most (versions_in (mtrs_above base (mtr ∷ [])))) (versions_in (mtrs_above base mtrs))
first_versions base most mtr mtrs = by_test (nat_lt base mtr.llsn)
  where
    by_test : (b : Bool) → greatest_of most (versions_in (cond b (mtr ∷ mtrs_above base mtrs) (mtrs_above base mtrs))) ≡ greatest_of (greatest_of most (versions_in (cond b (mtr ∷ []) []))) (versions_in (mtrs_above base mtrs))
    by_test true =
        greatest_joined most (records_versions mtr.records) (versions_in (mtrs_above base mtrs))
        ∙ ap (λ (xs : List ℕ). greatest_of (greatest_of most xs) (versions_in (mtrs_above base mtrs))) (sym (append-nil (records_versions mtr.records)))
    by_test false = refl

-- what the mtrs that are left tell, after one more
pub tells_after : (base llsn version : ℕ) (mtr : Mtr) (rest : List Mtr) (old new : Found) (all : List Mtr)
    → (new.llsn ≡ greatest_of old.llsn (llsns_in (mtrs_above base (mtr ∷ [])))) × (new.version ≡ greatest_of old.version (versions_in (mtrs_above base (mtr ∷ []))))
    → (greatest_of old.llsn (llsns_in (mtrs_above base (mtr ∷ rest))) ≡ greatest_of llsn (llsns_in (mtrs_above base all)))
    × (greatest_of old.version (versions_in (mtrs_above base (mtr ∷ rest))) ≡ greatest_of version (versions_in (mtrs_above base all)))
    → (greatest_of new.llsn (llsns_in (mtrs_above base rest)) ≡ greatest_of llsn (llsns_in (mtrs_above base all)))
    × (greatest_of new.version (versions_in (mtrs_above base rest)) ≡ greatest_of version (versions_in (mtrs_above base all)))
tells_after base llsn version mtr rest old new all noted before = (
  ap (λ (n : ℕ). greatest_of n (llsns_in (mtrs_above base rest))) noted.0 ∙ sym (first_llsns base old.llsn mtr rest) ∙ before.0,
  ap (λ (n : ℕ). greatest_of n (versions_in (mtrs_above base rest))) noted.1 ∙ sym (first_versions base old.version mtr rest) ∙ before.1,
)
