-- What mtrs tell of a header to come: the greatest LLSN, the greatest version of a writer, and the newest timestamp.
use Rattle.std.specs.Prelude.{◌≡◌, ℕ, ◌<◌, ◌^◌, nat_lt, if◌then◌else◌, List, [], ◌∷◌, map, Option, Some, None}
use Rattle.std.specs.List.{flat_map, AllByRecursion}
use Rattle.mp_model.specs.declared.ids.TrxId.{TrxId}
use Rattle.mp_cells.specs.declared.changes.Change.{Change}
use Rattle.mp_cells.specs.declared.changes.Change.TheVariants.{MakeLeaf, PutRow, RestoreRow, PutUndo}
use Rattle.mp_cells.specs.declared.records.Record.{Record}
use Rattle.mp_cells.specs.declared.records.Record.TheVariants as records
use Rattle.mp_cells.specs.declared.records.Mtr.{Mtr}
use Rattle.mp_cells.specs.declared.rows.Row.{Row}
use Rattle.mp_recover.specs.declared.commits.CommitId.{CommitId}
use Rattle.mp_recover.specs.declared.found.Found.{Found}

-- the greatest of a number and of others
abbrev pub larger_of : ℕ → ℕ → ℕ
larger_of a b = if nat_lt a b then b else a

abbrev pub greatest_of : ℕ → List ℕ → ℕ
greatest_of most [] = most
greatest_of most (n ∷ ns) = greatest_of (larger_of most n) ns

-- the versions of the writers of rows; 0 for a row without one
abbrev pub writer_version : Option TrxId → ℕ
writer_version None = 0
writer_version (Some id) = id.version

abbrev pub row_versions : List Row → List ℕ
row_versions rows = map (λ row. writer_version row.writer) rows

-- those of the rows of a change, and of a record; of a commit record, that of its transaction
abbrev pub change_versions : Change → List ℕ
change_versions (MakeLeaf low high rows) = row_versions rows
change_versions (PutRow row) = row_versions (row ∷ [])
change_versions (RestoreRow row) = row_versions (row ∷ [])
change_versions (PutUndo row) = row_versions (row ∷ [])
change_versions _ = []

abbrev pub record_versions : Record → List ℕ
record_versions (records.Page number prev change) = change_versions change
record_versions (records.Commit id cts) = id.version ∷ []

abbrev pub records_versions : List Record → List ℕ
records_versions items = flat_map record_versions items

-- those of mtrs, and their LLSNs
abbrev pub versions_in : List Mtr → List ℕ
versions_in mtrs = flat_map (λ mtr. records_versions mtr.records) mtrs

abbrev pub llsns_in : List Mtr → List ℕ
llsns_in mtrs = map (λ mtr. mtr.llsn) mtrs

-- numbers that a header may have
pub record FoundFits (found : Found) : Type 0 where
  pub llsn : found.llsn < 2 ^ 62
  pub version : found.version < 2 ^ 24
  pub timestamps : AllByRecursion (λ commit. commit.cts < 2 ^ 38) found.ids.items

-- an mtr was noted
pub record NotesMtr (llsn : ℕ) (records_noted : List Record) (old new : Found) : Type 0 where
  pub llsn_is : new.llsn ≡ larger_of old.llsn llsn
  pub version_is : new.version ≡ greatest_of old.version (records_versions records_noted)

-- what mtrs above a base tell
pub record FoundIn (llsn version : ℕ) (mtrs : List Mtr) (found : Found) : Type 0 where
  pub llsn_is : found.llsn ≡ greatest_of llsn (llsns_in mtrs)
  pub version_is : found.version ≡ greatest_of version (versions_in mtrs)

-- the newest timestamp of commits, or the old one where there is none
abbrev pub newest_base : ℕ → List CommitId → ℕ
newest_base old [] = old
newest_base old (commit ∷ ids) = greatest_of 0 (map (λ c. c.cts) (commit ∷ ids))
