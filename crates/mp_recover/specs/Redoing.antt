-- What redoing mtrs makes of pages, and which record it can't redo.
use Rattle.std.specs.Prelude.{◌≡◌, ℕ, ◌<◌, ◌==◌, nat_lt, List, [], ◌∷◌, ◌++◌, filter, Option, Some, None, Result, Ok, Err, if◌then◌else◌}
use Rattle.std.specs.List.{flat_map}
use Rattle.mp_cells.specs.declared.changes.Change.{Change}
use Rattle.mp_cells.specs.declared.records.Record.{Record}
use Rattle.mp_cells.specs.declared.records.Record.TheVariants as records
use Rattle.mp_cells.specs.declared.records.Mtr.{Mtr}
use Rattle.mp_cells.specs.PageView.{PageView}
use Rattle.mp_cells.specs.Changes.{applied, HasCells}
use Rattle.mp_cells.specs.Trees.{PageMap}
use Rattle.mp_cells.specs.Plans.{with_page}
use Rattle.mp_recover.specs.declared.refusals.RecoverRefusal.{RecoverRefusal}
use Rattle.mp_recover.specs.declared.refusals.RecoverRefusal.TheVariants.{Log, LogDisk, Gap, NotApplicable, Memory}
use Rattle.mp_recover.specs.declared.commits.CommitId.{CommitId}
use Rattle.mp_recover.specs.declared.found.Found.{Found}
use Rattle.mp_recover.specs.Merging.{IsOffAt}

-- the refusal of a result
abbrev pub refusal_of : {T : Type 0} → Result T RecoverRefusal → Option RecoverRefusal
refusal_of (Ok x) = None
refusal_of (Err refusal) = Some refusal

-- only these two come of redoing
abbrev pub OnlyRedo : Option RecoverRefusal → Type 0
OnlyRedo None = Unit {0}
OnlyRedo (Some (Gap page wanted found)) = Unit {0}
OnlyRedo (Some (NotApplicable page llsn)) = Unit {0}
OnlyRedo (Some _) = ⊥

-- a page after a change, with an mtr's LLSN; or as it was, where the change can't be applied
abbrev pub changed_or_refused : ℕ → ℕ → PageView → Option PageView → PageView × Option RecoverRefusal
changed_or_refused number llsn page None = (page, Some (NotApplicable number llsn))
changed_or_refused number llsn page (Some new) = (record new { llsn = llsn }, None)

-- the page of a number after a record of an mtr with an LLSN: the record's `prev` is the page's LLSN, and its change can be
-- applied, or the page stays
abbrev pub page_redone : ℕ → ℕ → ℕ → Change → PageView → PageView × Option RecoverRefusal
page_redone number llsn prev change page =
    if page.llsn == prev then changed_or_refused number llsn page (applied change page) else (page, Some (Gap number prev page.llsn))

-- pages after a record
abbrev pub record_redone : ℕ → Record → PageMap → PageMap × Option RecoverRefusal
record_redone llsn (records.Page number prev change) pages =
    (with_page pages number (page_redone number llsn prev change (pages number)).0, (page_redone number llsn prev change (pages number)).1)
record_redone llsn (records.Commit id cts) pages = (pages, None)

-- what comes next, where nothing was refused
abbrev pub unless_refused : (PageMap → PageMap × Option RecoverRefusal) → PageMap × Option RecoverRefusal → PageMap
    × Option RecoverRefusal
unless_refused next (pages, None) = next pages
unless_refused next (pages, Some refusal) = (pages, Some refusal)

-- pages after the records of an mtr, up to the first that can't be redone
abbrev pub records_redone : ℕ → List Record → PageMap → PageMap × Option RecoverRefusal
records_redone llsn [] pages = (pages, None)
records_redone llsn (item ∷ items) pages = unless_refused (λ new. records_redone llsn items new) (record_redone llsn item pages)

-- pages after mtrs, up to the first record that can't be redone
abbrev pub mtrs_redone : List Mtr → PageMap → PageMap × Option RecoverRefusal
mtrs_redone [] pages = (pages, None)
mtrs_redone (mtr ∷ mtrs) pages = unless_refused (λ new. mtrs_redone mtrs new) (records_redone mtr.llsn mtr.records pages)

-- the mtrs above a base LLSN
abbrev pub mtrs_above : ℕ → List Mtr → List Mtr
mtrs_above base mtrs = filter (λ mtr. nat_lt base mtr.llsn) mtrs

-- pages after an mtr, where it is above the base
abbrev pub above_redone : ℕ → Mtr → PageMap → PageMap × Option RecoverRefusal
above_redone base mtr pages = if nat_lt base mtr.llsn then records_redone mtr.llsn mtr.records pages else (pages, None)

-- the commits with a record among some records, and in mtrs
abbrev pub commit_ids : List Record → List CommitId
commit_ids [] = []
commit_ids (records.Page number prev change ∷ items) = commit_ids items
commit_ids (records.Commit id cts ∷ items) = record { id = id; cts = cts } ∷ commit_ids items

abbrev pub ids_in : List Mtr → List CommitId
ids_in mtrs = flat_map (λ mtr. commit_ids mtr.records) mtrs

-- what redoing one mtr, where it is above the base, makes of pages and of noted commits
abbrev pub RedoesOne : ℕ → Mtr → PageMap → PageMap → List CommitId → List CommitId → Result (Unit {0}) RecoverRefusal
    → Type 0
RedoesOne base mtr old new ids ids_after (Ok x) = (above_redone base mtr old ≡ (new, None))
    × (ids_after ≡ ids ++ ids_in (mtrs_above base (mtr ∷ [])))
RedoesOne base mtr old new ids ids_after (Err (Gap page wanted found)) = above_redone base mtr old
    ≡ (new, Some (Gap page wanted found))
RedoesOne base mtr old new ids ids_after (Err (NotApplicable page llsn)) = above_redone base mtr old
    ≡ (new, Some (NotApplicable page llsn))
RedoesOne base mtr old new ids ids_after (Err Memory) = Unit {0}
RedoesOne base mtr old new ids ids_after (Err _) = ⊥

-- what redoing all mtrs of logs above a base makes of pages, and which commits it finds
abbrev pub RedoesAll : (ℕ → List ℕ) → ℕ → List Mtr → PageMap → PageMap → Result Found RecoverRefusal
    → Type 0
RedoesAll files base mtrs old new (Ok found) = (mtrs_redone (mtrs_above base mtrs) old ≡ (new, None))
    × (found.ids.items ≡ ids_in (mtrs_above base mtrs))
RedoesAll files base mtrs old new (Err (Gap page wanted found)) = mtrs_redone (mtrs_above base mtrs) old
    ≡ (new, Some (Gap page wanted found))
RedoesAll files base mtrs old new (Err (NotApplicable page llsn)) = mtrs_redone (mtrs_above base mtrs) old
    ≡ (new, Some (NotApplicable page llsn))
RedoesAll files base mtrs old new (Err (Log primary fault)) = IsOffAt files primary fault
RedoesAll files base mtrs old new (Err (LogDisk primary)) = Unit {0}
RedoesAll files base mtrs old new (Err Memory) = Unit {0}
RedoesAll files base mtrs old new (Err _) = ⊥

-- a record of one of the 4,096 pages, with cells that a page may keep; or a commit
abbrev pub RecordFits : Record → Type 0
RecordFits (records.Page number prev change) = (number < 4096) × HasCells change
RecordFits (records.Commit id cts) = Unit {0}
