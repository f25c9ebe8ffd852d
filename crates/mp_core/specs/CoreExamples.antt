-- Small lists of steps over the first two pages of a fresh store, which say what the joint conditions allow and what
-- they forbid.
use Rattle.std.specs.Prelude.{ℕ, List, [], ◌∷◌, ◌++◌, map, Some}
use Rattle.mp_machine.specs.Machine.{run_from}
use Rattle.mp_cells.specs.declared.changes.Change.{Change}
use Rattle.mp_cells.specs.declared.records.Record.TheVariants as records
use Rattle.mp_cells.specs.SmallMaps.{fresh_map}
use Rattle.mp_core_trx.specs.declared.event.TrxEvent.TheVariants.{LoadTso, StoreActive, StorePrep, DrawTso, StoreEnd}
use Rattle.mp_core_trx.specs.Examples.{two_primaries, first_trx}
use Rattle.mp_core_pages.specs.declared.event.PagesEvent.TheVariants.{LockWord, TakeFrame, GiveFrame, StoreLlsn, StoreDurable}
use Rattle.mp_core.specs.declared.opening.CoreOpening.{CoreOpening}
use Rattle.mp_core.specs.declared.event.CoreEvent.{CoreEvent}
use Rattle.mp_core.specs.declared.event.CoreEvent.TheVariants.{Trx, Pages, Down}
use Rattle.mp_core.specs.declared.event.DownEvent.TheVariants.{StoreDown, LoadDown}
use Rattle.mp_core.specs.Commits.{commit_records}
use Rattle.mp_core.specs.World.{core_start, core_part, core_node_of, CoreAllowed, core}

abbrev pub small_store : CoreOpening
small_store = record { trx = two_primaries; pages = fresh_map 0 ∷ fresh_map 1 ∷ [] }

-- the step does not break its condition after these steps
abbrev pub MayComeAfter : List CoreEvent → CoreEvent → Type 0
MayComeAfter events e = CoreAllowed
    (core_part (run_from (core small_store) (core_start small_store) events) (core_node_of e)) e

-- the first transaction begins and prepares, and draws 1
abbrev pub prepares_first : List CoreEvent
prepares_first = map Trx (LoadTso 1 ∷ StoreActive 1 first_trx ∷ StorePrep 1 first_trx ∷ [])

abbrev pub draws_one : List CoreEvent
draws_one = prepares_first ++ Trx (DrawTso 1 first_trx) ∷ []

-- its node makes an mtr of its commit record, and says that it is durable
abbrev pub records_commit : ℕ → CoreEvent
records_commit llsn = Pages (StoreLlsn 1 record { node = 1; llsn = llsn; records = commit_records first_trx 1 })

abbrev pub recorded_one : List CoreEvent
recorded_one = draws_one ++ records_commit 1 ∷ []

abbrev pub forced_one : List CoreEvent
forced_one = recorded_one ++ Pages (StoreDurable 1 1) ∷ []

-- and so it is committed at 1
abbrev pub ends_at_one : CoreEvent
ends_at_one = Trx (StoreEnd 1 first_trx (Some 1))

-- a node comes to write page 0, and is given it; then it makes an mtr of one change of it
abbrev pub writes_meta : List CoreEvent
writes_meta = Pages (LockWord 1 0 0 256) ∷ Pages (TakeFrame 1 0) ∷ Pages (GiveFrame 1 0 (fresh_map 0)) ∷ []

abbrev pub changes_meta : Change → CoreEvent
changes_meta change = Pages (StoreLlsn 1 record { node = 1; llsn = 1; records = records.Page 0 0 change ∷ [] })

-- a primary goes down with this number
abbrev pub goes_down_with : ℕ → ℕ → CoreEvent
goes_down_with p by = Down (StoreDown p by)

-- the second primary goes down by itself, and then the first loads its word
abbrev pub loads_down_second : List CoreEvent
loads_down_second = goes_down_with 2 2 ∷ Down (LoadDown 1 2) ∷ []
