-- Cuts of what the nodes of a run made: of each node the first mtrs, those that are durable among them.
use Rattle.std.specs.Prelude.{ℕ, ◌<◌, List, map, reverse, take, drop}
use Rattle.std.specs.List.{flat_map, AllByRecursion}
use Rattle.mp_cells.specs.declared.records.Mtr.{Mtr}
use Rattle.mp_core_pages.specs.PageParts.{durable_llsn}
use Rattle.mp_core.specs.declared.opening.CoreOpening.{CoreOpening}
use Rattle.mp_core.specs.World.{CoreWorld}
use Rattle.mp_recover.specs.PageRecords.{by_log_place}
use Rattle.mp_recover.specs.Images.{all_primaries}

-- what a node made, in the order of making
abbrev pub mtrs_in_time : CoreWorld → ℕ → List Mtr
mtrs_in_time w n = map (λ x. x.mtr) (reverse (w.pages.made n))

-- the LLSN up to which a node's log is durable
abbrev pub durable_in : CoreOpening → CoreWorld → ℕ → ℕ
durable_in o w n = durable_llsn o.trx.base.llsn (w.pages.durables n)

-- of each node so many mtrs, its first ones; what it made after them isn't durable
abbrev pub IsValidCut : CoreOpening → CoreWorld → (ℕ → ℕ) → Type 0
IsValidCut o w count = (n : ℕ) → AllByRecursion (λ mtr. durable_in o w n < mtr.llsn) (drop (count n) (mtrs_in_time w n))

-- the mtrs of a cut, in the order of recovery
abbrev pub mtrs_of_cut : CoreWorld → (ℕ → ℕ) → List Mtr
mtrs_of_cut w count = by_log_place (flat_map (λ n. take (count n) (mtrs_in_time w n)) all_primaries)
