-- What a crash may leave of the nine disks of a run: the store as it was opened, and in each log the first mtrs of its node.
use Rattle.std.specs.Prelude.{◌≡◌, ℕ, ◌<◌, ◌≤◌, List, ◌++◌, None}
use Rattle.std.specs.List.{AllByRecursion}
use Rattle.mp_cells.specs.declared.records.Mtr.{Mtr}
use Rattle.mp_store.specs.StoreFiles.{header_in_force}
use Rattle.mp_store.specs.CleanStores.{stored_pages, IsCleanStore}
use Rattle.mp_log.specs.Readers.{log_mtrs}
use Rattle.mp_files.specs.Nine.{Image, log_of}
use Rattle.mp_core.specs.declared.opening.CoreOpening.{CoreOpening}
use Rattle.mp_core.specs.World.{CoreWorld}
use Rattle.mp_facts.specs.Facts.{opening_pages}
use Rattle.mp_recover.specs.Redoing.{mtrs_above}
use Rattle.mp_cuts.specs.ValidCuts.{mtrs_in_time, durable_in}

-- a log of its grammar: above the base its mtrs are the first ones that its node made, and those that it lacks aren't durable
pub record LeavesFirst (o : CoreOpening) (w : CoreWorld) (n : ℕ) (file : List ℕ) : Type 0 where
  pub sound : (log_mtrs n file).1 ≡ None
  pub later : List Mtr
  pub front : mtrs_in_time w n ≡ mtrs_above o.trx.base.llsn (log_mtrs n file).0 ++ later
  pub covers : AllByRecursion (λ mtr. durable_in o w n < mtr.llsn) later

-- a run was opened over this store file
pub record IsOpenedOver (opened : List ℕ) (o : CoreOpening) : Type 0 where
  pub clean : IsCleanStore opened
  pub pages : opening_pages o ≡ stored_pages opened
  pub base : o.trx.base.llsn ≡ (header_in_force opened).llsn

-- the store is the one that was opened, and each log leaves the first mtrs of its node, also where no primary runs on it
pub record IsLeftBehind (o : CoreOpening) (w : CoreWorld) (opened : List ℕ) (image : Image) : Type 0 where
  pub store : image.store ≡ opened
  pub logs : (n : ℕ) → 1 ≤ n → n ≤ 8 → LeavesFirst o w n (log_of n image)
