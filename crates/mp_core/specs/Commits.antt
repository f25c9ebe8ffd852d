-- Commit records: when one stands in a node's log for good, and what the end of a transaction asks of it.
use Rattle.std.specs.Prelude.{◌≡◌, ℕ, ◌≤◌, List, [], ◌∷◌, Option, None, Some}
use Rattle.mp_machine.specs.Lists.{IsIn}
use Rattle.mp_model.specs.declared.ids.TrxId.{TrxId}
use Rattle.mp_cells.specs.declared.records.Record.{Record}
use Rattle.mp_cells.specs.declared.records.Record.TheVariants as records
use Rattle.mp_cells.specs.declared.records.Mtr.{Mtr}
use Rattle.mp_core_pages.specs.declared.part.Placed.{Placed}
use Rattle.mp_core_pages.specs.PageParts.{durable_llsn}
use Rattle.mp_core.specs.declared.part.CorePart.{CorePart}
use Rattle.mp_core.specs.OwnMtrs.{owner_of}

-- the records of an mtr that commits a transaction with a timestamp: its commit record alone
abbrev pub commit_records : TrxId → ℕ → List Record
commit_records id cts = records.Commit id cts ∷ []

-- The node's log has the transaction's commit record, and is durable up to it
pub record HasDurableRecord (base : ℕ) (made : List (Placed Mtr)) (durables : List ℕ) (id : TrxId) (cts : ℕ)
    : Type 0 where
  pub commit : Placed Mtr
  pub is_made : IsIn commit made
  pub records : commit.mtr.records ≡ commit_records id cts
  pub durable : commit.mtr.llsn ≤ durable_llsn base durables

-- what the end of a transaction asks of its node's log: its commit is durable, where it has one; where it has none,
-- nothing that it put is left
abbrev pub EndsInLog : CorePart → TrxId → Option ℕ → Type 0
EndsInLog p id (Some cts) = HasDurableRecord p.trx.opening.base.llsn p.pages.made p.pages.durables id cts
EndsInLog p id None = (key : ℕ) → owner_of p.pages.made key ≡ Some id → ⊥
