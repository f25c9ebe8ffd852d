-- In what order transactions put rows of one key.
use Rattle.std.specs.Prelude.{◌≡◌, ℕ, ◌<◌, ◌≤◌, ◌⊎◌, Some, None}
use Rattle.mp_machine.specs.Lists.{IsIn}
use Rattle.mp_model.specs.declared.ids.TrxId.{TrxId}
use Rattle.mp_cells.specs.declared.rows.Row.{Row}
use Rattle.mp_core.specs.declared.opening.CoreOpening.{CoreOpening}
use Rattle.mp_core.specs.World.{CoreWorld, core_part}
use Rattle.mp_core.specs.OwnMtrs.{row_put_by, row_kept_by, row_restored_by, TrxMtr}
use Rattle.mp_facts.specs.Facts.{made_in, IsForced}
use Rattle.mp_supports.specs.Seeing.{IsSettledFor}

-- the transaction put each of its rows over one of its own or over one that was committed at or below its view
abbrev pub PutsOverSettled : CoreWorld → TrxId → ℕ → Type 0
PutsOverSettled w id view = (m : TrxMtr) (row : Row) → IsIn m (made_in w id.node) → m.of ≡ Some id → row_put_by m.mtr ≡ Some row
    → (former : Row) × (row_kept_by m.mtr ≡ Some former) × ((former.writer ≡ Some id) ⊎ IsSettledFor (core_part w id.node) view former)

-- below a height nothing of the transaction was put back
abbrev pub IsWholeBelow : CoreWorld → TrxId → ℕ → Type 0
IsWholeBelow w id height = (m : TrxMtr) → IsIn m (made_in w id.node) → m.of ≡ Some id → m.at < height → row_restored_by m.mtr ≡ None

-- the transaction's commit is durable, at or below a view, and was recorded below a height of the history
pub record CommittedBefore (o : CoreOpening) (w : CoreWorld) (id : TrxId) (view height : ℕ) : Type 0 where
  pub cts : ℕ
  pub forced : IsForced o w id cts
  pub in_view : cts ≤ view
  pub early : forced.recorded.made.at < height
