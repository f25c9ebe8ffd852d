-- What a read of a key should show, by what all nodes made and which commits are durable.
use Rattle.std.specs.Prelude.{◌≡◌, ℕ, ◌<◌, ◌≤◌, ◌⊎◌, length, Some}
use Rattle.mp_machine.specs.Lists.{IsIn}
use Rattle.mp_model.specs.declared.ids.TrxId.{TrxId}
use Rattle.mp_cells.specs.declared.rows.Row.{Row}
use Rattle.mp_histories.specs.Chains.{row_of_key}
use Rattle.mp_core.specs.declared.opening.CoreOpening.{CoreOpening}
use Rattle.mp_core.specs.World.{CoreWorld}
use Rattle.mp_core.specs.OwnMtrs.{row_put_by, TrxMtr}
use Rattle.mp_facts.specs.Facts.{opening_pages, made_in, IsForced}

-- an mtr of the transaction put this row of the key, below a height in the history
pub record PutBelow (w : CoreWorld) (id : TrxId) (key height : ℕ) (m : TrxMtr) (row : Row) : Type 0 where
  pub was_made : IsIn m (made_in w id.node)
  pub of : m.of ≡ Some id
  pub put : row_put_by m.mtr ≡ Some row
  pub its_key : row.key ≡ key
  pub below : m.at < height

-- of the transaction's puts of the key below a height the last put this row
pub record LastPutBelow (w : CoreWorld) (id : TrxId) (key height : ℕ) (row : Row) : Type 0 where
  pub mtr : TrxMtr
  pub is_put : PutBelow w id key height mtr row
  pub last : (m : TrxMtr) (other : Row) → PutBelow w id key height m other → m.at ≤ mtr.at

-- the transaction put nothing at the key below a height
abbrev pub PutsNothingBelow : CoreWorld → TrxId → ℕ → ℕ → Type 0
PutsNothingBelow w id key height = (m : TrxMtr) (row : Row) → PutBelow w id key height m row → ⊥

-- the same in the whole history
abbrev pub PutOf : CoreWorld → TrxId → ℕ → TrxMtr → Row → Type 0
PutOf w id key m row = PutBelow w id key (length w.pages.history) m row

abbrev pub LastPutOf : CoreWorld → TrxId → ℕ → Row → Type 0
LastPutOf w id key row = LastPutBelow w id key (length w.pages.history) row

-- of the durable commits at or below a view that put the key, the latest put this row last
pub record IsLatestCommit (o : CoreOpening) (w : CoreWorld) (view key : ℕ) (row : Row) : Type 0 where
  pub id : TrxId
  pub cts : ℕ
  pub forced : IsForced o w id cts
  pub in_view : cts ≤ view
  pub its : LastPutOf w id key row
  pub latest : (other : TrxId) (c : ℕ) (m : TrxMtr) (r : Row) → IsForced o w other c → c ≤ view → PutOf w other key m r → c ≤ cts

-- no durable commit at or below a view put the key
abbrev pub NoCommitPut : CoreOpening → CoreWorld → ℕ → ℕ → Type 0
NoCommitPut o w view key = (id : TrxId) (cts : ℕ) (m : TrxMtr) (row : Row) → IsForced o w id cts → cts ≤ view → PutOf w id key m row → ⊥

-- what the commits at or below a view left of the key: the row that the latest put, or the opening's
abbrev pub CommitsShow : CoreOpening → CoreWorld → ℕ → ℕ → Row → Type 0
CommitsShow o w view key found = IsLatestCommit o w view key found ⊎ (NoCommitPut o w view key × (found ≡ row_of_key (opening_pages o) key))

-- what a reader with a view sees of the key at a height: its own last put below it, where it has one; else what the commits
-- show
abbrev pub ShowsReader : CoreOpening → CoreWorld → TrxId → ℕ → ℕ → ℕ → Row → Type 0
ShowsReader o w reader height view key found = LastPutBelow w reader key height found ⊎ (PutsNothingBelow w reader key height × CommitsShow o w view key found)
