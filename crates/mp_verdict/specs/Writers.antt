-- How the transactions of an execution stand to those of a world: each ok write of one is a put of the other.
use Rattle.std.specs.Prelude.{◌≡◌, ℕ, suc, ◌+◌, ◌<◌, ◌≤◌, List, Option, Some, None, length}
use Rattle.mp_model.specs.Folded.{value_at}
use Rattle.mp_model.specs.declared.ids.TrxId.{TrxId}
use Rattle.mp_model.specs.declared.ids.TrxName.{TrxName}
use Rattle.mp_model.specs.declared.replies.Answer.{Answer}
use Rattle.mp_script.specs.declared.statements.Stmt.{Stmt}
use Rattle.mp_script.specs.declared.statements.Stmt.TheVariants.{Put, Del, Copy}
use Rattle.mp_script.specs.Execution.{Execution, stmt_at}
use Rattle.mp_script.specs.Transactions.{trx_of, view_of, statements_before}
use Rattle.mp_script.specs.Seen.{acknowledgement}
use Rattle.mp_script.specs.LastValues.{CommitsAboveViews}
use Rattle.mp_script.specs.Answers.{WroteKey}
use Rattle.mp_cells.specs.declared.rows.Row.{Row}
use Rattle.mp_histories.specs.Chains.{row_of_key}
use Rattle.mp_core.specs.declared.opening.CoreOpening.{CoreOpening}
use Rattle.mp_core.specs.World.{CoreWorld}
use Rattle.mp_core.specs.OwnMtrs.{TrxMtr}
use Rattle.mp_facts.specs.Facts.{opening_pages, IsForced}
use Rattle.mp_verdict.specs.Reads.{PutBelow, PutOf, ShowsReader}

-- a height of the history lies between the mtrs of a transaction's writes before a statement and those from it on
abbrev pub LiesBetween : Execution → TrxName → (ℕ → TrxMtr) → ℕ → ℕ → ℕ → Type 0
LiesBetween run trx mtrs count place height = (i key : ℕ) → i < count → WroteKey run trx i key → (i < place → (mtrs i).at < height) × (place ≤ i → height ≤ (mtrs i).at)

-- a copy's value is what its transaction is shown at the source, at a height between its writes
pub record IsCopied (o : CoreOpening) (w : CoreWorld) (run : Execution) (trx : TrxName) (id : TrxId) (mtrs : ℕ → TrxMtr) (count limit place source : ℕ) (value : Option (List ℕ)) : Type 0 where
  pub height : ℕ
  pub found : Row
  pub within : height ≤ limit
  pub between : LiesBetween run trx mtrs count place height
  pub shows : ShowsReader o w id height (view_of run trx) source found
  pub value_is : value ≡ found.value

-- the value that a write's put has, by its statement
abbrev pub IsValueOf : CoreOpening → CoreWorld → Execution → TrxName → TrxId → (ℕ → TrxMtr) → ℕ → ℕ → ℕ → Option Stmt → Option (List ℕ) → Type 0
IsValueOf o w run trx id mtrs count limit place (Some (Put key set)) value = value ≡ Some set
IsValueOf o w run trx id mtrs count limit place (Some (Del key)) value = value ≡ None
IsValueOf o w run trx id mtrs count limit place (Some (Copy source key)) value = IsCopied o w run trx id mtrs count limit place source value
IsValueOf o w run trx id mtrs count limit place _ value = ⊥

-- The ok writes among so many first statements of a transaction are the puts of an id below a limit of the history, in their
-- order, with their keys and values
pub record IsWriter (o : CoreOpening) (w : CoreWorld) (run : Execution) (trx : TrxName) (id : TrxId) (count limit : ℕ) : Type 0 where
  pub mtrs : ℕ → TrxMtr
  pub rows : ℕ → Row
  pub put : (i key : ℕ) → i < count → WroteKey run trx i key → PutOf w id key (mtrs i) (rows i)
  pub rising : (i j key other : ℕ) → i < j → j < count → WroteKey run trx i key → WroteKey run trx j other → (mtrs i).at < (mtrs j).at
  pub all : (key : ℕ) (m : TrxMtr) (row : Row) → PutBelow w id key limit m row → (i : ℕ) × (i < count) × WroteKey run trx i key × ((mtrs i).at ≡ m.at) × (rows i ≡ row)
  pub value : (i key : ℕ) → i < count → WroteKey run trx i key → IsValueOf o w run trx id mtrs count limit i (stmt_at run trx.session (trx.first + suc i)) (rows i).value

-- a durable commit is acknowledged, and its transaction's writes are its puts
pub record IsAcknowledged (o : CoreOpening) (w : CoreWorld) (run : Execution) (id : TrxId) (cts : ℕ) : Type 0 where
  pub above_base : run.opening.base < cts
  pub answer : Answer
  pub found : acknowledgement run.answers cts ≡ Some answer
  pub writer : IsWriter o w run (trx_of run answer) id (statements_before (trx_of run answer) answer.index) (length w.pages.history)

-- THE EXECUTION TELLS OF THE WORLD: it begins with the rows of the opening pages, its acknowledged commits are the durable
-- ones, and each is above its view
pub record TellsOfWorld (o : CoreOpening) (w : CoreWorld) (run : Execution) : Type 0 where
  pub rows : (key : ℕ) → value_at key run.opening.rows.items ≡ (row_of_key (opening_pages o) key).value
  pub forced : (id : TrxId) (cts : ℕ) → IsForced o w id cts → IsAcknowledged o w run id cts
  pub acknowledged : (cts : ℕ) (answer : Answer) → acknowledgement run.answers cts ≡ Some answer → (id : TrxId) × IsForced o w id cts
  pub views : CommitsAboveViews run
