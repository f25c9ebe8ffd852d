-- What a step of a primary did to its part: the classes of steps, over the part before it and after it.
use Rattle.std.specs.Prelude.{◌≡◌, ℕ, List, ◌∷◌, Some}
use Rattle.mp_cells.specs.declared.records.Mtr.{Mtr}
use Rattle.mp_core_pages.specs.declared.part.Placed.{Placed}
use Rattle.mp_core.specs.declared.part.CorePart.{CorePart}
use Rattle.mp_core_trx.specs.declared.part.Draw.{Draw}
use Rattle.mp_core.specs.OwnMtrs.{trx_of_mtr, TrxMtr}
use Rattle.mp_core.specs.CoreExtends.{IsMadeLater, CoreExtends}
use Rattle.mp_supports.specs.Supports.{Trace, no_trace}

-- It looked at words and pages, or took or gave a lock or a frame: transactions, mtrs and what is durable are as before
pub record OnlyLooked (old new : CorePart) : Type 0 where
  pub extends : CoreExtends old new
  pub begun : new.trx.begun ≡ old.trx.begun
  pub rows : new.trx.rows ≡ old.trx.rows
  pub drew : new.trx.drew ≡ old.trx.drew
  pub made : new.pages.made ≡ old.pages.made
  pub durables : new.pages.durables ≡ old.pages.durables

-- It made this mtr, after all that the part had made and was given
pub record MadeOne (x : Placed Mtr) (old new : CorePart) : Type 0 where
  pub extends : CoreExtends old new
  pub trx : new.trx ≡ old.trx
  pub made : new.pages.made ≡ x ∷ old.pages.made
  pub durables : new.pages.durables ≡ old.pages.durables
  pub later : IsMadeLater old x.at

-- It said that the node's log is durable up to this LLSN
pub record Forced (llsn : ℕ) (old new : CorePart) : Type 0 where
  pub extends : CoreExtends old new
  pub trx : new.trx ≡ old.trx
  pub made : new.pages.made ≡ old.pages.made
  pub locks : new.pages.locks ≡ old.pages.locks
  pub given : new.pages.given ≡ old.pages.given
  pub durables : new.pages.durables ≡ llsn ∷ old.pages.durables

-- It was a step of transactions: pages and mtrs are as before
pub record TrxStep (old new : CorePart) : Type 0 where
  pub extends : CoreExtends old new
  pub pages : new.pages ≡ old.pages

-- the mtr that was made, with the transaction that it is of
abbrev pub trx_mtr_of : CorePart → Placed Mtr → TrxMtr
trx_mtr_of old x = record { at = x.at; of = trx_of_mtr old.pages.made x.mtr; mtr = x.mtr }

-- a draw alone
abbrev pub drew_trace : Draw → Trace
drew_trace d = record no_trace { drew = Some d }
