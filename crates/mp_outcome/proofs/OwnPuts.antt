-- What a transaction's statements set last is what the puts of its id left.
use Rattle.std.proofs.Common.{◌≡◌, ℕ, ◌+◌, ◌≤◌, List, Option, Some, None, refl, sym, ap, ◌∙◌, inl, arith}
use Rattle.mp_model.specs.declared.ids.TrxId.{TrxId}
use Rattle.mp_model.specs.declared.ids.TrxName.{TrxName}
use Rattle.mp_model.specs.Folded.{value_at}
use Rattle.mp_script.specs.Execution.{Execution}
use Rattle.mp_script.specs.Transactions.{view_of}
use Rattle.mp_script.specs.Seen.{rows_of_view}
use Rattle.mp_script.specs.LastValues.{last_value, value_over, first_writes}
use Rattle.mp_script.proofs.LastValues.{value_at-over}
use Rattle.mp_cells.specs.declared.rows.Row.{Row}
use Rattle.mp_core.specs.declared.opening.CoreOpening.{CoreOpening}
use Rattle.mp_core.specs.World.{CoreWorld}
use Rattle.mp_core.specs.OwnMtrs.{TrxMtr}
use Rattle.mp_facts.specs.Facts.{Facts}
use Rattle.mp_verdict.specs.Reads.{PutBelow, LastPutBelow, PutOf, LastPutOf}
use Rattle.mp_verdict.specs.Writers.{LiesBetween, IsWriter, TellsOfWorld}
use Rattle.mp_verdict.proofs.SeenValues.{seen_values}
use Rattle.mp_outcome.proofs.SetKeys.{Sets, some_sets, sets_some}

module _ (o : CoreOpening) (w : CoreWorld) (facts : Facts o w) (run : Execution) (tells : TellsOfWorld o w run) (trx : TrxName) (id : TrxId) (count limit : ℕ) (writer : IsWriter o w run trx id count limit)
    (low : run.opening.base ≤ view_of run trx) (high : view_of run trx ≤ run.opening.base + run.commits) (below : (key : ℕ) (m : TrxMtr) (row : Row) → PutOf w id key m row → PutBelow w id key limit m row) (key : ℕ) where
  raised : (m : TrxMtr) (row : Row) → PutBelow w id key limit m row → PutOf w id key m row
  raised m row p = record { was_made = p.was_made; of = p.of; put = p.put; its_key = p.its_key; below = (facts.of_history.placed id.node m p.was_made).0 }

  last_below : (row : Row) → LastPutOf w id key row → LastPutBelow w id key limit row
  last_below row last = record { mtr = last.mtr; is_put = below key last.mtr row last.is_put; last = λ m other p. last.last m other (raised m other p) }

  all_before : LiesBetween run trx writer.mtrs count count limit
  all_before = λ i k lt wrote. (λ before. (below k (writer.mtrs i) (writer.rows i) (writer.put i k lt wrote)).below, λ le. absurd (omega (arith, lt, le)))

  -- the key's last put set it
  pub last_set : (row : Row) → LastPutOf w id key row → last_value key (first_writes run trx count) ≡ Some row.value
  last_set row last =
      let i = writer.all key last.mtr row (below key last.mtr row last.is_put) in
      let set : Sets key (first_writes run trx count) = some_sets run trx key count i.0 i.1 i.2 in
      let seen = seen_values o w facts run tells trx id count limit writer low high count limit key row (omega arith) (omega arith) all_before (inl (last_below row last)) in
      let value : set.0 ≡ row.value =
      sym (ap (λ (x : Option (Option (List ℕ))). value_over x (value_at key (rows_of_view run trx))) set.1) ∙ sym (value_at-over key (rows_of_view run trx) (first_writes run trx count)) ∙ seen in
      set.1 ∙ ap (λ (v : Option (List ℕ)). Some v) value

  -- where it was put nowhere, nothing set it
  pub none_set : ((m : TrxMtr) (row : Row) → PutOf w id key m row → ⊥) → last_value key (first_writes run trx count) ≡ None
  none_set nothing = by_value (last_value key (first_writes run trx count)) refl
    where
      by_value : (x : Option (Option (List ℕ))) → last_value key (first_writes run trx count) ≡ x → last_value key (first_writes run trx count) ≡ None
      by_value None is = is
      by_value (Some value) is =
          let i = sets_some run trx key count value is in
          absurd (nothing (writer.mtrs i.0) (writer.rows i.0) (writer.put i.0 key i.1 i.2))
