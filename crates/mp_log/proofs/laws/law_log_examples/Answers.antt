-- The definitions compute.
use Rattle.std.proofs.Common.{◌≡◌, ℕ, List, [], ◌∷◌, length, get_or, refl, sym, ap, arith}
use Rattle.std.proofs.lemmas.List.{length-append}
use Rattle.mp_cells.specs.declared.records.Mtr.{Mtr}
use Rattle.mp_log.specs.Logs.{batch_text, batches_text, IsText}
use Rattle.mp_log.proofs.laws.law_log_examples.Goals as goal

pub returns-clause-fresh : goal.returns-clause-fresh
returns-clause-fresh c = record { gate = 0; rest = []; closed = λ same. absurd (omega (arith, same)); whole = refl }

abbrev first : List ℕ → ℕ
first file = get_or file 0 0

no_text : (batches : List (List Mtr)) → IsText batches (165 ∷ []) → ⊥
no_text [] text = let gate : 165 ≡ text.gate = ap first text.whole in text.closed (sym gate)
no_text (batch ∷ batches) text = absurd (omega (arith, ap length text.whole, length-append (batches_text (batch ∷ batches)) (text.gate ∷ text.rest), length-append (batch_text batch) (batches_text batches)))

pub returns-clause-open_gate : goal.returns-clause-open_gate
returns-clause-open_gate c = no_text
