-- Each breaks one field.
use Rattle.std.proofs.Common.{◌≡◌, Option, Some, None, refl, arith}
use Rattle.mp_model.specs.declared.ids.TrxId.{TrxId}
use Rattle.mp_cells.proofs.trees.law_clean_examples.Goals as goal

pub returns-clause-llsn : goal.returns-clause-llsn
returns-clause-llsn c = λ clean. omega (arith, clean.llsns 1 (omega arith))

pub returns-clause-writer : goal.returns-clause-writer
returns-clause-writer c = λ id link clean. let both : ◌≡◌ {A = Option TrxId} (Some id) None = (clean.no_writers 1 (omega arith) refl).0 in absurd cc

pub returns-clause-undo : goal.returns-clause-undo
returns-clause-undo c = λ clean. clean.no_undo 2 (omega arith) refl
