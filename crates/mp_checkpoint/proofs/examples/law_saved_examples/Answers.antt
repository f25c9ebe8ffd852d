-- A file without an open header has a fault.
use Rattle.mp_store.proofs.FreshImages.{none_is_no_store}
use Rattle.mp_checkpoint.proofs.examples.law_saved_examples.Goals as goal

pub returns-clause-no_header : goal.returns-clause-no_header
returns-clause-no_header c = λ file new none same. none_is_no_store new none same.sound
