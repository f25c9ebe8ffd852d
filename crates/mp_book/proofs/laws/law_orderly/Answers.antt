use Rattle.mp_book.proofs.Spelled.{orderly_spelled}
use Rattle.mp_book.proofs.laws.law_orderly.Goals as goal

pub returns : goal.returns
returns c = orderly_spelled
