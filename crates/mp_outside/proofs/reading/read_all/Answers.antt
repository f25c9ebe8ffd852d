-- Where there is no memory for a piece, it was taken after those in the text.
use Rattle.std.proofs.Common.{ℕ, ◌++◌, take, length-append, length-take, arith}
use Rattle.std.proofs.KnownBytes.{Consumes-trans}
use Rattle.mp_outside.proofs.reading.read_all.Goals as goal

pub returns-in_err-extend-clause-takes : goal.returns-in_err-extend-clause-takes
returns-in_err-extend-clause-takes g c = (
  c.pieces.text.items ++ take c.in_ok-count.count c.read.new.into,
  omega (arith, length-append {A = ℕ}, length-take {A = ℕ}, c.in_ok-count.ensures.within),
  Consumes-trans _ _ _ _ _ c.pieces.invariant.taken c.in_ok-count.ensures.bytes.0,
)
