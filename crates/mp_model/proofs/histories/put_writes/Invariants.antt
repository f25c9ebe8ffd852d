-- What is written so far with what is left is all; the keys go on ascending.
use Rattle.std.proofs.Common.{◌≡◌, drop}
use Rattle.mp_model.specs.Folded.{KeysAscend, over}
use Rattle.mp_model.proofs.histories.put_writes.Given as goal

abbrev pub invariant-loop-write : goal.invariant-loop-write
invariant-loop-write l = record { ascend : KeysAscend l.rows.items; rest : over l.rows.items (drop l.write-index l.writes) ≡ over l.fn.rows.items l.writes }
