use Rattle.std.proofs.Common.{◌≡◌, length, take}
use Rattle.std.specs.List.{flat_map}
use Rattle.mp_script.specs.Below.{numbers}
use Rattle.mp_cluster.proofs.transcripts.count_all.Given as goal

abbrev pub invariant-loop-part : goal.invariant-loop-part
invariant-loop-part l = l.commits ≡ length (numbers (flat_map (λ part. part.answers.items) (take l.part-index l.parts)))
