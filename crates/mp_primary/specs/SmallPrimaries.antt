-- Small entries and images, on which the words of a primary's contracts are tried.
use Rattle.std.specs.Prelude.{ℕ, List, [], ◌∷◌, None}
use Rattle.mp_supports.specs.Supports.{wrote_trace}
use Rattle.mp_supports.specs.Kept.{Entry}
use Rattle.mp_supports.specs.SmallParts.{commit_mtr}

-- an entry whose mtr was made first of all
abbrev pub written_before : Entry
written_before = record { answer = None; trace = wrote_trace [] (record { at = 0; of = None; mtr = commit_mtr 1 }) }

-- an image without a batch
abbrev pub gate_alone : List ℕ
gate_alone = 42 ∷ []
