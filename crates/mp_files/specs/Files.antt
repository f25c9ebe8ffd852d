-- A file of the system tells nothing.
use mathlib.Core.Bool.{true≢false}
use Rattle.std.proofs.Common.{sym}
use Rattle.std.specs.Prelude.{ℕ, List, IsTrue, false}

-- nothing is known to be left by a crash
abbrev pub no_image : List ℕ → Type 0
no_image file = ⊥

-- what would follow if it told
abbrev pub untold : {P : Type 0} → IsTrue false → P
untold told = absurd (true≢false (sym told))
