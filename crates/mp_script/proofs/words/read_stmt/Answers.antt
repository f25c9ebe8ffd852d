-- Four words or more are no statement.
use Rattle.std.proofs.Common.{arith, ◌≡◌, ◌≤◌, List, [], ◌∷◌, ℕ, map, length, Err, Bor, refl}
use Rattle.mp_script.specs.Words.{stmt_of}
use Rattle.mp_script.proofs.words.read_stmt.Goals as goal

long : (words : List (Bor (List ℕ))) → 4 ≤ length words → Err 2 ≡ stmt_of (map (λ w. w.now) words)
long [] h = absurd (omega arith)
long (a ∷ []) h = absurd (omega arith)
long (a ∷ b ∷ []) h = absurd (omega arith)
long (a ∷ b ∷ d ∷ []) h = absurd (omega arith)
long (a ∷ b ∷ d ∷ e ∷ rest) h = refl

pub returns-in-len4-up : goal.returns-in-len4-up
returns-in-len4-up c = long c.args.words.now c.in-len4-up.len_at_least
