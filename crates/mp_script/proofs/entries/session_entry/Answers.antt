-- A session's line has no other count of words.
use Rattle.std.proofs.Common.{arith, ◌≡◌, ◌<◌, ◌≤◌, List, [], ◌∷◌, ℕ, map, length, Err, Bor, refl}
use Rattle.std.proofs.lemmas.Bool.Decides.{nat_tests}
use Rattle.mp_script.specs.Entries.{Said}
use Rattle.mp_script.specs.Drafts.{said_in}
use Rattle.mp_script.specs.Faults.{session_entry}
use Rattle.mp_script.proofs.entries.session_entry.Goals as goal
use Rattle.mp_script.proofs.entries.session_entry.Goals.{in_default-via-then-words-lt3, in_default-via-else-words-lt3+else-words-lt4}

short : (said : Said) (words : List (Bor (List ℕ))) → length words < 3 → Err 2 ≡ session_entry said (map (λ w. w.now) words)
short said [] h = refl
short said (a ∷ []) h = refl
short said (a ∷ b ∷ []) h = refl
short said (a ∷ b ∷ d ∷ rest) h = absurd (omega arith)

long : (said : Said) (words : List (Bor (List ℕ))) → 4 ≤ length words → Err 2 ≡ session_entry said (map (λ w. w.now) words)
long said [] h = absurd (omega arith)
long said (a ∷ []) h = absurd (omega arith)
long said (a ∷ b ∷ []) h = absurd (omega arith)
long said (a ∷ b ∷ d ∷ []) h = absurd (omega arith)
long said (a ∷ b ∷ d ∷ e ∷ rest) h = refl

pub returns-in_default : goal.returns-in_default
returns-in_default c = elim c.in_default.branch [
  | in_default-via-then-words-lt3 w ↦ short (said_in c.args.draft.now) c.args.words.now (grind (arith, nat_tests))
  | in_default-via-else-words-lt3+else-words-lt4 w ↦ long (said_in c.args.draft.now) c.args.words.now (grind (arith, nat_tests))
]
