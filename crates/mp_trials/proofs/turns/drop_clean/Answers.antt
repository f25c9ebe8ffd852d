use Rattle.std.proofs.Common.{◌≡◌, List, [], ◌∷◌, length, refl, arith, eqb-true}
use Rattle.mp_buffer_fusion.specs.declared.buffer.Buffer.{Buffer}
use Rattle.mp_trials.proofs.turns.drop_clean.Goals as goal

none_left : (xs : List Buffer) → length xs ≡ 0 → xs ≡ []
none_left [] e = refl
none_left (x ∷ xs) e = absurd (omega (arith, e))

pub returns-clause-empty : goal.returns-clause-empty
returns-clause-empty c is = none_left _ (let full = eqb-true _ _ is in let room = c.free.ensures in omega (arith, full, room))
