use Rattle.std.proofs.Common.{◌≡◌, [], ◌∷◌, refl, sym}
use Rattle.mp_model.specs.declared.replies.Answer.{Answer}
use Rattle.mp_lineup.proofs.examples.law_listed_examples.Goals as goal

one_is_none : (a : Answer) → a ∷ [] ≡ [] → ⊥
one_is_none a e = cc

pub returns-clause-not_swapped : goal.returns-clause-not_swapped
returns-clause-not_swapped c = λ a listed. one_is_none a (listed.lists_are 0 (a ∷ []) refl)

pub returns-clause-not_missing : goal.returns-clause-not_missing
returns-clause-not_missing c = λ a listed. one_is_none a (sym (listed.lists_are 0 [] refl))
