use Rattle.mp_cuts.proofs.LeftImages.{same_store, count, valid, logged_is, sound}
use Rattle.mp_cuts.proofs.laws.law_left_behind.Goals as goal

pub returns-clause-cut : goal.returns-clause-cut
returns-clause-cut c = λ o w opened image fair f over left.
    (count o fair w f opened over image left, valid o fair w f opened over image left, logged_is o fair w f opened over image left)

pub returns-clause-sound : goal.returns-clause-sound
returns-clause-sound c = λ o w opened image fair f over left. sound o fair w f opened over image left

pub returns-clause-store : goal.returns-clause-store
returns-clause-store c = λ o w opened image left. same_store o w opened image left
