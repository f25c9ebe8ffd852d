use Rattle.std.proofs.Common.{◌≡◌, ℕ, true, false, List, [], ◌∷◌, None, Some, refl, ◌∙◌, inl, arith}
use Rattle.mp_buffer_fusion.specs.PoolExamples.{blank_buffer}
use Rattle.mp_desk.proofs.Moving.{looks_none}
use Rattle.mp_desk.proofs.AtDesk.{desk_kept, given_emptied}
use Rattle.mp_desk.proofs.laws.law_desk_examples.Goals as goal

-- false is not true
not_true : false ≡ true → ⊥
not_true e = absurd cc

nothing_is : {T : Type 0} (x : T) → None ≡ Some x → ⊥
nothing_is x e = absurd cc

none_one : (x : ℕ) (xs : List ℕ) → x ∷ xs ≡ [] → ⊥
none_one x xs e = absurd cc

pub returns-clause-none_given : goal.returns-clause-none_given
returns-clause-none_given c = λ start q. given_emptied start q [] refl

pub returns-clause-dirty_given : goal.returns-clause-dirty_given
returns-clause-dirty_given c = λ start q given. not_true (given (blank_buffer 5 false) (inl refl)).0

pub returns-clause-shown : goal.returns-clause-shown
returns-clause-shown c = refl

pub returns-clause-not_shown : goal.returns-clause-not_shown
returns-clause-not_shown c = refl

pub returns-clause-kept : goal.returns-clause-kept
returns-clause-kept c = desk_kept

pub returns-clause-lost : goal.returns-clause-lost
returns-clause-lost c = λ desk kept. let now = kept.buffers 1 (blank_buffer 5 true) refl in nothing_is now.0 now.1

pub returns-clause-taken : goal.returns-clause-taken
returns-clause-taken c = λ p n. tt

pub returns-clause-not_taken : goal.returns-clause-not_taken
returns-clause-not_taken c = λ p n taken. taken.0.0 refl

pub returns-clause-lacks_root : goal.returns-clause-lacks_root
returns-clause-lacks_root c = λ key undo wait. (1, refl, (λ pages e. inl (inl (0, omega arith, refl))))

pub returns-clause-no_meta : goal.returns-clause-no_meta
returns-clause-no_meta c = λ key undo refusal. nothing_is refusal.0 refusal.1

pub returns-clause-stays : goal.returns-clause-stays
returns-clause-stays c = looks_none

pub returns-clause-one_frame_more : goal.returns-clause-one_frame_more
returns-clause-one_frame_more c = λ p n none moves. none_one 3 [] (moves.frames ∙ none)
