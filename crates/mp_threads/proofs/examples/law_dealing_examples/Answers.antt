use Rattle.std.proofs.Common.{◌≡◌, ℕ, Bool, true, false, List, [], ◌∷◌, refl, sym, ap, ◌∙◌, arith}
use Rattle.mp_shared.specs.Nodes.{NodeView}
use Rattle.mp_script.proofs.Options.{not_some}
use Rattle.mp_members.proofs.SameMembers.{IsSameMember-refl}
use Rattle.mp_threads.proofs.TurnsAlone.{GoesAlone-refl}
use Rattle.mp_threads.proofs.examples.law_dealing_examples.Goals as goal

a_frame : (frames : List ℕ) → frames ≡ 5 ∷ [] → frames ≡ [] → ⊥
a_frame frames one none = absurd cc

not_both : (b : Bool) → b ≡ true → b ≡ false → ⊥
not_both b t f = absurd cc

one_is_none : {T : Type 0} (xs : List T) (x : T) → xs ≡ x ∷ [] → xs ≡ [] → ⊥
one_is_none xs x one none = absurd cc

pub returns-clause-none_may : goal.returns-clause-none_may
returns-clause-none_may g c = λ run. tt

pub returns-clause-one_may_not : goal.returns-clause-one_may_not
returns-clause-one_may_not g c = λ run pr may. may

pub returns-clause-none_ran : goal.returns-clause-none_ran
returns-clause-none_ran g c = λ run. tt

pub returns-clause-one_gone : goal.returns-clause-one_gone
returns-clause-one_gone g c = λ run pr ran. ran

pub returns-clause-ended : goal.returns-clause-ended
returns-clause-ended g c = λ m through work runs. ([], runs, through)

pub returns-clause-not_ended : goal.returns-clause-not_ended
returns-clause-not_ended g c = λ work m runs not_all ends. not_all (ends work runs).2

pub returns-clause-left : goal.returns-clause-left
returns-clause-left g c = λ n frames reached. record {
  its_run = refl;
  frames = frames;
  reached = reached;
  above = λ k low. refl;
  none = λ k low high. absurd (omega (arith, low, high));
}

pub returns-clause-not_left : goal.returns-clause-not_left
returns-clause-not_left g c = λ all rest q has left. not_some q (sym (left.none 1 (omega arith) (omega arith)) ∙ has)

pub returns-clause-joined : goal.returns-clause-joined
returns-clause-joined g c = λ n r. refl

pub returns-clause-not_joined : goal.returns-clause-not_joined
returns-clause-not_joined g c = λ n r one none same. a_frame n.frames one (ap (λ (m : NodeView). m.frames) same ∙ none)

pub returns-clause-joins : goal.returns-clause-joins
returns-clause-joins g c = λ n frames. record { its_run = refl; frames = frames }

pub returns-clause-may_not_join : goal.returns-clause-may_not_join
returns-clause-may_not_join g c = λ run n one may. a_frame n.frames one may.frames

pub returns-clause-done : goal.returns-clause-done
returns-clause-done g c = λ pr through. through

pub returns-clause-not_stopped : goal.returns-clause-not_stopped
returns-clause-not_stopped g c = λ pr up ends. ends up

pub returns-clause-dealt : goal.returns-clause-dealt
returns-clause-dealt g c = λ m. record { shared = refl; primaries = refl; idle = refl }

pub returns-clause-not_dealt : goal.returns-clause-not_dealt
returns-clause-not_dealt g c = λ old new pr one none dealt. one_is_none old.primaries.items pr one
    (ap (λ p. p.items) (sym dealt.primaries) ∙ none)

pub returns-clause-none_dealt : goal.returns-clause-none_dealt
returns-clause-none_dealt g c = λ work run. tt

pub returns-clause-one_not_dealt : goal.returns-clause-one_not_dealt
returns-clause-one_not_dealt g c = λ work run pr all. all

pub returns-clause-drove : goal.returns-clause-drove
returns-clause-drove g c = λ run pr r sessions enough. record {
  on = GoesAlone-refl g.D.Disk run pr r.node;
  same = IsSameMember-refl g.D.Disk pr;
  sessions = sessions;
  enough = enough;
}

pub returns-clause-not_driven : goal.returns-clause-not_driven
returns-clause-not_driven g c = λ run pr r short drove. not_both r.short short drove.enough
