use Rattle.std.proofs.Common.{◌≡◌, ◌≢◌, ℕ, ◌==◌, Bool, Option, None, List, [], ◌∷◌, length, Some, if◌then◌else◌, refl, sym, ap, subst, ◌∙◌, eq-eqb, append-nil}
use Rattle.std.specs.Prelude.{slice_get}
use Rattle.mp_model.specs.declared.replies.Answer.{Answer}
use Rattle.mp_model.specs.declared.waiting.Turn.TheVariants as turns
use Rattle.mp_script.proofs.Options.{some_is, not_some}
use Rattle.mp_verdict.specs.Orders.{NodeEntry}
use Rattle.mp_primary.specs.Primaries.{PrimaryView}
use Rattle.mp_members.specs.Running.{Runs}
use Rattle.mp_driver.proofs.Turned.{DrivesOn-refl}
use Rattle.mp_driver.proofs.examples.law_driving_examples.Goals as goal

a_frame : (frames : List ℕ) → frames ≡ 5 ∷ [] → frames ≡ [] → ⊥
a_frame frames one none = absurd cc

some_not_none : (n : ℕ) → ◌≡◌ {A = Option ℕ} (Some n) None → ⊥
some_not_none n e = absurd cc

answered_not_stopped : (by : ℕ) → turns.Answered ≡ turns.Stopped by → ⊥
answered_not_stopped by e = absurd cc

pub returns-clause-answers : goal.returns-clause-answers
returns-clause-answers g c = λ old new a none one.
    ap (λ (l : List Answer). if length l == length old.book.answers.items then [] else new.number ∷ []) one
    ∙ ap (λ (l : List Answer). if length (a ∷ []) == length l then [] else new.number ∷ []) none

pub returns-clause-answers_nothing : goal.returns-clause-answers_nothing
returns-clause-answers_nothing g c = λ pr.
    ap (λ (b : Bool). if b then [] else pr.number ∷ []) (eq-eqb (length pr.book.answers.items) (length pr.book.answers.items) refl)

pub returns-clause-through_there : goal.returns-clause-through_there
returns-clause-through_there g c = λ m none pr is. absurd (not_some pr (sym (ap (λ (l : List (PrimaryView g.row.D.Denot)). slice_get l 0) none) ∙ is))

pub returns-clause-not_through_there : goal.returns-clause-not_through_there
returns-clause-not_through_there g c = λ m not_all all. not_all (λ place pr is. all place pr is)

pub returns-clause-down_there : goal.returns-clause-down_there
returns-clause-down_there g c = λ m pr one down here is. subst (λ (p : PrimaryView g.row.D.Denot). p.down ≢ 0) (some_is pr here (sym (ap (λ (l : List (PrimaryView g.row.D.Denot)). slice_get l 0) one) ∙ is)) down

pub returns-clause-not_down_there : goal.returns-clause-not_down_there
returns-clause-not_down_there g c = λ m pr is up down. down pr is up

pub returns-clause-somehow : goal.returns-clause-somehow
returns-clause-somehow g c = λ work m given runs. (work, given, runs)

pub returns-clause-with_a_frame : goal.returns-clause-with_a_frame
returns-clause-with_a_frame g c = λ m one somehow. a_frame m.node.frames one (somehow.2).members.frames

pub returns-clause-on_here : goal.returns-clause-on_here
returns-clause-on_here g c = λ m. (DrivesOn-refl g.D.Disk m).runs

pub returns-clause-on_nowhere : goal.returns-clause-on_nowhere
returns-clause-on_nowhere g c = λ work old new runs one on. a_frame new.node.frames one ((on work [] runs).1).members.frames

pub returns-clause-drives : goal.returns-clause-drives
returns-clause-drives g c = λ m. DrivesOn-refl g.D.Disk m

pub returns-clause-drives_others : goal.returns-clause-drives_others
returns-clause-drives_others g c = λ old new others drives. others drives.same

pub returns-clause-turn : goal.returns-clause-turn
returns-clause-turn g c = λ m place session. record {
  drives = DrivesOn-refl g.D.Disk m;
  others = λ other apart. refl;
  through = λ none done. absurd (some_not_none session none);
  down = λ by is. absurd (answered_not_stopped by is);
}

pub returns-clause-stopped : goal.returns-clause-stopped
returns-clause-stopped g c = λ old new place by session pr is up turn. turn.down by refl pr is up

pub returns-clause-ended : goal.returns-clause-ended
returns-clause-ended g c = λ m through work given runs. ([], subst (λ (l : List NodeEntry). Runs g.D.Disk work m l) (sym (append-nil given)) runs, through)

pub returns-clause-not_ended : goal.returns-clause-not_ended
returns-clause-not_ended g c = λ work m runs not_all ends. not_all (ends work [] runs).2
