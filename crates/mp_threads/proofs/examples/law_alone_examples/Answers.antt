use Rattle.std.proofs.Common.{◌≡◌, ℕ, Bool, true, false, List, [], ◌∷◌, refl, sym, ap, subst}
use Rattle.mp_machine.specs.View.{View, part_in}
use Rattle.mp_core.specs.declared.part.CorePart.{CorePart}
use Rattle.mp_schedule.specs.declared.schedule.Try.{Try}
use Rattle.mp_schedule.specs.Schedules.{HasSessions}
use Rattle.mp_members.proofs.SameMembers.{IsSameMember-refl}
use Rattle.mp_threads.proofs.TurnsAlone.{GoesAlone-refl}
use Rattle.mp_threads.proofs.examples.law_alone_examples.Goals as goal

a_frame : (frames : List ℕ) → frames ≡ 5 ∷ [] → frames ≡ [] → ⊥
a_frame frames one none = absurd cc

not_both : (b : Bool) → b ≡ true → b ≡ false → ⊥
not_both b t f = absurd cc

pub returns-clause-only : goal.returns-clause-only
returns-clause-only g c = λ run n its_run frames parts. record {
  its_run = its_run;
  frames = frames;
  alone = λ k apart. ap (λ (v : View CorePart). part_in v k) parts;
}

pub returns-clause-not_only : goal.returns-clause-not_only
returns-clause-not_only g c = λ run n one only. a_frame n.frames one only.frames

pub returns-clause-alone : goal.returns-clause-alone
returns-clause-alone g c = λ run pr n base only stands agrees told may. record {
  work_is = refl;
  base = base;
  has_only = only;
  stands = stands;
  agrees = agrees;
  told = told;
  may_turn = may;
  answered = tt;
  views = tt;
}

pub returns-clause-not_alone : goal.returns-clause-not_alone
returns-clause-not_alone g c = λ work run pr n entries one s. a_frame n.frames one s.has_only.frames

pub returns-clause-somehow : goal.returns-clause-somehow
returns-clause-somehow g c = λ work run pr n s. (work, [], s)

pub returns-clause-nohow : goal.returns-clause-nohow
returns-clause-nohow g c = λ run pr n one s. a_frame n.frames one s.2.has_only.frames

pub returns-clause-goes : goal.returns-clause-goes
returns-clause-goes g c = λ run pr n. GoesAlone-refl g.D.Disk run pr n

pub returns-clause-goes_nowhere : goal.returns-clause-goes_nowhere
returns-clause-goes_nowhere g c = λ work run old new before after s one goes. a_frame after.frames one (goes work [] s).1.has_only.frames

pub returns-clause-may : goal.returns-clause-may
returns-clause-may g c = λ run pr r stands none enough. record {
  stands = stands;
  sessions = subst (λ (l : List Try). HasSessions l) (sym none) tt;
  enough = enough;
}

pub returns-clause-may_not : goal.returns-clause-may_not
returns-clause-may_not g c = λ run pr r short may. not_both r.short short may.enough

pub returns-clause-ran : goal.returns-clause-ran
returns-clause-ran g c = λ run pr r only short. record {
  same = IsSameMember-refl g.D.Disk pr;
  has_only = only;
  on = λ enough. absurd (not_both r.short short enough);
  through = λ enough. absurd (not_both r.short short enough);
}

pub returns-clause-not_ran : goal.returns-clause-not_ran
returns-clause-not_ran g c = λ run pr r enough not_through ran. not_through (ran.through enough)
