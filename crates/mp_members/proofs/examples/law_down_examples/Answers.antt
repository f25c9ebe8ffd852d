use Rattle.std.proofs.Common.{◌≡◌, ℕ, List, Option, sym, ap, ◌∙◌}
use Rattle.mp_primary.specs.Primaries.{PrimaryView}
use Rattle.mp_members.specs.Running.{down_in, downs_of}
use Rattle.mp_members.proofs.examples.law_down_examples.Goals as goal

zero_one : ◌≡◌ {A = ℕ} 0 1 → ⊥
zero_one e = absurd cc

pub returns-clause-nobody : goal.returns-clause-nobody
returns-clause-nobody g c = λ none is. ap (λ (o : Option (PrimaryView g.row.D.Denot)). down_in o) is

pub returns-clause-not_first : goal.returns-clause-not_first
returns-clause-not_first g c = λ one two first second is. zero_one (sym second ∙ is)

pub returns-clause-members : goal.returns-clause-members
returns-clause-members g c = λ m pr is. ap (λ (l : List (PrimaryView g.row.D.Denot)). downs_of l 1) is

pub returns-clause-not_beyond : goal.returns-clause-not_beyond
returns-clause-not_beyond g c = λ m pr one is. zero_one (sym (ap (λ (l : List (PrimaryView g.row.D.Denot)). downs_of l 2) one) ∙ is)
