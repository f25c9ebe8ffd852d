use Rattle.std.proofs.Common.{◌≡◌, Some, length, refl, ap, ◌∙◌, subst, arith, lit≤}
use Rattle.mp_core.specs.declared.part.CorePart.{CorePart}
use Rattle.mp_buffer_fusion.proofs.Visiting.{one_part}
use Rattle.mp_supports.specs.SmallParts.{part_before_steps}
use Rattle.mp_changes.specs.Changing.{HasLeftAll}
use Rattle.mp_changes.proofs.laws.law_outcomes_examples.Goals as goal

-- nothing was made by it, and it holds no page
only_part : (q : CorePart) → Some part_before_steps ≡ Some q → part_before_steps ≡ q
only_part q has = one_part (Some part_before_steps) part_before_steps q refl has

pub returns-clause-unopened : goal.returns-clause-unopened
returns-clause-unopened c = λ run. record {
  most = lit≤ tt;
  puts = record { mine = part_before_steps; holds = refl; many = refl; each = λ x is. absurd is };
  all = λ none. absurd (cc);
  left = λ none. absurd (cc);
  cause = tt;
}

pub returns-clause-none_asked : goal.returns-clause-none_asked
returns-clause-none_asked c = λ run. record {
  most = lit≤ tt;
  puts = record { mine = part_before_steps; holds = refl; many = refl; each = λ x is. absurd is };
  all = λ none. refl;
  left = λ none q has. subst HasLeftAll (only_part q has) record { durable = refl; idle = λ page. refl };
  cause = tt;
}

pub returns-clause-not_done : goal.returns-clause-not_done
returns-clause-not_done c = λ run h.
    let none : 0 ≡ 5 = ap (λ (x : CorePart). length x.pages.made) (only_part h.puts.mine h.puts.holds) ∙ h.puts.many in
    absurd (omega (arith, none))

pub returns-clause-not_all : goal.returns-clause-not_all
returns-clause-not_all c = λ run h. let none : 0 ≡ 5 = h.all refl in absurd (omega (arith, none))
