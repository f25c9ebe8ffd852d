use Rattle.std.proofs.Common.{◌<◌, ◌==◌, Bool, true, false, if◌then◌else◌, List, [], ◌∷◌, map, reverse, drop, refl, arith}
use Rattle.std.specs.List.{AllByRecursion}
use Rattle.mp_cells.specs.declared.records.Mtr.{Mtr}
use Rattle.mp_core_pages.specs.declared.part.Placed.{Placed}
use Rattle.mp_core_pages.specs.Histories.{placed}
use Rattle.mp_core_pages.specs.PageParts.{durable_llsn}
use Rattle.mp_histories.specs.SmallHistory.{small_put}
use Rattle.mp_cuts.proofs.examples.law_cut_examples.Goals as goal

-- what a node made, node 1 or another
abbrev made_by_one : Bool → List Mtr
made_by_one one = map (λ (x : Placed Mtr). x.mtr) (reverse (if one then placed 0 small_put ∷ [] else []))

none_durable : (one : Bool) → AllByRecursion (λ (m : Mtr). 4 < m.llsn) (made_by_one one)
none_durable true = (omega arith, tt)
none_durable false = tt

none_left : (one : Bool) → AllByRecursion (λ (m : Mtr). durable_llsn 4 (if one then 5 ∷ [] else []) < m.llsn) (drop 1 (made_by_one one))
none_left true = tt
none_left false = tt

pub returns-clause-nothing : goal.returns-clause-nothing
returns-clause-nothing c = λ n. none_durable (n == 1)

pub returns-clause-all : goal.returns-clause-all
returns-clause-all c = λ n. none_left (n == 1)

pub returns-clause-lost : goal.returns-clause-lost
returns-clause-lost c = λ valid. let low : 5 < 5 = (valid 1).0 in absurd (omega (arith, low))

pub returns-clause-no_mtrs : goal.returns-clause-no_mtrs
returns-clause-no_mtrs c = refl

pub returns-clause-first : goal.returns-clause-first
returns-clause-first c = refl

pub returns-clause-both : goal.returns-clause-both
returns-clause-both c = refl
