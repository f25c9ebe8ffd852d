use Rattle.std.proofs.Common.{◌≡◌, List, [], ◌∷◌, length, Some, refl, sym, ap, ◌∙◌, arith, length-append}
use Rattle.mp_machine.specs.Lists.{IsIn}
use Rattle.mp_core.specs.declared.part.CorePart.{CorePart}
use Rattle.mp_core.specs.declared.part.DownLoad.{DownLoad}
use Rattle.mp_core.specs.Downs.{down_load, down_of, goes_down_by}
use Rattle.mp_supports.specs.SmallParts.{part_before_steps}
use Rattle.mp_shared.specs.Nodes.{NodeView}
use Rattle.mp_primary.specs.Downs.{OnlyDowns}
use Rattle.mp_primary.proofs.OnlyDowns.{downs_none, went_none}
use Rattle.mp_primary.proofs.DownTellings.{stored_downs, loaded_downs, loaded_one}
use Rattle.mp_primary.proofs.heeding_examples.law_load_examples.Goals as goal

one_part_is : (a b : CorePart) → Some a ≡ Some b → a ≡ b
one_part_is a b e = cc

pub returns-clause-told : goal.returns-clause-told
returns-clause-told c = λ pr n has down q there. ap down_of (one_part_is q (record part_before_steps { downs = goes_down_by 2 (part_before_steps.downs) }) (sym there ∙ has)) ∙ sym down

pub returns-clause-untold : goal.returns-clause-untold
returns-clause-untold c = λ pr n has down told. let own = told part_before_steps has in absurd (omega (arith, own, down))

pub returns-clause-stored : goal.returns-clause-stored
returns-clause-stored c = stored_downs part_before_steps 1 1 refl

pub returns-clause-began : goal.returns-clause-began
returns-clause-began c = λ h. let begun = ap (λ (x : CorePart). length x.trx.begun) h.rest in absurd (omega (arith, begun))

pub returns-clause-only_loads : goal.returns-clause-only_loads
returns-clause-only_loads c = loaded_downs part_before_steps 1 2 3 (omega arith, omega arith)

pub returns-clause-stores : goal.returns-clause-stores
returns-clause-stores c = λ h. let own = h.own in absurd (omega (arith, own))

pub returns-clause-loaded : goal.returns-clause-loaded
returns-clause-loaded c = loaded_one part_before_steps 1 2 3 (omega arith, omega arith) (λ e. absurd (omega (arith, e)))

pub returns-clause-loaded_nothing : goal.returns-clause-loaded_nothing
returns-clause-loaded_nothing c = λ of by q h.
    let both = length-append h.more q.downs.loaded in
    let same = ap (λ (l : List DownLoad). length l) h.loaded in
    none h.more (omega (arith, both, same)) (down_load of by) h.its
  where
    none : (xs : List DownLoad) → length xs ≡ 0 → (x : DownLoad) → IsIn x xs → ⊥
    none [] zero x h = h
    none (y ∷ ys) zero x h = absurd (omega (arith, zero))

pub returns-clause-went_nowhere : goal.returns-clause-went_nowhere
returns-clause-went_nowhere c = λ p n. went_none p OnlyDowns downs_none n

pub returns-clause-another_run : goal.returns-clause-another_run
returns-clause-another_run c = λ p before after other h. other h.run

pub returns-clause-not_up : goal.returns-clause-not_up
returns-clause-not_up c = λ p of before after other h. other (h.went.run ∙ ap (λ (n : NodeView). n.run) h.load.becomes ∙ h.came.run)
