use Rattle.std.proofs.Common.{Some, None, slice_index_or, slice_set, ◌≡◌, ◌<◌, length, sym, subst, ◌∙◌, arith}
use mathlib.Core.Logic.{dite}
use native.Mathlib.Decide.{ℕ_discrete}
use Rattle.std.proofs.lemmas.List.{get_or-set_same, get_or-set_other, length-set}
use Rattle.mp_shared.proofs.slot_counts.SlotCounts.unused.Goals as goal

pub loop-p-preserved : goal.loop-p-preserved
loop-p-preserved c =
    let used = c.loop-p.counts.used in
    let p = c.loop-p.p in
    let within : p < length used = omega (arith, c.loop-p.invariant.0, c.requires) in (
      length-set used p (Some 0) ∙ c.loop-p.invariant.0,
      λ k below.
          dite (ℕ_discrete k p)
          (λ same. subst (λ j. slice_index_or (slice_set used p (Some 0)) j None ≡ Some 0) (sym same) (get_or-set_same used p (Some 0) None within))
          (λ other. get_or-set_other used p k (Some 0) None other ∙ c.loop-p.invariant.1 k (omega arith)),
      λ k above. get_or-set_other used p k (Some 0) None (λ same. absurd (omega arith)) ∙ c.loop-p.invariant.2 k (omega arith),
    )
