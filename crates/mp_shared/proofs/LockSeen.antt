-- What a step on a page's lock saw: its word is one that a lock may have, and names its primary as the part does.
use Rattle.std.proofs.Common.{◌≡◌, ℕ, ◌≤◌, ◌∷◌, Some, sym, ap, ◌∙◌, subst, arith}
use Rattle.mp_machine.specs.Machine.{run}
use Rattle.mp_machine.specs.View.{part_in}
use Rattle.mp_core_trx.specs.Events.{IsNode}
use Rattle.mp_core_pages.specs.declared.event.PagesEvent.TheVariants.{LockWord}
use Rattle.mp_core_pages.specs.LockWords.{holder, IsLockWord}
use Rattle.mp_core_pages.specs.PageParts.{held_at}
use Rattle.mp_core.specs.declared.part.CorePart.{CorePart}
use Rattle.mp_core.specs.declared.event.CoreEvent.TheVariants.{Pages}
use Rattle.mp_core.specs.World.{core_part, core}
use Rattle.mp_core.specs.Invariant.{NumbersFit, CoreInv}
use Rattle.mp_core.proofs.Law.{law}
use Rattle.mp_shared.specs.Nodes.{NodeView, Took}

module _ (p k old new found : ℕ) (before after : NodeView) (took : Took (Pages (LockWord p k old new)) before found after) where
  inv_then : CoreInv before.run.opening (run (core before.run.opening) took.came.events)
  inv_then =
      let fair = subst NumbersFit (ap (λ (x : NodeView). x.run.opening) took.becomes) took.reached.fair in
      law before.run.opening fair took.came.events took.came.allowed.1

  pub seen_lock : IsLockWord found
  seen_lock = subst IsLockWord took.came.found_is (inv_then.pages.page_locks.words k)

  pub seen_own : (q : CorePart) → part_in before.parts p ≡ Some q → 1 ≤ p → p ≤ 8 → holder found p ≡ held_at q.pages.locks k
  seen_own q has low high =
      sym (ap (λ x. holder x p) took.came.found_is) ∙ inv_then.pages.page_locks.named p k low high ∙ ap (λ (r : CorePart). held_at r.pages.locks k) (took.came.agreed p q has)
