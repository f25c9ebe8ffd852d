-- What the steps on page locks make of a node, in the words of their contracts.
use Rattle.std.proofs.Common.{◌≡◌, ℕ, ◌+◌, refl, ◌∙◌, subst}
use Rattle.mp_cells.specs.declared.records.Mtr.{Mtr}
use Rattle.mp_cells.specs.PageView.{PageView}
use Rattle.mp_machine.specs.View.{part_in}
use Rattle.mp_core_pages.specs.declared.part.PagesPart.{PagesPart}
use Rattle.mp_core_pages.specs.declared.event.PagesEvent.{PagesEvent}
use Rattle.mp_core_pages.specs.declared.event.PagesEvent.TheVariants.{LockWord, UnlockWord}
use Rattle.mp_core_pages.specs.PageEvents.{taken_as, pages_node, pages_made, with_lock, with_unlock}
use Rattle.mp_core_pages.proofs.Choices.{if_equal, if_differs}
use Rattle.mp_core.specs.declared.event.CoreEvent.{CoreEvent}
use Rattle.mp_core.specs.declared.event.CoreEvent.TheVariants.{Pages}
use Rattle.mp_core.specs.Contents.{page_ops}
use Rattle.mp_core.specs.World.{Note}
use Rattle.mp_shared.specs.Nodes.{NodeView, changed_part, frames_after, node_after, Took}
use Rattle.mp_shared.specs.PageSteps.{with_pages, with_ops}

module _ (n : NodeView) (e : PagesEvent PageView Mtr) (found : ℕ) (x : Note) where
  -- a step that changes what its node knows of pages so, and no frame
  pub by_pages : (f : PagesPart PageView Mtr → PagesPart PageView Mtr) → ((q : PagesPart PageView Mtr) → pages_made page_ops e found x q ≡ f q) → frames_after (Pages e) found n.frames ≡ n.frames
      → node_after n (Pages e) found x ≡ with_pages n (pages_node e) f 1
  by_pages f same frames = λ i. record { run = n.run; parts = changed_part n.parts (pages_node e) (λ q. record q { pages = same q.pages i; ops = q.ops + 1 }) (part_in n.parts (pages_node e)); frames = frames i }

-- a step that found this number
pub took_found : (e : CoreEvent) (n later : NodeView) (found number : ℕ) → found ≡ number → Took e n found later → Took e n number later
took_found e n later found number same t = subst (λ k. Took e n k later) same t

module _ (n later : NodeView) (p k : ℕ) where
  pub locked_by : (old new found : ℕ) → found ≡ old → Took (Pages (LockWord p k old new)) n found later → later ≡ with_pages n p (with_lock k (taken_as new)) 1
  locked_by old new found same t = t.becomes ∙ by_pages n (LockWord p k old new) found t.note (with_lock k (taken_as new)) (λ q. if_equal found old (with_lock k (taken_as new) q) q same) refl

  pub refused_by : (old new found : ℕ) → ¬ (found ≡ old) → Took (Pages (LockWord p k old new)) n found later → later ≡ with_ops n p 1
  refused_by old new found other t = t.becomes ∙ by_pages n (LockWord p k old new) found t.note (λ q. q) (λ q. if_differs found old (with_lock k (taken_as new) q) q other) refl

  pub unlocked_by : (found : ℕ) → Took (Pages (UnlockWord p k)) n found later → later ≡ with_pages n p (with_unlock k) 1
  unlocked_by found t = t.becomes ∙ by_pages n (UnlockWord p k) found t.note (with_unlock k) (λ q. refl) refl
