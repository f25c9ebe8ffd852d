-- What a caller knows after a lock call: how the lock is held then, and that all else is as it was.
use Rattle.std.proofs.Common.{◌≡◌, ℕ, ◌+◌, ◌⊎◌, Option, None, Some, refl, sym, ap, ◌∙◌, subst, ⊎_elim}
use mathlib.Core.Logic.{dite}
use native.Mathlib.Decide.{ℕ_discrete}
use Rattle.mp_machine.specs.View.{part_in}
use Rattle.mp_cells.specs.declared.records.Mtr.{Mtr}
use Rattle.mp_cells.specs.PageView.{PageView}
use Rattle.mp_core_trx.specs.Events.{IsNode}
use Rattle.mp_core_pages.specs.declared.page_lock.Held.{Held}
use Rattle.mp_core_pages.specs.declared.page_lock.Held.TheVariants.{No, Read, Write}
use Rattle.mp_core_pages.specs.declared.part.PagesPart.{PagesPart}
use Rattle.mp_core_pages.specs.PageEvents.{with_lock, with_unlock}
use Rattle.mp_core_pages.specs.PageParts.{held_at}
use Rattle.mp_core_pages.proofs.Choices.{if_equal, if_differs}
use Rattle.mp_core.specs.declared.part.CorePart.{CorePart}
use Rattle.mp_shared.specs.Nodes.{NodeView, HoldsPart}
use Rattle.mp_shared.specs.PageSteps.{held_by_part, held_in, with_pages, with_ops}
use Rattle.mp_shared.proofs.Holding.{held_part}
use Rattle.mp_shared.proofs.PageCalls.{pages_changed, part_after, part_else, held_after}
use Rattle.mp_lock_fusion.specs.LockCalls.{LocksAlone, TookToRead, CameToRead, CameToWrite, SawWriter, SawChange, CouldNotRead, CouldNotWrite}

-- the lock of the page is held so, once it is taken
lock_now : (before : NodeView) (p k : ℕ) (q : CorePart) → part_in before.parts p ≡ Some q → (held : Held) (steps : ℕ) → held_in (with_pages before p (with_lock k held) steps) p k ≡ held
lock_now before p k q has held steps = held_after before p q has (with_lock k held) steps k ∙ if_equal k k held (held_at q.pages.locks k) refl

read_is_lock : Read ≡ No → ⊥
read_is_lock e = cc

module _ (before after : NodeView) (p k : ℕ) (q : CorePart) (has : part_in before.parts p ≡ Some q) where
  pub holds_read : CameToRead p k before after → ¬ (held_in after p k ≡ No)
  holds_read came none =
      ⊎_elim
      (λ (kept : (¬ (held_in before p k ≡ No)) × (after ≡ before)). kept.0 (ap (λ n. held_in n p k) (sym kept.1) ∙ none))
      (λ (took : TookToRead p k before after). read_is_lock (sym (ap (λ n. held_in n p k) took.becomes ∙ lock_now before p k q has Read took.tries) ∙ none))
      came

  pub holds_write : CameToWrite p k before after → held_in after p k ≡ Write
  holds_write came =
      ⊎_elim
      (λ (kept : (held_in before p k ≡ Write) × (after ≡ before)). ap (λ n. held_in n p k) kept.1 ∙ kept.0)
      (λ (took : (¬ (held_in before p k ≡ Write)) × (after ≡ with_pages before p (with_lock k Write) 1)). ap (λ n. held_in n p k) took.1 ∙ lock_now before p k q has Write 1)
      came

  -- one primary changed its locks alone
  locks_alone : (f : PagesPart PageView Mtr → PagesPart PageView Mtr) (steps : ℕ) → ((x : PagesPart PageView Mtr) → f x ≡ record x { locks = (f x).locks }) → after ≡ with_pages before p f steps → LocksAlone p before after
  locks_alone f steps keeps is = record {
    run = ap (λ (n : NodeView). n.run) is;
    frames = ap (λ (n : NodeView). n.frames) is;
    others = λ m other. ap (λ (n : NodeView). part_in n.parts m) is ∙ part_else before p q has f steps m other;
    mine = λ r held.
        let same : q ≡ r = let both = sym has ∙ held in cc in (
          pages_changed f steps r,
          ap (λ (n : NodeView). part_in n.parts p) is ∙ part_after before p q has f steps ∙ ap (λ x. Some (pages_changed f steps x)) same,
          (λ i. record r { pages = keeps r.pages i; ops = r.ops + steps }),
        );
  }

  unchanged : after ≡ before → LocksAlone p before after
  unchanged is = record {
    run = ap (λ (n : NodeView). n.run) is;
    frames = ap (λ (n : NodeView). n.frames) is;
    others = λ m other. ap (λ (n : NodeView). part_in n.parts m) is;
    mine = λ r held. (r, ap (λ (n : NodeView). part_in n.parts p) is ∙ held, refl);
  }

  pub alone_read : CameToRead p k before after → LocksAlone p before after
  alone_read came =
      ⊎_elim
      (λ (kept : (¬ (held_in before p k ≡ No)) × (after ≡ before)). unchanged kept.1)
      (λ (took : TookToRead p k before after). locks_alone (with_lock k Read) took.tries (λ x. refl) took.becomes)
      came

  pub alone_write : CameToWrite p k before after → LocksAlone p before after
  alone_write came =
      ⊎_elim
      (λ (kept : (held_in before p k ≡ Write) × (after ≡ before)). unchanged kept.1)
      (λ (took : (¬ (held_in before p k ≡ Write)) × (after ≡ with_pages before p (with_lock k Write) 1)). locks_alone (with_lock k Write) 1 (λ x. refl) took.1)
      came

  pub alone_not_read : (seen : ℕ) → CouldNotRead p k before seen after → LocksAlone p before after
  alone_not_read seen could_not =
      ⊎_elim
      (λ (saw : SawWriter p k before seen after). locks_alone (λ x. x) 1 (λ x. refl) saw.becomes)
      (λ (saw : SawChange p k before seen after). locks_alone (λ x. x) 2 (λ x. refl) saw.becomes)
      could_not.1

  pub alone_not_write : (seen : ℕ) → CouldNotWrite p k before seen after → LocksAlone p before after
  alone_not_write seen could_not = locks_alone (λ x. x) 1 (λ x. refl) could_not.becomes

-- how another primary holds a lock, a call for this one leaves
pub held_else : (before after : NodeView) (p : ℕ) → LocksAlone p before after → (m k : ℕ) → ¬ (m ≡ p) → held_in after m k ≡ held_in before m k
held_else before after p alone m k other = ap (λ o. held_by_part o k) (alone.others m other)
