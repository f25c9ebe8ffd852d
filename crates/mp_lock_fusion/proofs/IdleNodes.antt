-- A primary that made no mtr and has no frame: it stays so through lock calls, and may let its locks go.
use Rattle.std.proofs.Common.{◌≡◌, ℕ, ◌<◌, Some, refl, sym, ap, ◌∙◌, subst, arith}
use mathlib.Core.Logic.{dite}
use native.Mathlib.Decide.{ℕ_discrete}
use Rattle.mp_machine.specs.View.{part_in}
use Rattle.mp_core_trx.specs.declared.opening.TrxOpening.{TrxOpening}
use Rattle.mp_core_trx.specs.Events.{IsNode}
use Rattle.mp_core_pages.specs.declared.opening.TheConstants.{PAGES}
use Rattle.mp_core_pages.specs.declared.page_lock.Held.TheVariants.{No}
use Rattle.mp_core_pages.specs.declared.event.PagesEvent.TheVariants.{UnlockWord}
use Rattle.mp_core_pages.specs.PageEvents.{with_unlock}
use Rattle.mp_core_pages.specs.PageParts.{out_at, own_llsn}
use Rattle.mp_core.specs.declared.part.CorePart.{CorePart}
use Rattle.mp_core.specs.declared.event.CoreEvent.TheVariants.{Pages}
use Rattle.mp_core.specs.Contents.{page_ops}
use Rattle.mp_core.specs.World.{core_start, core_part}
use Rattle.mp_shared.specs.Nodes.{Run, NodeView, HoldsAll, HoldsPart, MayTake, first_node}
use Rattle.mp_shared.specs.PageSteps.{held_by_part, held_in, with_pages}
use Rattle.mp_shared.proofs.FreshStores.{first_part}
use Rattle.mp_shared.proofs.Holding.{holds_the_part}
use Rattle.mp_shared.proofs.PageCalls.{pages_changed, part_after, part_else}
use Rattle.mp_lock_fusion.specs.LockCalls.{LocksAlone, IsIdle}

pub idle_holds : (n : NodeView) (p : ℕ) → IsIdle n p → HoldsPart n p
idle_holds n p h = holds_the_part n p h.mine h.holds h.node

pub may_release : (n : NodeView) (p k : ℕ) → k < PAGES → IsIdle n p → ¬ (held_in n p k ≡ No) → MayTake (Pages (UnlockWord p k)) n
may_release n p k in_range h held =
    let none : own_llsn page_ops h.mine.pages.made k ≡ 0 = ap (λ made. own_llsn page_ops made k) h.no_mtr in (
      h.mine,
      h.holds,
      (
        h.node,
        record {
          in_range = in_range;
          has_lock = λ no_lock. held (ap (λ o. held_by_part o k) h.holds ∙ no_lock);
          home = ap (λ rows. out_at rows k) h.no_frame;
          released = (omega (arith, none), omega (arith, none));
        },
        tt,
      ),
    )

module _ (before after : NodeView) (p : ℕ) (alone : LocksAlone p before after) where
  idle_own : IsIdle before p → IsIdle after p
  idle_own h =
      let r = alone.mine h.mine h.holds in
      record {
        mine = r.0;
        holds = r.1;
        node = subst (λ (o : TrxOpening). IsNode o p) (sym (ap (λ (c : CorePart). c.trx.opening) r.2)) h.node;
        no_mtr = ap (λ (c : CorePart). c.pages.made) r.2 ∙ h.no_mtr;
        no_frame = ap (λ (c : CorePart). c.pages.frames) r.2 ∙ h.no_frame;
      }

  -- a lock call of one primary keeps every primary so
  pub idle_alone : (m : ℕ) → IsIdle before m → IsIdle after m
  idle_alone m h =
      dite (ℕ_discrete m p)
      (λ same. subst (IsIdle after) (sym same) (idle_own (subst (IsIdle before) same h)))
      (λ other. record { mine = h.mine; holds = alone.others m other ∙ h.holds; node = h.node; no_mtr = h.no_mtr; no_frame = h.no_frame })

  pub all_alone : HoldsAll before → HoldsAll after
  all_alone all k node =
      let had = all k (subst (λ (o : TrxOpening). IsNode o k) (ap (λ r. r.opening.trx) alone.run) node) in
      dite (ℕ_discrete k p)
      (λ same. let now = alone.mine had.0 (ap (part_in before.parts) (sym same) ∙ had.1) in (now.0, ap (part_in after.parts) same ∙ now.1))
      (λ other. (had.0, alone.others k other ∙ had.1))

-- and so does letting a lock go
module _ (before after : NodeView) (p k : ℕ) (h : IsIdle before p) (is : after ≡ with_pages before p (with_unlock k) 1) where
  released_here : part_in after.parts p ≡ Some (pages_changed (with_unlock k) 1 h.mine)
  released_here = ap (λ (n : NodeView). part_in n.parts p) is ∙ part_after before p h.mine h.holds (with_unlock k) 1

  released_else : (m : ℕ) → ¬ (m ≡ p) → part_in after.parts m ≡ part_in before.parts m
  released_else m other = ap (λ (n : NodeView). part_in n.parts m) is ∙ part_else before p h.mine h.holds (with_unlock k) 1 m other

  pub idle_released : (m : ℕ) → IsIdle before m → IsIdle after m
  idle_released m g =
      dite (ℕ_discrete m p)
      (λ same. subst (IsIdle after) (sym same) record { mine = pages_changed (with_unlock k) 1 h.mine; holds = released_here; node = h.node; no_mtr = h.no_mtr; no_frame = h.no_frame })
      (λ other. record { mine = g.mine; holds = released_else m other ∙ g.holds; node = g.node; no_mtr = g.no_mtr; no_frame = g.no_frame })

  pub held_released : (m j : ℕ) → ¬ (m ≡ p) → held_in after m j ≡ held_in before m j
  held_released m j other = ap (λ o. held_by_part o j) (released_else m other)

  pub all_released : HoldsAll before → HoldsAll after
  all_released all j node =
      let had = all j (subst (λ (o : TrxOpening). IsNode o j) (ap (λ (n : NodeView). n.run.opening.trx) is) node) in
      dite (ℕ_discrete j p)
      (λ same. (pages_changed (with_unlock k) 1 h.mine, ap (part_in after.parts) same ∙ released_here))
      (λ other. (had.0, released_else j other ∙ had.1))

-- before any step
pub idle_fresh : (r : Run) (node : NodeView) → node ≡ first_node r → (p : ℕ) → IsNode r.opening.trx p → IsIdle node p
idle_fresh r node node_is p is = record {
  mine = core_part (core_start r.opening) p;
  holds = first_part r node node_is p is;
  node = is;
  no_mtr = refl;
  no_frame = refl;
}

-- What a caller of several lock calls keeps
pub record Stays (before after : NodeView) : Type 0 where
  pub run : after.run ≡ before.run
  pub frames : after.frames ≡ before.frames
  pub all : HoldsAll before → HoldsAll after
  pub idle : (p : ℕ) → IsIdle before p → IsIdle after p

pub stays_alone : (before after : NodeView) (p : ℕ) → LocksAlone p before after → Stays before after
stays_alone before after p alone = record { run = alone.run; frames = alone.frames; all = all_alone before after p alone; idle = idle_alone before after p alone }

pub stays_released : (before after : NodeView) (p k : ℕ) → IsIdle before p → after ≡ with_pages before p (with_unlock k) 1 → Stays before after
stays_released before after p k h is = record {
  run = ap (λ (n : NodeView). n.run) is;
  frames = ap (λ (n : NodeView). n.frames) is;
  all = all_released before after p k h is;
  idle = idle_released before after p k h is;
}

pub stays_then : (first second third : NodeView) → Stays first second → Stays second third → Stays first third
stays_then first second third a b = record { run = b.run ∙ a.run; frames = b.frames ∙ a.frames; all = λ h. b.all (a.all h); idle = λ p h. b.idle p (a.idle p h) }
