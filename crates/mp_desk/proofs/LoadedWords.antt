-- What the words of slots that a part loaded show: a timestamp only with COMMITTED.
use Rattle.std.proofs.Common.{◌≡◌, ℕ, ◌≤◌, ◌⊎◌, List, Some, sym, subst}
use Rattle.mp_machine.specs.Machine.{run, AllAllowed}
use Rattle.mp_machine.specs.Lists.{IsIn}
use Rattle.mp_machine.specs.View.{part_in}
use Rattle.mp_machine.proofs.Lists.{each_pushed}
use Rattle.mp_machine.proofs.Time.{kept}
use Rattle.mp_core_trx.specs.declared.event.TrxEvent.{TrxEvent}
use Rattle.mp_core_trx.specs.declared.event.TrxEvent.TheVariants.{LoadTso, StoreActive, StorePrep, DrawTso, StoreEnd, LoadTit}
use Rattle.mp_core_trx.specs.declared.opening.TrxOpening.{TrxOpening}
use Rattle.mp_core_trx.specs.declared.part.Begun.{Begun}
use Rattle.mp_core_trx.specs.declared.part.SlotLoad.{SlotLoad}
use Rattle.mp_core_trx.specs.declared.slot.Shown.{Shown}
use Rattle.mp_core_trx.specs.declared.slot.SlotTag.TheVariants.{Committed}
use Rattle.mp_core_trx.specs.Words.{word_showing, shown_of}
use Rattle.mp_core_trx.specs.Parts.{shown_at, newest, greatest_seen}
use Rattle.mp_core_trx.specs.Events.{load_of}
use Rattle.mp_core_trx.specs.World.{TrxWorld, TrxNumbersFit, begun_in, slot_rows_in, drawn_in, tso_seen_in, loaded_in}
use Rattle.mp_core_trx.specs.Invariant.{TrxInv}
use Rattle.mp_core_trx.proofs.Frames.{loaded_after, loaded_are}
use Rattle.mp_core_trx.proofs.Reliable.{version_fits}
use Rattle.mp_core_trx.proofs.Words.{shown_again}
use Rattle.mp_core.specs.declared.opening.CoreOpening.{CoreOpening}
use Rattle.mp_core.specs.declared.part.CorePart.{CorePart}
use Rattle.mp_core.specs.declared.event.CoreEvent.{CoreEvent}
use Rattle.mp_core.specs.declared.event.CoreEvent.TheVariants.{Trx, Pages, Down}
use Rattle.mp_core.specs.Invariant.{NumbersFit}
use Rattle.mp_core.specs.World.{CoreWorld, core, core_after, core_part}
use Rattle.mp_core.proofs.Law.{law}
use Rattle.mp_shared.specs.Nodes.{NodeView, Reached}

-- a timestamp goes with COMMITTED alone
abbrev pub IsStamped : Shown → Type 0
IsStamped x = (x.cts ≡ 0) ⊎ (x.tag ≡ Committed)

abbrev AreStamped : (ℕ → List SlotLoad) → Type 0
AreStamped loaded = (n : ℕ) (l : SlotLoad) → IsIn l (loaded n) → IsStamped (shown_of l.word)

module _ (o : TrxOpening) (fair : TrxNumbersFit o) (w : TrxWorld) (i : TrxInv o w) (stamped : AreStamped (loaded_in w)) where
  keeps_loads : (e : TrxEvent) → AreStamped (loaded_after w e)
  keeps_loads (LoadTso n) = stamped
  keeps_loads (StoreActive n id) = stamped
  keeps_loads (StorePrep n id) = stamped
  keeps_loads (DrawTso n id) = stamped
  keeps_loads (StoreEnd n id cts) = stamped
  keeps_loads (LoadTit n whose slot) =
      let x = shown_at (slot_rows_in w whose) slot in
      let right = i.slots whose slot in
      let fits = version_fits o fair (begun_in w) i.ids (drawn_in w whose) whose slot x right in
      each_pushed (λ k l. IsStamped (shown_of l.word)) (loaded_in w) n (load_of whose slot (word_showing x) (newest (w.part n))) stamped (subst IsStamped (sym (shown_again x fits)) right.stamped)

module _ (o : CoreOpening) (fair : NumbersFit o) where
  keeps_all : (w : CoreWorld) (e : CoreEvent) → TrxInv o.trx w.trx → AreStamped (loaded_in w.trx) → AreStamped (loaded_in (core_after w e).trx)
  keeps_all w (Trx e) i stamped = subst AreStamped (sym (loaded_are w.trx e)) (keeps_loads o.trx fair.trx w.trx i stamped e)
  keeps_all w (Pages e) i stamped = stamped
  keeps_all w (Down e) i stamped = stamped

  all_stamped : (events : List CoreEvent) → AllAllowed (core o) events → AreStamped (loaded_in (run (core o) events).trx)
  all_stamped = kept (core o) (λ w. AreStamped (loaded_in w.trx)) (λ n l none. absurd none) (λ es e all stamped. keeps_all (run (core o) es) e (law o fair es all.1).trx stamped)

module _ (n : NodeView) (reached : Reached n) (p : ℕ) (q : CorePart) (has : part_in n.parts p ≡ Some q) where
  -- so it is of each part that a node has
  pub load_stamped : (l : SlotLoad) → IsIn l q.trx.loaded → IsStamped (shown_of l.word)
  load_stamped l there =
      let is : core_part (run (core n.run.opening) reached.backed.0) p ≡ q = reached.backed.2 p q has in
      all_stamped n.run.opening reached.fair reached.backed.0 reached.backed.1 p l (subst (λ (r : CorePart). IsIn l r.trx.loaded) (sym is) there)

  -- and the part knows a timestamp at or above the view of each transaction that it began
  pub view_known : (b : Begun) → IsIn b q.trx.begun → b.view ≤ newest q.trx
  view_known b there =
      let w = run (core n.run.opening) reached.backed.0 in
      let is : core_part w p ≡ q = reached.backed.2 p q has in
      let inv = (law n.run.opening reached.fair reached.backed.0 reached.backed.1).trx in
      let view = (inv.sight.views p b (subst (λ (r : CorePart). IsIn b r.trx.begun) (sym is) there)).1 in
      let known : b.view ≤ newest (w.trx.part p) = subst (λ (t : TrxOpening). b.view ≤ greatest_seen t.base.ts (tso_seen_in w.trx p)) (sym (inv.carried p)) view in
      subst (λ (r : CorePart). b.view ≤ newest r.trx) is known
