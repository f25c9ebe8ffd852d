-- A part saw each timestamp that it drew, so none of these is above all that it knows.
use Rattle.std.proofs.Common.{◌≡◌, ℕ, ◌≤◌, List, Some, sym, ap, subst, inl, inr}
use Rattle.std.proofs.lemmas.Bool.{cases_eq}
use Rattle.mp_machine.specs.Lists.{IsIn}
use Rattle.mp_machine.specs.Machine.{run, AllAllowed}
use Rattle.mp_machine.specs.View.{part_in}
use Rattle.mp_machine.proofs.Lists.{updated_here, updated_else}
use Rattle.mp_machine.proofs.Time.{kept}
use Rattle.mp_core_trx.specs.declared.part.Draw.{Draw}
use Rattle.mp_core_trx.specs.declared.part.TrxPart.{TrxPart}
use Rattle.mp_core_trx.specs.declared.event.TrxEvent.{TrxEvent}
use Rattle.mp_core_trx.specs.declared.event.TrxEvent.TheVariants.{LoadTso, StoreActive, StorePrep, DrawTso, StoreEnd, LoadTit}
use Rattle.mp_core_trx.specs.Parts.{newest}
use Rattle.mp_core_trx.specs.Events.{trx_node_of, trx_place_of, trx_made}
use Rattle.mp_core_trx.specs.World.{TrxWorld, trx_content, trx_part_after, trx_after}
use Rattle.mp_core_trx.proofs.Sight.{greatest_least}
use Rattle.mp_core.specs.declared.opening.CoreOpening.{CoreOpening}
use Rattle.mp_core.specs.declared.part.CorePart.{CorePart}
use Rattle.mp_core.specs.declared.event.CoreEvent.{CoreEvent}
use Rattle.mp_core.specs.declared.event.CoreEvent.TheVariants.{Trx, Pages, Down}
use Rattle.mp_core.specs.World.{CoreWorld, core_after, core_part, core}
use Rattle.mp_shared.specs.Nodes.{NodeView, Reached}

abbrev SawItsDraws : TrxPart → Type 0
SawItsDraws p = (d : Draw) → IsIn d p.drew → IsIn d.cts p.seen

made_saw : (e : TrxEvent) (found : ℕ) (p : TrxPart) → SawItsDraws p
    → (d : Draw) → IsIn d (trx_made e found p).drew → IsIn d.cts (trx_made e found p).seen
made_saw (LoadTso n) found p saw d there = inr (saw d there)
made_saw (StoreActive n id) found p saw d there = saw d there
made_saw (StorePrep n id) found p saw d there = saw d there
made_saw (DrawTso n id) found p saw d there = elim there [
  | inl same ↦ inl (ap (λ (x : Draw). x.cts) same)
  | inr before ↦ inr (saw d before)
]
made_saw (StoreEnd n id cts) found p saw d there = saw d there
made_saw (LoadTit n whose slot) found p saw d there = saw d there

trx_saw : (w : TrxWorld) (e : TrxEvent) → ((n : ℕ) → SawItsDraws (w.part n)) → (n : ℕ) → SawItsDraws ((trx_after w e).part n)
trx_saw w e saw n = elim (cases_eq n (trx_node_of e)) [
  | inl same ↦
      subst (λ (k : ℕ). SawItsDraws ((trx_after w e).part k)) (sym same)
      (subst (λ (p : TrxPart). SawItsDraws p) (sym (updated_here w.part (trx_node_of e) (trx_part_after w e)))
      (made_saw e (trx_content w (trx_place_of e)) (w.part (trx_node_of e)) (saw (trx_node_of e))))
  | inr other ↦ subst (λ (p : TrxPart). SawItsDraws p) (sym (updated_else w.part (trx_node_of e) (trx_part_after w e) n other)) (saw n)
]

core_saw : (w : CoreWorld) (e : CoreEvent) → ((n : ℕ) → SawItsDraws (w.trx.part n)) → (n : ℕ) → SawItsDraws ((core_after w e).trx.part n)
core_saw w (Trx e) saw = trx_saw w.trx e saw
core_saw w (Pages e) saw = saw
core_saw w (Down e) saw = saw

all_saw : (o : CoreOpening) (es : List CoreEvent) → AllAllowed (core o) es → (n : ℕ) → SawItsDraws ((run (core o) es).trx.part n)
all_saw o = kept (core o) (λ w. (n : ℕ) → SawItsDraws (w.trx.part n)) (λ n d there. absurd there) (λ es e all saw. core_saw (run (core o) es) e saw)

-- so the part of a node knows each
pub knows_drawn : (n : NodeView) → Reached n → (p : ℕ) (q : CorePart) → part_in n.parts p ≡ Some q
    → (d : Draw) → IsIn d q.trx.drew → d.cts ≤ newest q.trx
knows_drawn n reached p q has d there =
    let backed = reached.backed in
    let its : core_part (run (core n.run.opening) backed.0) p ≡ q = backed.2 p q has in
    greatest_least q.trx.opening.base.ts q.trx.seen d.cts
    (subst (λ (x : CorePart). SawItsDraws x.trx) its (all_saw n.run.opening backed.0 backed.1 p) d there)
