-- What a step on the timestamp oracle tells: the TSO as it was, against what the node knew.
use Rattle.std.proofs.Common.{◌≡◌, ℕ, ◌≤◌, Option, Some, None, refl, sym, ap, ◌∙◌, subst, arith}
use Rattle.mp_machine.specs.Machine.{run}
use Rattle.mp_machine.specs.View.{part_in}
use Rattle.mp_core_trx.specs.declared.opening.TrxOpening.{TrxOpening}
use Rattle.mp_core_trx.specs.declared.part.TrxPart.{TrxPart}
use Rattle.mp_core_trx.specs.declared.event.TrxEvent.TheVariants.{LoadTso}
use Rattle.mp_core_trx.specs.Parts.{greatest_seen, newest}
use Rattle.mp_core_trx.specs.World.{begun_in, tso_seen_in, loaded_in}
use Rattle.mp_core_trx.proofs.Sight.{greatest_drawn}
use Rattle.mp_core_trx.proofs.Law.{tso_exact}
use Rattle.mp_core.specs.declared.part.CorePart.{CorePart}
use Rattle.mp_core.specs.declared.event.CoreEvent.{CoreEvent}
use Rattle.mp_core.specs.declared.event.CoreEvent.TheVariants.{Trx}
use Rattle.mp_core.specs.World.{CoreWorld, core_part, core}
use Rattle.mp_core.specs.Invariant.{NumbersFit, CoreInv}
use Rattle.mp_core.proofs.Law.{law}
use Rattle.mp_shared.specs.Nodes.{NodeView, HoldsAll, Took}
use Rattle.mp_trx_fusion.specs.Calls.{Knows, trx_in, tso_of}

-- a part of transactions that is held is the world's
of_world : (w : CoreWorld) (n : ℕ) (x : Option CorePart) → ((q : CorePart) → x ≡ Some q → core_part w n ≡ q) → (p : TrxPart) → trx_in x ≡ Some p → w.trx.part n ≡ p
of_world w n (Some q) agrees p has = let is : q.trx ≡ p = cc in ap (λ (x : CorePart). x.trx) (agrees q refl) ∙ is
of_world w n None agrees p has = absurd (cc)

module _ (e : CoreEvent) (before after : NodeView) (found : ℕ) (took : Took e before found after) where
  abbrev world : CoreWorld
  world = run (core before.run.opening) took.came.events

  -- the invariant held as the step came
  pub inv_before : CoreInv before.run.opening world
  inv_before =
      let fair = subst NumbersFit (ap (λ (x : NodeView). x.run.opening) took.becomes) took.reached.fair in
      law before.run.opening fair took.came.events took.came.allowed.1

  -- nobody knew a timestamp above the TSO's
  pub knew : (p : ℕ) (q : CorePart) → part_in before.parts p ≡ Some q → newest q.trx ≤ world.trx.tso
  knew p q has =
      let i = inv_before.trx in
      let w = world.trx in
      let most = greatest_drawn before.run.opening.trx.base.ts w.tso (begun_in w) (tso_seen_in w) (loaded_in w) i.sight p in
      let there = subst (λ (x : TrxOpening). greatest_seen x.base.ts (tso_seen_in w p) ≤ w.tso) (sym (i.carried p)) most in
      subst (λ (x : CorePart). newest x.trx ≤ w.tso) (took.came.agreed p q has) there

  -- and a node that holds all parts knew how many were drawn
  pub counted : HoldsAll before → world.trx.tso ≡ tso_of before
  counted all =
      tso_exact before.run.opening.trx world.trx inv_before.trx (λ k. trx_in (part_in before.parts k))
      (λ n. of_world world n (part_in before.parts n) (took.came.agreed n))
      (λ n node. let has = all n node in (has.0.trx, ap trx_in has.1))

module _ (p : ℕ) (before after : NodeView) (found : ℕ) (took : Took (Trx (LoadTso p)) before found after) where
  pub newest_seen : Knows before p found
  newest_seen q has = let below = knew (Trx (LoadTso p)) before after found took p q has in omega (arith, took.came.found_is)

  pub exactly : HoldsAll before → found ≡ tso_of before
  exactly all = sym took.came.found_is ∙ counted (Trx (LoadTso p)) before after found took all
