-- What may come after each call: so a caller goes from one call to the next.
use Rattle.std.proofs.Common.{◌≡◌, ℕ, ◌+◌, ◌<◌, ◌≤◌, ◌⊎◌, List, ◌∷◌, Option, Some, None, not, ◌==◌, if◌then◌else◌, refl, sym, ap, ◌∙◌, subst, inl, inr, ⊎_elim, arith, eq-eqb, ne_eqb}
use Rattle.mp_machine.specs.Machine.{run}
use Rattle.mp_machine.specs.View.{part_in}
use Rattle.mp_machine.proofs.Views.{part_in-with_here, part_in-with_else, part_in-only, part_in-whole}
use Rattle.mp_model.specs.declared.ids.TrxId.{TrxId}
use Rattle.mp_core_trx.specs.declared.opening.TheConstants.{SLOTS}
use Rattle.mp_core_trx.specs.declared.opening.TrxOpening.{TrxOpening}
use Rattle.mp_core_trx.specs.declared.slot.SlotTag.TheVariants.{Active, Prep}
use Rattle.mp_core_trx.specs.declared.slot.Shown.{Shown}
use Rattle.mp_core_trx.specs.declared.part.Begun.{Begun}
use Rattle.mp_core_trx.specs.declared.part.SlotRow.{SlotRow}
use Rattle.mp_core_trx.specs.declared.part.TrxPart.{TrxPart}
use Rattle.mp_core_trx.specs.declared.event.TrxEvent.{TrxEvent}
use Rattle.mp_core_trx.specs.declared.event.TrxEvent.TheVariants.{LoadTso, StoreActive, StorePrep, DrawTso, StoreEnd, LoadTit}
use Rattle.mp_machine.specs.Lists.{IsIn}
use Rattle.mp_core_trx.specs.Parts.{shown_at, Shows, HasBegun, HasDrawnNothing}
use Rattle.mp_core_trx.specs.Events.{IsNode, trx_node_of, slot_row, TrxAllowed, with_slot_load, with_prep, with_draw}
use Rattle.mp_core_trx.specs.Words.{shows}
use Rattle.mp_core_pages.specs.PageParts.{last_llsn}
use Rattle.mp_core.specs.declared.part.CorePart.{CorePart}
use Rattle.mp_core.specs.declared.event.CoreEvent.{CoreEvent}
use Rattle.mp_core.specs.declared.event.CoreEvent.TheVariants.{Trx}
use Rattle.mp_core.specs.Contents.{page_ops}
use Rattle.mp_core.specs.World.{MayHere, core_node_of, core_part, core_start, core}
use Rattle.mp_core.specs.OwnMtrs.{owner_of}
use Rattle.mp_core.proofs.Law.{law}
use Rattle.mp_shared.specs.Nodes.{NodeView, Run, Reached, HoldsPart, MayTake, changed_part, first_node, node_without, node_of_one}
use Rattle.mp_shared.proofs.Holding.{holds_the_part}
use Rattle.mp_trx_fusion.specs.Calls.{with_trx, with_begin, MayBeginTrx, MayLook}
use Rattle.mp_trx_fusion.specs.CommitLogs.{MayCommitAt, LogEndsAt}
use Rattle.mp_trx_fusion.proofs.CommitsAlone.{nobody_owns}

shown_first : (id : TrxId) (x : Shown) (rows : List SlotRow) → shown_at (slot_row id x ∷ rows) id.slot ≡ x
shown_first id x rows = ap (λ b. if b then x else shown_at rows id.slot) (eq-eqb id.slot id.slot refl)

-- a call of one primary: the node before it and after it
module _ (n later : NodeView) (p : ℕ) (f : TrxPart → TrxPart) (steps : ℕ) (is : later ≡ with_trx n p f steps) where
  -- it changes the part of that primary, and no other
  pub part_here : (q : CorePart) → part_in n.parts p ≡ Some q → part_in later.parts p ≡ Some (record q { trx = f q.trx; ops = q.ops + steps })
  part_here q has =
      ap (λ (v : NodeView). part_in v.parts p) is ∙ ap (λ x. part_in (changed_part n.parts p (λ r. record r { trx = f r.trx; ops = r.ops + steps }) x) p) has ∙ part_in-with_here n.parts p (record q { trx = f q.trx; ops = q.ops + steps }) q has

  pub part_else : (k : ℕ) → ¬ (k ≡ p) → part_in later.parts k ≡ part_in n.parts k
  part_else k other = ap (λ (v : NodeView). part_in v.parts k) is ∙ of_held (part_in n.parts p)
    where
      of_held : (x : Option CorePart) → part_in (changed_part n.parts p (λ r. record r { trx = f r.trx; ops = r.ops + steps }) x) k ≡ part_in n.parts k
      of_held (Some q) = part_in-with_else n.parts p k (record q { trx = f q.trx; ops = q.ops + steps }) other
      of_held None = refl

  -- so what another primary may do stays
  pub may_take_else : (e : CoreEvent) → ¬ (core_node_of e ≡ p) → MayTake e n → MayTake e later
  may_take_else e other may = (may.0, part_else (core_node_of e) other ∙ may.1, may.2)

  pub may_begin_else : (k version : ℕ) → ¬ (k ≡ p) → MayBeginTrx n k version → MayBeginTrx later k version
  may_begin_else k version other may = record { mine = may.mine; holds = part_else k other ∙ may.holds; node = may.node; above = may.above; within = may.within; fresh = may.fresh }

  pub may_look_else : (k : ℕ) (id : TrxId) → ¬ (k ≡ p) → MayLook n k id → MayLook later k id
  may_look_else k id other may = (may.0, part_else k other ∙ may.1, may.2, may.3, may.4)

  pub may_look_here : (id : TrxId) → ((q : TrxPart) → (f q).opening ≡ q.opening) → MayLook n p id → MayLook later p id
  may_look_here id same may =
      let q = may.0 in (
        record q { trx = f q.trx; ops = q.ops + steps },
        part_here q may.1,
        subst (λ (o : TrxOpening). IsNode o p) (sym (same q.trx)) may.2,
        subst (λ (o : TrxOpening). IsNode o id.node) (sym (same q.trx)) may.3,
        may.4,
      )

  pub log_else : (k llsn version : ℕ) → ¬ (k ≡ p) → LogEndsAt n k llsn version → LogEndsAt later k llsn version
  log_else k llsn version other log = record { mine = log.mine; holds = part_else k other ∙ log.holds; last = log.last; few = log.few; alone = log.alone; below = log.below }

  -- a version that was free stays so, where nothing is begun, or with another version
  pub may_begin_here : (version : ℕ) → ((q : TrxPart) → (f q).opening ≡ q.opening) → ((q : TrxPart) (b : Begun) → IsIn b (f q).begun → IsIn b q.begun ⊎ (¬ (b.id.version ≡ version))) → MayBeginTrx n p version → MayBeginTrx later p version
  may_begin_here version same keeps may =
      let q = may.mine in
      record {
        mine = record q { trx = f q.trx; ops = q.ops + steps };
        holds = part_here q may.holds;
        node = subst (λ (o : TrxOpening). IsNode o p) (sym (same q.trx)) may.node;
        above = subst (λ (o : TrxOpening). o.base.version < version) (sym (same q.trx)) may.above;
        within = subst (λ (o : TrxOpening). version ≤ o.base.version + o.begins) (sym (same q.trx)) may.within;
        fresh = λ b has. ⊎_elim (λ (old : IsIn b q.trx.begun). may.fresh b old) (λ (other : ¬ (b.id.version ≡ version)). other) (keeps q.trx b has);
      }

  -- its log stays
  pub log_here : (llsn version : ℕ) → ((q : TrxPart) → (f q).opening ≡ q.opening) → LogEndsAt n p llsn version → LogEndsAt later p llsn version
  log_here llsn version same log =
      let q = log.mine in
      record {
        mine = record q { trx = f q.trx; ops = q.ops + steps };
        holds = part_here q log.holds;
        last = subst (λ (o : TrxOpening). last_llsn page_ops o.base.llsn q.pages.made ≡ llsn) (sym (same q.trx)) log.last;
        few = log.few;
        alone = log.alone;
        below = log.below;
      }

-- what a primary may do stays as it looks where a transaction stands
still_allowed : (id : TrxId) (word : ℕ) (e : TrxEvent) (q : TrxPart) → TrxAllowed q e → TrxAllowed (with_slot_load id.node id.slot word q) e
still_allowed id word (LoadTso n) q may = may
still_allowed id word (StoreActive n of) q may =
    (may.0, record { own = may.1.own; above = may.1.above; within = may.1.within; fresh = may.1.fresh; in_range = may.1.in_range; usable = may.1.usable })
still_allowed id word (StorePrep n of) q may = may
still_allowed id word (DrawTso n of) q may = may
still_allowed id word (StoreEnd n of (Some cts)) q may = may
still_allowed id word (StoreEnd n of None) q may = may
still_allowed id word (LoadTit n whose slot) q may = may

still_here : (id : TrxId) (word : ℕ) (e : TrxEvent) (q : CorePart) → MayHere q e → MayHere (record q { trx = with_slot_load id.node id.slot word q.trx; ops = q.ops + 1 }) e
still_here id word (LoadTso n) q may = tt
still_here id word (StoreActive n of) q may = tt
still_here id word (StorePrep n of) q may = tt
still_here id word (DrawTso n of) q may = tt
still_here id word (StoreEnd n of (Some cts)) q may = may
still_here id word (StoreEnd n of None) q may = may
still_here id word (LoadTit n whose slot) q may = tt

pub may_take_looked : (n later : NodeView) (p : ℕ) (id : TrxId) (word : ℕ) → later ≡ with_trx n p (with_slot_load id.node id.slot word) 1 → (e : TrxEvent) → trx_node_of e ≡ p → MayTake (Trx e) n → MayTake (Trx e) later
may_take_looked n later p id word is e own may =
    let q = may.0 in
    let has : part_in n.parts p ≡ Some q = subst (λ k. part_in n.parts k ≡ Some q) own may.1 in (
      record q { trx = with_slot_load id.node id.slot word q.trx; ops = q.ops + 1 },
      subst (λ k. part_in later.parts k ≡ Some (record q { trx = with_slot_load id.node id.slot word q.trx; ops = q.ops + 1 })) (sym own) (part_here n later p (with_slot_load id.node id.slot word) _ is q has),
      (still_allowed id word e q.trx may.2.0, still_here id word e q may.2.1),
    )

-- one that is ACTIVE has drawn nothing
pub drew_nothing : (n : NodeView) (p : ℕ) (id : TrxId) → Reached n → (may : MayTake (Trx (StorePrep p id)) n) → HasDrawnNothing may.0.trx.drew id
drew_nothing n p id r may =
    let w = run (core n.run.opening) r.backed.0 in
    let i = law n.run.opening r.fair r.backed.0 r.backed.1 in
    let is : core_part w p ≡ may.0 = r.backed.2 p may.0 may.1 in
    let begun : HasBegun (w.trx.part p).begun id = subst (λ (x : CorePart). HasBegun x.trx.begun id) (sym is) may.2.0.1.0 in
    let shown : Shows (w.trx.part p).rows id Active = subst (λ (x : CorePart). Shows x.trx.rows id Active) (sym is) may.2.0.1.1 in
    subst (λ (x : CorePart). HasDrawnNothing x.trx.drew id) is ((i.trx.slots p id.slot).active id begun refl shown)

-- so it may be freed, where the log has nothing but commit records
pub may_free : (n : NodeView) (p : ℕ) (id : TrxId) → Reached n → MayTake (Trx (StorePrep p id)) n → (llsn version : ℕ) → LogEndsAt n p llsn version → MayTake (Trx (StoreEnd p id None)) n
may_free n p id r may llsn version log =
    let same : log.mine ≡ may.0 = (let both = sym log.holds ∙ may.1 in cc) in
    (may.0, may.1, ((may.2.0.0, ((may.2.0.1.0, inl may.2.0.1.1), drew_nothing n p id r may)), subst (λ (q : CorePart). (key : ℕ) → owner_of q.pages.made key ≡ Some id → ⊥) same (nobody_owns log.mine.pages.made log.alone id)))

module _ (n later : NodeView) (p : ℕ) where
  -- a transaction that began may be prepared
  pub may_prepare : (version : ℕ) (b : Begun) → later ≡ with_trx n p (with_begin b) 2 → MayBeginTrx n p version → MayTake (Trx (StorePrep p b.id)) later
  may_prepare version b is may =
      let q = may.mine in
      (record q { trx = with_begin b q.trx; ops = q.ops + 2 }, part_here n later p (with_begin b) _ is q may.holds, ((may.node, ((b.view, inl refl), shown_first b.id (shows Active b.id.version 0) q.trx.rows)), tt))

  -- and another begun with another version
  pub may_begin_after : (version : ℕ) (b : Begun) → later ≡ with_trx n p (with_begin b) 2 → ¬ (b.id.version ≡ version) → MayBeginTrx n p version → MayBeginTrx later p version
  may_begin_after version b is other may =
      may_begin_here n later p (with_begin b) _ is version (λ q. refl)
      (λ q x has. ⊎_elim (λ (new : x ≡ b). inr (subst (λ (y : Begun). ¬ (y.id.version ≡ version)) (sym new) other)) (λ (old : IsIn x q.begun). inl old) has)
      may

  -- once prepared it may draw
  pub may_draw : (id : TrxId) → later ≡ with_trx n p (with_prep id) 1 → Reached n → MayTake (Trx (StorePrep p id)) n → MayTake (Trx (DrawTso p id)) later
  may_draw id is r may =
      let q = may.0 in
      (record q { trx = with_prep id q.trx; ops = q.ops + 1 }, part_here n later p (with_prep id) _ is q may.1, ((may.2.0.0, (may.2.0.1.0, shown_first id (shows Prep id.version 0) q.trx.rows, drew_nothing n p id r may)), tt))

  -- and once it drew it may be committed at that timestamp
  pub may_commit : (id : TrxId) (cts : ℕ) → later ≡ with_trx n p (with_draw id cts) 1 → MayTake (Trx (DrawTso p id)) n → MayCommitAt later p id cts
  may_commit id cts is may =
      let q = may.0 in
      record {
        mine = record q { trx = with_draw id cts q.trx; ops = q.ops + 1 };
        holds = part_here n later p (with_draw id cts) _ is q may.1;
        node = may.2.0.0;
        begun = may.2.0.1.0;
        prepared = may.2.0.1.1;
        drawn = inl refl;
      }

-- before any step each primary may begin with each version of the run, and look where a transaction stands
module _ (r : Run) (p : ℕ) (node : IsNode r.opening.trx p) where
  first_part : part_in (first_node r).parts p ≡ Some (core_part (core_start r.opening) p)
  first_part = part_in-whole (core_part (core_start r.opening)) (r.opening.trx.primaries + 1) p (omega (arith, node.1))

  pub may_begin_first : (version : ℕ) → r.opening.trx.base.version < version → version ≤ r.opening.trx.base.version + r.opening.trx.begins → MayBeginTrx (first_node r) p version
  may_begin_first version above within = record { mine = core_part (core_start r.opening) p; holds = first_part; node = node; above = above; within = within; fresh = λ b has. absurd has }

  pub may_look_first : (id : TrxId) → IsNode r.opening.trx id.node → id.slot < SLOTS → MayLook (first_node r) p id
  may_look_first id of_node slot = (core_part (core_start r.opening) p, first_part, node, of_node, slot)

  -- over a base of zeros no log has anything
  pub log_first : r.opening.trx.base.llsn ≡ 0 → LogEndsAt (first_node r) p 0 0
  log_first zeros = record { mine = core_part (core_start r.opening) p; holds = first_part; last = zeros; few = omega arith; alone = λ x is. absurd is; below = λ x id cts is. absurd is }

-- and so it may after its part went to a node of its own, or another's did
module _ (n later : NodeView) (p : ℕ) where
  pub log_alone : (llsn version : ℕ) → later ≡ node_of_one p n → LogEndsAt n p llsn version → LogEndsAt later p llsn version
  log_alone llsn version is log = record {
    mine = log.mine;
    holds = ap (λ (v : NodeView). part_in v.parts p) is ∙ part_in-only (λ k. k == p) n.parts p ∙ ap (λ b. if b then part_in n.parts p else None) (eq-eqb p p refl) ∙ log.holds;
    last = log.last;
    few = log.few;
    alone = log.alone;
    below = log.below;
  }

  pub log_without : (llsn version : ℕ) → later ≡ node_without p n → (k : ℕ) → ¬ (k ≡ p) → LogEndsAt n k llsn version → LogEndsAt later k llsn version
  log_without llsn version is k other log = record {
    mine = log.mine;
    holds = ap (λ (v : NodeView). part_in v.parts k) is ∙ part_in-only (λ j. not (j == p)) n.parts k ∙ ap (λ b. if not b then part_in n.parts k else None) (ne_eqb k p other) ∙ log.holds;
    last = log.last;
    few = log.few;
    alone = log.alone;
    below = log.below;
  }

  pub may_begin_alone : later ≡ node_of_one p n → (version : ℕ) → MayBeginTrx n p version → MayBeginTrx later p version
  may_begin_alone is version may = record {
    mine = may.mine;
    holds = ap (λ (v : NodeView). part_in v.parts p) is ∙ part_in-only (λ k. k == p) n.parts p ∙ ap (λ b. if b then part_in n.parts p else None) (eq-eqb p p refl) ∙ may.holds;
    node = may.node;
    above = may.above;
    within = may.within;
    fresh = may.fresh;
  }

  pub may_begin_without : later ≡ node_without p n → (k version : ℕ) → ¬ (k ≡ p) → MayBeginTrx n k version → MayBeginTrx later k version
  may_begin_without is k version other may = record {
    mine = may.mine;
    holds = ap (λ (v : NodeView). part_in v.parts k) is ∙ part_in-only (λ j. not (j == p)) n.parts k ∙ ap (λ b. if not b then part_in n.parts k else None) (ne_eqb k p other) ∙ may.holds;
    node = may.node;
    above = may.above;
    within = may.within;
    fresh = may.fresh;
  }

-- versions above a bound are above a lower one
pub log_below : (n : NodeView) (p llsn low high : ℕ) → low ≤ high → LogEndsAt n p llsn low → LogEndsAt n p llsn high
log_below n p llsn low high more log = record {
  mine = log.mine;
  holds = log.holds;
  last = log.last;
  few = log.few;
  alone = log.alone;
  below = λ x id cts is commits. let less = log.below x id cts is commits in omega (arith, less, more);
}

-- who may begin holds its part
pub holds_part : (n : NodeView) (p version : ℕ) → MayBeginTrx n p version → HoldsPart n p
holds_part n p version may = holds_the_part n p may.mine may.holds may.node
