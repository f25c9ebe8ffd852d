-- What a slot's word says of a transaction whose version it shows.
use Rattle.std.proofs.Common.{◌≡◌, ℕ, ◌⊎◌, ◌∙◌, ◌==◌, Bool, true, false, if◌then◌else◌, refl, sym, ap, subst, inl, inr, ⊎_elim, arith, eq-eqb}
use Rattle.std.proofs.lemmas.Bool.{eqb-true}
use Rattle.mp_machine.specs.Machine.{run}
use Rattle.mp_model.specs.declared.ids.TrxId.{TrxId}
use Rattle.mp_core_trx.specs.declared.opening.TrxOpening.{TrxOpening}
use Rattle.mp_core_trx.specs.declared.slot.SlotTag.{SlotTag}
use Rattle.mp_core_trx.specs.declared.slot.SlotTag.TheVariants.{Free as FreeTag, Active as ActiveTag, Prep as PrepTag, Committed as CommittedTag}
use Rattle.mp_core_trx.specs.declared.slot.Shown.{Shown}
use Rattle.mp_core_trx.specs.declared.event.TrxEvent.TheVariants.{LoadTit}
use Rattle.mp_core_trx.specs.Words.{shows, shown_of, word_showing}
use Rattle.mp_core_trx.specs.Parts.{begun_of, draw_of, unused, shown_at, HasBegun, HasDrawnNothing}
use Rattle.mp_core_trx.specs.World.{TrxWorld, TrxNumbersFit, begun_in, slot_rows_in, drawn_in}
use Rattle.mp_core_trx.specs.Invariant.{SlotIsRight, TrxInv}
use Rattle.mp_core_trx.proofs.SlotWords.{two_tags}
use Rattle.mp_core_trx.proofs.Words.{shown_again}
use Rattle.mp_core_trx.proofs.Bounds.{shown_fits}
use Rattle.mp_core.specs.declared.event.CoreEvent.TheVariants.{Trx}
use Rattle.mp_core.specs.World.{core}
use Rattle.mp_core.specs.Invariant.{NumbersFit}
use Rattle.mp_shared.specs.Nodes.{NodeView, Took}
use Rattle.mp_trx_fusion.specs.declared.slot_status.SlotStatus.TheVariants.{Other}
use Rattle.mp_trx_fusion.specs.Statuses.{status_by, status_of, StatusSays, Stood}
use Rattle.mp_trx_fusion.proofs.Sights.{inv_before}

module _ (o : TrxOpening) (w : TrxWorld) (i : TrxInv o w) (id : TrxId) where
  -- a transaction with the version 0 was not begun, so it has drawn nothing
  none_of_zero : id.version ≡ 0 → HasDrawnNothing (drawn_in w id.node) id
  none_of_zero zero cts drawn =
      let begun = i.drawers.had_begun id.node (draw_of id cts) drawn in
      let above = (i.ids.versions id.node (begun_of id begun.0) begun.1).0 in
      absurd (omega (arith, above, zero))

  -- no tag but COMMITTED goes with a timestamp
  unstamped : (tag : SlotTag) (cts : ℕ) → (cts ≡ 0) ⊎ (tag ≡ CommittedTag) → ¬ (tag ≡ CommittedTag) → shows tag id.version cts ≡ shows tag id.version 0
  unstamped tag cts (inl none) d = ap (shows tag id.version) none
  unstamped tag cts (inr is) d = absurd (d is)

  abbrev Right : Shown → Type 0
  Right x = SlotIsRight id.node id.slot (begun_in w id.node) (drawn_in w id.node) x

  -- by what the slot shows with the transaction's version
  abbrev Slot : Shown → Type 0
  Slot x = shown_at (slot_rows_in w id.node) id.slot ≡ x

  by_tag : (tag : SlotTag) (cts : ℕ) → Right (shows tag id.version cts) → Slot (shows tag id.version cts) → StatusSays id (status_by tag cts) w
  by_tag FreeTag cts r s =
      let free : shows FreeTag id.version cts ≡ shows FreeTag id.version 0 = unstamped FreeTag cts r.stamped (λ e. cc) in (
        ⊎_elim
            (λ (u : shows FreeTag id.version cts ≡ unused). none_of_zero (ap (λ (x : Shown). x.version) u))
            (λ (begun : HasBegun (begun_in w id.node) id). r.free id begun refl free)
            r.known,
        s ∙ free,
      )
  by_tag ActiveTag cts r s =
      ⊎_elim
      (λ (u : shows ActiveTag id.version cts ≡ unused). two_tags (shows ActiveTag id.version cts) unused u (λ e. absurd (omega arith)))
      (λ (begun : HasBegun (begun_in w id.node) id). (begun, r.active id begun refl (unstamped ActiveTag cts r.stamped (λ e. cc))))
      r.known
  by_tag PrepTag cts r s =
      ⊎_elim
      (λ (u : shows PrepTag id.version cts ≡ unused). two_tags (shows PrepTag id.version cts) unused u (λ e. absurd (omega arith)))
      (λ (begun : HasBegun (begun_in w id.node) id). begun)
      r.known
  by_tag CommittedTag cts r s = r.committed id.version cts refl

  by_version : (b : Bool) (x : Shown) → (x.version == id.version) ≡ b → Right x → Slot x → (HasBegun (begun_in w id.node) id → x.version ≡ id.version) → StatusSays id (if b then status_by x.tag x.cts else Other) w
  by_version true x is r s once =
      let same : x ≡ shows x.tag id.version x.cts = λ k. record { tag = x.tag; version = eqb-true x.version id.version is k; cts = x.cts } in
      by_tag x.tag x.cts (subst Right same r) (s ∙ same)
  by_version false x is r s once = λ begun. let own = eq-eqb x.version id.version (once begun) in cc

  pub says : TrxNumbersFit o → StatusSays id (status_of id (shown_of (word_showing (shown_at (slot_rows_in w id.node) id.slot)))) w
  says fair =
      let x = shown_at (slot_rows_in w id.node) id.slot in
      let again = shown_again x (shown_fits o w i fair id.node id.slot).0 in
      subst (λ y. StatusSays id (status_of id y) w) (sym again) (by_version (x.version == id.version) x refl (i.slots id.node id.slot) refl (i.once id.node id))

-- what a load of its slot's word tells of a transaction
pub stood : (p : ℕ) (id : TrxId) (before after : NodeView) (found : ℕ) → Took (Trx (LoadTit p id.node id.slot)) before found after → Stood before id (status_of id (shown_of found))
stood p id before after found took =
    let o = before.run.opening in
    let w = run (core o) took.came.events in
    let fair = subst NumbersFit (ap (λ (x : NodeView). x.run.opening) took.becomes) took.reached.fair in
    let i = inv_before (Trx (LoadTit p id.node id.slot)) before after found took in
    (took.came.events, took.came.allowed.1, took.came.agreed, subst (λ k. StatusSays id (status_of id (shown_of k)) w.trx) took.came.found_is (says o.trx w.trx i.trx id fair.trx))
