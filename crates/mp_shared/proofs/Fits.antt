-- What steps store and draw fits its word.
use Rattle.std.proofs.Common.{◌≡◌, ℕ, ◌+◌, ◌%◌, ◌^◌, ◌<◌, Bool, true, false, if◌then◌else◌, List, refl, ap, ◌∙◌, subst, arith}
use prog.Atomic.{either}
use Rattle.mp_machine.specs.Machine.{run, AllAllowed}
use Rattle.atomic_table.specs.Table.{Me}
use Rattle.mp_machine.specs.View.{View}
use Rattle.mp_machine.specs.Rule.{Word, MadeStep}
use Rattle.mp_model.specs.declared.ids.TrxId.{TrxId}
use Rattle.mp_core_trx.specs.declared.slot.Shown.{Shown}
use Rattle.mp_core_trx.specs.declared.event.TrxEvent.{TrxEvent}
use Rattle.mp_core_trx.specs.declared.event.TrxEvent.TheVariants.{DrawTso}
use Rattle.mp_machine.specs.Lists.{pushed}
use Rattle.mp_core_trx.specs.Parts.{shown_at}
use Rattle.mp_core_trx.specs.Events.{slot_row}
use Rattle.mp_core_trx.specs.World.{trx_after, slot_rows_in}
use Rattle.mp_core_trx.proofs.Frames.{rows_after, rows_are}
use Rattle.mp_core_trx.proofs.SlotWords.{shown_here}
use Rattle.mp_core_trx.proofs.Bounds.{tso_fits, shown_fits}
use Rattle.mp_core.specs.declared.opening.CoreOpening.{CoreOpening}
use Rattle.mp_core.specs.declared.part.CorePart.{CorePart}
use Rattle.mp_core.specs.declared.event.CoreEvent.{CoreEvent}
use Rattle.mp_core.specs.declared.event.CoreEvent.TheVariants.{Trx}
use Rattle.mp_core.specs.World.{Frame, core_part, core_node_of, CoreAllowed, core}
use Rattle.mp_core.specs.Invariant.{NumbersFit}
use Rattle.mp_core.proofs.Law.{law, keeps_inv}

-- a compare and exchange writes what its event makes of the word
pub exchanged : (b : Bool) (new k : ℕ) → either b new k ≡ (if b then new else k)
exchanged true new k = refl
exchanged false new k = refl

module _ (o : CoreOpening) (fair : NumbersFit o) where
  -- the TSO is far below 2^64, so it goes up by one
  pub draw_word : (n : ℕ) (id : TrxId) → Word (core o) (Trx (DrawTso n id)) (λ k. (k + 1) % 2 ^ 64)
  draw_word n id es all = let small = tso_fits o.trx (run (core o) es).trx (law o fair es all.1).trx fair.trx in omega arith

  -- what a draw found leaves room for one more
  pub drawn_fits : (n : ℕ) (id : TrxId) (before after : Me Frame (View CorePart)) (found : ℕ) → MadeStep (core o) (Trx (DrawTso n id)) before found after → found < 2 ^ 38
  drawn_fits n id before after found told =
      let came = told.4 in
      let small = tso_fits o.trx (run (core o) came.events).trx (law o fair came.events came.allowed.1).trx fair.trx in
      omega (arith, small, came.found_is)

  -- what is shown in a slot that a step stored fits its bits
  pub stored_fits : (es : List CoreEvent) → AllAllowed (core o) es → (e : TrxEvent) (n : ℕ) (id : TrxId) (x : Shown) → CoreAllowed (core_part (run (core o) es) (core_node_of (Trx e))) (Trx e)
      → rows_after (run (core o) es).trx e ≡ pushed (slot_rows_in (run (core o) es).trx) n (slot_row id x) → (x.version < 2 ^ 24) × (x.cts < 2 ^ 38)
  stored_fits es all e n id x may stores =
      let w = run (core o) es in
      let i = keeps_inv o fair w (Trx e) (law o fair es all) may in
      let is : shown_at (slot_rows_in (trx_after w.trx e) n) id.slot ≡ x = ap (λ (r : ℕ → _). shown_at (r n) id.slot) (rows_are w.trx e ∙ stores) ∙ shown_here (slot_rows_in w.trx) n (slot_row id x) in
      subst (λ (y : Shown). (y.version < 2 ^ 24) × (y.cts < 2 ^ 38)) is (shown_fits o.trx (trx_after w.trx e) i.trx fair.trx n id.slot)
