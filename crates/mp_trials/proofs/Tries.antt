-- What one try to write a page leaves, however it ends.
use Rattle.std.proofs.Common.{◌≡◌, ℕ, ◌+◌, ◌≤◌, List, length, Option, Some, None, Ok, refl, sym, ◌∙◌, subst, arith}
use Rattle.std.specs.Option.{option_map}
use Rattle.mp_machine.specs.View.{part_in}
use Rattle.mp_model.specs.declared.waiting.NotYet.{NotYet}
use Rattle.mp_cells.specs.PageView.{PageView}
use Rattle.mp_core_pages.specs.PageParts.{durable_llsn, own_llsn}
use Rattle.mp_core_pages.specs.declared.page_lock.Held.TheVariants.{No, Write}
use Rattle.mp_core.specs.declared.part.CorePart.{CorePart}
use Rattle.mp_core.specs.Contents.{page_ops}
use Rattle.mp_shared.specs.Nodes.{NodeView, HoldsPart}
use Rattle.mp_shared.specs.PageSteps.{held_in}
use Rattle.mp_lock_fusion.specs.LockCalls.{CameToWrite, CouldNotWrite}
use Rattle.mp_lock_fusion.proofs.LockCallers.{holds_write}
use Rattle.mp_buffer_fusion.specs.declared.buffer.Buffer.{Buffer}
use Rattle.mp_buffer_fusion.specs.Buffers.{buffer_of, IsBuffered, with_buffer, cleaned_buffer}
use Rattle.mp_buffer_fusion.specs.Agreement.{AgreesIn, IsDurablePage}
use Rattle.mp_buffer_fusion.specs.Visits.{Visits}
use Rattle.mp_buffer_fusion.specs.Fetching.{FetchesPlace, MissesPage}
use Rattle.mp_buffer_fusion.proofs.Fetches.{agrees_missed}
use Rattle.mp_buffer_fusion.proofs.Buffered.{change_of, of_changed}
use Rattle.mp_buffer_fusion.proofs.Visiting.{one_part}
use Rattle.mp_trials.specs.Turns.{HasForcedLog, KeepsLog, HasPage}
use Rattle.mp_trials.proofs.Forced.{forced_holds, keeps_then, keeps_came, keeps_missed, agrees_came, still_written, held_visit, keeps_visit, held_missed, fetched_place}

write_is_lock : Write ≡ No → ⊥
write_is_lock e = cc

pub forced_kept : (p : ℕ) (before after : NodeView) → KeepsLog p before after → HasForcedLog before p → HasForcedLog after p
forced_kept p before after k h = (h.0, k.forced h.0 h.1)

-- the lock could not be had
module _ (p k seen : ℕ) (before after : NodeView) (pool : List Buffer) (h : HasForcedLog before p) (could_not : CouldNotWrite p k before seen after) where
  pub refused_keeps : KeepsLog p before after
  refused_keeps = keeps_missed p before after could_not.becomes

  pub refused_agrees : AgreesIn pool before p → AgreesIn pool after p
  refused_agrees agrees = agrees_missed pool before after p could_not.becomes (forced_holds before p h) agrees

  pub refused_others : (j : ℕ) → HasPage pool before p j → HasPage pool after p j
  refused_others j has = (has.0, held_missed p before after h.1.mine h.1.holds could_not.becomes j ∙ has.1)

-- it was had
module _ (p k : ℕ) (before mid : NodeView) (pool : List Buffer) (h : HasForcedLog before p) (came : CameToWrite p k before mid) where
  pub came_forced : HasForcedLog mid p
  came_forced = forced_kept p before mid (keeps_came p k before mid came) h

  pub came_holds : HoldsPart mid p
  came_holds = forced_holds mid p came_forced

  pub came_writes : held_in mid p k ≡ Write
  came_writes = holds_write before mid p k h.1.mine h.1.holds came

  pub came_locked : ¬ (held_in mid p k ≡ No)
  came_locked none = write_is_lock (sym came_writes ∙ none)

  pub came_agrees : AgreesIn pool before p → AgreesIn pool mid p
  came_agrees agrees = agrees_came pool p k before mid came (forced_holds before p h) agrees

  -- and the frame was missed
  module _ (steps counted : ℕ) (wait : NotYet) (after : NodeView) (later : List Buffer) (missed : MissesPage p k pool later mid after steps counted wait) where
    pub missed_keeps : KeepsLog p before after
    missed_keeps = keeps_then p before mid after (keeps_came p k before mid came) (keeps_missed p mid after missed.becomes)

    pub missed_others : (j : ℕ) → HasPage pool before p j → HasPage later after p j
    missed_others j has =
        let f = came_forced in (
          subst (λ (l : List Buffer). IsBuffered l j) (sym missed.same) has.0,
          held_missed p mid after f.1.mine f.1.holds missed.becomes j ∙ still_written p k before mid h.1.mine h.1.holds came j has.1,
        )

  -- and the page came into a buffer
  module _ (steps counted i : ℕ) (after : NodeView) (later : List Buffer) (fetched : FetchesPlace p k pool later mid after steps counted (Ok i)) where
    pub had_keeps : KeepsLog p before after
    had_keeps =
        let f = came_forced in
        keeps_then p before mid after (keeps_came p k before mid came) (fetched_place p k steps counted i pool later mid after f.1.mine f.1.holds fetched).0.keeps

    pub had_others : (j : ℕ) → HasPage pool before p j → HasPage later after p j
    had_others j has =
        let f = came_forced in
        let got = (fetched_place p k steps counted i pool later mid after f.1.mine f.1.holds fetched).0 in
        (got.buffered j has.0, got.held j ∙ still_written p k before mid h.1.mine h.1.holds came j has.1)

    pub had_page : HasPage later after p k
    had_page =
        let f = came_forced in
        let got = fetched_place p k steps counted i pool later mid after f.1.mine f.1.holds fetched in
        (got.1, got.0.held k ∙ came_writes)

    pub had_room : length later ≤ length pool + 1
    had_room = let f = came_forced in (fetched_place p k steps counted i pool later mid after f.1.mine f.1.holds fetched).0.room

pub written_is_held : (n : NodeView) (p k : ℕ) → held_in n p k ≡ Write → ¬ (held_in n p k ≡ No)
written_is_held n p k writes none = write_is_lock (sym writes ∙ none)

-- ---- a page is put into its frame

pub durable_page : (n : NodeView) (p k : ℕ) → HasForcedLog n p → IsDurablePage n p k
durable_page n p k h q has =
    let f = h.1.forced in
    let own = f.own k in
    subst (λ (x : CorePart). own_llsn page_ops x.pages.made k ≤ durable_llsn x.trx.opening.base.llsn x.pages.durables)
    (one_part (part_in n.parts p) h.1.mine q h.1.holds has) (omega (arith, own, f.durable))

module _ (p k : ℕ) (before after : NodeView) (pool : List Buffer)
    (left : (b : Buffer) × (buffer_of pool k ≡ Some b) × ((found : PageView) × Visits p k found b.page before after)) where
  pub pushed_keeps : KeepsLog p before after
  pushed_keeps = keeps_visit p k before after left.2.0 left.0.page left.2.1

  pub pushed_pages : (later : List Buffer) → HasForcedLog before p → later ≡ with_buffer pool k cleaned_buffer → (j : ℕ) → HasPage pool before p j → HasPage later after p j
  pushed_pages later h cleaned j has = (
    subst (λ (l : List Buffer). IsBuffered l j) (sym cleaned) (still_buffered (buffer_of pool j) (change_of k cleaned_buffer) (of_changed cleaned_buffer (λ b. refl) pool k j) has.0),
    held_visit p k before after left.2.0 left.0.page left.2.1 h.1.mine h.1.holds j ∙ has.1,
  )
    where
      still_buffered : (o : Option Buffer) (f : Buffer → Buffer) {l : Option Buffer} → l ≡ option_map f o → ¬ (o ≡ None) → ¬ (l ≡ None)
      still_buffered None f is was none = was refl
      still_buffered (Some b) f is was none = let both : Some (f b) ≡ None = sym is ∙ none in cc
