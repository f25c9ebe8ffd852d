-- What stands in the frames of a table at its end.
use Rattle.std.proofs.Common.{◌≡◌, ℕ, zero, suc, ◌<◌, ◌==◌, if◌then◌else◌, List, [], ◌∷◌, length, slice_get, Option, None, Some, sym, ap, ◌∙◌, subst}
use mathlib.Core.Option.{some, some-ne-none, some-injective}
use mathlib.Core.Logic.{dite}
use native.Mathlib.Decide.{ℕ_discrete}
use lib.ListN.{get_elem?}
use Rattle.mp_machine.specs.Machine.{run}
use Rattle.mp_machine.specs.View.{part_in, ViewAgrees}
use Rattle.mp_machine.specs.Rule.{Ends}
use Rattle.mp_cells.specs.PageView.{PageView}
use Rattle.mp_core_pages.specs.declared.opening.TheConstants.{PAGES}
use Rattle.mp_core_pages.specs.declared.page_lock.Held.TheVariants.{No, Write}
use Rattle.mp_core_pages.specs.PageParts.{held_at, out_at, content_at}
use Rattle.mp_core_pages.specs.PageWorld.{standing, frame_in}
use Rattle.mp_core_pages.specs.PageInvariant.{IsPrefix}
use Rattle.mp_core.specs.declared.part.CorePart.{CorePart}
use Rattle.mp_core.specs.Contents.{page_ops, pages_opening}
use Rattle.mp_core.specs.World.{Frame, CoreWorld, core_part, core}
use Rattle.mp_core.specs.Invariant.{NumbersFit, CoreInv}
use Rattle.mp_core.proofs.Law.{law}
use Rattle.mp_shared.specs.Nodes.{NodeView, HoldsAll}
use Rattle.mp_shared.specs.PageSteps.{held_by_part}
use Rattle.mp_shared.specs.KeptNodes.{CarriesAllOut}
use Rattle.mp_shared.specs.Endings.{NobodyWrites, Closes}

got_from : (xs : List Frame) (k : ℕ) (y : Frame) → get_elem? xs k ≡ some y → slice_get xs k ≡ Some y
got_from [] k y e = absurd (some-ne-none y (sym e))
got_from (x ∷ xs) zero y e = ap Some (some-injective x y e)
got_from (x ∷ xs) (suc k) y e = got_from xs k y e

-- a node that holds all parts and carries no frame, and a world that agrees with it
module _ (v : NodeView) (all : HoldsAll v) (none_out : CarriesAllOut v.parts []) (w : CoreWorld) (i : CoreInv v.run.opening w) (agrees : ViewAgrees (core_part w) v.parts) where
  -- who holds a lock is one of its primaries
  its_part : (n k : ℕ) → ¬ (held_at (w.pages.lock_rows n) k ≡ No) → (q : CorePart) × (part_in v.parts n ≡ Some q)
  its_part n k held = all n (i.pages.page_locks.nodes n k held)

  home : (k : ℕ) → k < PAGES → (y : PageView) × (get_elem? w.pages.homes k ≡ some (some y)) × (w.pages.turn_words k ≡ 0)
  home k within =
      dite (ℕ_discrete (w.pages.turn_words k) 0)
      (λ free. let there = i.pages.frame_turns.at_home k within free in (there.0, there.1, free))
      (λ taken.
      let n = w.pages.turn_words k in
      let out = (i.pages.frame_turns.taken k within taken).1 in
      let named = i.pages.frame_turns.named n k out.0 out.1 in
      let mine = its_part n k named.1 in
      absurd (none_out n k mine.0 out.0 mine.1 (sym (ap (λ (r : CorePart). out_at r.pages.frames k) (agrees n mine.0 mine.1)) ∙ out.1)))

  -- so the page in a frame is the one that the table gives back
  its_frame : (frames : List Frame) → ((k : ℕ) (y : Frame) → get_elem? w.pages.homes k ≡ some (some y) → get_elem? frames k ≡ some y)
      → (k : ℕ) → k < PAGES → frame_in w.pages.turn_words w.pages.homes w.pages.frames k ≡ slice_get frames k
  its_frame frames given k within =
      let at = home k within in
      (λ i. if at.2 i == 0 then standing (get_elem? w.pages.homes k) else out_at (w.pages.frames (w.pages.turn_words k)) k)
      ∙ ap standing at.1 ∙ sym (got_from frames k at.0 (given k at.0 at.1))

  -- who writes a page writes it for a part of the node
  nobody_writes : (k : ℕ) → NobodyWrites v k → (n : ℕ) → held_at (w.pages.lock_rows n) k ≡ Write → content_at page_ops (w.pages.contents n) k ≡ None
  nobody_writes k nobody n writes =
      let mine = its_part n k (λ none. write_is_lock (sym writes ∙ none)) in
      absurd (nobody n (ap (λ (x : Option CorePart). held_by_part x k) mine.1 ∙ sym (ap (λ (r : CorePart). held_at r.pages.locks k) (agrees n mine.0 mine.1)) ∙ writes))
    where
      write_is_lock : Write ≡ No → ⊥
      write_is_lock e = cc

pub closes : (v : NodeView) → HoldsAll v → CarriesAllOut v.parts [] → NumbersFit v.run.opening → (words : List ℕ) (frames : List Frame) → length frames ≡ PAGES → Ends (core v.run.opening) words frames v.parts → Closes v frames
closes v all none_out fair words frames count ends =
    let w = run (core v.run.opening) ends.events in
    let i = law v.run.opening fair ends.events ends.allowed in
    record {
      events = ends.events;
      allowed = ends.allowed;
      agrees = ends.agrees;
      count = count;
      prefix = λ k within. subst (λ y. IsPrefix page_ops (pages_opening v.run.opening) w.pages.history w.pages.durables k y) (its_frame v all none_out w i ends.agrees frames ends.slots_are k within) (i.pages.page_frames.prefix k);
      whole = λ k within nobody. sym (its_frame v all none_out w i ends.agrees frames ends.slots_are k within) ∙ i.pages.page_frames.frames_whole k (nobody_writes v all none_out w i ends.agrees k nobody);
    }
