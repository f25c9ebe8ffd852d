-- What the calls that take a frame make of the pool and the node.
use Rattle.std.proofs.Common.{◌≡◌, ℕ, ◌+◌, ◌<◌, ◌≤◌, List, [], ◌∷◌, ◌++◌, length, slice_get, Option, Some, None, Ok, Err, refl, sym, ap, ◌∙◌, subst, arith}
use Rattle.mp_model.specs.declared.waiting.NotYet.{NotYet}
use Rattle.mp_machine.specs.View.{part_in}
use Rattle.mp_cells.specs.declared.records.Mtr.{Mtr}
use Rattle.mp_cells.specs.PageView.{PageView}
use Rattle.mp_core_pages.specs.declared.part.PagesPart.{PagesPart}
use Rattle.mp_core_pages.specs.PageParts.{gave_at, own_llsn}
use Rattle.mp_core_pages.proofs.Choices.{if_equal}
use Rattle.mp_core.specs.declared.part.CorePart.{CorePart}
use Rattle.mp_core.specs.Contents.{page_ops}
use Rattle.mp_shared.specs.Nodes.{NodeView, HoldsPart, Reached}
use Rattle.mp_shared.specs.PageSteps.{with_pages, with_ops, MissedFrame}
use Rattle.mp_shared.proofs.Holding.{held_part}
use Rattle.mp_buffer_fusion.specs.declared.buffer.Buffer.{Buffer}
use Rattle.mp_buffer_fusion.specs.Buffers.{buffer_of, StandsAt, with_buffer, new_buffer, cleaned_buffer}
use Rattle.mp_buffer_fusion.specs.Agreement.{AgreesWith, AgreesIn, IsInFrame, KnowsContent}
use Rattle.mp_buffer_fusion.specs.Visits.{with_visit, Visits, IsNewest}
use Rattle.mp_buffer_fusion.specs.Fetching.{FetchedBy, MissesPage, FetchesPlace}
use Rattle.mp_buffer_fusion.proofs.Buffered.{last_of_longer}
use Rattle.mp_buffer_fusion.proofs.Kept.{at_end}
use Rattle.mp_buffer_fusion.proofs.Worlds.{newest_content}
use Rattle.mp_buffer_fusion.proofs.Agreeing.{part_after, has_after, agrees_after, agrees_fetched, agrees_pushed}

-- a page that has a buffer is there
pub fetched_buffered : (pool : List Buffer) (n : NodeView) (p k i steps : ℕ) (b : Buffer) → StandsAt pool k i b → Reached n → HoldsPart n p → AgreesIn pool n p
    → FetchesPlace p k pool pool n n steps steps (Ok i)
fetched_buffered pool n p k i steps b stands reached held agrees =
    let has = held_part n p held in (
      b,
      stands,
      (
        stands.1,
        newest_content n p k b.page reached.fair has.0 has.1 ((agrees has.0 has.1).shows k b stands.1),
        subst (λ o. FetchedBy o p k pool pool n n steps steps) (sym stands.1) (refl, refl, refl),
      ),
    )

-- a change of what a primary knows of pages leaves the run and the frames
pub run_stays : (before after : NodeView) (p n : ℕ) (f : PagesPart PageView Mtr → PagesPart PageView Mtr) → after ≡ with_pages before p f n → after.run ≡ before.run
run_stays before after p n f is = ap (λ (x : NodeView). x.run) is

pub frames_stay : (before after : NodeView) (p n : ℕ) (f : PagesPart PageView Mtr → PagesPart PageView Mtr) → after ≡ with_pages before p f n → before.frames ≡ [] → after.frames ≡ []
frames_stay before after p n f is none = ap (λ (x : NodeView). x.frames) is ∙ none

module _ (pool later : List Buffer) (before after : NodeView) (p k : ℕ) (found y : PageView) (visits : Visits p k found y before after) (held : HoldsPart before p) (in_frame : IsInFrame after p k) (agrees : AgreesIn pool before p) where
  -- all its records are in the page
  below : own_llsn page_ops (held_part before p held).0.pages.made k ≤ y.llsn
  below =
      let f = with_visit k found y visits.known visits.height in
      let most = in_frame (part_after before after p 2 f visits.becomes held) (has_after before after p 2 f visits.becomes held) in
      let gave = if_equal k k y.llsn (gave_at (held_part before p held).0.pages.gave k) refl in
      omega (arith, most, gave)

  pub agrees_written : (b : Buffer) → buffer_of pool k ≡ Some b → b.page ≡ y → later ≡ with_buffer pool k cleaned_buffer → AgreesIn later after p
  agrees_written b at page is =
      agrees_after before after p 2 (with_visit k found y visits.known visits.height) visits.becomes held pool later agrees
      (λ a. subst (λ l. AgreesWith l (with_visit k found y visits.known visits.height (held_part before p held).0.pages)) (sym is)
      (subst (λ z. AgreesWith (with_buffer pool k cleaned_buffer) (with_visit k found z visits.known visits.height (held_part before p held).0.pages)) page
      (agrees_pushed pool (held_part before p held).0.pages a k b found visits.known visits.height at (subst (λ (z : PageView). own_llsn page_ops (held_part before p held).0.pages.made k ≤ z.llsn) (sym page) below))))

-- a page comes in by its frame
module _ (pool later : List Buffer) (before after : NodeView) (p k : ℕ) (y : PageView) (visits : Visits p k y y before after) (held : HoldsPart before p) (lacks : buffer_of pool k ≡ None) (is : later ≡ pool ++ new_buffer k y ∷ []) where
  pub fetched_new : (i steps counted : ℕ) → i ≡ length pool → IsNewest after k y → counted ≡ steps + 1 → FetchesPlace p k pool later before after steps counted (Ok i)
  fetched_new i steps counted place newest one =
      let at : buffer_of later k ≡ Some (new_buffer k y) = ap (λ l. buffer_of l k) is ∙ last_of_longer pool (new_buffer k y) k lacks ∙ if_equal k k (Some (new_buffer k y)) None refl in
      let there : slice_get later i ≡ Some (new_buffer k y) = ap (slice_get later) place ∙ ap (λ l. slice_get l (length pool)) is ∙ at_end pool (new_buffer k y) in (
        new_buffer k y,
        (there, at),
        (at, newest, subst (λ o. FetchedBy o p k pool later before after steps counted) (sym lacks) (y, is, visits, one)),
      )

  pub agrees_read : IsInFrame after p k → AgreesIn pool before p → AgreesIn later after p
  agrees_read in_frame agrees =
      agrees_after before after p 2 (with_visit k y y visits.known visits.height) visits.becomes held pool later agrees
      (λ a. subst (λ l. AgreesWith l (with_visit k y y visits.known visits.height (held_part before p held).0.pages)) (sym is)
      (agrees_fetched pool (held_part before p held).0.pages a k y visits.known visits.height lacks (below pool later before after p k y y visits held in_frame agrees)))

-- a pool agrees with a part that learned nothing
pub agrees_missed : (pool : List Buffer) (before after : NodeView) (p : ℕ) → after ≡ with_ops before p 1 → HoldsPart before p → AgreesIn pool before p → AgreesIn pool after p
agrees_missed pool before after p is held agrees = agrees_after before after p 1 (λ q. q) is held pool pool agrees (λ a. a)

-- a page's buffer is the content
pub content_buffered : (pool : List Buffer) (n : NodeView) (p k : ℕ) (b : Buffer) (y : PageView) → buffer_of pool k ≡ Some b → y ≡ b.page → AgreesIn pool n p → KnowsContent n p k y
content_buffered pool n p k b y at page agrees q has = (agrees q has).shows k b at ∙ ap Some (sym page)
