-- A pool agrees with its primary's part, through each call.
use Rattle.std.proofs.Common.{◌≡◌, ℕ, ◌+◌, ◌-◌, ◌<◌, ◌≤◌, ◌==◌, not, Bool, true, false, if◌then◌else◌, List, [], ◌∷◌, ◌++◌, map, Option, Some, None, refl, sym, ap, ◌∙◌, subst, arith}
use Rattle.std.specs.Option.{option_map}
use mathlib.Core.Logic.{dite}
use native.Mathlib.Decide.{ℕ_discrete}
use Rattle.mp_machine.specs.View.{View, part_in}
use Rattle.mp_machine.proofs.Views.{part_in-with_here}
use Rattle.mp_cells.specs.declared.records.Mtr.{Mtr}
use Rattle.mp_cells.specs.PageView.{PageView}
use Rattle.mp_core_pages.specs.declared.part.PagesPart.{PagesPart}
use Rattle.mp_core_pages.specs.PageParts.{gave_at, content_at, own_llsn}
use Rattle.mp_core_pages.proofs.Choices.{if_equal, if_differs}
use Rattle.mp_core.specs.declared.part.CorePart.{CorePart}
use Rattle.mp_core.specs.Contents.{page_ops}
use Rattle.mp_shared.specs.Nodes.{NodeView, HoldsPart, changed_part}
use Rattle.mp_shared.specs.PageSteps.{with_pages}
use Rattle.mp_shared.proofs.Holding.{held_part, holds_the_part}
use Rattle.mp_buffer_fusion.specs.declared.buffer.Buffer.{Buffer}
use Rattle.mp_buffer_fusion.specs.Buffers.{buffer_of, with_buffer, new_buffer, pinned_buffer, cleaned_buffer, unpinned_buffer, dirty_buffers}
use Rattle.mp_buffer_fusion.specs.Agreement.{IsDirty, AgreesWith, AgreesIn, IsInFrame}
use Rattle.mp_buffer_fusion.specs.Visits.{with_visit}
use Rattle.mp_buffer_fusion.proofs.Buffered.{not_some, Distinct, in_longer, last_of_longer, of_mapped, change_of, of_changed, of_changed_here, of_changed_else, passed_stays, passed_was}
use Rattle.mp_buffer_fusion.proofs.Visiting.{one_part}

-- the part of a primary after a change of what it knows of pages
module _ (before after : NodeView) (p n : ℕ) (f : PagesPart PageView Mtr → PagesPart PageView Mtr) (becomes : after ≡ with_pages before p f n) (held : HoldsPart before p) where
  abbrev pub part_after : CorePart
  part_after = let q = (held_part before p held).0 in record q { pages = f q.pages; ops = q.ops + n }

  pub has_after : part_in after.parts p ≡ Some part_after
  has_after =
      let has = held_part before p held in
      ap (λ (x : NodeView). part_in x.parts p) becomes
      ∙ ap (λ o. part_in (changed_part before.parts p (λ r. record r { pages = f r.pages; ops = r.ops + n }) o) p) has.1
      ∙ part_in-with_here before.parts p part_after has.0 has.1

  pub agrees_after : (pool later : List Buffer) → AgreesIn pool before p → (AgreesWith pool (held_part before p held).0.pages → AgreesWith later part_after.pages) → AgreesIn later after p
  agrees_after pool later agrees keeps q there =
      let has = held_part before p held in
      subst (λ (r : CorePart). AgreesWith later r.pages) (one_part (part_in after.parts p) part_after q has_after there) (keeps (agrees has.0 has.1))

-- the records on a page without a buffer are all in its frame
pub in_frame_lacking : (pool : List Buffer) (n : NodeView) (p k : ℕ) → AgreesIn pool n p → buffer_of pool k ≡ None → IsInFrame n p k
in_frame_lacking pool n p k agrees lacks q has =
    by_order (gave_at q.pages.gave k) (own_llsn page_ops q.pages.made k) (λ less. subst IsDirty lacks ((agrees q has).keeps k less))
  where
    by_order : (gave own : ℕ) → (gave < own → ⊥) → own ≤ gave
    by_order gave own never = dite (ℕ_discrete (own - gave) 0) (λ none. omega arith) (λ some. absurd (never (omega arith)))

pub was_some : {X Y : Type 0} (g : X → Y) (o : Option X) (y : Y) → option_map g o ≡ Some y → (x : X) × (o ≡ Some x) × (g x ≡ y)
was_some g None y e = absurd (cc)
was_some g (Some x) y e = (x, refl, cc)

still_dirty : (g : Buffer → Buffer) → ((b : Buffer) → b.clean ≡ false → (g b).clean ≡ false) → (o : Option Buffer) → IsDirty o → IsDirty (option_map g o)
still_dirty g keeps None dirty = dirty
still_dirty g keeps (Some b) dirty = keeps b dirty

module _ (pool : List Buffer) (part : PagesPart PageView Mtr) (agrees : AgreesWith pool part) where
  -- a page comes into a buffer
  pub agrees_fetched : (k : ℕ) (y : PageView) (known height : ℕ) → buffer_of pool k ≡ None → own_llsn page_ops part.made k ≤ y.llsn
      → AgreesWith (pool ++ new_buffer k y ∷ []) (with_visit k y y known height part)
  agrees_fetched k y known height lacks below = record {
    shows = λ j b is. shown j b (buffer_of pool j) refl is;
    keeps = λ j less.
        dite (ℕ_discrete j k)
        (λ same.
        let gave : gave_at (with_visit k y y known height part).gave j ≡ y.llsn = if_equal j k y.llsn (gave_at part.gave j) same in
        let own : own_llsn page_ops part.made j ≡ own_llsn page_ops part.made k = ap (own_llsn page_ops part.made) same in
        absurd (omega (arith, gave, own, below, less)))
        (λ other.
        let gave : gave_at (with_visit k y y known height part).gave j ≡ gave_at part.gave j = if_differs j k y.llsn (gave_at part.gave j) other in
        longer (buffer_of pool j) j refl (agrees.keeps j (omega (arith, gave, less))));
  }
    where
      longer : (o : Option Buffer) (j : ℕ) → buffer_of pool j ≡ o → IsDirty o → IsDirty (buffer_of (pool ++ new_buffer k y ∷ []) j)
      longer None j is dirty = absurd dirty
      longer (Some b) j is dirty = subst IsDirty (sym (in_longer pool (new_buffer k y) j b is)) dirty

      shown : (j : ℕ) (b : Buffer) (o : Option Buffer) → buffer_of pool j ≡ o → buffer_of (pool ++ new_buffer k y ∷ []) j ≡ Some b → content_at page_ops (with_visit k y y known height part).contents j ≡ Some b.page
      shown j b (Some a) old is =
          let same : Some a ≡ Some b = sym (in_longer pool (new_buffer k y) j a old) ∙ is in
          let one : a ≡ b = cc in
          if_differs j k (Some y) (content_at page_ops part.contents j) (λ e. not_some (buffer_of pool k) a lacks (ap (buffer_of pool) (sym e) ∙ old))
          ∙ agrees.shows j a old ∙ ap (λ (x : Buffer). Some x.page) one
      shown j b None old is =
          let last : buffer_of (new_buffer k y ∷ []) j ≡ Some b = sym (last_of_longer pool (new_buffer k y) j old) ∙ is in
          dite (ℕ_discrete j k)
          (λ same.
          let first : Some (new_buffer k y) ≡ Some b = sym (if_equal j k (Some (new_buffer k y)) None same) ∙ last in
          let one : new_buffer k y ≡ b = cc in
          if_equal j k (Some y) (content_at page_ops part.contents j) same ∙ ap (λ (x : Buffer). Some x.page) one)
          (λ other. not_some (buffer_of (new_buffer k y ∷ []) j) b (if_differs j k (Some (new_buffer k y)) None other) last)

  -- its page is put into the frame
  pub agrees_pushed : (k : ℕ) (b : Buffer) (found : PageView) (known height : ℕ) → buffer_of pool k ≡ Some b → own_llsn page_ops part.made k ≤ b.page.llsn
      → AgreesWith (with_buffer pool k cleaned_buffer) (with_visit k found b.page known height part)
  agrees_pushed k b found known height at below = record {
    shows = λ j c is.
        dite (ℕ_discrete j k)
        (λ same.
        let here : Some (cleaned_buffer b) ≡ Some c = sym (of_changed_here cleaned_buffer (λ _. refl) pool k b at) ∙ ap (buffer_of (with_buffer pool k cleaned_buffer)) (sym same) ∙ is in
        let one : cleaned_buffer b ≡ c = cc in
        if_equal j k (Some b.page) (content_at page_ops part.contents j) same ∙ ap (λ (x : Buffer). Some x.page) one)
        (λ other.
        if_differs j k (Some b.page) (content_at page_ops part.contents j) other
        ∙ agrees.shows j c (sym (of_changed_else cleaned_buffer (λ _. refl) pool k j other) ∙ is));
    keeps = λ j less.
        dite (ℕ_discrete j k)
        (λ same.
        let gave : gave_at (with_visit k found b.page known height part).gave j ≡ b.page.llsn = if_equal j k b.page.llsn (gave_at part.gave j) same in
        let own : own_llsn page_ops part.made j ≡ own_llsn page_ops part.made k = ap (own_llsn page_ops part.made) same in
        absurd (omega (arith, gave, own, below, less)))
        (λ other.
        let gave : gave_at (with_visit k found b.page known height part).gave j ≡ gave_at part.gave j = if_differs j k b.page.llsn (gave_at part.gave j) other in
        subst IsDirty (sym (of_changed_else cleaned_buffer (λ _. refl) pool k j other)) (agrees.keeps j (omega (arith, gave, less))));
  }

  -- it is pinned
  pub agrees_pinned : (k : ℕ) → AgreesWith (with_buffer pool k pinned_buffer) part
  agrees_pinned k = record {
    shows = λ j c is.
        let was = was_some (change_of k pinned_buffer) (buffer_of pool j) c (sym (of_changed pinned_buffer (λ _. refl) pool k j) ∙ is) in
        agrees.shows j was.0 was.1 ∙ ap Some (sym (same_page k was.0) ∙ ap (λ (x : Buffer). x.page) was.2);
    keeps = λ j less.
        subst IsDirty (sym (of_changed pinned_buffer (λ _. refl) pool k j))
        (still_dirty (change_of k pinned_buffer) (λ b dirty. same_clean k b ∙ dirty) (buffer_of pool j) (agrees.keeps j less));
  }
    where
      same_page : (k : ℕ) (b : Buffer) → (change_of k pinned_buffer b).page ≡ b.page
      same_page k b = dite (ℕ_discrete k b.number) (λ is. ap (λ (x : Buffer). x.page) (if_equal k b.number (pinned_buffer b) b is)) (λ other. ap (λ (x : Buffer). x.page) (if_differs k b.number (pinned_buffer b) b other))

      same_clean : (k : ℕ) (b : Buffer) → (change_of k pinned_buffer b).clean ≡ b.clean
      same_clean k b = dite (ℕ_discrete k b.number) (λ is. ap (λ (x : Buffer). x.clean) (if_equal k b.number (pinned_buffer b) b is)) (λ other. ap (λ (x : Buffer). x.clean) (if_differs k b.number (pinned_buffer b) b other))

  -- the clean buffers are dropped, and no other is pinned then
  pub agrees_unpinned : Distinct pool → AgreesWith (map unpinned_buffer (dirty_buffers pool)) part
  agrees_unpinned d = record {
    shows = λ j c is.
        let was = was_some unpinned_buffer (buffer_of (dirty_buffers pool) j) c (sym (of_mapped unpinned_buffer (λ _. refl) (dirty_buffers pool) j) ∙ is) in
        agrees.shows j was.0 (passed_was (λ b. not b.clean) pool d j was.0 was.1) ∙ ap (λ (x : Buffer). Some x.page) was.2;
    keeps = λ j less.
        subst IsDirty (sym (of_mapped unpinned_buffer (λ _. refl) (dirty_buffers pool) j))
        (still_dirty unpinned_buffer (λ b dirty. dirty) (buffer_of (dirty_buffers pool) j) (stays j (buffer_of pool j) refl (agrees.keeps j less)));
  }
    where
      stays : (j : ℕ) (o : Option Buffer) → buffer_of pool j ≡ o → IsDirty o → IsDirty (buffer_of (dirty_buffers pool) j)
      stays j None is dirty = absurd dirty
      stays j (Some b) is dirty = subst IsDirty (sym (passed_stays (λ x. not x.clean) pool j b is (ap not dirty))) dirty
