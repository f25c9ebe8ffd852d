-- A frame is taken and given back: what the second step asks, and what both make of the node.
use Rattle.std.proofs.Common.{◌≡◌, ℕ, zero, suc, ◌+◌, ◌<◌, ◌≤◌, ◌==◌, if◌then◌else◌, ◌⊎◌, inl, inr, List, [], ◌∷◌, drop, length, Option, Some, None, refl, sym, ap, ◌∙◌, subst, arith}
use Rattle.std.specs.Option.{unwrap_or}
use lib.ListN.{get_elem?}
use Rattle.mp_machine.specs.Lists.{IsIn}
use Rattle.mp_machine.specs.Machine.{run}
use Rattle.mp_machine.specs.View.{View, part_in, with_part}
use Rattle.mp_machine.proofs.Views.{part_in-with_here}
use Rattle.mp_cells.specs.declared.records.Mtr.{Mtr}
use Rattle.mp_cells.specs.PageView.{PageView}
use Rattle.mp_core_trx.specs.Events.{IsNode}
use Rattle.mp_core_trx.specs.Parts.{newest}
use Rattle.mp_core_pages.specs.declared.opening.TheConstants.{PAGES}
use Rattle.mp_core_pages.specs.declared.page_lock.Held.{Held}
use Rattle.mp_core_pages.specs.declared.page_lock.Held.TheVariants.{No, Write}
use Rattle.mp_core_pages.specs.declared.part.ContentStep.TheVariants.{Given}
use Rattle.mp_core_pages.specs.declared.part.PagesPart.{PagesPart}
use Rattle.mp_core_pages.specs.declared.part.Placed.{Placed}
use Rattle.mp_core_pages.specs.declared.event.PagesEvent.TheVariants.{TakeFrame, GiveFrame}
use Rattle.mp_core_pages.specs.Histories.{llsn_at}
use Rattle.mp_core_pages.specs.PageParts.{frame_row, gave_row, given_page, held_at, out_at, gave_at, durable_llsn, content_at, kept_or, own_llsn}
use Rattle.mp_core_pages.specs.PageEvents.{with_taken, with_frame, with_given_back, MayGive, GivesContent}
use Rattle.mp_core_pages.specs.PageWorld.{standing}
use Rattle.mp_core_pages.proofs.Choices.{if_equal, if_differs}
use Rattle.mp_core.specs.declared.part.CorePart.{CorePart}
use Rattle.mp_core.specs.declared.event.CoreEvent.TheVariants.{Pages}
use Rattle.mp_core.specs.Contents.{page_ops}
use Rattle.mp_core.specs.World.{CoreWorld, core_part, core_made, core}
use Rattle.mp_core.specs.Invariant.{NumbersFit, CoreInv}
use Rattle.mp_core.proofs.Law.{law}
use Rattle.mp_shared.specs.Nodes.{NodeView, MayTake, HoldsPart, changed_part, TookUnseen}
use Rattle.mp_shared.specs.KeptNodes.{CarriesAllOut}
use Rattle.mp_shared.specs.PageSteps.{held_by_part, held_in, with_pages, with_ops, TookFrame, MissedFrame}
use Rattle.mp_shared.proofs.Holding.{held_part, holds_the_part}
use Rattle.mp_shared.proofs.PageTold.{by_pages}
use Rattle.mp_buffer_fusion.specs.Agreement.{IsDurablePage, IsInFrame, KnowsContent}
use Rattle.mp_buffer_fusion.specs.Visits.{with_visit, Visits, IsNewest}
use Rattle.mp_buffer_fusion.proofs.Buffered.{not_some}
use Rattle.mp_buffer_fusion.proofs.Worlds.{frame_now, page_now, made_below, content_newest, own_within, gave_within, frame_newest, taken_by_writer, newest_content}

with_part_twice : {P : Type 0} (v : View P) (n : ℕ) (p q : P) → with_part (with_part v n p) n q ≡ with_part v n q
with_part_twice [] n p q = refl
with_part_twice (x ∷ v) zero p q = refl
with_part_twice (x ∷ v) (suc n) p q = ap (λ u. x ∷ u) (with_part_twice v n p q)

pub one_part : (o : Option CorePart) (a b : CorePart) → o ≡ Some a → o ≡ Some b → a ≡ b
one_part o a b first second = let both : Some a ≡ Some b = sym first ∙ second in cc

one_page : (o : Option PageView) (a b : PageView) → o ≡ Some a → o ≡ Some b → a ≡ b
one_page o a b first second = let both : Some a ≡ Some b = sym first ∙ second in cc

-- how the part that is held holds a lock
pub held_is : (n : NodeView) (p k : ℕ) (q : CorePart) → part_in n.parts p ≡ Some q → held_in n p k ≡ held_at q.pages.locks k
held_is n p k q has = ap (λ x. held_by_part x k) has

pub writing_is_held : (h : Held) → h ≡ Write → ¬ (h ≡ No)
writing_is_held h writes none = let both : Write ≡ No = sym writes ∙ none in cc

-- a page that is kept, or else found
kept_same : (o : Option PageView) (t : PageView) → ((c : PageView) → o ≡ Some c → c ≡ t) → unwrap_or o t ≡ t
kept_same None t each = refl
kept_same (Some c) t each = each c refl

module _ (before mid : NodeView) (p k : ℕ) (t y : PageView) (q : CorePart) (has : part_in before.parts p ≡ Some q) (node : IsNode q.trx.opening p) (took : TookFrame p k t before mid) where
  abbrev known : ℕ
  known = took.step.note.known

  abbrev height : ℕ
  height = took.step.note.height

  -- the part once it has the frame
  abbrev taken_part : CorePart
  taken_part = core_made (Pages (TakeFrame p k)) 0 took.step.note q

  taken_pages : taken_part.pages ≡ with_frame page_ops k t known height q.pages
  taken_pages = ap (λ f. with_taken page_ops k f known height q.pages) took.frame

  mid_parts : mid.parts ≡ with_part before.parts p taken_part
  mid_parts = ap (λ (x : NodeView). x.parts) took.step.becomes ∙ ap (changed_part before.parts p (core_made (Pages (TakeFrame p k)) 0 took.step.note)) has

  pub mid_has : part_in mid.parts p ≡ Some taken_part
  mid_has = ap (λ v. part_in v p) mid_parts ∙ part_in-with_here before.parts p taken_part q has

  fair : NumbersFit before.run.opening
  fair = subst NumbersFit (ap (λ (x : NodeView). x.run.opening) took.step.becomes) took.step.reached.fair

  -- the world in which it was taken
  abbrev world : CoreWorld
  world = run (core before.run.opening) took.step.came.events

  world_inv : CoreInv before.run.opening world
  world_inv = law before.run.opening fair took.step.came.events took.step.came.allowed.1

  world_is : core_part world p ≡ q
  world_is = took.step.came.agreed p q has

  found_there : frame_now before.run.opening world world_inv k ≡ Some t
  found_there =
      if_equal (world.pages.turn_words k) 0 (standing (get_elem? world.pages.homes k)) (out_at (world.pages.frames (world.pages.turn_words k)) k) took.step.came.found_is
      ∙ ap (λ x. x.frame) took.step.came.noted ∙ took.frame

  known_since : (n : ℕ) (r : CorePart) (m : Placed Mtr) → part_in before.parts n ≡ Some r → IsIn m r.pages.made → m.at < height
  known_since n r m held there =
      let below = (made_below before.run.opening world world_inv n r (took.step.came.agreed n r held) m there).1 in
      let same = ap (λ x. x.height) took.step.came.noted in
      omega (arith, below, same)

  -- what a part may give back
  module _ (kept : kept_or page_ops q.pages.contents k t ≡ y) (page : k < PAGES) (locked : ¬ (held_at q.pages.locks k ≡ No)) where
    abbrev framed : PagesPart PageView Mtr
    framed = with_frame page_ops k t known height q.pages

    out_there : out_at framed.frames k ≡ Some t
    out_there = if_equal k k (Some t) (out_at q.pages.frames k) refl

    framed_content : content_at page_ops framed.contents k ≡ Some y
    framed_content = if_equal k k (Some (kept_or page_ops q.pages.contents k t)) (content_at page_ops q.pages.contents k) refl ∙ ap Some kept

    gives : (out_at framed.frames k ≡ Some y) ⊎ GivesContent page_ops q.trx.opening.base.llsn framed k y → MayTake (Pages (GiveFrame p k y)) mid
    gives back = (
      taken_part,
      mid_has,
      (
        node,
        subst (λ pages. MayGive page_ops q.trx.opening.base.llsn pages k y) (sym taken_pages) record { in_range = page; has_lock = locked; gives_back = back },
        tt,
      ),
    )

    -- as it was
    pub gives_same : y ≡ t → MayTake (Pages (GiveFrame p k y)) mid
    gives_same same = gives (inl (out_there ∙ ap Some (sym same)))

    -- or with the content of its writer
    pub gives_content : held_at q.pages.locks k ≡ Write → own_llsn page_ops q.pages.made k ≤ durable_llsn q.trx.opening.base.llsn q.pages.durables → MayTake (Pages (GiveFrame p k y)) mid
    gives_content writes durable = gives (inr record { took = (t, out_there); writes = writes; has = framed_content; durable = durable })

    -- and world
    module _ (after : NodeView) (give : TookUnseen (Pages (GiveFrame p k y)) mid after) where
      abbrev left_part : CorePart
      left_part = record q { pages = with_visit k t y known height q.pages; ops = q.ops + 2 }

      left_pages : with_given_back page_ops k y taken_part.pages ≡ with_visit k t y known height q.pages
      left_pages =
          ap (with_given_back page_ops k y) taken_pages
          ∙ (λ i. record q.pages {
            frames = frame_row k None ∷ frame_row k (Some t) ∷ q.pages.frames;
            contents = Given k (kept i) ∷ q.pages.contents;
            given = given_page k (kept i) known height ∷ q.pages.given;
            gave = gave_row k y.llsn ∷ q.pages.gave;
          })

      left_same : core_made (Pages (GiveFrame p k y)) give.0 give.1.note taken_part ≡ left_part
      left_same = let two : q.ops + 1 + 1 ≡ q.ops + 2 = omega arith in λ i. record q { pages = left_pages i; ops = two i }

      after_parts : after.parts ≡ with_part before.parts p left_part
      after_parts =
          let f = core_made (Pages (GiveFrame p k y)) give.0 give.1.note in
          ap (λ (x : NodeView). x.parts) give.1.becomes ∙ ap (changed_part mid.parts p f) mid_has ∙ ap (λ v. with_part v p (f taken_part)) mid_parts
          ∙ with_part_twice before.parts p taken_part (f taken_part) ∙ ap (with_part before.parts p) left_same

      pub after_has : part_in after.parts p ≡ Some left_part
      after_has = ap (λ v. part_in v p) after_parts ∙ part_in-with_here before.parts p left_part q has

      after_is : after ≡ with_pages before p (with_visit k t y known height) 2
      after_is =
          let parts : after.parts ≡ (with_pages before p (with_visit k t y known height) 2).parts =
          after_parts ∙ sym (ap (changed_part before.parts p (λ r. record r { pages = with_visit k t y known height r.pages; ops = r.ops + 2 })) has) in
          let run_is : after.run ≡ before.run = ap (λ (x : NodeView). x.run) give.1.becomes ∙ ap (λ (x : NodeView). x.run) took.step.becomes in
          let frames_are : after.frames ≡ before.frames = ap (λ (x : NodeView). x.frames) give.1.becomes ∙ ap (λ (x : NodeView). drop 1 x.frames) took.step.becomes in
          λ i. record { run = run_is i; parts = parts i; frames = frames_are i }

      pub visits : Visits p k t y before after
      visits = record { known = known; height = height; becomes = after_is; knew = took.known; since = known_since }

      pub newest_after : IsNewest after k y
      newest_after = newest_content after p k y give.1.reached.fair left_part after_has (if_equal k k (Some y) (content_at page_ops q.pages.contents k) refl)

      pub in_frame_after : own_llsn page_ops q.pages.made k ≤ y.llsn → IsInFrame after p k
      in_frame_after below r there =
          let same : left_part ≡ r = one_part (part_in after.parts p) left_part r after_has there in
          let gave : gave_at left_part.pages.gave k ≡ y.llsn = if_equal k k y.llsn (gave_at q.pages.gave k) refl in
          subst (λ (s : CorePart). own_llsn page_ops s.pages.made k ≤ gave_at s.pages.gave k) same (omega (arith, gave, below))

  -- a reader finds the newest page, and keeps it
  module _ (locked : ¬ (held_at q.pages.locks k ≡ No)) (in_frame : own_llsn page_ops q.pages.made k ≤ gave_at q.pages.gave k) where
    pub kept_read : kept_or page_ops q.pages.contents k t ≡ t
    kept_read =
        let now : page_now before.run.opening world world_inv k ≡ Some t = sym (frame_newest before.run.opening world world_inv p q world_is k locked in_frame) ∙ found_there in
        kept_same (content_at page_ops q.pages.contents k) t
        (λ c content. one_page (page_now before.run.opening world world_inv k) c t (content_newest before.run.opening world world_inv p q world_is k c content) now)

    pub read_below : own_llsn page_ops q.pages.made k ≤ t.llsn
    read_below =
        let gave = gave_within before.run.opening world world_inv p q world_is k in
        let same = ap (llsn_at page_ops) found_there in
        omega (arith, gave, same, in_frame)

  -- a writer keeps its content, which has all its records
  module _ (content : content_at page_ops q.pages.contents k ≡ Some y) where
    pub kept_written : kept_or page_ops q.pages.contents k t ≡ y
    kept_written = ap (λ o. unwrap_or o t) content

    pub written_below : own_llsn page_ops q.pages.made k ≤ y.llsn
    written_below =
        let within = own_within before.run.opening world world_inv p q world_is k in
        let same = ap (llsn_at page_ops) (content_newest before.run.opening world world_inv p q world_is k y content) in
        omega (arith, within, same)

-- a frame that was not at home leaves all but a count as it was
pub missed_is : (before mid : NodeView) (p k : ℕ) → MissedFrame p k before mid → mid ≡ with_ops before p 1
missed_is before mid p k missed =
    missed.2.becomes ∙ by_pages before (TakeFrame p k) missed.0 missed.2.note (λ r. r)
    (λ r. if_differs missed.0 0 (with_taken page_ops k missed.2.note.frame missed.2.note.known missed.2.note.height r) r missed.1)
    (if_differs missed.0 0 (k ∷ before.frames) before.frames missed.1)

module _ (before mid : NodeView) (p k : ℕ) (missed : MissedFrame p k before mid) (held : HoldsPart before p) where
  abbrev missed_part : CorePart
  missed_part = let q = (held_part before p held).0 in record q { ops = q.ops + 1 }

  missed_has : part_in mid.parts p ≡ Some missed_part
  missed_has =
      let has = held_part before p held in
      ap (λ (x : NodeView). part_in x.parts p) (missed_is before mid p k missed)
      ∙ ap (λ o. part_in (changed_part before.parts p (λ r. record r { ops = r.ops + 1 }) o) p) has.1
      ∙ part_in-with_here before.parts p missed_part has.0 has.1

  pub holds_missed : HoldsPart mid p
  holds_missed = holds_the_part mid p missed_part missed_has (held_part before p held).2

  -- it can't be for the page's writer, which has no frame
  pub not_missed : k < PAGES → held_in before p k ≡ Write → before.frames ≡ [] → CarriesAllOut mid.parts mid.frames → ⊥
  not_missed page writes none carries =
      let has = held_part before p held in
      let came = missed.2.came in
      let fair = subst NumbersFit (ap (λ (x : NodeView). x.run.opening) missed.2.becomes) missed.2.reached.fair in
      let w = run (core before.run.opening) came.events in
      let i = law before.run.opening fair came.events came.allowed.1 in
      let out = taken_by_writer before.run.opening w i p has.0 (came.agreed p has.0 has.1) k page (sym (held_is before p k has.0 has.1) ∙ writes) (λ zero_is. missed.1 (sym came.found_is ∙ zero_is)) in
      let carried = carries p k missed_part out.0 missed_has out.1 in
      let empty : mid.frames ≡ [] = ap (λ (x : NodeView). x.frames) (missed_is before mid p k missed) ∙ none in
      subst (λ l. IsIn k l) empty carried
