-- How frames are carried: what a step that takes one gives, and what the exchange of a carried page leaves.
use Rattle.std.proofs.Common.{◌≡◌, ℕ, ◌==◌, if◌then◌else◌, List, [], ◌∷◌, map, Option, Some, refl, sym, ap, ◌∙◌, subst}
use lib.ListN.{get_elem?}
use Rattle.atomic_table.specs.Seated.{TableId}
use Rattle.atomic_table.specs.Table.{Me, keeps, rest, carried_after}
use Rattle.mp_machine.specs.Machine.{run}
use Rattle.mp_machine.specs.View.{View, part_in}
use Rattle.mp_machine.specs.Rule.{MadeStep}
use Rattle.mp_cells.specs.PageView.{PageView}
use Rattle.mp_core_pages.specs.declared.page_lock.Held.{Held}
use Rattle.mp_core_pages.specs.declared.event.PagesEvent.TheVariants.{TakeFrame}
use Rattle.mp_core_pages.specs.PageEvents.{taking_of}
use Rattle.mp_core_pages.specs.PageWorld.{standing}
use Rattle.mp_core.specs.declared.opening.CoreOpening.{CoreOpening}
use Rattle.mp_core.specs.declared.part.CorePart.{CorePart}
use Rattle.mp_core.specs.declared.event.CoreEvent.TheVariants.{Pages}
use Rattle.mp_core_trx.specs.Parts.{newest}
use Rattle.mp_core.specs.World.{Frame, Note, core}
use Rattle.mp_core.specs.Invariant.{NumbersFit}
use Rattle.mp_core.proofs.Law.{law}
use Rattle.mp_shared.specs.Nodes.{Run, NodeView, MayTake}
use Rattle.mp_shared.specs.PageSteps.{TookFrame}
use Rattle.mp_shared.specs.KeptNodes.{IsKeptNode}
use Rattle.mp_shared.proofs.Steps.{run_of, view_of, fair, took_as}

-- the frame was at home: the step notes the page in it, and the seat carries the frame with it
module _ (key : CoreOpening) (fair : NumbersFit key) (me after : Me Frame (View CorePart)) (p k : ℕ) (told : MadeStep (core key) (Pages (TakeFrame p k)) me 0 after) where
  pub got_frame : (y : PageView) × (told.0.frame ≡ Some y) × (after.1 ≡ (k, y) ∷ me.1)
  got_frame =
      let came = told.4 in
      let w = run (core key) came.events in
      let home = (law key fair came.events came.allowed.1).pages.frame_turns.at_home k came.allowed.0.1.0.1.0 came.found_is in
      let stands : standing (get_elem? w.pages.homes k) ≡ Some home.0 = ap standing home.1 in (
        home.0,
        sym (ap (λ x. x.frame) came.noted) ∙ stands,
        came.carries ∙ (λ i. carried_after me.1 (if came.found_is i == 0 then taking_of k (stands i) else keeps)),
      )

  -- and it notes what its node knew
  pub knew : (q : CorePart) → part_in me.0 p ≡ Some q → told.0.known ≡ newest q.trx
  knew q has =
      let came = told.4 in
      sym (ap (λ x. x.known) came.noted) ∙ ap (λ (r : CorePart). newest r.trx) (came.agreed p q has)

-- who carries the frame of one page alone carries one slot
pub one_carried : (carried : List (ℕ × Frame)) (k : ℕ) → map (λ x. x.0) carried ≡ k ∷ [] → (y : Frame) × (carried ≡ (k, y) ∷ rest carried) × (rest carried ≡ [])
one_carried [] k e = absurd (nothing e)
  where
    nothing : [] ≡ k ∷ [] → ⊥
    nothing e = cc
one_carried (x ∷ []) k e = let same : x.0 ≡ k = head_is e in (x.1, (λ i. (same i, x.1) ∷ []), refl)
  where
    head_is : {l m : ℕ} → l ∷ [] ≡ m ∷ [] → l ≡ m
    head_is e = cc
one_carried (x ∷ (z ∷ more)) k e = absurd (two e)
  where
    two : {l m j : ℕ} {ms : List ℕ} → l ∷ (m ∷ ms) ≡ j ∷ [] → ⊥
    two e = cc

-- the seat's first slot, by another name of its page
pub carried_first : (k u : ℕ) (y : Frame) (carried more : List (ℕ × Frame)) → u ≡ k → carried ≡ (k, y) ∷ more → carried ≡ (u, y) ∷ rest carried
carried_first k u y carried more named is = is ∙ (λ i. (sym named i, y) ∷ rest (sym is i))

abbrev first_page : Frame → List (ℕ × Frame) → Frame
first_page y [] = y
first_page y (x ∷ carried) = x.1

pub same_page : (k u : ℕ) (y z : Frame) (carried xs ys : List (ℕ × Frame)) → carried ≡ (k, y) ∷ xs → carried ≡ (u, z) ∷ ys → y ≡ z
same_page k u y z carried xs ys first second = ap (first_page y) (sym first ∙ second)

-- which page is in a frame, contracts of a node do not see
pub same_view : (r : Run) (me later : Me Frame (View CorePart)) (k : ℕ) (was put : Frame) → me.1 ≡ (k, was) ∷ rest me.1 → later ≡ (me.0, (k, put) ∷ rest me.1) → view_of r later ≡ view_of r me
same_view r me later k was put there is = ap (view_of r) is ∙ (λ i. record { run = r; parts = me.0; frames = map (λ x. x.0) (sym there i) })

-- the node is kept as well with another page in the frame that it carries
module _ (r : Run) (t : TableId) (me : Me Frame (View CorePart)) (used : List (Option ℕ)) (tables : List (Option (List Held))) (kept : IsKeptNode r t me.0 (map (λ x. x.0) me.1) used tables) where
  pub kept_exchanged : (k : ℕ) (was put : Frame) (later : Me Frame (View CorePart)) (u : TableId) → u ≡ t → me.1 ≡ (k, was) ∷ rest me.1 → later ≡ (me.0, (k, put) ∷ rest me.1) → IsKeptNode r u later.0 (map (λ x. x.0) later.1) used tables
  kept_exchanged k was put later u stays there is =
      let pages : map (λ x. x.0) me.1 ≡ map (λ x. x.0) later.1 = ap (map (λ x. x.0)) there ∙ sym (ap (λ (m : Me Frame (View CorePart)). map (λ x. x.0) m.1) is) in
      let parts : me.0 ≡ later.0 = sym (ap (λ (m : Me Frame (View CorePart)). m.0) is) in
      subst (λ (w : TableId). IsKeptNode r w later.0 (map (λ x. x.0) later.1) used tables) (sym stays)
      (subst (λ (ks : List ℕ). IsKeptNode r t later.0 ks used tables) pages
      (subst (λ (v : View CorePart). IsKeptNode r t v (map (λ x. x.0) me.1) used tables) parts kept))

-- a node that took a frame, and put another page into it
module _ (st : TableId) (key : CoreOpening) (s : Run) (shared_is : run_of st key ≡ s) (r : Run) (me : Me Frame (View CorePart)) (v : NodeView) (node_is : view_of r me ≡ v) (same : v.run ≡ s)
    (t : TableId) (used : List (Option ℕ)) (tables : List (Option (List Held))) (kept : IsKeptNode r t me.0 (map (λ x. x.0) me.1) used tables) (p k : ℕ) (may : MayTake (Pages (TakeFrame p k)) v) where
  pub took_frame : (found : ℕ) (after : Me Frame (View CorePart)) → found ≡ 0 → MadeStep (core key) (Pages (TakeFrame p k)) me found after
      → (later : Me Frame (View CorePart)) (u : ℕ) (y put : Frame) → after.1 ≡ (u, y) ∷ rest after.1 → later ≡ (after.0, (u, put) ∷ rest after.1) → TookFrame p k y v (view_of r later)
  took_frame found after free made later u y put there is =
      let told : MadeStep (core key) (Pages (TakeFrame p k)) me 0 after = subst (λ f. MadeStep (core key) (Pages (TakeFrame p k)) me f after) free made in
      let fits = fair st key s shared_is r me v node_is same t used tables kept (Pages (TakeFrame p k)) may in
      let got = got_frame key fits me after p k told in
      let parts : later.0 ≡ after.0 = ap (λ (m : Me Frame (View CorePart)). m.0) is in
      let frames : map (λ x. x.0) later.1 ≡ map (λ x. x.0) after.1 = ap (λ (m : Me Frame (View CorePart)). map (λ x. x.0) m.1) is ∙ sym (ap (map (λ x. x.0)) there) in
      let step = took_as st key s shared_is r me v node_is same t used tables kept (Pages (TakeFrame p k)) may 0 after told later parts frames in
      let its_page : got.0 ≡ y = same_page k u got.0 y after.1 me.1 (rest after.1) got.2 there in
      record {
        step = step.0;
        frame = ap (λ (x : Note). x.frame) step.1 ∙ got.1 ∙ ap (λ z. Some z) its_page;
        known = λ q has. ap (λ (x : Note). x.known) step.1 ∙ knew key fits me after p k told q (ap (λ (x : NodeView). part_in x.parts p) node_is ∙ has);
      }
