-- A node carries the frames that its parts have, through each step.
use Rattle.std.proofs.Common.{◌≡◌, ℕ, ◌==◌, Bool, true, false, List, [], ◌∷◌, map, drop, Option, Some, None, if◌then◌else◌, inl, inr, ⊎_elim, refl, sym, ap, ◌∙◌, subst}
use mathlib.Core.Logic.{dite}
use native.Mathlib.Decide.{ℕ_discrete}
use Rattle.mp_machine.specs.Lists.{IsIn}
use Rattle.mp_machine.specs.View.{View, part_in, with_part, ViewAgrees}
use Rattle.mp_machine.proofs.Views.{part_in-with_here, part_in-with_else}
use Rattle.mp_cells.specs.declared.records.Mtr.{Mtr}
use Rattle.mp_cells.specs.PageView.{PageView}
use Rattle.mp_core_pages.specs.declared.part.PagesPart.{PagesPart}
use Rattle.mp_core_pages.specs.declared.part.FrameRow.{FrameRow}
use Rattle.mp_core_pages.specs.declared.event.PagesEvent.TheVariants.{LockWord, UnlockWord, TakeFrame, GiveFrame, StoreLlsn, StoreDurable}
use Rattle.mp_core_pages.specs.PageParts.{frame_row, out_at}
use Rattle.mp_core_pages.specs.PageEvents.{taken_as, with_lock, with_taken, MayGive, GivesContent}
use Rattle.mp_core_pages.proofs.Choices.{if_equal, if_differs}
use Rattle.mp_core.specs.declared.opening.CoreOpening.{CoreOpening}
use Rattle.mp_core.specs.declared.part.CorePart.{CorePart}
use Rattle.mp_core.specs.declared.event.CoreEvent.{CoreEvent}
use Rattle.mp_core.specs.declared.event.CoreEvent.TheVariants.{Trx, Pages, Down}
use Rattle.mp_core.specs.Contents.{page_ops}
use Rattle.mp_core.specs.World.{Frame, CoreWorld, Note, Carries, core_node_of, core_part, core_made, CoreAllowed}
use Rattle.mp_core.specs.Invariant.{CoreInv}
use Rattle.mp_shared.specs.Nodes.{frames_after}
use Rattle.mp_shared.specs.KeptNodes.{CarriesAllOut}

-- the frames that a part has are among these
abbrev pub OutIn : PagesPart PageView Mtr → List ℕ → Type 0
OutIn p frames = (k : ℕ) (y : Frame) → out_at p.frames k ≡ Some y → IsIn k frames

row_else : (rows : List (FrameRow PageView)) (k j : ℕ) (taken : Option PageView) → ¬ (j ≡ k) → out_at (frame_row k taken ∷ rows) j ≡ out_at rows j
row_else rows k j taken other = if_differs j k taken (out_at rows j) other

row_here : (rows : List (FrameRow PageView)) (k j : ℕ) (taken : Option PageView) → j ≡ k → out_at (frame_row k taken ∷ rows) j ≡ taken
row_here rows k j taken same = if_equal j k taken (out_at rows j) same

out_taken : (b : Bool) (k : ℕ) (frame : Option PageView) (known height : ℕ) (p : PagesPart PageView Mtr) (frames : List ℕ) → OutIn p frames
    → OutIn (if b then with_taken page_ops k frame known height p else p) (if b then k ∷ frames else frames)
out_taken true k (Some z) known height p frames old j y out =
    dite (ℕ_discrete j k)
    (λ same. inl same)
    (λ other. inr (old j y (sym (row_else p.frames k j (Some z) other) ∙ out)))
out_taken true k None known height p frames old j y out = inr (old j y out)
out_taken false k frame known height p frames old j y out = old j y out

lock_keeps : (b : Bool) (p q : PagesPart PageView Mtr) (frames : List ℕ) → q.frames ≡ p.frames → OutIn p frames → OutIn (if b then q else p) frames
lock_keeps true p q frames same old j y out = old j y (ap (λ rows. out_at rows j) (sym same) ∙ out)
lock_keeps false p q frames same old j y out = old j y out

-- the step gives no frame back
abbrev pub GivesNone : CoreEvent → Type 0
GivesNone (Trx e) = Unit {0}
GivesNone (Pages (LockWord n k old new)) = Unit {0}
GivesNone (Pages (UnlockWord n k)) = Unit {0}
GivesNone (Pages (TakeFrame n k)) = Unit {0}
GivesNone (Pages (GiveFrame n k y)) = ⊥
GivesNone (Pages (StoreLlsn n m)) = Unit {0}
GivesNone (Pages (StoreDurable n v)) = Unit {0}
GivesNone (Down e) = Unit {0}

-- of the part that makes it
out_made : (e : CoreEvent) → GivesNone e → (found : ℕ) (x : Note) (p : CorePart) (frames : List ℕ) → OutIn p.pages frames → OutIn (core_made e found x p).pages (frames_after e found frames)
out_made (Trx e) none found x p frames old = old
out_made (Pages (LockWord n k old_word new)) none found x p frames old = lock_keeps (found == old_word) p.pages (with_lock k (taken_as new) p.pages) frames refl old
out_made (Pages (UnlockWord n k)) none found x p frames old = old
out_made (Pages (TakeFrame n k)) none found x p frames old = out_taken (found == 0) k x.frame x.known x.height p.pages frames old
out_made (Pages (GiveFrame n k y)) none found x p frames old = absurd none
out_made (Pages (StoreLlsn n m)) none found x p frames old = old
out_made (Pages (StoreDurable n v)) none found x p frames old = old
out_made (Down e) none found x p frames old = old

still_in : (b : Bool) (k j : ℕ) (frames : List ℕ) → IsIn j frames → IsIn j (if b then k ∷ frames else frames)
still_in true k j frames there = inr there
still_in false k j frames there = there

-- and of any other part
out_stays : (e : CoreEvent) → GivesNone e → (found j : ℕ) (frames : List ℕ) → IsIn j frames → IsIn j (frames_after e found frames)
out_stays (Trx e) none found j frames there = there
out_stays (Pages (LockWord n k old new)) none found j frames there = there
out_stays (Pages (UnlockWord n k)) none found j frames there = there
out_stays (Pages (TakeFrame n k)) none found j frames there = still_in (found == 0) k j frames there
out_stays (Pages (GiveFrame n k y)) none found j frames there = absurd none
out_stays (Pages (StoreLlsn n m)) none found j frames there = there
out_stays (Pages (StoreDurable n v)) none found j frames there = there
out_stays (Down e) none found j frames there = there

module _ (parts : View CorePart) (n : ℕ) (q next : CorePart) (has : part_in parts n ≡ Some q) (frames later : List ℕ)
    (here : OutIn next.pages later) (there : (m k : ℕ) (p : CorePart) (y : Frame) → ¬ (m ≡ n) → part_in parts m ≡ Some p → out_at p.pages.frames k ≡ Some y → IsIn k later) where
  -- one part of a view changes
  out_turned : CarriesAllOut (with_part parts n next) later
  out_turned m k p y held out =
      dite (ℕ_discrete m n)
      (λ same.
      let is : next ≡ p = let both = sym (ap (part_in (with_part parts n next)) same ∙ part_in-with_here parts n next q has) ∙ held in cc in
      here k y (ap (λ (r : CorePart). out_at r.pages.frames k) is ∙ out))
      (λ other. there m k p y other (sym (part_in-with_else parts n m next other) ∙ held) out)

-- who gives a frame back had no other, and nobody else of the node had one
module _ (o : CoreOpening) (w : CoreWorld) (i : CoreInv o w) (parts : View CorePart) (agreed : ViewAgrees (core_part w) parts) (n k : ℕ) (y : PageView) (found : ℕ) (x : Note) (q : CorePart) (has : part_in parts n ≡ Some q)
    (base : ℕ) (may : MayGive page_ops base q.pages k y) (out_in : CarriesAllOut parts (k ∷ [])) where
  one_of : (j : ℕ) → IsIn j (k ∷ []) → j ≡ k
  one_of j is = ⊎_elim (λ (same : j ≡ k). same) (λ (none : ⊥). absurd none) is

  turn_of_one : (m j : ℕ) (p : CorePart) (z : Frame) → part_in parts m ≡ Some p → out_at p.pages.frames j ≡ Some z → w.pages.turn_words j ≡ m
  turn_of_one m j p z held out = (i.pages.frame_turns.named m j z (ap (λ (r : CorePart). out_at r.pages.frames j) (agreed m p held) ∙ out)).0

  has_it : w.pages.turn_words k ≡ n
  has_it =
      ⊎_elim
      (λ (same : out_at q.pages.frames k ≡ Some y). turn_of_one n k q y has same)
      (λ (content : GivesContent page_ops base q.pages k y). turn_of_one n k q content.took.0 has content.took.1)
      may.gives_back

  given_here : OutIn (core_made (Pages (GiveFrame n k y)) found x q).pages []
  given_here j z out =
      dite (ℕ_discrete j k)
      (λ same. absurd (no_page z (sym (row_here q.pages.frames k j None same) ∙ out)))
      (λ other. absurd (other (one_of j (out_in n j q z has (sym (row_else q.pages.frames k j None other) ∙ out)))))
    where
      no_page : (z : Frame) → None ≡ Some z → ⊥
      no_page z e = cc

  given_there : (m j : ℕ) (p : CorePart) (z : Frame) → ¬ (m ≡ n) → part_in parts m ≡ Some p → out_at p.pages.frames j ≡ Some z → IsIn j []
  given_there m j p z other held out =
      let same : j ≡ k = one_of j (out_in m j p z held out) in
      other (sym (turn_of_one m j p z held out) ∙ ap w.pages.turn_words same ∙ has_it)

  out_given : CarriesAllOut (with_part parts n (core_made (Pages (GiveFrame n k y)) found x q)) []
  out_given = out_turned parts n q (core_made (Pages (GiveFrame n k y)) found x q) has (k ∷ []) [] given_here given_there

module _ (o : CoreOpening) (w : CoreWorld) (i : CoreInv o w) (parts : View CorePart) (agreed : ViewAgrees (core_part w) parts) where
  stays_out : (e : CoreEvent) → GivesNone e → (found : ℕ) (x : Note) (q : CorePart) → part_in parts (core_node_of e) ≡ Some q → (frames : List ℕ)
      → CarriesAllOut parts frames → CarriesAllOut (with_part parts (core_node_of e) (core_made e found x q)) (frames_after e found frames)
  stays_out e none found x q has frames all =
      out_turned parts (core_node_of e) q (core_made e found x q) has frames (frames_after e found frames)
      (out_made e none found x q frames (λ k y. all (core_node_of e) k q y has))
      (λ m k p y other held out. out_stays e none found k frames (all m k p y held out))

  -- the frames that the node's parts have after a step are those that it carries then
  pub carried_out_after : (e : CoreEvent) (found : ℕ) (x : Note) (q : CorePart) → part_in parts (core_node_of e) ≡ Some q → CoreAllowed q e
      → (carried : List (ℕ × Frame)) → Carries carried e → CarriesAllOut parts (map (λ c. c.0) carried)
      → CarriesAllOut (with_part parts (core_node_of e) (core_made e found x q)) (frames_after e found (map (λ c. c.0) carried))
  carried_out_after (Trx e) found x q has may carried is all = stays_out (Trx e) tt found x q has (map (λ c. c.0) carried) all
  carried_out_after (Pages (LockWord n k old new)) found x q has may carried is all = stays_out (Pages (LockWord n k old new)) tt found x q has (map (λ c. c.0) carried) all
  carried_out_after (Pages (UnlockWord n k)) found x q has may carried is all = stays_out (Pages (UnlockWord n k)) tt found x q has (map (λ c. c.0) carried) all
  carried_out_after (Pages (TakeFrame n k)) found x q has may carried is all = stays_out (Pages (TakeFrame n k)) tt found x q has (map (λ c. c.0) carried) all
  carried_out_after (Pages (GiveFrame n k y)) found x q has may carried is all =
      let pages : map (λ c. c.0) carried ≡ k ∷ [] = ap (map (λ c. c.0)) is in
      subst (λ ks. CarriesAllOut (with_part parts n (core_made (Pages (GiveFrame n k y)) found x q)) (drop 1 ks)) (sym pages)
      (out_given o w i parts agreed n k y found x q has q.trx.opening.base.llsn may.1 (subst (CarriesAllOut parts) pages all))
  carried_out_after (Pages (StoreLlsn n m)) found x q has may carried is all = stays_out (Pages (StoreLlsn n m)) tt found x q has (map (λ c. c.0) carried) all
  carried_out_after (Pages (StoreDurable n v)) found x q has may carried is all = stays_out (Pages (StoreDurable n v)) tt found x q has (map (λ c. c.0) carried) all
  carried_out_after (Down e) found x q has may carried is all = stays_out (Down e) tt found x q has (map (λ c. c.0) carried) all
