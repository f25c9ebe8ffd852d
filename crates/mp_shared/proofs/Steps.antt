-- What each step call owes and what it tells, in the words of contracts.
use Rattle.std.proofs.Common.{◌≡◌, ℕ, ◌==◌, Bool, true, false, if◌then◌else◌, List, [], ◌∷◌, drop, Option, Some, None, length, map, slice_index_or, refl, sym, ap, ◌∙◌, subst, ◌<◌, ◌≤◌, arith, ne_eqb}
use mathlib.Core.Bool.{false≢true}
use mathlib.Core.Logic.{dite}
use native.Mathlib.Decide.{ℕ_discrete}
use Rattle.atomic_table.specs.Seated.{TableId}
use Rattle.atomic_table.specs.Table.{Me, keeps, rest, carried_after}
use lib.ListN.{get_elem?}
use Rattle.mp_machine.specs.Machine.{run, AllAllowed}
use Rattle.mp_machine.specs.View.{View, part_in, with_part, ViewAgrees}
use Rattle.mp_machine.specs.Rule.{Backed, Word, CanMake, MadeStep}
use Rattle.mp_machine.proofs.Adapter.{backed}
use Rattle.mp_core_trx.specs.Events.{IsNode}
use Rattle.mp_cells.specs.PageView.{PageView}
use Rattle.mp_core_pages.specs.declared.page_lock.Held.{Held}
use Rattle.mp_core_pages.specs.PageParts.{held_at}
use Rattle.mp_core_pages.specs.declared.event.PagesEvent.TheVariants.{LockWord, UnlockWord, TakeFrame, GiveFrame, StoreLlsn, StoreDurable}
use Rattle.mp_core_pages.specs.PageEvents.{taking_of}
use Rattle.mp_core_pages.specs.PageWorld.{standing}
use Rattle.mp_core.specs.declared.words.TheConstants.{WORDS}
use Rattle.mp_core.specs.declared.opening.CoreOpening.{CoreOpening}
use Rattle.mp_core.specs.declared.part.CorePart.{CorePart}
use Rattle.mp_core.specs.declared.event.CoreEvent.{CoreEvent}
use Rattle.mp_core.specs.declared.event.CoreEvent.TheVariants.{Trx, Pages, Down}
use Rattle.mp_core.specs.World.{Frame, CoreWorld, IsCorePlace, core_node_of, core_place_of, core_index, core_content, Carries, core_part, core_made, CoreAllowed, core}
use Rattle.mp_core.specs.Invariant.{NumbersFit, CoreInv}
use Rattle.mp_core.proofs.Law.{law}
use Rattle.mp_core.proofs.Placed.{placed, index_within}
use Rattle.mp_shared.specs.Nodes.{Run, NodeView, Reached, MayTake, changed_part, frames_after, node_after, Behind, Took}
use Rattle.mp_shared.specs.LockTables.{NotesLocks, NotesPart}
use Rattle.mp_shared.specs.Slots.{used_by}
use Rattle.mp_shared.specs.KeptNodes.{CarriesAllOut, IsKeptNode}
use Rattle.mp_shared.proofs.Kept.{TakesNextSlot, in_order_made, in_order_turned, counted_turned}
use Rattle.mp_shared.proofs.Numbered.{numbered}
use Rattle.mp_shared.proofs.Noted.{KeepsLocks, same_locks, noted_turned}
use Rattle.mp_shared.proofs.FramesOut.{carried_out_after}

-- what contracts see of a table and of a node's seat
abbrev pub run_of : TableId → CoreOpening → Run
run_of t o = record { table_id = t; opening = o }

abbrev pub view_of : Run → Me Frame (View CorePart) → NodeView
view_of r me = record { run = r; parts = me.0; frames = map (λ x. x.0) me.1 }

-- a frame that is at home is taken
frame_taken : (k : ℕ) (carried : List (ℕ × Frame)) (x : Option PageView) (b : Bool) → (b ≡ true → (y : PageView) × (x ≡ Some y))
    → map (λ c. c.0) (carried_after carried (if b then taking_of k x else keeps)) ≡ (if b then k ∷ map (λ c. c.0) carried else map (λ c. c.0) carried)
frame_taken k carried (Some y) true there = refl
frame_taken k carried None true there = let is = there refl in absurd (none_there is.0 is.1)
  where
    none_there : (y : PageView) → None ≡ Some y → ⊥
    none_there y e = cc
frame_taken k carried x false there = refl

one_less : (carried : List (ℕ × Frame)) → map (λ c. c.0) (rest carried) ≡ drop 1 (map (λ c. c.0) carried)
one_less [] = refl
one_less (x ∷ carried) = refl

is_zero : (t : ℕ) → (t == 0) ≡ true → t ≡ 0
is_zero t e = dite (ℕ_discrete t 0) (λ zero_is. zero_is) (λ other. absurd (false≢true (sym (ne_eqb t 0 other) ∙ e)))

-- what a step does with slots shows in the numbers of the pages alone
frames_carried : (o : CoreOpening) (w : CoreWorld) → CoreInv o w → (e : CoreEvent) → CoreAllowed (core_part w (core_node_of e)) e → (found : ℕ) → core_content o w (core_place_of e) ≡ found
    → (carried : List (ℕ × Frame)) → map (λ x. x.0) (carried_after carried ((core o).act w e)) ≡ frames_after e found (map (λ x. x.0) carried)
frames_carried o w i (Trx e) may found is carried = refl
frames_carried o w i (Pages (LockWord n k old new)) may found is carried = refl
frames_carried o w i (Pages (UnlockWord n k)) may found is carried = refl
frames_carried o w i (Pages (TakeFrame n k)) may found is carried =
    let pages = map (λ (c : ℕ × Frame). c.0) carried in
    frame_taken k carried (standing (get_elem? w.pages.homes k)) (w.pages.turn_words k == 0)
    (λ free. let home = i.pages.frame_turns.at_home k may.1.0 (is_zero (w.pages.turn_words k) free) in (home.0, ap standing home.1))
    ∙ ap (λ t. if t == 0 then k ∷ pages else pages) is
frames_carried o w i (Pages (GiveFrame n k y)) may found is carried = one_less carried
frames_carried o w i (Pages (StoreLlsn n m)) may found is carried = refl
frames_carried o w i (Pages (StoreDurable n v)) may found is carried = refl
frames_carried o w i (Down e) may found is carried = refl

-- a node that may take a step on its table
module _ (st : TableId) (key : CoreOpening) (s : Run) (shared_is : run_of st key ≡ s) (r : Run) (me : Me Frame (View CorePart)) (v : NodeView) (node_is : view_of r me ≡ v) (same : v.run ≡ s) where
  one_run : r ≡ run_of st key
  one_run = ap (λ (x : NodeView). x.run) node_is ∙ same ∙ sym shared_is

  pub one_opening : r.opening ≡ key
  one_opening = ap (λ (x : Run). x.opening) one_run

  pub one_table : (t : TableId) (used : List (Option ℕ)) (tables : List (Option (List Held))) → IsKeptNode r t me.0 (map (λ x. x.0) me.1) used tables → t ≡ st
  one_table t used tables kept = sym kept.one ∙ ap (λ (x : Run). x.table_id) one_run

  module _ (t : TableId) (used : List (Option ℕ)) (tables : List (Option (List Held))) (kept : IsKeptNode r t me.0 (map (λ x. x.0) me.1) used tables) (e : CoreEvent) (may : MayTake e v) where
    pub fair : NumbersFit key
    fair = subst NumbersFit one_opening kept.fair

    its_part : part_in me.0 (core_node_of e) ≡ Some may.0
    its_part = ap (λ (x : NodeView). part_in x.parts (core_node_of e)) node_is ∙ may.1

    -- some world that can be reached allows it
    pub allowed_there : (es : List CoreEvent) × AllAllowed (core key) es × CoreAllowed (core_part (run (core key) es) (core_node_of e)) e
    allowed_there =
        let b = subst (λ k. Backed (core k) me.0) one_opening kept.backed in
        (b.0, b.1, subst (λ q. CoreAllowed q e) (sym (b.2 (core_node_of e) may.0 its_part)) may.2)

    pub place : IsCorePlace (core_place_of e)
    place = let w = allowed_there in placed key fair (run (core key) w.0) (law key fair w.0 w.1) e w.2

    -- its node has a number from 1 to 8
    pub at_most_8 : IsNode may.0.trx.opening (core_node_of e) → core_node_of e ≤ 8
    at_most_8 node = numbered v (subst Reached node_is record { fair = kept.fair; backed = kept.backed }) (core_node_of e) may.0 may.1 node

    -- its word is one of the table's
    pub within : (word words : ℕ) → words ≡ WORDS → word ≡ core_index (core_place_of e) → word < words
    within word words all at = let inside = index_within (core_place_of e) place in omega (arith, inside, all, at)

    pub can : Carries me.1 e → (word : ℕ) (f : ℕ → ℕ) → word ≡ core_index (core_place_of e) → Word (core key) e f → CanMake (core key) e me word f
    can carries word f at changes = record { place = place; word_is = at; mine = may.0; holds = its_part; allowed = (may.2, carries); changes = changes }

    module _ (found : ℕ) (after : Me Frame (View CorePart)) (told : MadeStep (core key) e me found after) where
      -- the part that it changed is the one that may take it
      mine : may.0 ≡ told.1
      mine = let both = sym its_part ∙ told.2 in cc

      frames_now : map (λ x. x.0) after.1 ≡ frames_after e found (map (λ x. x.0) me.1)
      frames_now =
          let came = told.4 in
          ap (map (λ x. x.0)) came.carries ∙ frames_carried key (run (core key) came.events) (law key fair came.events came.allowed.1) e came.allowed.0.1.0 found came.found_is me.1

      out_now : Carries me.1 e → CarriesAllOut after.0 (map (λ x. x.0) after.1)
      out_now carries =
          let came = told.4 in
          let q = told.1 in
          subst (λ ks. CarriesAllOut after.0 ks) (sym frames_now)
          (subst (λ (v : View CorePart). CarriesAllOut v (frames_after e found (map (λ x. x.0) me.1))) (sym told.3)
          (carried_out_after key (run (core key) came.events) (law key fair came.events came.allowed.1) me.0 came.agreed e found told.0 q told.2 (subst (λ x. CoreAllowed x e) mine may.2) me.1 carries kept.carried_out))

      -- the node stays well kept, with these counts and tables of the part that changed
      pub kept_step : Carries me.1 e → (later_table : TableId) → later_table ≡ t → TakesNextSlot e may.0
          → (later : List (Option ℕ)) → slice_index_or later (core_node_of e) None ≡ Some (length (core_made e found told.0 may.0).trx.begun) → ((k : ℕ) → ¬ (k ≡ core_node_of e) → slice_index_or later k None ≡ slice_index_or used k None)
          → (later_tables : List (Option (List Held))) → NotesLocks (slice_index_or later_tables (core_node_of e) None) (held_at (core_made e found told.0 may.0).pages.locks) → ((k : ℕ) → ¬ (k ≡ core_node_of e) → slice_index_or later_tables k None ≡ slice_index_or tables k None)
          → IsKeptNode r later_table after.0 (map (λ x. x.0) after.1) later later_tables
      kept_step carries later_table stays next later here there later_tables notes elsewhere =
          let n = core_node_of e in
          let q = told.1 in
          let parts : after.0 ≡ with_part me.0 n (core_made e found told.0 q) = told.3 in
          record {
            one = kept.one ∙ sym stays;
            fair = kept.fair;
            backed = subst (λ k. Backed (core k) after.0) (sym one_opening) (backed (core key) e me found after told);
            counted = λ k. counted_turned me.0 n q (core_made e found told.0 q) told.2 used later kept.counted (here ∙ ap (λ x. Some (length (core_made e found told.0 x).trx.begun)) mine) there k ∙ ap (λ (x : View CorePart). used_by (part_in x k)) (sym parts);
            in_order = λ k p has.
                in_order_turned me.0 n q (core_made e found told.0 q) told.2 kept.in_order
                (in_order_made e found told.0 q (kept.in_order n q told.2) (subst (λ x. CoreAllowed x e) mine may.2) (subst (λ x. TakesNextSlot e x) mine next))
                k p (ap (λ (x : View CorePart). part_in x k) (sym parts) ∙ has);
            noted = λ k.
                subst (λ (x : View CorePart). NotesPart (slice_index_or later_tables k None) (part_in x k)) (sym parts)
                (noted_turned me.0 n q (core_made e found told.0 q) told.2 tables later_tables kept.noted (subst (λ x. NotesLocks (slice_index_or later_tables n None) (held_at (core_made e found told.0 x).pages.locks)) mine notes) elsewhere k);
            carried_out = out_now carries;
          }

      -- what the tables note of the part before
      pub notes_mine : NotesLocks (slice_index_or tables (core_node_of e) None) (held_at may.0.pages.locks)
      notes_mine = subst (λ o. NotesPart (slice_index_or tables (core_node_of e) None) o) its_part (kept.noted (core_node_of e))

    -- the same where no lock changes
    pub kept_turned : (found : ℕ) (after : Me Frame (View CorePart)) (later_table : TableId) → later_table ≡ t → (told : MadeStep (core key) e me found after) → TakesNextSlot e may.0 → KeepsLocks e found → Carries me.1 e
        → (later : List (Option ℕ)) → slice_index_or later (core_node_of e) None ≡ Some (length (core_made e found told.0 may.0).trx.begun) → ((k : ℕ) → ¬ (k ≡ core_node_of e) → slice_index_or later k None ≡ slice_index_or used k None)
        → IsKeptNode r later_table after.0 (map (λ x. x.0) after.1) later tables
    kept_turned found after later_table stays told next steady carries later here there =
        kept_step found after told carries later_table stays next later here there tables
        (subst (λ rows. NotesLocks (slice_index_or tables (core_node_of e) None) (held_at rows)) (sym (same_locks e found told.0 may.0 steady)) (notes_mine found after told))
        (λ k other. refl)

    -- and as many slots are used as before
    pub kept_same : (found : ℕ) (after : Me Frame (View CorePart)) (later_table : TableId) → later_table ≡ t → (told : MadeStep (core key) e me found after) → TakesNextSlot e may.0 → KeepsLocks e found → Carries me.1 e
        → length (core_made e found told.0 may.0).trx.begun ≡ length may.0.trx.begun → IsKeptNode r later_table after.0 (map (λ x. x.0) after.1) used tables
    kept_same found after later_table stays told next steady carries same_count =
        kept_turned found after later_table stays told next steady carries used
        (kept.counted (core_node_of e) ∙ ap used_by its_part ∙ ap (λ k. Some k) (sym same_count))
        (λ k other. refl)

    -- and a lock changes
    pub kept_locked : (found : ℕ) (after : Me Frame (View CorePart)) (later_table : TableId) → later_table ≡ t → (told : MadeStep (core key) e me found after) → TakesNextSlot e may.0 → Carries me.1 e
        → length (core_made e found told.0 may.0).trx.begun ≡ length may.0.trx.begun
        → (later_tables : List (Option (List Held))) → NotesLocks (slice_index_or later_tables (core_node_of e) None) (held_at (core_made e found told.0 may.0).pages.locks) → ((k : ℕ) → ¬ (k ≡ core_node_of e) → slice_index_or later_tables k None ≡ slice_index_or tables k None)
        → IsKeptNode r later_table after.0 (map (λ x. x.0) after.1) used later_tables
    kept_locked found after later_table stays told next carries same_count later_tables notes elsewhere =
        kept_step found after told carries later_table stays next used
        (kept.counted (core_node_of e) ∙ ap used_by its_part ∙ ap (λ k. Some k) (sym same_count))
        (λ k other. refl) later_tables notes elsewhere

    -- what the step told, of a seat with these parts that carries the frames of these pages
    pub took_as : (found : ℕ) (after : Me Frame (View CorePart)) (told : MadeStep (core key) e me found after) (later : Me Frame (View CorePart)) → later.0 ≡ after.0 → map (λ x. x.0) later.1 ≡ map (λ x. x.0) after.1 → (t : Took e v found (view_of r later)) × (t.note ≡ told.0)
    took_as found after told later same_parts same_frames =
        let n = core_node_of e in
        let parts : later.0 ≡ changed_part me.0 n (core_made e found told.0) (part_in me.0 n) = same_parts ∙ told.3 ∙ sym (ap (changed_part me.0 n (core_made e found told.0)) told.2) in
        let frames : map (λ x. x.0) later.1 ≡ frames_after e found (map (λ x. x.0) me.1) = same_frames ∙ frames_now found after told in
        let came = told.4 in
        let now = subst (λ (u : View CorePart). Backed (core key) u) (sym same_parts) (backed (core key) e me found after told) in
        let there = subst (λ (u : View CorePart). ViewAgrees (core_part (run (core key) (e ∷ came.events))) u) (sym same_parts) came.agrees in (
          record {
            note = told.0;
            becomes = (λ i. record { run = r; parts = parts i; frames = frames i }) ∙ ap (λ (u : NodeView). node_after u e found told.0) node_is;
            came =
                subst (λ (u : NodeView). Behind u.run.opening e u.parts later.0 found told.0) node_is
                (subst (λ k. Behind k e me.0 later.0 found told.0) (sym one_opening) record { events = came.events; allowed = came.allowed; found_is = came.found_is; noted = came.noted; agreed = came.agreed; agrees = there });
            reached = record { fair = kept.fair; backed = subst (λ k. Backed (core k) later.0) (sym one_opening) now };
          },
          refl,
        )

    pub took : (found : ℕ) (after : Me Frame (View CorePart)) → MadeStep (core key) e me found after → Took e v found (view_of r after)
    took found after told = (took_as found after told after refl refl).0
