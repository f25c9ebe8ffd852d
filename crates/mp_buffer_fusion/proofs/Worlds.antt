-- What each world that can be reached shows of a page that a primary holds.
use Rattle.std.proofs.Common.{◌≡◌, ℕ, zero, suc, ◌<◌, ◌≤◌, ◌==◌, Bool, true, false, if◌then◌else◌, ◌⊎◌, inl, inr, ⊎_elim, List, [], ◌∷◌, length, Option, Some, None, refl, sym, ap, ◌∙◌, subst, arith}
use Rattle.std.proofs.lemmas.Bool.{cases_Bool}
use mathlib.Core.Logic.{dite}
use native.Mathlib.Decide.{ℕ_discrete}
use Rattle.mp_machine.specs.Lists.{IsIn}
use Rattle.mp_machine.specs.View.{part_in}
use Rattle.mp_cells.specs.declared.records.Mtr.{Mtr}
use Rattle.mp_cells.specs.PageView.{PageView}
use Rattle.mp_core_pages.specs.declared.opening.TheConstants.{PAGES}
use Rattle.mp_core_pages.specs.declared.page_lock.Held.TheVariants.{No, Write}
use Rattle.mp_core_pages.specs.declared.part.Placed.{Placed}
use Rattle.mp_core_pages.specs.Histories.{is_touched, Touches, placed, llsn_at, folded, made_by}
use Rattle.mp_core_pages.specs.PageParts.{held_at, out_at, gave_at, content_at, own_llsn}
use Rattle.mp_core_pages.specs.PageWorld.{frame_in}
use Rattle.mp_core_pages.specs.PageInvariant.{Ascends}
use Rattle.mp_core_pages.proofs.Choices.{if_true, if_false, of_equal}
use Rattle.mp_core_pages.proofs.Prefixes.{touching_below, prefix_whole, own_most}
use Rattle.mp_core.specs.declared.opening.CoreOpening.{CoreOpening}
use Rattle.mp_core.specs.declared.part.CorePart.{CorePart}
use Rattle.mp_core.specs.Contents.{page_ops, pages_opening}
use Rattle.mp_core.specs.World.{CoreWorld, core_part}
use Rattle.mp_core.specs.Invariant.{NumbersFit, CoreInv}
use Rattle.mp_core.proofs.Law.{law}
use Rattle.mp_core.proofs.Pages.{page_laws}
use Rattle.mp_shared.specs.Nodes.{NodeView}
use Rattle.mp_buffer_fusion.specs.Visits.{IsNewest}

-- what a node made stands in the history, below its length
abbrev StandsIn : Placed Mtr → List Mtr → Type 0
StandsIn x history = IsIn x.mtr history × (x.at < length history)

made_last : (n : ℕ) (x : Placed Mtr) (m : Mtr) (history : List Mtr) (b : Bool) → (IsIn x (made_by page_ops n history) → StandsIn x history)
    → IsIn x (if b then placed (length history) m ∷ made_by page_ops n history else made_by page_ops n history) → StandsIn x (m ∷ history)
made_last n x m history true before is =
    ⊎_elim
    (λ (same : x ≡ placed (length history) m). let at = ap (λ (y : Placed Mtr). y.at) same in (inl (ap (λ (y : Placed Mtr). y.mtr) same), omega (arith, at)))
    (λ (old : IsIn x (made_by page_ops n history)). let was = before old in (inr was.0, omega (arith, was.1)))
    is
made_last n x m history false before is = let was = before is in (inr was.0, omega (arith, was.1))

pub in_made : (n : ℕ) (x : Placed Mtr) (history : List Mtr) → IsIn x (made_by page_ops n history) → IsIn x.mtr history × (x.at < length history)
in_made n x [] is = absurd is
in_made n x (m ∷ history) is = made_last n x m history (m.node == n) (λ old. in_made n x history old) is

-- a node's last mtr on a page is one that it made
own_found : (k : ℕ) (made : List (Placed Mtr)) → (own_llsn page_ops made k ≡ 0) ⊎ ((x : Placed Mtr) × IsIn x made × Touches page_ops x.mtr k × (own_llsn page_ops made k ≡ x.mtr.llsn))
own_found k [] = inl refl
own_found k (x ∷ made) =
    ⊎_elim
    (λ (touch : is_touched k (page_ops.touches x.mtr) ≡ true). inr (x, inl refl, touch, if_true (is_touched k (page_ops.touches x.mtr)) x.mtr.llsn (own_llsn page_ops made k) touch))
    (λ (apart : is_touched k (page_ops.touches x.mtr) ≡ false).
    let same = if_false (is_touched k (page_ops.touches x.mtr)) x.mtr.llsn (own_llsn page_ops made k) apart in
    ⊎_elim
    (λ (none : own_llsn page_ops made k ≡ 0). inl (same ∙ none))
    (λ (old : (y : Placed Mtr) × IsIn y made × Touches page_ops y.mtr k × (own_llsn page_ops made k ≡ y.mtr.llsn)). inr (old.0, inr old.1, old.2, same ∙ old.3))
    (own_found k made))
    (cases_Bool (is_touched k (page_ops.touches x.mtr)))

module _ (o : CoreOpening) (w : CoreWorld) (i : CoreInv o w) where
  -- the page in a frame, and the page after all mtrs
  abbrev pub frame_now : ℕ → Option PageView
  frame_now k = frame_in w.pages.turn_words w.pages.homes w.pages.frames k

  abbrev pub page_now : ℕ → Option PageView
  page_now k = folded page_ops (pages_opening o) w.pages.history k

  module _ (p : ℕ) (q : CorePart) (is : core_part w p ≡ q) where
    -- its mtrs stand in the history
    pub made_below : (x : Placed Mtr) → IsIn x q.pages.made → IsIn x.mtr w.pages.history × (x.at < length w.pages.history)
    made_below x there = in_made p x w.pages.history (subst (λ l. IsIn x l) (sym (ap (λ (r : CorePart). r.pages.made) is) ∙ i.pages.mtr_history.own p) there)

    module _ (k : ℕ) where
      -- its content is the newest
      pub content_newest : (y : PageView) → content_at page_ops q.pages.contents k ≡ Some y → page_now k ≡ Some y
      content_newest y has = (i.pages.page_frames.contents_whole p k y (ap (λ (r : CorePart). content_at page_ops r.pages.contents k) is ∙ has)).1

      -- with all its records
      pub own_within : own_llsn page_ops q.pages.made k ≤ llsn_at page_ops (page_now k)
      own_within =
          ⊎_elim
          (λ (none : own_llsn page_ops q.pages.made k ≡ 0). omega (arith, none))
          (λ (own : (x : Placed Mtr) × IsIn x q.pages.made × Touches page_ops x.mtr k × (own_llsn page_ops q.pages.made k ≡ x.mtr.llsn)).
          let below = touching_below page_ops page_laws (pages_opening o) w.pages.history own.0.mtr k i.pages.mtr_history.order (made_below own.0 own.1).0 own.2 in
          omega (arith, own.3, below))
          (own_found k q.pages.made)

      -- what it gave back is in the frame
      pub gave_within : gave_at q.pages.gave k ≤ llsn_at page_ops (frame_now k)
      gave_within = subst (λ (r : CorePart). gave_at r.pages.gave k ≤ llsn_at page_ops (frame_now k)) is (i.pages.page_frames.gave_below p k)

      -- a node that has the lock, and all of whose records are in the frame, finds the newest page there
      module _ (locked : ¬ (held_at q.pages.locks k ≡ No)) (in_frame : own_llsn page_ops q.pages.made k ≤ gave_at q.pages.gave k) where
        held_there : ¬ (held_at (w.pages.lock_rows p) k ≡ No)
        held_there none = locked (sym (ap (λ (r : CorePart). held_at r.pages.locks k) is) ∙ none)

        of_its_own : (m : Mtr) → IsIn m w.pages.history → Touches page_ops m k → m.node ≡ p → m.llsn ≤ llsn_at page_ops (frame_now k)
        of_its_own m there touch mine =
            let up = subst (λ l. Ascends page_ops o.trx.base.llsn l) (i.pages.mtr_history.own p) (i.pages.mtr_logs.ascend p) in
            let most = own_most page_ops o.trx.base.llsn w.pages.history m p k up there mine touch in
            let own : own_llsn page_ops (made_by page_ops p w.pages.history) k ≡ own_llsn page_ops q.pages.made k =
            ap (λ l. own_llsn page_ops l k) (sym (i.pages.mtr_history.own p) ∙ ap (λ (r : CorePart). r.pages.made) is) in
            let gave = gave_within in
            omega (arith, most, own, in_frame, gave)

        in_its_frame : (m : Mtr) → IsIn m w.pages.history → Touches page_ops m k → m.llsn ≤ llsn_at page_ops (frame_now k)
        in_its_frame m there touch =
            ⊎_elim
            (λ stands. stands.1)
            (λ (writes : held_at (w.pages.lock_rows m.node) k ≡ Write). of_its_own m there touch (sym (i.pages.page_locks.alone m.node p k writes held_there)))
            (i.pages.page_frames.missing m k there touch)

        pub frame_newest : frame_now k ≡ page_now k
        frame_newest =
            let prefix = i.pages.page_frames.prefix k in
            prefix.is_folded
            ∙ prefix_whole page_ops page_laws (pages_opening o) w.pages.history prefix.height k i.pages.mtr_history.order prefix.within
            (λ m there touch. subst (λ x. m.llsn ≤ llsn_at page_ops x) prefix.is_folded (in_its_frame m there touch))

      -- where the page's writer finds the frame taken, it has it itself
      pub taken_by_writer : k < PAGES → held_at q.pages.locks k ≡ Write → ¬ (w.pages.turn_words k ≡ 0) → (y : PageView) × (out_at q.pages.frames k ≡ Some y)
      taken_by_writer page writes gone =
          let taken = i.pages.frame_turns.taken k page gone in
          let named = i.pages.frame_turns.named (w.pages.turn_words k) k taken.1.0 taken.1.1 in
          let mine : w.pages.turn_words k ≡ p = i.pages.page_locks.alone p (w.pages.turn_words k) k (ap (λ (r : CorePart). held_at r.pages.locks k) is ∙ writes) named.1 in
          (taken.1.0, ap (λ (r : CorePart). out_at r.pages.frames k) (sym is) ∙ ap (λ n. out_at (w.pages.frames n) k) (sym mine) ∙ taken.1.1)

-- a content is the newest in each world that agrees with it
pub newest_content : (n : NodeView) (p k : ℕ) (y : PageView) → NumbersFit n.run.opening → (q : CorePart) → part_in n.parts p ≡ Some q → content_at page_ops q.pages.contents k ≡ Some y → IsNewest n k y
newest_content n p k y fair q has content events all agrees = content_newest n.run.opening _ (law n.run.opening fair events all) p q (agrees p q has) k y content
