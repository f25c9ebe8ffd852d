-- No lock is held of a page number that there isn't.
use Rattle.std.proofs.Common.{◌≡◌, ℕ, ◌<◌, ◌≤◌, ◌==◌, if◌then◌else◌, List, ◌∷◌, Option, None, Some, refl, sym, ap, subst, ◌∙◌, arith}
use mathlib.Core.Logic.{dite}
use native.Mathlib.Decide.{ℕ_discrete}
use lib.ListN.{get_elem?}
use Rattle.mp_machine.specs.Machine.{run, AllAllowed}
use Rattle.mp_machine.specs.Lists.{pushed}
use Rattle.mp_machine.specs.View.{part_in}
use Rattle.mp_machine.proofs.Lists.{updated_here, updated_else}
use Rattle.mp_machine.proofs.Time.{kept}
use Rattle.mp_cells.specs.declared.records.Mtr.{Mtr}
use Rattle.mp_cells.specs.PageView.{PageView}
use Rattle.mp_core_pages.specs.declared.opening.TheConstants.{PAGES}
use Rattle.mp_core_pages.specs.declared.event.PagesEvent.{PagesEvent}
use Rattle.mp_core_pages.specs.declared.event.PagesEvent.TheVariants.{LockWord, UnlockWord, TakeFrame, GiveFrame, StoreLlsn, StoreDurable}
use Rattle.mp_core_pages.specs.declared.page_lock.Held.{Held}
use Rattle.mp_core_pages.specs.declared.page_lock.Held.TheVariants.{No}
use Rattle.mp_core_pages.specs.declared.part.LockRow.{LockRow}
use Rattle.mp_core_pages.specs.PageEvents.{taken_as}
use Rattle.mp_core_pages.specs.PageParts.{lock_row, held_at}
use Rattle.mp_core_pages.specs.PageWorld.{PagesWorld, standing, after_lock, after_turn, pages_after}
use Rattle.mp_core_pages.proofs.Choices.{if_equal, if_differs}
use Rattle.mp_core.specs.declared.opening.CoreOpening.{CoreOpening}
use Rattle.mp_core.specs.declared.part.CorePart.{CorePart}
use Rattle.mp_core.specs.declared.event.CoreEvent.{CoreEvent}
use Rattle.mp_core.specs.declared.event.CoreEvent.TheVariants.{Trx, Pages, Down}
use Rattle.mp_core.specs.Contents.{page_ops}
use Rattle.mp_core.specs.World.{CoreWorld, core, core_after, core_part, core_node_of, CoreAllowed, known_by}
use Rattle.mp_shared.specs.Nodes.{NodeView, Reached}

-- no node holds the lock of a page that there isn't
abbrev NoneBeyond : (ℕ → List LockRow) → Type 0
NoneBeyond rows = (n k : ℕ) → PAGES ≤ k → held_at (rows n) k ≡ No

-- one row more, of a page that there is
row_more : (rows : ℕ → List LockRow) (m page : ℕ) (held : Held) → page < PAGES → NoneBeyond rows → NoneBeyond (pushed rows m (lock_row page held))
row_more rows m page held there none n k beyond =
    dite (ℕ_discrete n m)
    (λ same.
    ap (λ (j : ℕ). held_at (pushed rows m (lock_row page held) j) k) same
    ∙ ap (λ (l : List LockRow). held_at l k) (updated_here rows m (lock_row page held ∷ rows m))
    ∙ if_differs k page held (held_at (rows m) k) (λ (e : k ≡ page). absurd (omega (arith, e, there, beyond)))
    ∙ none m k beyond)
    (λ other. ap (λ (l : List LockRow). held_at l k) (updated_else rows m (lock_row page held ∷ rows m) n other) ∙ none n k beyond)

either_rows : (P : (ℕ → List LockRow) → Type 0) (found old : ℕ) (a b : PagesWorld PageView Mtr) → P a.lock_rows → P b.lock_rows → P (if found == old then a else b).lock_rows
either_rows P found old a b first second = dite (ℕ_discrete found old)
    (λ same. subst (λ (w : PagesWorld PageView Mtr). P w.lock_rows) (sym (if_equal found old a b same)) first)
    (λ other. subst (λ (w : PagesWorld PageView Mtr). P w.lock_rows) (sym (if_differs found old a b other)) second)

taken_rows : (known : ℕ) (w : PagesWorld PageView Mtr) (n k : ℕ) (o : Option PageView) → NoneBeyond w.lock_rows → NoneBeyond (after_turn page_ops w n k known o).lock_rows
taken_rows known w n k None none = none
taken_rows known w n k (Some y) none = none

keeps_rows : (known : ℕ) (w : PagesWorld PageView Mtr) (p : CorePart) (e : PagesEvent PageView Mtr) → CoreAllowed p (Pages e) → NoneBeyond w.lock_rows → NoneBeyond (pages_after page_ops known w e).lock_rows
keeps_rows known w p (LockWord n k old new) may none = either_rows NoneBeyond (w.lock_words k) old (after_lock w n k new) w (row_more w.lock_rows n k (taken_as new) may.1.0 none) none
keeps_rows known w p (UnlockWord n k) may none = row_more w.lock_rows n k No may.1.in_range none
keeps_rows known w p (TakeFrame n k) may none = either_rows NoneBeyond (w.turn_words k) 0 (after_turn page_ops w n k known (standing (get_elem? w.homes k))) w (taken_rows known w n k (standing (get_elem? w.homes k)) none) none
keeps_rows known w p (GiveFrame n k y) may none = none
keeps_rows known w p (StoreLlsn n m) may none = none
keeps_rows known w p (StoreDurable n v) may none = none

abbrev RowsWithin : CoreWorld → Type 0
RowsWithin w = NoneBeyond w.pages.lock_rows

keeps_all : (w : CoreWorld) (e : CoreEvent) → CoreAllowed (core_part w (core_node_of e)) e → RowsWithin w → RowsWithin (core_after w e)
keeps_all w (Trx e) may none = none
keeps_all w (Pages e) may none = keeps_rows (known_by w (core_node_of (Pages e))) w.pages (core_part w (core_node_of (Pages e))) e may none
keeps_all w (Down e) may none = none

rows_within : (o : CoreOpening) (events : List CoreEvent) → AllAllowed (core o) events → RowsWithin (run (core o) events)
rows_within o = kept (core o) RowsWithin (λ n k beyond. refl) (λ es e all none. keeps_all (run (core o) es) e all.0.1.0 none)

-- so no part that a node has does
pub held_within : (n : NodeView) → Reached n → (p : ℕ) (q : CorePart) → part_in n.parts p ≡ Some q → (k : ℕ) → PAGES ≤ k → held_at q.pages.locks k ≡ No
held_within n reached p q has k beyond =
    ap (λ (r : CorePart). held_at r.pages.locks k) (sym (reached.backed.2 p q has))
    ∙ rows_within n.run.opening reached.backed.0 reached.backed.1 p k beyond
