-- What a node notes of the locks of its parts goes on through a step.
use Rattle.std.proofs.Common.{◌≡◌, ℕ, ◌==◌, Bool, true, false, List, ◌∷◌, Option, Some, None, if◌then◌else◌, slice_index_or, refl, sym, ap, ◌∙◌, subst}
use mathlib.Core.Logic.{dite}
use native.Mathlib.Decide.{ℕ_discrete}
use Rattle.mp_machine.specs.Lists.{updated}
use Rattle.mp_machine.specs.View.{View, part_in, with_part}
use Rattle.mp_machine.proofs.Views.{part_in-with_here, part_in-with_else}
use Rattle.mp_cells.specs.declared.records.Mtr.{Mtr}
use Rattle.mp_cells.specs.PageView.{PageView}
use Rattle.mp_core_pages.specs.declared.page_lock.Held.{Held}
use Rattle.mp_core_pages.specs.declared.page_lock.Held.TheVariants.{No}
use Rattle.mp_core_pages.specs.declared.part.PagesPart.{PagesPart}
use Rattle.mp_core_pages.specs.declared.event.PagesEvent.TheVariants.{LockWord, UnlockWord, TakeFrame, GiveFrame, StoreLlsn, StoreDurable}
use Rattle.mp_core_pages.specs.PageParts.{lock_row, held_at}
use Rattle.mp_core_pages.specs.PageEvents.{taken_as, with_lock, with_taken}
use Rattle.mp_core_pages.proofs.Choices.{if_equal, if_differs}
use Rattle.mp_core.specs.declared.part.CorePart.{CorePart}
use Rattle.mp_core.specs.declared.event.CoreEvent.{CoreEvent}
use Rattle.mp_core.specs.declared.event.CoreEvent.TheVariants.{Trx, Pages, Down}
use Rattle.mp_core.specs.Contents.{page_ops}
use Rattle.mp_core.specs.World.{Note, core_made}
use Rattle.mp_shared.specs.LockTables.{NotesLocks, NotesPart}

-- the step changes no lock of its part
abbrev pub KeepsLocks : CoreEvent → ℕ → Type 0
KeepsLocks (Trx e) found = Unit {0}
KeepsLocks (Pages (LockWord n k old new)) found = ¬ (found ≡ old)
KeepsLocks (Pages (UnlockWord n k)) found = ⊥
KeepsLocks (Pages (TakeFrame n k)) found = Unit {0}
KeepsLocks (Pages (GiveFrame n k y)) found = Unit {0}
KeepsLocks (Pages (StoreLlsn n m)) found = Unit {0}
KeepsLocks (Pages (StoreDurable n v)) found = Unit {0}
KeepsLocks (Down e) found = Unit {0}

taken_keeps : (b : Bool) (k : ℕ) (frame : Option PageView) (known height : ℕ) (p : PagesPart PageView Mtr)
    → (if b then with_taken page_ops k frame known height p else p).locks ≡ p.locks
taken_keeps true k (Some y) known height p = refl
taken_keeps true k None known height p = refl
taken_keeps false k frame known height p = refl

pub same_locks : (e : CoreEvent) (found : ℕ) (x : Note) (p : CorePart) → KeepsLocks e found → (core_made e found x p).pages.locks ≡ p.pages.locks
same_locks (Trx e) found x p keeps = refl
same_locks (Pages (LockWord n k old new)) found x p other = ap (λ (q : PagesPart PageView Mtr). q.locks) (if_differs found old (with_lock k (taken_as new) p.pages) p.pages other)
same_locks (Pages (UnlockWord n k)) found x p keeps = absurd keeps
same_locks (Pages (TakeFrame n k)) found x p keeps = taken_keeps (found == 0) k x.frame x.known x.height p.pages
same_locks (Pages (GiveFrame n k y)) found x p keeps = refl
same_locks (Pages (StoreLlsn n m)) found x p keeps = refl
same_locks (Pages (StoreDurable n v)) found x p keeps = refl
same_locks (Down e) found x p keeps = refl

-- a lock that is taken is the newest
pub lock_taken : (n k old new found : ℕ) (x : Note) (p : CorePart) → found ≡ old
    → (core_made (Pages (LockWord n k old new)) found x p).pages.locks ≡ lock_row k (taken_as new) ∷ p.pages.locks
lock_taken n k old new found x p same = ap (λ (q : PagesPart PageView Mtr). q.locks) (if_equal found old (with_lock k (taken_as new) p.pages) p.pages same)

-- so a table that notes it notes the locks of the part after the step
pub notes_lock : (table : Option (List Held)) (n k old new found : ℕ) (x : Note) (p : CorePart) → found ≡ old → (now : Held) → now ≡ taken_as new
    → NotesLocks table (updated (held_at p.pages.locks) k now) → NotesLocks table (held_at (core_made (Pages (LockWord n k old new)) found x p).pages.locks)
notes_lock table n k old new found x p same now is notes =
    subst (λ rows. NotesLocks table (held_at rows)) (sym (lock_taken n k old new found x p same))
    (subst (λ (h : Held). NotesLocks table (updated (held_at p.pages.locks) k h)) is notes)

pub notes_unlock : (table : Option (List Held)) (n k found : ℕ) (x : Note) (p : CorePart)
    → NotesLocks table (updated (held_at p.pages.locks) k No) → NotesLocks table (held_at (core_made (Pages (UnlockWord n k)) found x p).pages.locks)
notes_unlock table n k found x p notes = notes

-- the table of one part changes with the part
module _ (parts : View CorePart) (n : ℕ) (q next : CorePart) (has : part_in parts n ≡ Some q) where
  pub noted_turned : (tables later : List (Option (List Held)))
      → ((k : ℕ) → NotesPart (slice_index_or tables k None) (part_in parts k))
      → NotesLocks (slice_index_or later n None) (held_at next.pages.locks)
      → ((k : ℕ) → ¬ (k ≡ n) → slice_index_or later k None ≡ slice_index_or tables k None)
      → (k : ℕ) → NotesPart (slice_index_or later k None) (part_in (with_part parts n next) k)
  noted_turned tables later all here there k =
      dite (ℕ_discrete k n)
      (λ same.
      let is : part_in (with_part parts n next) k ≡ Some next = ap (part_in (with_part parts n next)) same ∙ part_in-with_here parts n next q has in
      let table : slice_index_or later n None ≡ slice_index_or later k None = ap (λ j. slice_index_or later j None) (sym same) in
      subst (λ o. NotesPart (slice_index_or later k None) o) (sym is) (subst (λ t. NotesLocks t (held_at next.pages.locks)) table here))
      (λ other.
      subst (λ o. NotesPart (slice_index_or later k None) o) (sym (part_in-with_else parts n k next other))
      (subst (λ t. NotesPart t (part_in parts k)) (sym (there k other)) (all k)))
