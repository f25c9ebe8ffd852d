-- A part only grows: whatever it has noted, it has after any later step.
use Rattle.std.proofs.Common.{ℕ, Bool, true, false, ◌==◌, if◌then◌else◌, sym, subst, Option, None, Some}
use mathlib.Core.Logic.{dite}
use native.Mathlib.Decide.{ℕ_discrete}
use Rattle.mp_machine.proofs.Lists.{grows_refl, grows_one, grows_trans}
use Rattle.mp_core_pages.specs.declared.page_lock.Held.TheVariants.{No}
use Rattle.mp_core_pages.specs.declared.part.ContentStep.TheVariants.{Given, Dropped, Made}
use Rattle.mp_core_pages.specs.declared.part.PagesPart.{PagesPart}
use Rattle.mp_core_pages.specs.declared.event.PagesEvent.{PagesEvent}
use Rattle.mp_core_pages.specs.declared.event.PagesEvent.TheVariants.{LockWord, UnlockWord, TakeFrame, GiveFrame, StoreLlsn, StoreDurable}
use Rattle.mp_core_pages.specs.Histories.{PageOps, placed}
use Rattle.mp_core_pages.specs.PageParts.{lock_row, frame_row, gave_row, given_page, kept_or, PagesExtends}
use Rattle.mp_core_pages.specs.PageEvents.{PagesNote, taken_as, pages_node, pages_place, pages_made, with_lock, with_taken}
use Rattle.mp_core_pages.specs.PageWorld.{PagesWorld, pages_part, pages_note, pages_content, pages_after}
use Rattle.mp_core_pages.proofs.Places.{pages_part_here, pages_part_else}

module _ {P M : Type 0} where
  pub pages_extends_refl : (p : PagesPart P M) → PagesExtends p p
  pages_extends_refl p = record {
    more_made = grows_refl p.made;
    more_durables = grows_refl p.durables;
    more_locks = grows_refl p.locks;
    more_frames = grows_refl p.frames;
    more_gave = grows_refl p.gave;
    more_contents = grows_refl p.contents;
    more_given = grows_refl p.given;
  }

  pub pages_extends_trans : (p q r : PagesPart P M) → PagesExtends p q → PagesExtends q r → PagesExtends p r
  pages_extends_trans p q r a b = record {
    more_made = grows_trans p.made q.made r.made a.more_made b.more_made;
    more_durables = grows_trans p.durables q.durables r.durables a.more_durables b.more_durables;
    more_locks = grows_trans p.locks q.locks r.locks a.more_locks b.more_locks;
    more_frames = grows_trans p.frames q.frames r.frames a.more_frames b.more_frames;
    more_gave = grows_trans p.gave q.gave r.gave a.more_gave b.more_gave;
    more_contents = grows_trans p.contents q.contents r.contents a.more_contents b.more_contents;
    more_given = grows_trans p.given q.given r.given a.more_given b.more_given;
  }

  extends_by_test : (p q : PagesPart P M) (b : Bool) → PagesExtends p q → PagesExtends p (if b then q else p)
  extends_by_test p q true h = h
  extends_by_test p q false h = pages_extends_refl p

module _ {P M : Type 0} (ops : PageOps P M) where
  taken_extends : (k : ℕ) (x : Option P) (known height : ℕ) (p : PagesPart P M) → PagesExtends p
      (with_taken ops k x known height p)
  taken_extends k None known height p = pages_extends_refl p
  taken_extends k (Some y) known height p =
      record {
        more_made = grows_refl p.made;
        more_durables = grows_refl p.durables;
        more_locks = grows_refl p.locks;
        more_frames = grows_one p.frames (frame_row k (Some y));
        more_gave = grows_refl p.gave;
        more_contents =
            grows_one p.contents (Given k (kept_or ops p.contents k y));
        more_given = grows_one p.given
            (given_page k (kept_or ops p.contents k y) known height);
      }

  -- what an event makes of a part extends it
  pub pages_made_extends : (e : PagesEvent P M) (found : ℕ) (x : PagesNote P) (p : PagesPart P M) → PagesExtends p
      (pages_made ops e found x p)
  pages_made_extends (LockWord n k old new) found x p = extends_by_test p (with_lock k (taken_as new) p)
      (found == old) (record {
        more_made = grows_refl p.made;
        more_durables = grows_refl p.durables;
        more_locks =
            grows_one p.locks (lock_row k (taken_as new));
        more_frames = grows_refl p.frames;
        more_gave =
            grows_refl p.gave;
        more_contents = grows_refl p.contents;
        more_given = grows_refl p.given;
      })
  pages_made_extends (UnlockWord n k) found x p =
      record {
        more_made = grows_refl p.made;
        more_durables = grows_refl p.durables;
        more_locks = grows_one p.locks
            (lock_row k No);
        more_frames = grows_refl p.frames;
        more_gave = grows_refl p.gave;
        more_contents =
            grows_one p.contents (Dropped k);
        more_given = grows_refl p.given;
      }
  pages_made_extends (TakeFrame n k) found x p = extends_by_test p (with_taken ops k x.frame x.known x.height p)
      (found == 0) (taken_extends k x.frame x.known x.height p)
  pages_made_extends (GiveFrame n k y) found x p =
      record {
        more_made = grows_refl p.made;
        more_durables = grows_refl p.durables;
        more_locks = grows_refl p.locks;
        more_frames = grows_one p.frames (frame_row k None);
        more_gave = grows_one p.gave (gave_row k (ops.llsn_of y));
        more_contents = grows_refl p.contents;
        more_given = grows_refl p.given;
      }
  pages_made_extends (StoreLlsn n m) found x p =
      record {
        more_made = grows_one p.made (placed x.height m);
        more_durables = grows_refl p.durables;
        more_locks =
            grows_refl p.locks;
        more_frames = grows_refl p.frames;
        more_gave = grows_refl p.gave;
        more_contents =
            grows_one p.contents (Made m);
        more_given = grows_refl p.given;
      }
  pages_made_extends (StoreDurable n v) found x p =
      record {
        more_made = grows_refl p.made;
        more_durables = grows_one p.durables v;
        more_locks =
            grows_refl p.locks;
        more_frames = grows_refl p.frames;
        more_gave = grows_refl p.gave;
        more_contents =
            grows_refl p.contents;
        more_given = grows_refl p.given;
      }

  -- and so of each node's part
  pub pages_after_extends : (known : ℕ) (w : PagesWorld P M) (e : PagesEvent P M) (n : ℕ)
      → PagesExtends (pages_part w n) (pages_part (pages_after ops known w e) n)
  pages_after_extends known w e n =
      dite (ℕ_discrete n (pages_node e))
      (λ same.
      subst (λ j. PagesExtends (pages_part w j) (pages_part (pages_after ops known w e) j)) (sym same)
      (subst (λ q. PagesExtends (pages_part w (pages_node e)) q) (sym (pages_part_here ops known w 0 e))
      (pages_made_extends e (pages_content ops 0 w (pages_place e)) (pages_note known w e)
      (pages_part w (pages_node e)))))
      (λ other. subst (λ q. PagesExtends (pages_part w n) q) (sym (pages_part_else ops known w n e other))
      (pages_extends_refl (pages_part w n)))
