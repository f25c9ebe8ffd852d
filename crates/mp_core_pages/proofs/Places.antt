-- The paging is a machine: two places do not lie in one word, and an event changes its own word and part alone, and
-- the frame that it takes or gives.
use Rattle.std.proofs.Common.{◌≡◌, ℕ, ◌<◌, Bool, true, false, ◌==◌, if◌then◌else◌, List, length, refl, sym, ap, subst, arith, Option, None, Some, slice_set, bit_and}
use mathlib.Core.Option.{none, some}
use mathlib.Core.Option.{Option as Home}
use lib.ListN.{get_elem?}
use Rattle.atomic_table.specs.Table.{Act, keeps, gives, Valid, homes_after}
use Rattle.mp_machine.specs.Machine.{run}
use Rattle.mp_machine.specs.Rule.{Laws}
use Rattle.mp_machine.specs.Lists.{updated}
use Rattle.mp_machine.proofs.Lists.{updated_here, updated_else, pushed_here, pushed_else}
use Rattle.mp_core_pages.specs.declared.opening.PagesOpening.{PagesOpening}
use Rattle.mp_core_pages.specs.declared.page_lock.Held.TheVariants.{No}
use Rattle.mp_core_pages.specs.declared.part.ContentStep.TheVariants.{Given, Dropped, Made}
use Rattle.mp_core_pages.specs.declared.event.PagesEvent.{PagesEvent}
use Rattle.mp_core_pages.specs.declared.event.PagesEvent.TheVariants.{LockWord, UnlockWord, TakeFrame, GiveFrame, StoreLlsn, StoreDurable}
use Rattle.mp_core_pages.specs.LockWords.{mask_of}
use Rattle.mp_core_pages.specs.Histories.{PageOps, placed}
use Rattle.mp_core_pages.specs.PageParts.{lock_row, frame_row, gave_row, given_page, durable_llsn, kept_or, last_llsn}
use Rattle.mp_core_pages.specs.PageEvents.{PagesPlace, lock_of, turn_of, llsn_word, durable_word, IsPagesPlace, pages_index, pages_region, taken_as, pages_node, pages_place, taking_of, pages_act, PagesCarries, pages_word, pages_made, with_lock, with_taken}
use Rattle.mp_core_pages.specs.PageWorld.{PagesWorld, standing, pages_part, pages_note, pages_content, after_taken, after_lock, after_turn, pages_after, paging}

pub pages_index_apart : (a b : PagesPlace) → IsPagesPlace a → IsPagesPlace b → pages_index a ≡ pages_index b → a ≡ b
pages_index_apart (lock_of k) (lock_of j) x y e = ap lock_of e
pages_index_apart (lock_of k) (turn_of j) x y e = absurd (omega arith)
pages_index_apart (lock_of k) (llsn_word n) x y e = absurd (omega arith)
pages_index_apart (lock_of k) (durable_word n) x y e = absurd (omega arith)
pages_index_apart (turn_of k) (lock_of j) x y e = absurd (omega arith)
pages_index_apart (turn_of k) (turn_of j) x y e = let same : k ≡ j = omega arith in ap turn_of same
pages_index_apart (turn_of k) (llsn_word n) x y e = absurd (omega arith)
pages_index_apart (turn_of k) (durable_word n) x y e = absurd (omega arith)
pages_index_apart (llsn_word m) (lock_of j) x y e = absurd (omega arith)
pages_index_apart (llsn_word m) (turn_of j) x y e = absurd (omega arith)
pages_index_apart (llsn_word m) (llsn_word n) x y e = let same : m ≡ n = omega arith in ap llsn_word same
pages_index_apart (llsn_word m) (durable_word n) x y e = absurd (omega arith)
pages_index_apart (durable_word m) (lock_of j) x y e = absurd (omega arith)
pages_index_apart (durable_word m) (turn_of j) x y e = absurd (omega arith)
pages_index_apart (durable_word m) (llsn_word n) x y e = absurd (omega arith)
pages_index_apart (durable_word m) (durable_word n) x y e = let same : m ≡ n = omega arith in ap durable_word same

-- the words lie together, from the first on
pub pages_index_within : (a : PagesPlace) → IsPagesPlace a → pages_index a < pages_region
pages_index_within (lock_of k) x = omega arith
pages_index_within (turn_of k) x = omega arith
pages_index_within (llsn_word n) x = omega arith
pages_index_within (durable_word n) x = omega arith

module _ {P M : Type 0} (ops : PageOps P M) (known : ℕ) (w : PagesWorld P M) where
  -- what its node's part becomes
  abbrev Becomes : ℕ → PagesEvent P M → Type 0
  Becomes base e = pages_part (pages_after ops known w e) (pages_node e) ≡ pages_made ops e
      (pages_content ops base w (pages_place e)) (pages_note known w e) (pages_part w (pages_node e))

  lock_here : (n k old new : ℕ) (b : Bool)
      → pages_part (if b then after_lock w n k new else w) n ≡
      (if b then with_lock k (taken_as new) (pages_part w n) else pages_part w n)
  lock_here n k old new true = λ i.
      record (pages_part w n) { locks = pushed_here w.lock_rows n (lock_row k (taken_as new)) i }
  lock_here n k old new false = refl

  taken_here : (n k : ℕ) (x : Option P) → pages_part (after_turn ops w n k known x) n ≡ with_taken ops k x known
      (length w.history) (pages_part w n)
  taken_here n k None = refl
  taken_here n k (Some y) = λ i. record (pages_part w n) {
    frames = pushed_here w.frames n (frame_row k (Some y)) i;
    contents = pushed_here w.contents n (Given k (kept_or ops (w.contents n) k y)) i;
    given = pushed_here w.given n (given_page k (kept_or ops (w.contents n) k y) known (length w.history)) i;
  }

  turn_here : (n k : ℕ) (x : Option P) (b : Bool) → pages_part (if b then after_turn ops w n k known x else w) n ≡
      (if b then with_taken ops k x known (length w.history) (pages_part w n) else pages_part w n)
  turn_here n k x true = taken_here n k x
  turn_here n k x false = refl

  pub pages_part_here : (base : ℕ) (e : PagesEvent P M) → Becomes base e
  pages_part_here base (LockWord n k old new) = lock_here n k old new (w.lock_words k == old)
  pages_part_here base (UnlockWord n k) = λ i.
      record (pages_part w n) {
        locks = pushed_here w.lock_rows n (lock_row k No) i;
        contents =
            pushed_here w.contents n (Dropped k) i;
      }
  pages_part_here base (TakeFrame n k) = turn_here n k (standing (get_elem? w.homes k)) (w.turn_words k == 0)
  pages_part_here base (GiveFrame n k y) = λ i.
      record (pages_part w n) {
        frames = pushed_here w.frames n (frame_row k None) i;
        gave = pushed_here w.gave n
            (gave_row k (ops.llsn_of y)) i;
      }
  pages_part_here base (StoreLlsn n m) = λ i.
      record (pages_part w n) {
        made = pushed_here w.made n (placed (length w.history) m) i;
        contents =
            pushed_here w.contents n (Made m) i;
      }
  pages_part_here base (StoreDurable n v) = λ i. record (pages_part w n) { durables = pushed_here w.durables n v i }

  -- no other part changes
  module _ (j : ℕ) where
    lock_else : (n k old new : ℕ) → ¬ (j ≡ n) → (b : Bool)
        → pages_part (if b then after_lock w n k new else w) j ≡ pages_part w j
    lock_else n k old new d true = λ i.
        record (pages_part w j) { locks = pushed_else w.lock_rows n (lock_row k (taken_as new)) j d i }
    lock_else n k old new d false = refl

    taken_else : (n k : ℕ) → ¬ (j ≡ n) → (x : Option P) → pages_part (after_turn ops w n k known x) j ≡ pages_part w j
    taken_else n k d None = refl
    taken_else n k d (Some y) = λ i. record (pages_part w j) {
      frames = pushed_else w.frames n (frame_row k (Some y)) j d i;
      contents = pushed_else w.contents n (Given k (kept_or ops (w.contents n) k y)) j d i;
      given = pushed_else w.given n (given_page k (kept_or ops (w.contents n) k y) known (length w.history)) j d i;
    }

    turn_else : (n k : ℕ) → ¬ (j ≡ n) → (x : Option P) (b : Bool)
        → pages_part (if b then after_turn ops w n k known x else w) j ≡ pages_part w j
    turn_else n k d x true = taken_else n k d x
    turn_else n k d x false = refl

    pub pages_part_else : (e : PagesEvent P M) → ¬ (j ≡ pages_node e) → pages_part (pages_after ops known w e) j
        ≡ pages_part w j
    pages_part_else (LockWord n k old new) d = lock_else n k old new d (w.lock_words k == old)
    pages_part_else (UnlockWord n k) d = λ i.
        record (pages_part w j) {
          locks = pushed_else w.lock_rows n (lock_row k No) j d i;
          contents =
              pushed_else w.contents n (Dropped k) j d i;
        }
    pages_part_else (TakeFrame n k) d = turn_else n k d (standing (get_elem? w.homes k)) (w.turn_words k == 0)
    pages_part_else (GiveFrame n k y) d = λ i.
        record (pages_part w j) {
          frames = pushed_else w.frames n (frame_row k None) j d i;
          gave =
              pushed_else w.gave n (gave_row k (ops.llsn_of y)) j d i;
        }
    pages_part_else (StoreLlsn n m) d = λ i.
        record (pages_part w j) {
          made = pushed_else w.made n (placed (length w.history) m) j d i;
          contents =
              pushed_else w.contents n (Made m) j d i;
        }
    pages_part_else (StoreDurable n v) d = λ i.
        record (pages_part w j) { durables = pushed_else w.durables n v j d i }

  -- a fact of the world that a step leaves, which may come to nothing
  pub same_by_test : {A : Type 0} (g : PagesWorld P M → A) (b : Bool) (v : PagesWorld P M) → g v ≡ g w
      → g (if b then v else w) ≡ g w
  same_by_test g true v e = e
  same_by_test g false v e = refl

  pub same_by_turn : {A : Type 0} (g : PagesWorld P M → A) (n k : ℕ) (x : Option P)
      → g (record w { turn_words = updated w.turn_words k n }) ≡ g w
      → ((y : P) → g (after_taken ops w n k known y) ≡ g w)
      → g (after_turn ops w n k known x) ≡ g w
  same_by_turn g n k None missed got = missed
  same_by_turn g n k (Some y) missed got = got y

  module _ (base : ℕ) where
    abbrev WordOf : PagesWorld P M → PagesPlace → ℕ
    WordOf v a = pages_content ops base v a

    lock_word_here : (n k old new : ℕ) (b : Bool)
        → WordOf (if b then after_lock w n k new else w) (lock_of k) ≡ (if b then new else w.lock_words k)
    lock_word_here n k old new true = updated_here w.lock_words k new
    lock_word_here n k old new false = refl

    turn_word_of : (n k : ℕ) (x : Option P) → WordOf (after_turn ops w n k known x) (turn_of k) ≡ n
    turn_word_of n k None = updated_here w.turn_words k n
    turn_word_of n k (Some y) = updated_here w.turn_words k n

    turn_word_here : (n k : ℕ) (x : Option P) (b : Bool) → WordOf (if b then after_turn ops w n k known x else w)
        (turn_of k) ≡ (if b then n else w.turn_words k)
    turn_word_here n k x true = turn_word_of n k x
    turn_word_here n k x false = refl

    pub pages_content_here : (e : PagesEvent P M) → WordOf (pages_after ops known w e) (pages_place e)
        ≡ pages_word ops e (WordOf w (pages_place e))
    pages_content_here (LockWord n k old new) = lock_word_here n k old new (w.lock_words k == old)
    pages_content_here (UnlockWord n k) = updated_here w.lock_words k (bit_and (w.lock_words k) (mask_of n))
    pages_content_here (TakeFrame n k) = turn_word_here n k (standing (get_elem? w.homes k)) (w.turn_words k == 0)
    pages_content_here (GiveFrame n k y) = updated_here w.turn_words k 0
    pages_content_here (StoreLlsn n m) = ap (last_llsn ops base) (pushed_here w.made n (placed (length w.history) m))
    pages_content_here (StoreDurable n v) = ap (durable_llsn base) (pushed_here w.durables n v)

    lock_word_else : (e : PagesEvent P M) (j : ℕ) → ¬ (lock_of j ≡ pages_place e)
        → WordOf (pages_after ops known w e) (lock_of j) ≡ WordOf w (lock_of j)
    lock_word_else (LockWord n k old new) j d =
        same_by_test (λ v. WordOf v (lock_of j)) (w.lock_words k == old)
        (after_lock w n k new) (updated_else w.lock_words k new j (λ e. d (ap lock_of e)))
    lock_word_else (UnlockWord n k) j d = updated_else w.lock_words k (bit_and (w.lock_words k) (mask_of n)) j
        (λ e. d (ap lock_of e))
    lock_word_else (TakeFrame n k) j d =
        same_by_test (λ v. WordOf v (lock_of j)) (w.turn_words k == 0)
        (after_turn ops w n k known (standing (get_elem? w.homes k)))
        (same_by_turn (λ v. WordOf v (lock_of j)) n k (standing (get_elem? w.homes k)) refl (λ _. refl))
    lock_word_else (GiveFrame n k y) j d = refl
    lock_word_else (StoreLlsn n m) j d = refl
    lock_word_else (StoreDurable n v) j d = refl

    turn_word_else : (e : PagesEvent P M) (j : ℕ) → ¬ (turn_of j ≡ pages_place e)
        → WordOf (pages_after ops known w e) (turn_of j) ≡ WordOf w (turn_of j)
    turn_word_else (LockWord n k old new) j d = same_by_test (λ v. WordOf v (turn_of j)) (w.lock_words k == old)
        (after_lock w n k new) refl
    turn_word_else (UnlockWord n k) j d = refl
    turn_word_else (TakeFrame n k) j d =
        let other = updated_else w.turn_words k n j (λ e. d (ap turn_of e)) in
        same_by_test (λ v. WordOf v (turn_of j)) (w.turn_words k == 0)
        (after_turn ops w n k known (standing (get_elem? w.homes k)))
        (same_by_turn (λ v. WordOf v (turn_of j)) n k (standing (get_elem? w.homes k)) other (λ _. other))
    turn_word_else (GiveFrame n k y) j d = updated_else w.turn_words k 0 j (λ e. d (ap turn_of e))
    turn_word_else (StoreLlsn n m) j d = refl
    turn_word_else (StoreDurable n v) j d = refl

    llsn_word_else : (e : PagesEvent P M) (j : ℕ) → ¬ (llsn_word j ≡ pages_place e)
        → WordOf (pages_after ops known w e) (llsn_word j) ≡ WordOf w (llsn_word j)
    llsn_word_else (LockWord n k old new) j d = same_by_test (λ v. WordOf v (llsn_word j)) (w.lock_words k == old)
        (after_lock w n k new) refl
    llsn_word_else (UnlockWord n k) j d = refl
    llsn_word_else (TakeFrame n k) j d =
        same_by_test (λ v. WordOf v (llsn_word j)) (w.turn_words k == 0)
        (after_turn ops w n k known (standing (get_elem? w.homes k)))
        (same_by_turn (λ v. WordOf v (llsn_word j)) n k (standing (get_elem? w.homes k)) refl (λ _. refl))
    llsn_word_else (GiveFrame n k y) j d = refl
    llsn_word_else (StoreLlsn n m) j d = ap (last_llsn ops base)
        (pushed_else w.made n (placed (length w.history) m) j (λ e. d (ap llsn_word e)))
    llsn_word_else (StoreDurable n v) j d = refl

    durable_word_else : (e : PagesEvent P M) (j : ℕ) → ¬ (durable_word j ≡ pages_place e)
        → WordOf (pages_after ops known w e) (durable_word j) ≡ WordOf w (durable_word j)
    durable_word_else (LockWord n k old new) j d =
        same_by_test (λ v. WordOf v (durable_word j)) (w.lock_words k == old)
        (after_lock w n k new) refl
    durable_word_else (UnlockWord n k) j d = refl
    durable_word_else (TakeFrame n k) j d =
        same_by_test (λ v. WordOf v (durable_word j)) (w.turn_words k == 0)
        (after_turn ops w n k known (standing (get_elem? w.homes k)))
        (same_by_turn (λ v. WordOf v (durable_word j)) n k (standing (get_elem? w.homes k)) refl (λ _. refl))
    durable_word_else (GiveFrame n k y) j d = refl
    durable_word_else (StoreLlsn n m) j d = refl
    durable_word_else (StoreDurable n v) j d = ap (durable_llsn base)
        (pushed_else w.durables n v j (λ e. d (ap durable_word e)))

    pub pages_content_else : (e : PagesEvent P M) (a : PagesPlace) → ¬ (a ≡ pages_place e)
        → WordOf (pages_after ops known w e) a ≡ WordOf w a
    pages_content_else e (lock_of j) d = lock_word_else e j d
    pages_content_else e (turn_of j) d = turn_word_else e j d
    pages_content_else e (llsn_word j) d = llsn_word_else e j d
    pages_content_else e (durable_word j) d = durable_word_else e j d

    -- what an event does with frames, in this world
    abbrev ActOf : PagesEvent P M → Act P
    ActOf e = pages_act e (WordOf w (pages_place e)) (pages_note known w e)

    takes_valid : (k : ℕ) (carried : List (ℕ × P)) (h : Home (Home P)) → get_elem? w.homes k ≡ h → (b : Bool)
        → Valid w.homes carried (if b then taking_of k (standing h) else keeps)
    takes_valid k carried h e false = tt
    takes_valid k carried none e true = tt
    takes_valid k carried (some none) e true = tt
    takes_valid k carried (some (some y)) e true = e

    pub pages_acts : (e : PagesEvent P M) (carried : List (ℕ × P)) → Valid w.homes carried (ActOf e)
    pages_acts (LockWord n k old new) carried = tt
    pages_acts (UnlockWord n k) carried = tt
    pages_acts (TakeFrame n k) carried = takes_valid k carried (get_elem? w.homes k) refl (w.turn_words k == 0)
    pages_acts (GiveFrame n k y) carried = tt
    pages_acts (StoreLlsn n m) carried = tt
    pages_acts (StoreDurable n v) carried = tt

    homes_taken : (n k : ℕ) (carried : List (ℕ × P)) (x : Option P) (b : Bool)
        → (if b then after_turn ops w n k known x else w).homes ≡ homes_after w.homes carried
        (if b then taking_of k x else keeps)
    homes_taken n k carried None true = refl
    homes_taken n k carried (Some y) true = refl
    homes_taken n k carried x false = refl

    pub pages_homes_here : (e : PagesEvent P M) (carried : List (ℕ × P)) → PagesCarries carried e
        → (pages_after ops known w e).homes ≡ homes_after w.homes carried (ActOf e)
    pages_homes_here (LockWord n k old new) carried h = same_by_test (λ v. v.homes) (w.lock_words k == old)
        (after_lock w n k new) refl
    pages_homes_here (UnlockWord n k) carried h = refl
    pages_homes_here (TakeFrame n k) carried h = homes_taken n k carried (standing (get_elem? w.homes k))
        (w.turn_words k == 0)
    pages_homes_here (GiveFrame n k y) carried h =
        subst (λ c. slice_set w.homes k (some y) ≡ homes_after w.homes c gives) (sym h) refl
    pages_homes_here (StoreLlsn n m) carried h = refl
    pages_homes_here (StoreDurable n v) carried h = refl

pub paging_laws : {P M : Type 0} (ops : PageOps P M) (opening : PagesOpening P) → Laws (paging ops opening)
paging_laws ops opening =
    let m = paging ops opening in
    record {
      apart = pages_index_apart;
      part_here = λ es e all. pages_part_here ops 0 (run m es) opening.base e;
      part_else = λ es e all n d. pages_part_else ops 0 (run m es) n e d;
      content_here = λ es e all. pages_content_here ops 0 (run m es) opening.base e;
      content_else = λ es e all a d. pages_content_else ops 0 (run m es) opening.base e a d;
      acts = λ es e carried may all. pages_acts ops 0 (run m es) opening.base e carried;
      homes_here = λ es e carried may all. pages_homes_here ops 0 (run m es) opening.base e carried may.2;
    }
