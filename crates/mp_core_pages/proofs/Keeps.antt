-- Each event that is allowed keeps the invariant.
use Rattle.std.proofs.Common.{◌≡◌, ℕ, ◌+◌, ◌<◌, ◌≤◌, ◌⊎◌, length, sym, ap, ◌∙◌, subst, inl, inr, arith, Option, None, Some}
use mathlib.Core.Option.{some}
use lib.ListN.{get_elem?}
use Rattle.mp_machine.proofs.Lists.{each_pushed}
use Rattle.mp_core_pages.specs.declared.opening.TheConstants.{PAGES}
use Rattle.mp_core_pages.specs.declared.opening.PagesOpening.{PagesOpening}
use Rattle.mp_core_pages.specs.declared.page_lock.Held.TheVariants.{No, Write}
use Rattle.mp_core_pages.specs.declared.event.PagesEvent.{PagesEvent}
use Rattle.mp_core_pages.specs.declared.event.PagesEvent.TheVariants.{LockWord, UnlockWord, TakeFrame, GiveFrame, StoreLlsn, StoreDurable}
use Rattle.mp_core_pages.specs.LockWords.{TakesShared, TakesExclusive}
use Rattle.mp_core_pages.specs.Histories.{PageOps, PageLaws, Touches, llsn_at, folded, GoesOn}
use Rattle.mp_core_pages.specs.PageParts.{given_page, held_at, out_at, content_at, kept_or}
use Rattle.mp_core_pages.specs.PageEvents.{taken_as, pages_node, MayUnlock, GivesContent, MayMake, PagesAsks}
use Rattle.mp_core_pages.specs.PageWorld.{PagesWorld, standing, frame_in, pages_part, after_taken, after_lock, after_turn, pages_after, PagesFit, IsPagesNode}
use Rattle.mp_core_pages.specs.PageInvariant.{IsPrefix, PageFrames, IsGiven, PagesInv}
use Rattle.mp_core_pages.proofs.Choices.{if_equal, of_equal}
use Rattle.mp_core_pages.proofs.Locks.{locks_lock, locks_unlock, small_before, no_writer_before, taken_is_held}
use Rattle.mp_core_pages.proofs.Turns.{turns_locks, turns_take, frame_take, turns_give, FrameThen, frame_give_here, frame_give_else, frame_before}
use Rattle.mp_core_pages.proofs.Logs.{prevs_same, logs_given, logs_durable, logs_make, history_make}
use Rattle.mp_core_pages.proofs.Frames.{frames_lock, frames_unlock, content_is_whole, content_prefix, content_rises, frames_give, given_is_whole, frames_take, given_now, frames_make, given_make, frames_durable, given_durable}

module _ {P M : Type 0} (ops : PageOps P M) (laws : PageLaws ops) (opening : PagesOpening P)
    (fit : PagesFit {M = M} ops opening) (known : ℕ) (w : PagesWorld P M) (i : PagesInv ops opening w) (n : ℕ)
    (node : IsPagesNode opening n) where
  low : 1 ≤ n
  low = node.0

  most : opening.primaries ≤ 8
  most = fit.some_primaries.1

  some_node : ¬ (n ≡ 0)
  some_node zero_is = let is = node.0 in omega arith

  -- the frames of the world, each with the page that counts
  abbrev Frame : ℕ → Option P
  Frame = frame_in w.turn_words w.homes w.frames

  lock : (k old new : ℕ) → TakesShared n old new ⊎ TakesExclusive n old new → PagesInv ops opening
      (pages_after ops known w (LockWord n k old new))
  lock k old new may =
      of_equal (PagesInv ops opening) (w.lock_words k) old
      (after_lock w n k new) w
      (λ same.
      let takes = subst (λ v. TakesShared n v new ⊎ TakesExclusive n v new) (sym same) may in
      let some_lock = taken_is_held opening.primaries most w.lock_words w.lock_rows i.page_locks
      n k low node.1 new takes in
      let small = small_before opening.primaries most w.lock_words w.lock_rows i.page_locks n k low node.1 new takes in
      record {
        page_locks = locks_lock opening.primaries most w.lock_words w.lock_rows i.page_locks n k low node.1 new takes;
        frame_turns = turns_locks w.turn_words w.homes w.frames w.lock_rows i.frame_turns n k (taken_as new)
            (λ none. absurd (some_lock none));
        mtr_logs = i.mtr_logs;
        mtr_history = i.mtr_history;
        page_frames = frames_lock ops laws opening w i n k (taken_as new)
            (no_writer_before opening.primaries most w.lock_words w.lock_rows i.page_locks
            n k low node.1 small) some_lock;
        given_pages = i.given_pages;
      })
      (λ _. i)

  unlock : (k : ℕ) → MayUnlock ops opening.base (pages_part w n) k → PagesInv ops opening
      (pages_after ops known w (UnlockWord n k))
  unlock k may = record {
    page_locks = locks_unlock opening.primaries most w.lock_words w.lock_rows i.page_locks n k low node.1 may.has_lock;
    frame_turns = turns_locks w.turn_words w.homes w.frames w.lock_rows i.frame_turns n k No (λ _. may.home);
    mtr_logs = i.mtr_logs;
    mtr_history = i.mtr_history;
    page_frames = frames_unlock ops laws opening w i n k may.has_lock
        may.released.0 may.released.1;
    given_pages = i.given_pages;
  }

  module _ (k : ℕ) (in_range : k < PAGES) where
    -- the frame is at home with a page, which the node is given
    taken : (y : P) → w.turn_words k ≡ 0 → get_elem? w.homes k ≡ some (some y) → ¬ (held_at (w.lock_rows n) k ≡ No)
        → PagesInv ops opening (after_taken ops w n k known y)
    taken y free at has =
        let in_frame : Frame k ≡ Some y = if_equal (w.turn_words k) 0 (standing (get_elem? w.homes k))
        (out_at (w.frames (w.turn_words k)) k) free ∙ ap standing at in
        let whole = given_is_whole ops laws opening w i n k y has in_frame in
        let content = kept_or ops (w.contents n) k y in
        let given = given_page k content known (length w.history) in
        record {
          page_locks = i.page_locks;
          frame_turns = turns_take w.turn_words w.homes w.frames w.lock_rows i.frame_turns
              n k in_range y some_node free has opening.primaries w.lock_words i.page_locks;
          mtr_logs = logs_given ops laws opening w.history w.made w.durables w.given i.mtr_logs n given
              (subst (λ x. llsn_at ops x ≤ opening.base + length w.history) whole (i.mtr_logs.pages k));
          mtr_history = i.mtr_history;
          page_frames =
              subst (λ f. PageFrames ops opening w.history f w.durables w.lock_rows
              (after_taken ops w n k known y).contents w.gave)
              (sym (frame_take w.turn_words w.homes w.frames w.lock_rows i.frame_turns
              n k in_range y some_node free has at))
              (frames_take ops laws opening w i n k y has in_frame);
          given_pages =
              each_pushed (λ j g. IsGiven ops opening w.history w.durables j g) w.given n given i.given_pages
              (given_now ops laws opening w i n k y has in_frame known);
        }

    take : ¬ (held_at (w.lock_rows n) k ≡ No) → PagesInv ops opening (pages_after ops known w (TakeFrame n k))
    take has =
        of_equal (PagesInv ops opening) (w.turn_words k) 0
        (after_turn ops w n k known (standing (get_elem? w.homes k))) w
        (λ free.
        let home = i.frame_turns.at_home k in_range free in
        subst (λ x. PagesInv ops opening (after_turn ops w n k known x)) (sym (ap standing home.1))
        (taken home.0 free home.1 has))
        (λ _. i)

    -- the frame is given back with a page that is a durable prefix
    gives : (y t : P) → out_at (w.frames n) k ≡ Some t → IsPrefix ops opening w.history w.durables k (Some y)
        → llsn_at ops (Frame k) ≤ ops.llsn_of y
        → (((j : ℕ) → held_at (w.lock_rows j) k ≡ Write → content_at ops (w.contents j) k ≡ None)
        → Some y ≡ folded ops opening w.history k) → PagesInv ops opening
        (pages_after ops known w (GiveFrame n k y))
    gives y t out prefix rises whole = record {
      page_locks = i.page_locks;
      frame_turns = turns_give w.turn_words w.homes w.frames w.lock_rows i.frame_turns n k in_range y t out;
      mtr_logs = i.mtr_logs;
      mtr_history = i.mtr_history;
      page_frames = frames_give ops laws opening w i n k y
          (FrameThen w.turn_words w.homes w.frames w.lock_rows i.frame_turns n k in_range y t out)
          (frame_give_here w.turn_words w.homes w.frames w.lock_rows i.frame_turns n k in_range y t out)
          (frame_give_else w.turn_words w.homes w.frames w.lock_rows i.frame_turns n k in_range y t out)
          prefix
          rises
          whole;
      given_pages = i.given_pages;
    }

    give : (y : P) → (out_at (w.frames n) k ≡ Some y) ⊎ GivesContent ops opening.base (pages_part w n) k y
        → PagesInv ops opening (pages_after ops known w (GiveFrame n k y))
    give y (inl out) =
        let before = frame_before w.turn_words w.homes w.frames w.lock_rows i.frame_turns
        n k in_range y y out some_node in
        let same = ap (llsn_at ops) before in
        gives y y out (subst (λ x. IsPrefix ops opening w.history w.durables k x) before (i.page_frames.prefix k))
        (omega arith) (λ nobody. sym before ∙ i.page_frames.frames_whole k nobody)
    give y (inr g) =
        gives y g.took.0 g.took.1
        (content_prefix ops laws opening w i n k y g.writes g.has g.durable)
        (content_rises ops laws opening w i n k y g.writes g.has g.durable)
        (λ _. content_is_whole ops laws opening w i n k y g.writes g.has g.durable)

  -- an mtr that may be made goes on from the pages of the history, since its node's contents are these
  goes_on : (m : M) → MayMake ops opening.base (pages_part w n) n m → GoesOn ops opening w.history m
  goes_on m may = record {
    llsns_rise = λ k touch. let page = (may.touched k touch).2 in
        (page.0, (i.page_frames.contents_whole n k page.0 page.1).1, page.2);
    prevs = prevs_same (ops.mtr_llsn m) (λ k. llsn_at ops (content_at ops (w.contents n) k))
        (λ k. llsn_at ops (folded ops opening w.history k)) (ops.touches m)
        (λ k touch. let page = (may.touched k touch).2 in ap (llsn_at ops)
        (page.1 ∙ sym (i.page_frames.contents_whole n k page.0 page.1).1)) may.prevs;
  }

  make : (m : M) → MayMake ops opening.base (pages_part w n) n m → PagesInv ops opening
      (pages_after ops known w (StoreLlsn n m))
  make m may =
      let on = goes_on m may in
      let writes : (k : ℕ) → Touches ops m k → (held_at (w.lock_rows n) k ≡ Write)
      × ((y : P) × (content_at ops (w.contents n) k ≡ Some y)) = λ k touch. let page = may.touched k touch in
      (page.1, (page.2.0, page.2.1)) in
      record {
        page_locks = i.page_locks;
        frame_turns = i.frame_turns;
        mtr_logs = logs_make ops laws opening w.history w.made w.durables w.given i.mtr_logs
            n m node may.above may.next may.few on;
        mtr_history = history_make ops laws opening w.history w.made w.durables w.given i.mtr_logs
            n m node may.own on i.mtr_history;
        page_frames = frames_make ops laws opening w i n m may.own writes;
        given_pages = given_make ops laws opening w i n m may.own writes;
      }

  force : (v : ℕ) → PagesAsks ops opening.base (pages_part w n) (StoreDurable n v) → PagesInv ops opening
      (pages_after ops known w (StoreDurable n v))
  force v may = record {
    page_locks = i.page_locks;
    frame_turns = i.frame_turns;
    mtr_logs = logs_durable ops laws opening w.history w.made w.durables w.given i.mtr_logs n v may.0 may.1;
    mtr_history = i.mtr_history;
    page_frames = frames_durable ops laws opening w i n v may.0;
    given_pages = given_durable ops laws opening w i n v may.0;
  }

-- the step theorem, whatever timestamp the node knows
pub keeps_pages : {P M : Type 0} (ops : PageOps P M) → PageLaws ops → (opening : PagesOpening P)
    → PagesFit {M = M} ops opening → (known : ℕ) (w : PagesWorld P M) (e : PagesEvent P M) → PagesInv ops opening w
    → IsPagesNode opening (pages_node e)
    → PagesAsks ops opening.base (pages_part w (pages_node e)) e → PagesInv ops opening (pages_after ops known w e)
keeps_pages ops laws opening fit known w (LockWord n k old new) i node may =
    lock ops laws opening fit known w i n node k old new may.1
keeps_pages ops laws opening fit known w (UnlockWord n k) i node may =
    unlock ops laws opening fit known w i n node k may
keeps_pages ops laws opening fit known w (TakeFrame n k) i node may =
    take ops laws opening fit known w i n node k may.0 may.1
keeps_pages ops laws opening fit known w (GiveFrame n k y) i node may =
    give ops laws opening fit known w i n node k may.in_range y may.gives_back
keeps_pages ops laws opening fit known w (StoreLlsn n m) i node may = make ops laws opening fit known w i n node m may
keeps_pages ops laws opening fit known w (StoreDurable n v) i node may =
    force ops laws opening fit known w i n node v may
