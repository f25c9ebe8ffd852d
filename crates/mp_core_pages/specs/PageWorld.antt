-- All nodes together, with the frames and the history of all mtrs, and the abstract machine that they are.
use Rattle.std.specs.Prelude.{◌≡◌, ℕ, ◌+◌, ◌*◌, ◌^◌, ◌<◌, ◌≤◌, ◌==◌, if◌then◌else◌, List, [], ◌∷◌, map, length, slice_get, slice_set, bit_and, Option, None, Some}
use mathlib.Core.Option.{none, some}
use mathlib.Core.Option.{Option as Home}
use lib.ListN.{get_elem?}
use Rattle.mp_machine.specs.Machine.{Machine}
use Rattle.mp_machine.specs.Lists.{updated, pushed}
use Rattle.mp_core_pages.specs.declared.opening.TheConstants.{PAGES, MOST_MTRS}
use Rattle.mp_core_pages.specs.declared.opening.PagesOpening.{PagesOpening}
use Rattle.mp_core_pages.specs.declared.page_lock.Held.TheVariants.{No}
use Rattle.mp_core_pages.specs.declared.part.LockRow.{LockRow}
use Rattle.mp_core_pages.specs.declared.part.FrameRow.{FrameRow}
use Rattle.mp_core_pages.specs.declared.part.GaveRow.{GaveRow}
use Rattle.mp_core_pages.specs.declared.part.ContentStep.{ContentStep}
use Rattle.mp_core_pages.specs.declared.part.ContentStep.TheVariants.{Given, Dropped, Made}
use Rattle.mp_core_pages.specs.declared.part.GivenPage.{GivenPage}
use Rattle.mp_core_pages.specs.declared.part.Placed.{Placed}
use Rattle.mp_core_pages.specs.declared.part.PagesPart.{PagesPart}
use Rattle.mp_core_pages.specs.declared.event.PagesEvent.{PagesEvent}
use Rattle.mp_core_pages.specs.declared.event.PagesEvent.TheVariants.{LockWord, UnlockWord, TakeFrame, GiveFrame, StoreLlsn, StoreDurable}
use Rattle.mp_core_pages.specs.LockWords.{mask_of}
use Rattle.mp_core_pages.specs.Histories.{PageOps, placed}
use Rattle.mp_core_pages.specs.PageParts.{lock_row, frame_row, gave_row, given_page, out_at, durable_llsn, kept_or, last_llsn}
use Rattle.mp_core_pages.specs.PageEvents.{PagesPlace, lock_of, turn_of, llsn_word, durable_word, IsPagesPlace, pages_index, PagesNote, taken_as, pages_node, pages_place, pages_act, PagesCarries, pages_word, pages_made, PagesAsks}

-- The logs of the parts, each by node, and beside them the words of locks and turns by page, the frames, and the
-- history of all mtrs, last made first. A node's LLSN words are no fields: they are what its logs show
pub record PagesWorld (P M : Type 0) : Type 0 where
  pub made : ℕ → List (Placed M)
  pub durables : ℕ → List ℕ
  pub lock_rows : ℕ → List LockRow
  pub frames : ℕ → List (FrameRow P)
  pub gave : ℕ → List GaveRow
  pub contents : ℕ → List (ContentStep P M)
  pub given : ℕ → List (GivenPage P)
  pub lock_words : ℕ → ℕ
  pub turn_words : ℕ → ℕ
  pub homes : List (Home P)
  pub history : List M

module _ {P : Type 0} where
  -- the page in a frame that is at home
  abbrev pub standing : Home (Home P) → Option P
  standing none = None
  standing (some none) = None
  standing (some (some y)) = Some y

  -- the page that counts as the frame's: the one at home, or the one that was there as a node took it
  abbrev pub frame_in : (ℕ → ℕ) → List (Home P) → (ℕ → List (FrameRow P)) → ℕ → Option P
  frame_in turn_words homes frames k =
      if turn_words k == 0 then standing (get_elem? homes k) else out_at (frames (turn_words k)) k

  -- what an event finds in the frame of its page
  abbrev pub frame_found : {M : Type 0} → List (Home P) → PagesEvent P M → Option P
  frame_found homes (LockWord n k old new) = None
  frame_found homes (UnlockWord n k) = None
  frame_found homes (TakeFrame n k) = standing (get_elem? homes k)
  frame_found homes (GiveFrame n k y) = None
  frame_found homes (StoreLlsn n m) = None
  frame_found homes (StoreDurable n v) = None

module _ {P M : Type 0} where
  -- the part of a node
  abbrev pub pages_part : PagesWorld P M → ℕ → PagesPart P M
  pages_part w n = record {
    made = w.made n;
    durables = w.durables n;
    locks = w.lock_rows n;
    frames = w.frames n;
    gave = w.gave n;
    contents = w.contents n;
    given = w.given n;
  }

  -- what an event notes, of a node that knows this timestamp as the greatest
  abbrev pub pages_note : ℕ → PagesWorld P M → PagesEvent P M → PagesNote P
  pages_note known w e = record { frame = frame_found w.homes e; height = length w.history; known = known }

  -- the world after a node came to hold a page's lock, whose word it made this
  abbrev pub after_lock : PagesWorld P M → ℕ → ℕ → ℕ → PagesWorld P M
  after_lock w n k new = record w {
    lock_words = updated w.lock_words k new;
    lock_rows = pushed w.lock_rows n (lock_row k (taken_as new));
  }

  abbrev pub pages_start : PagesOpening P → PagesWorld P M
  pages_start opening = record {
    made = λ _. [];
    durables = λ _. [];
    lock_rows = λ _. [];
    frames = λ _. [];
    gave = λ _. [];
    contents = λ _. [];
    given = λ _. [];
    lock_words = λ _. 0;
    turn_words = λ _. 0;
    homes = map some opening.pages;
    history = [];
  }

module _ {P M : Type 0} (ops : PageOps P M) where
  -- the word at a place
  abbrev pub pages_content : ℕ → PagesWorld P M → PagesPlace → ℕ
  pages_content base w (lock_of k) = w.lock_words k
  pages_content base w (turn_of k) = w.turn_words k
  pages_content base w (llsn_word n) = last_llsn ops base (w.made n)
  pages_content base w (durable_word n) = durable_llsn base (w.durables n)

  -- the world after a node took a page's frame, with a page in it
  abbrev pub after_taken : PagesWorld P M → ℕ → ℕ → ℕ → P → PagesWorld P M
  after_taken w n k known y = record w {
    turn_words = updated w.turn_words k n;
    homes = slice_set w.homes k none;
    frames = pushed w.frames n (frame_row k (Some y));
    contents = pushed w.contents n (Given k (kept_or ops (w.contents n) k y));
    given = pushed w.given n (given_page k (kept_or ops (w.contents n) k y) known (length w.history));
  }

  -- the same where the frame was at home; where it was not, the turn word alone changes
  abbrev pub after_turn : PagesWorld P M → ℕ → ℕ → ℕ → Option P → PagesWorld P M
  after_turn w n k known None = record w { turn_words = updated w.turn_words k n }
  after_turn w n k known (Some y) = after_taken w n k known y

  -- the world after an event, of a node that knows this timestamp as the greatest
  abbrev pub pages_after : ℕ → PagesWorld P M → PagesEvent P M → PagesWorld P M
  pages_after known w (LockWord n k old new) = if w.lock_words k == old then after_lock w n k new else w
  pages_after known w (UnlockWord n k) = record w {
    lock_words = updated w.lock_words k (bit_and (w.lock_words k) (mask_of n));
    lock_rows = pushed w.lock_rows n (lock_row k No);
    contents = pushed w.contents n (Dropped k);
  }
  pages_after known w (TakeFrame n k) =
      if w.turn_words k == 0 then after_turn w n k known (standing (get_elem? w.homes k)) else w
  pages_after known w (GiveFrame n k y) = record w {
    turn_words = updated w.turn_words k 0;
    homes = slice_set w.homes k (some y);
    frames = pushed w.frames n (frame_row k None);
    gave = pushed w.gave n (gave_row k (ops.llsn_of y));
  }
  pages_after known w (StoreLlsn n m) = record w {
    made = pushed w.made n (placed (length w.history) m);
    contents = pushed w.contents n (Made m);
    history = m ∷ w.history;
  }
  pages_after known w (StoreDurable n v) = record w { durables = pushed w.durables n v }

  -- The pages are all there, none with an LLSN above the base, and the LLSNs of the run stay within their format
  pub record PagesFit (opening : PagesOpening P) : Type 0 where
    pub some_primaries : (1 ≤ opening.primaries) × (opening.primaries ≤ 8)
    pub all_pages : length opening.pages ≡ PAGES
    pub within_base : (k : ℕ) (y : P) → slice_get opening.pages k ≡ Some y → ops.llsn_of y ≤ opening.base
    pub llsns_fit : opening.base + 8 * MOST_MTRS < 2 ^ 62

-- nodes are numbered from 1
abbrev pub IsPagesNode : {P : Type 0} → PagesOpening P → ℕ → Type 0
IsPagesNode opening n = (1 ≤ n) × (n ≤ opening.primaries)

-- the condition of an event
abbrev pub PagesAllowed : {P M : Type 0} → PageOps P M → PagesOpening P → PagesPart P M → List (ℕ × P)
    → PagesEvent P M → Type 0
PagesAllowed ops opening p carried e = IsPagesNode opening (pages_node e) × PagesAsks ops opening.base p e
    × PagesCarries carried e

-- the machine, in which no node knows a timestamp; part 0 is nobody's, since nodes are numbered from 1
abbrev pub paging : {P M : Type 0} → PageOps P M → PagesOpening P → Machine P (PagesPart P M)
    (PagesEvent P M) PagesPlace (PagesNote P) (PagesWorld P M)
paging ops opening = record {
  nodes = opening.primaries + 1;
  start = pages_start opening;
  after = pages_after ops 0;
  part = pages_part;
  content = pages_content ops opening.base;
  homes = λ w. w.homes;
  IsPlace = IsPagesPlace;
  index = pages_index;
  node_of = pages_node;
  place_of = pages_place;
  word_after = pages_word ops;
  act = λ w e. pages_act e (pages_content ops opening.base w (pages_place e)) (pages_note 0 w e);
  note = pages_note 0;
  made = pages_made ops;
  Allowed = PagesAllowed ops opening;
}
