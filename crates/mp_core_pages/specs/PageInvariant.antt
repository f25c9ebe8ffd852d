-- What holds of all nodes together, in groups by what each reads.
use Rattle.std.specs.Prelude.{◌≡◌, ℕ, ◌+◌, ◌<◌, ◌≤◌, ◌⊎◌, List, [], ◌∷◌, length, Option, None, Some}
use mathlib.Core.Option.{none, some}
use mathlib.Core.Option.{Option as Home}
use lib.ListN.{get_elem?}
use Rattle.mp_machine.specs.Lists.{IsIn, total}
use Rattle.mp_core_pages.specs.declared.opening.TheConstants.{PAGES, MOST_MTRS}
use Rattle.mp_core_pages.specs.declared.opening.PagesOpening.{PagesOpening}
use Rattle.mp_core_pages.specs.declared.page_lock.Held.TheVariants.{No, Write}
use Rattle.mp_core_pages.specs.declared.part.LockRow.{LockRow}
use Rattle.mp_core_pages.specs.declared.part.FrameRow.{FrameRow}
use Rattle.mp_core_pages.specs.declared.part.GaveRow.{GaveRow}
use Rattle.mp_core_pages.specs.declared.part.ContentStep.{ContentStep}
use Rattle.mp_core_pages.specs.declared.part.GivenPage.{GivenPage}
use Rattle.mp_core_pages.specs.declared.part.Placed.{Placed}
use Rattle.mp_core_pages.specs.LockWords.{holder, IsLockWord}
use Rattle.mp_core_pages.specs.Histories.{PageOps, Touches, llsn_at, folded, oldest, made_by, HistoryInOrder}
use Rattle.mp_core_pages.specs.PageParts.{held_at, out_at, gave_at, durable_llsn, content_at, last_llsn, told_llsn}
use Rattle.mp_core_pages.specs.PageWorld.{PagesWorld, frame_in, IsPagesNode}

-- A lock word names exactly the nodes that hold the lock, and who writes is the only one
pub record PageLocks (primaries : ℕ) (lock_words : ℕ → ℕ) (locks : ℕ → List LockRow) : Type 0 where
  pub words : (k : ℕ) → IsLockWord (lock_words k)
  pub named : (n k : ℕ) → 1 ≤ n → n ≤ 8 → holder (lock_words k) n ≡ held_at (locks n) k
  pub nodes : (n k : ℕ) → ¬ (held_at (locks n) k ≡ No) → (1 ≤ n) × (n ≤ primaries)
  pub alone : (n m k : ℕ) → held_at (locks n) k ≡ Write → ¬ (held_at (locks m) k ≡ No) → m ≡ n

-- A turn word is 0 exactly where its frame is at home, and else names the node that has it; who has a frame holds
-- its page's lock
pub record FrameTurns {P : Type 0} (turn_words : ℕ → ℕ) (homes : List (Home P)) (frames : ℕ → List (FrameRow P))
    (locks : ℕ → List LockRow) : Type 0 where
  -- there is a frame for each page
  pub slots : length homes ≡ PAGES
  pub at_home : (k : ℕ) → k < PAGES → turn_words k ≡ 0 → (y : P) × (get_elem? homes k ≡ some (some y))
  pub taken : (k : ℕ) → k < PAGES → ¬ (turn_words k ≡ 0)
      → (get_elem? homes k ≡ some none) × ((y : P) × (out_at (frames (turn_words k)) k ≡ Some y))
  pub named : (n k : ℕ) (y : P) → out_at (frames n) k ≡ Some y → (turn_words k ≡ n) × ¬ (held_at (locks n) k ≡ No)

module _ {P M : Type 0} (ops : PageOps P M) where
  -- each mtr's LLSN is above the one before it, and the first above the base
  abbrev pub Ascends : ℕ → List (Placed M) → Type 0
  Ascends base [] = Unit {0}
  Ascends base (p ∷ made) = (last_llsn ops base made < ops.mtr_llsn p.mtr) × Ascends base made

  -- the mtr's maker has said that it is durable
  abbrev pub IsDurable : ℕ → (ℕ → List ℕ) → M → Type 0
  IsDurable base durables m = ops.mtr_llsn m ≤ durable_llsn base (durables (ops.maker_of m))

  -- A node's mtrs ascend, its durable LLSN lies from the base to the last of them, and no LLSN is above the base by
  -- more than the mtrs that were made
  pub record MtrLogs (opening : PagesOpening P) (history : List M) (made : ℕ → List (Placed M))
      (durables : ℕ → List ℕ) (given : ℕ → List (GivenPage P)) : Type 0 where
    pub ascend : (n : ℕ) → Ascends opening.base (made n)
    pub durable : (n : ℕ) → (opening.base ≤ durable_llsn opening.base (durables n))
        × (durable_llsn opening.base (durables n) ≤ last_llsn ops opening.base (made n))
    pub few : (n : ℕ) → length (made n) ≤ MOST_MTRS
    pub counted : length history ≡ total (λ n. length (made n)) (opening.primaries + 1)
    pub last : (n : ℕ) → last_llsn ops opening.base (made n) ≤ opening.base + length history
    pub told : (n : ℕ) → told_llsn ops (given n) ≤ opening.base + length history
    pub pages : (k : ℕ) → llsn_at ops (folded ops opening history k) ≤ opening.base + length history

  -- A node's log has its mtrs of the history, at their places, and along the history the records of each page stand
  -- in the order of their LLSNs
  pub record MtrHistory (opening : PagesOpening P) (history : List M) (made : ℕ → List (Placed M)) : Type 0 where
    pub makers : (m : M) → IsIn m history → IsPagesNode opening (ops.maker_of m)
    pub own : (n : ℕ) → made n ≡ made_by ops n history
    pub order : HistoryInOrder ops opening history

  -- The page in a frame is that of some first mtrs, of which those that touch it are durable
  pub record IsPrefix (opening : PagesOpening P) (history : List M) (durables : ℕ → List ℕ) (k : ℕ)
      (y : Option P) : Type 0 where
    pub height : ℕ
    pub within : height ≤ length history
    pub is_folded : y ≡ folded ops opening (oldest height history) k
    pub durable : (m : M) → IsIn m (oldest height history) → Touches ops m k → IsDurable opening.base durables m

  -- What is in frames, and what is not yet
  pub record PageFrames (opening : PagesOpening P) (history : List M) (frame : ℕ → Option P) (durables : ℕ → List ℕ)
      (locks : ℕ → List LockRow) (contents : ℕ → List (ContentStep P M)) (gave : ℕ → List GaveRow) : Type 0 where
    pub prefix : (k : ℕ) → IsPrefix opening history durables k (frame k)
    -- an mtr that is not durable, or not in the frame of a page that it touches: its maker writes that page
    pub missing : (m : M) (k : ℕ) → IsIn m history → Touches ops m k
        → (IsDurable opening.base durables m × (ops.mtr_llsn m ≤ llsn_at ops (frame k)))
        ⊎ (held_at (locks (ops.maker_of m)) k ≡ Write)
    -- who has a page's content holds its lock, and the content is that of all mtrs
    pub contents_whole : (n k : ℕ) (y : P) → content_at ops (contents n) k ≡ Some y
        → (¬ (held_at (locks n) k ≡ No)) × (folded ops opening history k ≡ Some y)
    -- and so is the frame of a page that nobody writes with its content
    pub frames_whole : (k : ℕ) → ((n : ℕ) → held_at (locks n) k ≡ Write → content_at ops (contents n) k ≡ None)
        → frame k ≡ folded ops opening history k
    -- a frame has at least what any node gave back
    pub gave_below : (n k : ℕ) → gave_at (gave n) k ≤ llsn_at ops (frame k)

  -- What a node may rely on that was given a page: it is that of the mtrs made before, of which those of other nodes
  -- on the page are durable
  pub record IsGiven (opening : PagesOpening P) (history : List M) (durables : ℕ → List ℕ) (n : ℕ)
      (g : GivenPage P) : Type 0 where
    pub within : g.height ≤ length history
    pub is_folded : folded ops opening (oldest g.height history) g.number ≡ Some g.page
    pub of_others : (m : M) → IsIn m (oldest g.height history) → ¬ (ops.maker_of m ≡ n) → Touches ops m g.number
        → IsDurable opening.base durables m

  -- each page that was given may be relied on
  abbrev pub GivenPages : PagesOpening P → List M → (ℕ → List ℕ) → (ℕ → List (GivenPage P)) → Type 0
  GivenPages opening history durables given = (n : ℕ) (g : GivenPage P) → IsIn g (given n)
      → IsGiven opening history durables n g

  -- The invariant: what holds wherever allowed events lead
  pub record PagesInv (opening : PagesOpening P) (w : PagesWorld P M) : Type 0 where
    pub page_locks : PageLocks opening.primaries w.lock_words w.lock_rows
    pub frame_turns : FrameTurns w.turn_words w.homes w.frames w.lock_rows
    pub mtr_logs : MtrLogs opening w.history w.made w.durables w.given
    pub mtr_history : MtrHistory opening w.history w.made
    pub page_frames : PageFrames opening w.history
        (frame_in w.turn_words w.homes w.frames) w.durables w.lock_rows w.contents w.gave
    pub given_pages : GivenPages opening w.history w.durables w.given
