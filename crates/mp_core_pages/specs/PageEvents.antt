-- The steps on pages: who makes one, on which word, what becomes of the word and of the node's part, and when it may
-- come.
use Rattle.std.specs.Prelude.{◌≡◌, ℕ, ◌+◌, ◌-◌, ◌*◌, ◌<◌, ◌≤◌, max, nat_lt, ◌==◌, if◌then◌else◌, ◌⊎◌, List, [], ◌∷◌, length, bit_and, Option, None, Some}
use Rattle.atomic_table.specs.Table.{Act, keeps, takes, gives}
use Rattle.mp_core_pages.specs.declared.opening.TheConstants.{PAGES, MOST_MTRS}
use Rattle.mp_core_pages.specs.declared.page_lock.Held.{Held}
use Rattle.mp_core_pages.specs.declared.page_lock.Held.TheVariants.{No, Read, Write}
use Rattle.mp_core_pages.specs.declared.part.ContentStep.TheVariants.{Given, Dropped, Made}
use Rattle.mp_core_pages.specs.declared.part.PagesPart.{PagesPart}
use Rattle.mp_core_pages.specs.declared.event.PagesEvent.{PagesEvent}
use Rattle.mp_core_pages.specs.declared.event.PagesEvent.TheVariants.{LockWord, UnlockWord, TakeFrame, GiveFrame, StoreLlsn, StoreDurable}
use Rattle.mp_core_pages.specs.LockWords.{TakesShared, TakesExclusive, mask_of}
use Rattle.mp_core_pages.specs.Histories.{PageOps, Touches, PrevsFit, llsn_at, placed}
use Rattle.mp_core_pages.specs.PageParts.{lock_row, frame_row, gave_row, given_page, held_at, out_at, durable_llsn, content_at, kept_or, last_llsn, own_llsn, told_llsn, Released}

-- the words: a page's lock and the turn of its frame, and each node's LLSN and durable LLSN
pub data PagesPlace : Type 0 where
  lock_of : ℕ → PagesPlace
  turn_of : ℕ → PagesPlace
  llsn_word : ℕ → PagesPlace
  durable_word : ℕ → PagesPlace

-- the words of 8 nodes are there, whether there are so many nodes or not
abbrev pub IsPagesPlace : PagesPlace → Type 0
IsPagesPlace (lock_of k) = k < PAGES
IsPagesPlace (turn_of k) = k < PAGES
IsPagesPlace (llsn_word n) = (1 ≤ n) × (n ≤ 8)
IsPagesPlace (durable_word n) = (1 ≤ n) × (n ≤ 8)

-- where a word lies
abbrev pub pages_index : PagesPlace → ℕ
pages_index (lock_of k) = k
pages_index (turn_of k) = PAGES + k
pages_index (llsn_word n) = 2 * PAGES + (n - 1)
pages_index (durable_word n) = 2 * PAGES + 8 + (n - 1)

-- how many words these are
abbrev pub pages_region : ℕ
pages_region = 2 * PAGES + 16

-- What a frame step finds beside its word: the page in the frame if it is at home, how many mtrs were made, and the
-- greatest timestamp that its node knows
pub record PagesNote (P : Type 0) : Type 0 where
  pub frame : Option P
  pub height : ℕ
  pub known : ℕ

-- how a node holds the lock whose word it made this
abbrev pub taken_as : ℕ → Held
taken_as new = if nat_lt new 256 then Read else Write

-- a frame is taken where it is at home
abbrev pub taking_of : {P : Type 0} → ℕ → Option P → Act P
taking_of k None = keeps
taking_of k (Some y) = takes k y

module _ {P M : Type 0} where
  abbrev pub pages_node : PagesEvent P M → ℕ
  pages_node (LockWord n k old new) = n
  pages_node (UnlockWord n k) = n
  pages_node (TakeFrame n k) = n
  pages_node (GiveFrame n k y) = n
  pages_node (StoreLlsn n m) = n
  pages_node (StoreDurable n v) = n

  abbrev pub pages_place : PagesEvent P M → PagesPlace
  pages_place (LockWord n k old new) = lock_of k
  pages_place (UnlockWord n k) = lock_of k
  pages_place (TakeFrame n k) = turn_of k
  pages_place (GiveFrame n k y) = turn_of k
  pages_place (StoreLlsn n m) = llsn_word n
  pages_place (StoreDurable n v) = durable_word n

  -- what an event does with the frames, by the word found and the note
  abbrev pub pages_act : PagesEvent P M → ℕ → PagesNote P → Act P
  pages_act (LockWord n k old new) found x = keeps
  pages_act (UnlockWord n k) found x = keeps
  pages_act (TakeFrame n k) found x = if found == 0 then taking_of k x.frame else keeps
  pages_act (GiveFrame n k y) found x = gives
  pages_act (StoreLlsn n m) found x = keeps
  pages_act (StoreDurable n v) found x = keeps

  -- what it asks of the frames that its node carries: who gives one back carries it alone
  abbrev pub PagesCarries : List (ℕ × P) → PagesEvent P M → Type 0
  PagesCarries carried (LockWord n k old new) = Unit {0}
  PagesCarries carried (UnlockWord n k) = Unit {0}
  PagesCarries carried (TakeFrame n k) = Unit {0}
  PagesCarries carried (GiveFrame n k y) = carried ≡ (k, y) ∷ []
  PagesCarries carried (StoreLlsn n m) = Unit {0}
  PagesCarries carried (StoreDurable n v) = Unit {0}

  -- the node came to hold a page's lock
  abbrev pub with_lock : ℕ → Held → PagesPart P M → PagesPart P M
  with_lock k held p = record p { locks = lock_row k held ∷ p.locks }

  -- it let the lock go, and its content of the page
  abbrev pub with_unlock : ℕ → PagesPart P M → PagesPart P M
  with_unlock k p = record p { locks = lock_row k No ∷ p.locks; contents = Dropped k ∷ p.contents }

  -- it said up to which LLSN its log is durable
  abbrev pub with_durable : ℕ → PagesPart P M → PagesPart P M
  with_durable v p = record p { durables = v ∷ p.durables }

  -- it made an mtr at a place of the history, and so changed its contents
  abbrev pub with_mtr : ℕ → M → PagesPart P M → PagesPart P M
  with_mtr at m p = record p { made = placed at m ∷ p.made; contents = Made m ∷ p.contents }

module _ {P M : Type 0} (ops : PageOps P M) where
  abbrev pub pages_word : PagesEvent P M → ℕ → ℕ
  pages_word (LockWord n k old new) found = if found == old then new else found
  pages_word (UnlockWord n k) found = bit_and found (mask_of n)
  pages_word (TakeFrame n k) found = if found == 0 then n else found
  pages_word (GiveFrame n k y) found = 0
  pages_word (StoreLlsn n m) found = ops.mtr_llsn m
  pages_word (StoreDurable n v) found = v

  -- the node took a page's frame with a page in it, and so was given the page
  abbrev pub with_frame : ℕ → P → ℕ → ℕ → PagesPart P M → PagesPart P M
  with_frame k y known height p = record p {
    frames = frame_row k (Some y) ∷ p.frames;
    contents = Given k (kept_or ops p.contents k y) ∷ p.contents;
    given = given_page k (kept_or ops p.contents k y) known height ∷ p.given;
  }

  -- the same where it was at home, and nothing where it was not
  abbrev pub with_taken : ℕ → Option P → ℕ → ℕ → PagesPart P M → PagesPart P M
  with_taken k None known height p = p
  with_taken k (Some y) known height p = with_frame k y known height p

  -- it gave a page's frame back with a page in it
  abbrev pub with_given_back : ℕ → P → PagesPart P M → PagesPart P M
  with_given_back k y p = record p {
    frames = frame_row k None ∷ p.frames;
    gave = gave_row k (ops.llsn_of y) ∷ p.gave;
  }

  -- the part of its node, by the word found and the note
  abbrev pub pages_made : PagesEvent P M → ℕ → PagesNote P → PagesPart P M → PagesPart P M
  pages_made (LockWord n k old new) found x p = if found == old then with_lock k (taken_as new) p else p
  pages_made (UnlockWord n k) found x p = with_unlock k p
  pages_made (TakeFrame n k) found x p = if found == 0 then with_taken k x.frame x.known x.height p else p
  pages_made (GiveFrame n k y) found x p = with_given_back k y p
  pages_made (StoreLlsn n m) found x p = with_mtr x.height m p
  pages_made (StoreDurable n v) found x p = with_durable v p

  -- The node may let the page's lock go: it holds it, does not have the frame, and all its records there are durable
  -- and in the frame
  pub record MayUnlock (base : ℕ) (p : PagesPart P M) (k : ℕ) : Type 0 where
    pub in_range : k < PAGES
    pub has_lock : ¬ (held_at p.locks k ≡ No)
    pub home : out_at p.frames k ≡ None
    pub released : Released ops base p k

  -- What a node gives back that writes the page: its content, with records that are durable, in place of the page
  -- that it took
  pub record GivesContent (base : ℕ) (p : PagesPart P M) (k : ℕ) (y : P) : Type 0 where
    pub took : (t : P) × (out_at p.frames k ≡ Some t)
    pub writes : held_at p.locks k ≡ Write
    pub has : content_at ops p.contents k ≡ Some y
    pub durable : own_llsn ops p.made k ≤ durable_llsn base p.durables

  -- The node may give the page's frame back: with the page that it took, or with its content
  pub record MayGive (base : ℕ) (p : PagesPart P M) (k : ℕ) (y : P) : Type 0 where
    pub in_range : k < PAGES
    pub has_lock : ¬ (held_at p.locks k ≡ No)
    pub gives_back : (out_at p.frames k ≡ Some y) ⊎ GivesContent base p k y

  -- the node may change the page by an mtr of this LLSN: it writes it, and has its content with a lower LLSN
  abbrev pub MayTouch : ℕ → PagesPart P M → ℕ → Type 0
  MayTouch llsn p k = (k < PAGES) × (held_at p.locks k ≡ Write)
      × ((y : P) × (content_at ops p.contents k ≡ Some y) × (ops.llsn_of y < llsn))

  -- The node may make the mtr
  pub record MayMake (base : ℕ) (p : PagesPart P M) (n : ℕ) (m : M) : Type 0 where
    pub own : ops.maker_of m ≡ n
    -- its LLSN is above the node's last, and at most one more than any that the node made or was told
    pub above : last_llsn ops base p.made < ops.mtr_llsn m
    pub next : ops.mtr_llsn m ≤ max (last_llsn ops base p.made) (told_llsn ops p.given) + 1
    pub few : length p.made < MOST_MTRS
    -- the pages that it touches may be changed, and each record tells its page's LLSN
    pub touched : (k : ℕ) → Touches ops m k → MayTouch (ops.mtr_llsn m) p k
    pub prevs : PrevsFit (ops.mtr_llsn m) (λ k. llsn_at ops (content_at ops p.contents k)) (ops.touches m)

  -- what an event asks of the part of its node, besides that there is this node
  abbrev pub PagesAsks : ℕ → PagesPart P M → PagesEvent P M → Type 0
  PagesAsks base p (LockWord n k old new) = (k < PAGES) × (TakesShared n old new ⊎ TakesExclusive n old new)
  PagesAsks base p (UnlockWord n k) = MayUnlock base p k
  PagesAsks base p (TakeFrame n k) = (k < PAGES) × ¬ (held_at p.locks k ≡ No)
  PagesAsks base p (GiveFrame n k y) = MayGive base p k y
  PagesAsks base p (StoreLlsn n m) = MayMake base p n m
  PagesAsks base p (StoreDurable n v) = (durable_llsn base p.durables ≤ v) × (v ≤ last_llsn ops base p.made)
