-- Pages and mtrs as the page core sees them, and the history of all mtrs, of which the last made stands first.
use Rattle.std.specs.Prelude.{◌≡◌, ℕ, ◌-◌, ◌<◌, ◌≤◌, ◌↔◌, Bool, true, false, ◌==◌, if◌then◌else◌, List, [], ◌∷◌, length, drop, slice_get, Option, None, Some}
use Rattle.std.specs.Option.{option_map}
use Rattle.mp_machine.specs.Lists.{IsIn, updated}
use Rattle.mp_core_pages.specs.declared.opening.PagesOpening.{PagesOpening}
use Rattle.mp_core_pages.specs.declared.opening.Touch.{Touch}
use Rattle.mp_core_pages.specs.declared.part.Placed.{Placed}

-- What the page core asks of pages P and mtrs M
pub record PageOps (P M : Type 0) : Type 0 where
  -- the LLSN that a page has
  pub llsn_of : P → ℕ
  -- the node that made an mtr, its LLSN, and its records on pages in order
  pub maker_of : M → ℕ
  pub mtr_llsn : M → ℕ
  pub touches : M → List Touch
  -- what becomes of the page with a number by an mtr
  pub after_mtr : M → ℕ → P → P

-- the page is among those touched
abbrev pub is_touched : ℕ → List Touch → Bool
is_touched k [] = false
is_touched k (t ∷ ts) = if k == t.page then true else is_touched k ts

-- each record tells the LLSN that its page had before it: the page's own, or this mtr's where it touched the page
-- before
abbrev pub PrevsFit : ℕ → (ℕ → ℕ) → List Touch → Type 0
PrevsFit llsn before [] = Unit {0}
PrevsFit llsn before (t ∷ ts) = (t.prev ≡ before t.page) × PrevsFit llsn (updated before t.page llsn) ts

-- the mtrs of a history that were made first, so many of them
abbrev pub oldest : {M : Type 0} → ℕ → List M → List M
oldest h history = drop (length history - h) history

abbrev pub placed : {M : Type 0} → ℕ → M → Placed M
placed at mtr = record { at = at; mtr = mtr }

module _ {P M : Type 0} (ops : PageOps P M) where
  -- the mtr has a record on the page
  abbrev pub Touches : M → ℕ → Type 0
  Touches m k = is_touched k (ops.touches m) ≡ true

  -- An mtr gives the pages that it touches its LLSN, and leaves the others
  pub record PageLaws : Type 0 where
    pub touched : (m : M) (k : ℕ) (y : P) → Touches m k → ops.llsn_of (ops.after_mtr m k y) ≡ ops.mtr_llsn m
    pub untouched : (m : M) (k : ℕ) (y : P) → is_touched k (ops.touches m) ≡ false → ops.after_mtr m k y ≡ y

  -- a page's LLSN, and 0 where there is no page
  abbrev pub llsn_at : Option P → ℕ
  llsn_at None = 0
  llsn_at (Some y) = ops.llsn_of y

  -- the page with a number after the mtrs of a history, over the pages of the opening
  abbrev pub folded : PagesOpening P → List M → ℕ → Option P
  folded opening [] k = slice_get opening.pages k
  folded opening (m ∷ history) k = option_map (ops.after_mtr m k) (folded opening history k)

  -- the mtrs of a history that a node made, each with its place
  abbrev pub made_by : ℕ → List M → List (Placed M)
  made_by n [] = []
  made_by n (m ∷ history) =
      if ops.maker_of m == n then placed (length history) m ∷ made_by n history else made_by n history

  -- The records of an mtr go on from the pages as the history left them: each page is there with a lower LLSN, and
  -- each record tells the LLSN before it
  pub record GoesOn (opening : PagesOpening P) (history : List M) (m : M) : Type 0 where
    pub llsns_rise : (k : ℕ) → Touches m k → (y : P) × (folded opening history k ≡ Some y)
        × (ops.llsn_of y < ops.mtr_llsn m)
    pub prevs : PrevsFit (ops.mtr_llsn m) (λ k. llsn_at (folded opening history k)) (ops.touches m)

  -- along a history the records of each page stand in the order of their LLSNs
  abbrev pub HistoryInOrder : PagesOpening P → List M → Type 0
  HistoryInOrder opening [] = Unit {0}
  HistoryInOrder opening (m ∷ history) = GoesOn opening history m × HistoryInOrder opening history

  -- along a history the LLSNs of the mtrs that touch a page rise, so that the order of their LLSNs is the order in
  -- which they were made
  abbrev pub PageRises : ℕ → List M → Type 0
  PageRises k [] = Unit {0}
  PageRises k (m ∷ history) =
      (Touches m k → (before : M) → IsIn before history → Touches before k → ops.mtr_llsn before < ops.mtr_llsn m)
      × PageRises k history

  -- a page's LLSN tells its list: of the mtrs that touch it, the first ones are those at or below the LLSN that they
  -- leave
  abbrev pub TellsItsList : PagesOpening P → List M → ℕ → ℕ → Type 0
  TellsItsList opening history h k = (m : M) → IsIn m history → Touches m k
      → IsIn m (oldest h history) ↔ (ops.mtr_llsn m ≤ llsn_at (folded opening (oldest h history) k))
