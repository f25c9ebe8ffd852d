-- What a node's part shows of page locks, frames, its log and the contents that it has.
use Rattle.std.specs.Prelude.{ℕ, ◌≤◌, max, ◌==◌, if◌then◌else◌, List, [], ◌∷◌, Option, None, Some}
use Rattle.std.specs.Option.{option_map, unwrap_or}
use Rattle.mp_machine.specs.Lists.{Grows}
use Rattle.mp_core_pages.specs.declared.page_lock.Held.{Held}
use Rattle.mp_core_pages.specs.declared.page_lock.Held.TheVariants.{No}
use Rattle.mp_core_pages.specs.declared.part.LockRow.{LockRow}
use Rattle.mp_core_pages.specs.declared.part.FrameRow.{FrameRow}
use Rattle.mp_core_pages.specs.declared.part.GaveRow.{GaveRow}
use Rattle.mp_core_pages.specs.declared.part.ContentStep.{ContentStep}
use Rattle.mp_core_pages.specs.declared.part.ContentStep.TheVariants.{Given, Dropped, Made}
use Rattle.mp_core_pages.specs.declared.part.GivenPage.{GivenPage}
use Rattle.mp_core_pages.specs.declared.part.Placed.{Placed}
use Rattle.mp_core_pages.specs.declared.part.PagesPart.{PagesPart}
use Rattle.mp_core_pages.specs.Histories.{PageOps, is_touched}

-- rows of the logs from their fields
abbrev pub lock_row : ℕ → Held → LockRow
lock_row page held = record { page = page; held = held }

abbrev pub frame_row : {P : Type 0} → ℕ → Option P → FrameRow P
frame_row page taken = record { page = page; taken = taken }

abbrev pub gave_row : ℕ → ℕ → GaveRow
gave_row page llsn = record { page = page; llsn = llsn }

abbrev pub given_page : {P : Type 0} → ℕ → P → ℕ → ℕ → GivenPage P
given_page number page known height = record { number = number; page = page; known = known; height = height }

-- the value of the newest row of a page, or another value where the page has no row
abbrev pub newest_of : {Row X : Type 0} → (Row → ℕ) → (Row → X) → X → List Row → ℕ → X
newest_of page value otherwise [] k = otherwise
newest_of page value otherwise (row ∷ rows) k =
    if k == page row then value row else newest_of page value otherwise rows k

-- how the node holds the page's lock
abbrev pub held_at : List LockRow → ℕ → Held
held_at rows k = newest_of (λ (row : LockRow). row.page) (λ (row : LockRow). row.held) No rows k

-- the page that the node took with its frame, while it has the frame
abbrev pub out_at : {P : Type 0} → List (FrameRow P) → ℕ → Option P
out_at {P} rows k = newest_of (λ (row : FrameRow P). row.page) (λ (row : FrameRow P). row.taken) None rows k

-- the LLSN of the page's frame as the node gave it back last, or 0
abbrev pub gave_at : List GaveRow → ℕ → ℕ
gave_at rows k = newest_of (λ (row : GaveRow). row.page) (λ (row : GaveRow). row.llsn) 0 rows k

-- the LLSN up to which the node's log is durable: what it said last, or the base
abbrev pub durable_llsn : ℕ → List ℕ → ℕ
durable_llsn base [] = base
durable_llsn base (v ∷ durables) = v

module _ {P M : Type 0} (ops : PageOps P M) where
  -- the content that the node has of a page
  abbrev pub content_at : List (ContentStep P M) → ℕ → Option P
  content_at [] k = None
  content_at (Given j y ∷ steps) k = if k == j then Some y else content_at steps k
  content_at (Dropped j ∷ steps) k = if k == j then None else content_at steps k
  content_at (Made m ∷ steps) k = option_map (ops.after_mtr m k) (content_at steps k)

  -- the content that it has once it is given a page: where it has one already, it keeps it
  abbrev pub kept_or : List (ContentStep P M) → ℕ → P → P
  kept_or steps k y = unwrap_or (content_at steps k) y

  -- the LLSN of the last mtr that it made, or the base
  abbrev pub last_llsn : ℕ → List (Placed M) → ℕ
  last_llsn base [] = base
  last_llsn base (p ∷ made) = ops.mtr_llsn p.mtr

  -- the LLSN of the last mtr by which it touched the page, or 0
  abbrev pub own_llsn : List (Placed M) → ℕ → ℕ
  own_llsn [] k = 0
  own_llsn (p ∷ made) k = if is_touched k (ops.touches p.mtr) then ops.mtr_llsn p.mtr else own_llsn made k

  -- the greatest LLSN of the pages that were given to it, or 0
  abbrev pub told_llsn : List (GivenPage P) → ℕ
  told_llsn [] = 0
  told_llsn (g ∷ given) = max (ops.llsn_of g.page) (told_llsn given)

  -- all its records on the page are durable and in the page's frame
  abbrev pub Released : ℕ → PagesPart P M → ℕ → Type 0
  Released base p k = (own_llsn p.made k ≤ durable_llsn base p.durables) × (own_llsn p.made k ≤ gave_at p.gave k)

-- a node's part before any step
abbrev pub pages_newcomer : {P M : Type 0} → PagesPart P M
pages_newcomer = record { made = []; durables = []; locks = []; frames = []; gave = []; contents = []; given = [] }

-- The part may have come from the other by steps: nothing that it knew is lost
pub record PagesExtends {P M : Type 0} (old new : PagesPart P M) : Type 0 where
  pub more_made : Grows old.made new.made
  pub more_durables : Grows old.durables new.durables
  pub more_locks : Grows old.locks new.locks
  pub more_frames : Grows old.frames new.frames
  pub more_gave : Grows old.gave new.gave
  pub more_contents : Grows old.contents new.contents
  pub more_given : Grows old.given new.given
