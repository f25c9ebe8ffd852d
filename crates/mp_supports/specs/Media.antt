-- What a primary's log holds of its part.
use Rattle.std.specs.Prelude.{◌≡◌, ◌≢◌, ℕ, ◌<◌, nat_lt, Bool, true, false, List, [], ◌++◌, length, map, filter, reverse}
use Rattle.std.specs.List.{AllByRecursion}
use Rattle.mp_cells.specs.declared.records.Mtr.{Mtr}
use Rattle.mp_core.specs.declared.part.CorePart.{CorePart}
use Rattle.mp_core.specs.CoreExtends.{durable_of}
use Rattle.mp_log.specs.Logs.{mtrs_of, IsText, IsLog}
use Rattle.mp_log.specs.Tails.{TailView, LogStands}
use Rattle.mp_supports.specs.Work.{Work}
use Rattle.mp_supports.specs.Agreement.{last_made_llsn}

-- the part's mtrs, in the order in which they were made
abbrev pub mtrs_in_order : CorePart → List Mtr
mtrs_in_order p = map (λ x. x.mtr) (reverse p.pages.made)

-- of a log's mtrs, those above the base LLSN
abbrev pub above_base : Work → List (List Mtr) → List Mtr
above_base work batches = filter (λ mtr. nat_lt work.base.llsn mtr.llsn) (mtrs_of batches)

-- An image of the log of the primary with this number: it is of the grammar of that primary's log, and above the base its mtrs
-- are the part's first ones, up to the durable LLSN at least
pub record IsOnImage (work : Work) (number : ℕ) (p : CorePart) (image : List ℕ) : Type 0 where
  pub batches : List (List Mtr)
  pub text : IsText batches image
  pub log : IsLog number batches
  pub later : List Mtr
  pub front : mtrs_in_order p ≡ above_base work batches ++ later
  pub covers : AllByRecursion (λ mtr. durable_of p < mtr.llsn) later

-- WHAT THE MEDIA HOLD, where the log's disk tells its bytes, gives these to a read, and may be left with these images; nothing
-- is unforced where this says so
pub record OnDisk (work : Work) (p : CorePart) (down : ℕ) (tail : TailView) (unforced tells : Bool) (seen : List ℕ) (image : List ℕ → Type 0) : Type 0 where
  pub images : tells ≡ true → (c : List ℕ) → image c → IsOnImage work tail.node p c
  -- while the log takes mtrs, its forced and its appended ones are all, and the appended ones aren't durable
  pub live : tail.live ≡ true → tells ≡ true → (batches : List (List Mtr)) × (pending : List Mtr) × LogStands batches pending tail seen image × (mtrs_in_order p ≡ above_base work batches ++ pending)
      × AllByRecursion (λ mtr. durable_of p < mtr.llsn) pending
  pub last : 0 < length p.pages.made → tail.last ≡ last_made_llsn p
  pub forced : unforced ≡ false → (last_made_llsn p ≡ durable_of p) × (tail.bytes ≡ [])
  pub closed : tail.live ≡ false → down ≢ 0
