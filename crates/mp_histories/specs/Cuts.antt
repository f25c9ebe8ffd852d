-- Cuts: histories of some of the mtrs of another, page by page its first ones.
use Rattle.std.specs.Prelude.{◌≡◌, ℕ, ◌+◌, ◌*◌, ◌<◌, Bool, true, [], ◌∷◌, ◌++◌, reverse}
use Rattle.std.specs.List.{AllByRecursion}
use Rattle.mp_cells.specs.declared.records.Mtr.{Mtr}
use Rattle.mp_cells.specs.Plans.{plan_of, touches}
use Rattle.mp_cells.specs.Trees.{PageMap}
use Rattle.mp_cells.specs.PageMaps.{HavePrevs}
use Rattle.mp_cells.specs.Orders.{sorted_by}
use Rattle.mp_histories.specs.Histories.{History, pages_after, touching}

-- where an mtr of a cut stands in the whole history: its pages were changed by the same mtrs before it
pub record IsOrigin (made : History) (mtr : Mtr) (cut : History) : Type 0 where
  pub later : History
  pub earlier : History
  pub split_is : made ≡ later ++ mtr ∷ earlier
  pub same : (n : ℕ) → touches n (plan_of mtr.records) ≡ true → touching n cut ≡ touching n earlier

-- each mtr of a cut is one of the history, and finds its pages as it found them there
abbrev pub IsCut : History → History → Type 0
IsCut made [] = Unit {0}
IsCut made (mtr ∷ cut) = IsOrigin made mtr cut × IsCut made cut

-- an mtr that changes a page has an LLSN above those that changed it before
abbrev pub Rise : History → Type 0
Rise [] = Unit {0}
Rise (mtr ∷ made) = ((n : ℕ) → touches n (plan_of mtr.records) ≡ true → AllByRecursion (λ earlier. earlier.llsn < mtr.llsn) (touching n made)) × Rise made

-- each record's `prev` is the LLSN that its page has when the record comes
abbrev pub PrevsHold : PageMap → History → Type 0
PrevsHold opening [] = Unit {0}
PrevsHold opening (mtr ∷ made) = HavePrevs mtr.llsn mtr.records (pages_after opening made) × PrevsHold opening made

-- where an mtr is kept, those that changed its pages before are kept
abbrev pub IsClosed : (Mtr → Bool) → History → Type 0
IsClosed keep [] = Unit {0}
IsClosed keep (mtr ∷ made) =
    (keep mtr ≡ true → (n : ℕ) → touches n (plan_of mtr.records) ≡ true → AllByRecursion (λ earlier. keep earlier ≡ true) (touching n made)) × IsClosed keep made

-- the order of logs: by LLSN, and among equal ones by node
abbrev pub log_place : Mtr → ℕ
log_place mtr = 16 * mtr.llsn + mtr.node

-- a history in the order of logs, the last first
abbrev pub in_log_order : History → History
in_log_order made = reverse (sorted_by log_place (reverse made))
