-- Whether a run may begin from what was read.
use Rattle.std.specs.Prelude.{◌≡◌, ℕ, ◌+◌, ◌<◌, List, [], slice_get, Option, Some, None, Result, Ok, Err}
use Rattle.mp_cells.specs.PageMaps.{page_at}
use Rattle.mp_cells.specs.Trees.{IsClean}
use Rattle.mp_log.specs.Opening.{first_above}
use Rattle.mp_log.specs.Tails.{LogView}
use Rattle.mp_opening.specs.declared.contents.StoreContent.{StoreContent}
use Rattle.mp_opening.specs.declared.refusals.ClusterRefusal.{ClusterRefusal}
use Rattle.mp_opening.specs.declared.refusals.ClusterRefusal.TheVariants as cluster

-- the LLSNs that were read when a log was opened
abbrev pub llsns_in_log : {D : Type 0} → Option (LogView D) → List ℕ
llsns_in_log None = []
llsns_in_log (Some log) = log.llsns

-- the least LLSN above a base in the log at each place
abbrev pub above_at : {D : Type 0} → ℕ → List (LogView D) → ℕ → Option ℕ
above_at base logs place = first_above base (llsns_in_log (slice_get logs place))

-- none of the logs below a place has one
abbrev pub NoneAboveBelow : (ℕ → Option ℕ) → ℕ → Type 0
NoneAboveBelow above bound = (place : ℕ) → place < bound → above place ≡ None

-- the log of this primary is the first of eight that has one, which is this
pub record IsFirstToHave (above : ℕ → Option ℕ) (primary llsn : ℕ) : Type 0 where
  pub place : ℕ
  pub primary_is : primary ≡ place + 1
  pub within : place < 8
  pub least : above place ≡ Some llsn
  pub before : NoneAboveBelow above place

abbrev pub LogsMayBegin : (ℕ → Option ℕ) → Result (Unit {0}) ClusterRefusal → Type 0
LogsMayBegin above (Ok x) = NoneAboveBelow above 8
LogsMayBegin above (Err (cluster.NeedsRecover primary llsn)) = IsFirstToHave above primary llsn
LogsMayBegin above (Err _) = ⊥

-- pages are clean, or they aren't
abbrev pub PagesMayBegin : Type 0 → Result (Unit {0}) ClusterRefusal → Type 0
PagesMayBegin clean (Ok x) = clean
PagesMayBegin clean (Err cluster.NotClean) = ¬ clean
PagesMayBegin clean (Err _) = ⊥

-- no number is spent, or this is the first
abbrev pub NumbersMayBegin : Option ClusterRefusal → Result (Unit {0}) ClusterRefusal → Type 0
NumbersMayBegin spent (Ok x) = spent ≡ None
NumbersMayBegin spent (Err (cluster.Spent what base add)) = spent ≡ Some (cluster.Spent what base add)
NumbersMayBegin spent (Err _) = ⊥

-- all three, in this order
abbrev pub AllMayBegin : (ℕ → Option ℕ) → Type 0 → Option ClusterRefusal → Result (Unit {0}) ClusterRefusal → Type 0
AllMayBegin above clean spent (Ok x) = NoneAboveBelow above 8 × clean × (spent ≡ None)
AllMayBegin above clean spent (Err (cluster.NeedsRecover primary llsn)) = IsFirstToHave above primary llsn
AllMayBegin above clean spent (Err cluster.NotClean) = NoneAboveBelow above 8 × ¬ clean
AllMayBegin above clean spent (Err (cluster.Spent what base add)) =
    NoneAboveBelow above 8 × clean × (spent ≡ Some (cluster.Spent what base add))
AllMayBegin above clean spent (Err _) = ⊥

-- whether content is clean by its own header
abbrev pub IsCleanContent : StoreContent → Type 0
IsCleanContent content = IsClean content.header.llsn (page_at content.pages.items)
