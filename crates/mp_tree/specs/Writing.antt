-- The pages that a write takes, what its call does with the pager, and what its answers say.
use Rattle.std.specs.Prelude.{◌≡◌, ℕ, ◌+◌, ◌-◌, ◌^◌, ◌<◌, ◌≤◌, min, Bool, List, [], ◌∷◌, ◌++◌, length, take, Option, Some, None, is_none, Result, OnOk, ◌⊎◌, IfErr, if◌then◌else◌}
use Rattle.std.specs.List.{AllByRecursion}
use Rattle.mp_model.specs.declared.waiting.NotYet.{NotYet}
use Rattle.mp_cells.specs.declared.rows.Link.{Link}
use Rattle.mp_cells.specs.declared.rows.Row.{Row}
use Rattle.mp_cells.specs.PageView.{PageView}
use Rattle.mp_cells.specs.Trees.{PageMap, root, leaf_at, one_if, uses}
use Rattle.mp_page.specs.Pagers.{Handed, Extends}
use Rattle.mp_tree.specs.Searches.{IsOnPath}
use Rattle.mp_cells.specs.Plans.{Plan}
use Rattle.mp_plans.specs.Growth as grows
use Rattle.mp_plans.specs.Growth.{Growth, growth_of, pages_needed, new_pages, write_plan}
use Rattle.mp_cells.specs.Writes.{WellPut}
use Rattle.mp_tree.specs.declared.new_pages.New.{New}
use Rattle.mp_tree.specs.declared.write.Write.{Write}
use Rattle.mp_tree.specs.declared.write.PlanKind.{PlanKind}
use Rattle.mp_tree.specs.declared.write.PlanKind.TheVariants.{InPlace, Split, RootSplit}
use Rattle.mp_tree.specs.declared.write.PlanRefusal.{PlanRefusal}
use Rattle.mp_tree.specs.declared.write.PlanRefusal.TheVariants as refusals
use Rattle.mp_tree.specs.Planning.{clear_from, clear_pages, undo_place}

-- how many pages a write takes
abbrev pub needed_for : Bool → Growth → ℕ
needed_for fresh growth = one_if fresh + pages_needed growth

-- these are the lowest clear pages from one on, where there are so many
abbrev pub IsFront : ℕ → New → List ℕ → Type 0
IsFront from new bits = (k : ℕ) → k ≤ 3 → k ≤ length (clear_from (4096 - from) from bits) → take k (new.first ∷ new.second ∷ new.third ∷ []) ≡ take k (clear_from (4096 - from) from bits)

abbrev pub IsNew : Bool → New → PageView → Type 0
IsNew fresh new meta = (k : ℕ) → k ≤ 3 → one_if fresh + k ≤ length (clear_pages meta) → (if fresh then new.undo ∷ [] else []) ++ take k (new.first ∷ new.second ∷ new.third ∷ []) ≡ take (one_if fresh + k) (clear_pages meta)

-- there are as many clear pages as a write takes, and it takes the lowest
pub record HasNew (pages : PageMap) (fresh : Bool) (growth : Growth) (new : New) : Type 0 where
  pub enough : needed_for fresh growth ≤ length (clear_pages (pages 0))
  pub lowest : new_pages fresh new.undo growth new.first new.second new.third ≡ take (needed_for fresh growth) (clear_pages (pages 0))

-- a refusal says how many pages are needed, and how many are clear: fewer
abbrev pub IsFullFor : PageMap → ℕ → PlanRefusal → Type 0
IsFullFor pages needs (refusals.Full needed clear) = (needed ≡ needs) × (clear ≡ length (clear_pages (pages 0))) × (clear < needed)
IsFullFor pages needs (refusals.NotYet wait) = Unit {0}

abbrev pub IsFullAnswer : PlanRefusal → Type 0
IsFullAnswer (refusals.Full needed clear) = Unit {0}
IsFullAnswer (refusals.NotYet wait) = ⊥

-- what a refusal says of the pager: it is the last thing waited for, or nothing was
abbrev pub Refuses : {P : Type 0} → (P → ℕ) → (P → NotYet) → P → P → PlanRefusal → Type 0
Refuses waits last old new (refusals.Full needed clear) = (waits new ≡ waits old) × (last new ≡ last old)
Refuses waits last old new (refusals.NotYet wait) = (min (waits old + 1) (2 ^ 64 - 1) ≤ waits new) × (last new ≡ wait)

-- a refusal for want of pages says so of page 0, which was handed out; at most 4 pages are ever needed
abbrev pub IsFullBy : Handed → PlanRefusal → Type 0
IsFullBy handed (refusals.Full needed clear) = (meta : PageView) × (handed 0 ≡ Some meta) × (needed ≤ 4) × (clear ≡ length (clear_pages meta)) × (clear < needed)
IsFullBy handed (refusals.NotYet wait) = Unit {0}

-- a refusal of the pager is for a page that it withholds
abbrev pub IsWithheld : (ℕ → Type 0) → List ℕ → PlanRefusal → Type 0
IsWithheld withholds asked (refusals.Full needed clear) = Unit {0}
IsWithheld withholds asked (refusals.NotYet wait) = (n : ℕ) × (1 ≤ uses n asked) × withholds n

-- what the call does with its pager
pub record AsksPlan {P : Type 0} {A : Type 0} (handed : P → Handed) (waits : P → ℕ) (last : P → NotYet) (follows : P → P → Type 0) (withholds : P → ℕ → Type 0) (MayAsk : PageMap → ℕ → Type 0) (most : ℕ) (old new : P) (result : Result A PlanRefusal) : Type 0 where
  pub same : follows old new
  pub kept : (n : ℕ) (page : PageView) → handed old n ≡ Some page → handed new n ≡ Some page
  pub quiet : OnOk result ((waits new ≡ waits old) × (last new ≡ last old))
  pub refused : IfErr result (Refuses waits last old new)
  -- it asks for so many pages at most, each one that it may ask for, and no other is handed out
  pub asked : List ℕ
  pub few : length asked ≤ most
  pub may : (pages : PageMap) → Extends pages (handed new) → AllByRecursion (MayAsk pages) asked
  pub others : (n : ℕ) → uses n asked ≡ 0 → handed new n ≡ handed old n
  pub withheld : IfErr result (IsWithheld (withholds new) asked)

-- a page that a write of a key reads to see how the tree grows and where the undo record goes
abbrev pub IsRead : ℕ → Option ℕ → PageMap → ℕ → Type 0
IsRead key undo_page pages n = IsOnPath key pages n ⊎ (undo_page ≡ Some n)

-- a page that a write of a key asks for: one of these, or page 0
abbrev pub IsReadOrMeta : ℕ → Option ℕ → PageMap → ℕ → Type 0
IsReadOrMeta key undo_page pages n = IsRead key undo_page pages n ⊎ (n ≡ 0)

-- ---- the plan

-- how the tree is split
abbrev pub kind_of : Growth → PlanKind
kind_of grows.stays = InPlace
kind_of grows.new_root = RootSplit
kind_of (grows.leaf parent) = Split
kind_of (grows.inner parent) = Split
kind_of grows.higher = RootSplit

-- the place of the undo record: in the current undo page, or the first of a fresh one
abbrev pub link_of : Option Link → ℕ → Link
link_of None u = record { page = u; index = 0 }
link_of (Some link) u = link

-- the row that a write puts
abbrev pub row_of : Write → Link → Row
row_of write link = record { key = write.key; value = write.value; writer = Some write.writer; link = Some link }

-- the plan of a write over a tree: it takes the lowest clear pages, and is that of the tree's growth
pub record IsWrite (given : PageMap) (height : ℕ) (write : Write) (undo_page : Option ℕ) (kind : PlanKind) (plan : Plan) : Type 0 where
  pub kind_is : kind ≡ kind_of (growth_of given height write.key)
  pub new : New
  pub pages : HasNew given (is_none (undo_place given undo_page)) (growth_of given height write.key) new
  pub link : Link
  pub link_is : link ≡ link_of (undo_place given undo_page) new.undo
  pub exact : plan ≡ write_plan (growth_of given height write.key) (leaf_at given height write.key root).page (is_none (undo_place given undo_page)) link.page given new.first new.second new.third (row_of write link)
  pub well : WellPut given (row_of write link) plan
