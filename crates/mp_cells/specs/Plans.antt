-- Plans: changes of pages in order, when they can be applied, and what they leave.
use Rattle.std.specs.Prelude.{◌≡◌, ℕ, ◌==◌, ◌||◌, Bool, false, List, [], ◌∷◌, Option, Some, None, IsSome, if◌then◌else◌}
use Rattle.mp_cells.specs.declared.changes.Change.{Change}
use Rattle.mp_cells.specs.declared.records.Record.{Record}
use Rattle.mp_cells.specs.declared.records.Record.TheVariants as records
use Rattle.mp_cells.specs.PageView.{PageView}
use Rattle.mp_cells.specs.Changes.{applied}
use Rattle.mp_cells.specs.Trees.{PageMap}

-- changes of pages, in the order in which they are applied
abbrev pub Plan : Type 0
Plan = List (ℕ × Change)

-- a change can be applied to a page
abbrev pub CanApply : Change → PageView → Type 0
CanApply change page = IsSome (applied change page)

-- the page after a change; a page that can't be changed stays
abbrev pub page_or : PageView → Option PageView → PageView
page_or page None = page
page_or page (Some new) = new

abbrev pub changed_page : Change → PageView → PageView
changed_page change page = page_or page (applied change page)

-- the pages with another one at a number
abbrev pub with_page : PageMap → ℕ → PageView → PageMap
with_page pages number page n = if n == number then page else pages n

-- the pages after a change of one
abbrev pub after_change : (ℕ × Change) → PageMap → PageMap
after_change step pages = with_page pages step.0 (changed_page step.1 (pages step.0))

-- the pages after a plan
abbrev pub after_plan : Plan → PageMap → PageMap
after_plan [] pages = pages
after_plan (step ∷ plan) pages = after_plan plan (after_change step pages)

-- each change of a plan can be applied when it comes
abbrev pub Meets : Plan → PageMap → Type 0
Meets [] pages = Unit {0}
Meets (step ∷ plan) pages = CanApply step.1 (pages step.0) × Meets plan (after_change step pages)

-- the changes of one page, in order
abbrev pub of_page : ℕ → Plan → List Change
of_page n [] = []
of_page n (step ∷ plan) = if n == step.0 then step.1 ∷ of_page n plan else of_page n plan

-- a page after changes of its own
abbrev pub after_changes : List Change → PageView → PageView
after_changes [] page = page
after_changes (change ∷ changes) page = after_changes changes (changed_page change page)

-- each of a page's own changes can be applied when it comes
abbrev pub MeetsAll : List Change → PageView → Type 0
MeetsAll [] page = Unit {0}
MeetsAll (change ∷ changes) page = CanApply change page × MeetsAll changes (changed_page change page)

-- a map of pages has, of each page that a plan changes, what another map has
abbrev pub AgreesOn : Plan → PageMap → PageMap → Type 0
AgreesOn [] given pages = Unit {0}
AgreesOn (step ∷ plan) given pages = (pages step.0 ≡ given step.0) × AgreesOn plan given pages

-- the changes of some records
abbrev pub plan_of : List Record → Plan
plan_of [] = []
plan_of (records.Page page prev change ∷ items) = (page, change) ∷ plan_of items
plan_of (records.Commit id cts ∷ items) = plan_of items

-- a plan changes this page
abbrev pub touches : ℕ → Plan → Bool
touches n [] = false
touches n (step ∷ plan) = n == step.0 || touches n plan
