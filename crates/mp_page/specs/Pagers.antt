-- What a pager has handed out, and what a call for a page does.
use Rattle.std.specs.Prelude.{◌≡◌, ◌≢◌, ℕ, ◌+◌, ◌-◌, ◌^◌, ◌≤◌, min, Option, Some, Result, OnOk, IfOk, IfErr}
use Rattle.std.specs.Borrow.{Bor}
use Rattle.mp_model.specs.declared.waiting.NotYet.{NotYet}
use Rattle.mp_cells.specs.PageView.{PageView}

-- the page of each number that has been handed out
abbrev pub Handed : Type 0
Handed = ℕ → Option PageView

-- a map of all pages that agrees with the pages handed out
abbrev pub Extends : (ℕ → PageView) → Handed → Type 0
Extends pages handed = (n : ℕ) (page : PageView) → handed n ≡ Some page → pages n ≡ page

-- a call for a page hands out that page, or answers what it waits for
pub record Hands {P : Type 0} (handed : P → Handed) (waits : P → ℕ) (last : P → NotYet) (follows : P → P → Type 0) (withholds : P → ℕ → Type 0) (old new : P) (number : ℕ) (result : Result (Bor PageView) NotYet) : Type 0 where
  pub same : follows old new
  -- no page is changed or taken back, and no other is added
  pub kept : (n : ℕ) (page : PageView) → handed old n ≡ Some page → handed new n ≡ Some page
  pub others : (n : ℕ) → n ≢ number → handed new n ≡ handed old n
  -- after Ok the page is handed out, and nothing was waited for
  pub page : IfOk result (λ page. handed new number ≡ Some page.now)
  pub quiet : OnOk result ((waits new ≡ waits old) × (last new ≡ last old))
  -- otherwise nothing is handed out, and the count of waits rises, up to its type's end
  pub waited : IfErr result (λ wait. (handed new number ≡ handed old number) × (min (waits old + 1) (2 ^ 64 - 1) ≤ waits new) × (last new ≡ wait))
  pub withheld : IfErr result (λ wait. withholds new number)
