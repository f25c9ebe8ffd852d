-- One row more: what the newest row of a page says, by node and page.
use Rattle.std.proofs.Common.{◌≡◌, ℕ, ◌⊎◌, List, refl, sym, ap, ◌∙◌, inl, inr}
use mathlib.Core.Logic.{dite}
use native.Mathlib.Decide.{ℕ_discrete}
use Rattle.mp_machine.specs.Lists.{pushed}
use Rattle.mp_machine.proofs.Lists.{pushed_here, pushed_else}
use Rattle.mp_core_pages.specs.PageParts.{newest_of}
use Rattle.mp_core_pages.proofs.Choices.{if_equal, if_differs}

module _ {Row X : Type 0} (page : Row → ℕ) (value : Row → X) (otherwise : X) (rows : ℕ → List Row) (n : ℕ)
    (row : Row) where
  abbrev At : ℕ → ℕ → X
  At j k = newest_of page value otherwise (pushed rows n row j) k

  -- the page's newest row is the one pushed
  pub newest_here : At n (page row) ≡ value row
  newest_here = ap (λ l. newest_of page value otherwise l (page row)) (pushed_here rows n row) ∙ if_equal (page row)
      (page row) (value row) (newest_of page value otherwise (rows n) (page row)) refl

  -- another node's is as it was, and so is another page's
  pub newest_elsewhere : (j k : ℕ) → ¬ ((j ≡ n) × (k ≡ page row)) → At j k ≡ newest_of page value otherwise (rows j) k
  newest_elsewhere j k other =
      dite (ℕ_discrete j n)
      (λ same.
      ap (λ l. newest_of page value otherwise l k) (ap (pushed rows n row) same ∙ pushed_here rows n row)
      ∙ if_differs k (page row) (value row) (newest_of page value otherwise (rows n) k) (λ e. other (same, e))
      ∙ ap (λ i. newest_of page value otherwise (rows i) k) (sym same))
      (λ differs. ap (λ l. newest_of page value otherwise l k) (pushed_else rows n row j differs))

  -- one or the other
  pub newest_cases : (j k : ℕ) → ((j ≡ n) × (k ≡ page row) × (At j k ≡ value row))
      ⊎ ((¬ ((j ≡ n) × (k ≡ page row))) × (At j k ≡ newest_of page value otherwise (rows j) k))
  newest_cases j k =
      dite (ℕ_discrete j n)
      (λ same.
      dite (ℕ_discrete k (page row))
      (λ own. inl (same, own, (λ i. At (same i) (own i)) ∙ newest_here))
      (λ differs. inr ((λ e. differs e.1), newest_elsewhere j k (λ e. differs e.1))))
      (λ differs. inr ((λ e. differs e.0), newest_elsewhere j k (λ e. differs e.0)))
