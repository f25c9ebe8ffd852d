-- Which lock a part holds next, by a table that notes them.
use Rattle.std.proofs.Common.{◌≡◌, ℕ, ◌<◌, List, slice_index_or, Option, None, Some, sym, ◌∙◌, arith}
use Rattle.std.proofs.lemmas.Option.{get_or_from_slice_get}
use Rattle.mp_core_pages.specs.declared.opening.TheConstants.{PAGES}
use Rattle.mp_core_pages.specs.declared.page_lock.Held.{Held}
use Rattle.mp_core_pages.specs.declared.page_lock.Held.TheVariants.{No}
use Rattle.mp_shared.specs.LockTables.{NotesLocks, IsFirstHeld}

module _ (table : List Held) (held : ℕ → Held) (notes : NotesLocks (Some table) held) where
  noted : (k : ℕ) → k < PAGES → slice_index_or table k No ≡ held k
  noted k less = get_or_from_slice_get table k (held k) No (notes k less)

  -- the first that the table shows is the first that is held
  pub first_noted : (from : ℕ) (r : Option ℕ) → IsFirstHeld (λ k. slice_index_or table k No) from PAGES r → IsFirstHeld held from PAGES r
  first_noted from (Some k) is =
      (is.0, is.1, (λ no. is.2 (noted k is.1 ∙ no)), (λ j above below. let less = is.1 in sym (noted j (omega (arith, below, less))) ∙ is.3 j above below))
  first_noted from None none = λ j above below. sym (noted j below) ∙ none j above below
