-- The pages as the page core has them are those after the history; and an mtr finds them in its node's contents.
use Rattle.std.proofs.Common.{◌≡◌, ℕ, zero, suc, ◌<◌, List, [], ◌∷◌, length, slice_get, Option, Some, None, refl, sym, ap, subst, ◌∙◌, arith}
use Rattle.std.specs.Option.{option_map}
use Rattle.mp_cells.specs.declared.records.Mtr.{Mtr}
use Rattle.mp_cells.specs.PageView.{PageView, blank_page}
use Rattle.mp_cells.specs.Plans.{page_or, plan_of, AgreesOn}
use Rattle.mp_cells.specs.PageMaps.{after_mtr}
use Rattle.mp_cells.proofs.Links.{agrees_where}
use Rattle.mp_core_pages.specs.Histories.{placed, folded, oldest}
use Rattle.mp_core_pages.specs.PageParts.{content_at}
use Rattle.mp_core_pages.specs.PageEvents.{MayMake}
use Rattle.mp_core_pages.specs.PageWorld.{pages_part}
use Rattle.mp_histories.specs.Histories.{History, older, pages_after}
use Rattle.mp_histories.proofs.Noting.{older_dropped}
use Rattle.mp_core.specs.declared.opening.CoreOpening.{CoreOpening}
use Rattle.mp_core.specs.Contents.{page_ops, pages_opening, contents_of}
use Rattle.mp_core.specs.OwnMtrs.{TrxMtr, trx_mtrs}
use Rattle.mp_core.specs.World.{CoreWorld, core_part}
use Rattle.mp_machine.specs.Lists.{IsIn}
use Rattle.mp_core_pages.specs.declared.part.Placed.{Placed}
use Rattle.mp_facts.proofs.MadeLists.{as_placed}
use Rattle.mp_facts.proofs.Entries.{StandsAt, stands_at}
use Rattle.mp_core.specs.Invariant.{CoreInv}
use Rattle.mp_core.proofs.Pages.{touched_same}
use Rattle.mp_facts.specs.Facts.{opening_pages, pages_now}

module _ (o : CoreOpening) where
  there_by : (m : Mtr) (k : ℕ) (before : Option PageView) (page : PageView) → option_map (page_ops.after_mtr m k) before ≡ Some page → (y : PageView) × (before ≡ Some y) × (after_mtr m (λ _. y) k ≡ page)
  there_by m k None page is = absurd cc
  there_by m k (Some y) page is = (y, refl, some_is)
    where
      some_is : after_mtr m (λ _. y) k ≡ page
      some_is = cc

  -- a page after a history
  pub folded_is : (history : History) (k : ℕ) (page : PageView) → folded page_ops (pages_opening o) history k ≡ Some page → pages_after (opening_pages o) history k ≡ page
  folded_is [] k page is = ap (λ (x : Option PageView). page_or (blank_page 0) x) is
  folded_is (m ∷ history) k page is =
      let before = there_by m k (folded page_ops (pages_opening o) history k) page is in
      ap (λ (y : PageView). after_mtr m (λ _. y) k) (folded_is history k before.0 before.1) ∙ before.2

  within_list : (pages : List PageView) (k : ℕ) (page : PageView) → slice_get pages k ≡ Some page → k < length pages
  within_list [] k page is = absurd cc
  within_list (x ∷ pages) zero page is = omega arith
  within_list (x ∷ pages) (suc k) page is = let rest = within_list pages k page is in omega (arith, rest)

  pub folded_within : (history : History) (k : ℕ) (page : PageView) → folded page_ops (pages_opening o) history k ≡ Some page → k < length o.pages
  folded_within [] k page is = within_list o.pages k page is
  folded_within (m ∷ history) k page is = let before = there_by m k (folded page_ops (pages_opening o) history k) page is in folded_within history k before.0 before.1

  pub older_oldest : (height : ℕ) (history : History) → older height history ≡ oldest height history
  older_oldest height history = older_dropped height history

module _ (o : CoreOpening) (w : CoreWorld) (i : CoreInv o w) where
  -- the content that a node has of a page is the page's
  pub content_is : (n k : ℕ) (page : PageView) → content_at page_ops (w.pages.contents n) k ≡ Some page → page ≡ pages_now o w k
  content_is n k page has = sym (folded_is o w.pages.history k page (i.pages.page_frames.contents_whole n k page has).1)

  -- an mtr that may be made finds in its node's contents the pages that it changes
  pub agrees_now : (n base : ℕ) (m : Mtr) → MayMake page_ops base (pages_part w.pages n) n m → AgreesOn (plan_of m.records) (contents_of (core_part w n)) (pages_now o w)
  agrees_now n base m may = agrees_where (plan_of m.records) (contents_of (core_part w n)) (pages_now o w) (λ k touch.
      let page = (may.touched k (touched_same k m.records ∙ touch)).2 in
      sym (content_is n k page.0 page.1) ∙ sym (ap (λ (x : Option PageView). page_or (blank_page 0) x) page.1))

-- what a node made stands in the history
module _ (o : CoreOpening) (w : CoreWorld) (i : CoreInv o w) (n : ℕ) (t : TrxMtr) (has : IsIn t (trx_mtrs (w.pages.made n))) where
  pub stands_in : StandsAt n w.pages.history (placed t.at t.mtr)
  stands_in = stands_at n w.pages.history (placed t.at t.mtr) (subst (λ (l : List (Placed Mtr)). IsIn (placed t.at t.mtr) l) (i.pages.mtr_history.own n) (as_placed (w.pages.made n) t has))
