-- The history of a world rises page by page, and each record's `prev` is its page's LLSN.
use Rattle.std.proofs.Common.{◌≡◌, ℕ, ◌<◌, ◌==◌, Bool, true, false, if◌then◌else◌, List, [], ◌∷◌, refl, sym, ap, subst, ◌∙◌}
use Rattle.mp_machine.specs.Lists.{updated}
use Rattle.mp_cells.specs.declared.records.Record.{Record}
use Rattle.mp_cells.specs.declared.records.Record.TheVariants as records
use Rattle.mp_cells.specs.PageView.{PageView}
use Rattle.mp_cells.specs.Trees.{PageMap}
use Rattle.mp_cells.specs.Plans.{changed_page, with_page}
use Rattle.mp_cells.specs.PageMaps.{HavePrevs}
use Rattle.mp_histories.specs.Histories.{History, pages_after}
use Rattle.mp_histories.specs.Cuts.{Rise, PrevsHold}
use Rattle.mp_histories.proofs.PageLlsns.{rises_more}
use Rattle.mp_core_pages.specs.Histories.{is_touched, PrevsFit, llsn_at, folded, HistoryInOrder}
use Rattle.mp_core_pages.proofs.Choices.{if_equal}
use Rattle.mp_core.specs.declared.opening.CoreOpening.{CoreOpening}
use Rattle.mp_core.specs.Contents.{touched_by, page_ops, pages_opening}
use Rattle.mp_core.proofs.Pages.{touched_same}
use Rattle.mp_facts.specs.Facts.{opening_pages}
use Rattle.mp_facts.proofs.Bridges.{folded_is}

touched_too : (test rest : Bool) → rest ≡ true → (if test then true else rest) ≡ true
touched_too true rest e = refl
touched_too false rest e = e

-- the LLSNs of pages by a function, and in a map
module _ (llsn : ℕ) where
  stamped_or_not : (before : ℕ → ℕ) (pages : PageMap) (new : PageView) (k : ℕ) (test : Bool) → before k ≡ (pages k).llsn → (if test then llsn else before k) ≡ (if test then record new { llsn = llsn } else pages k).llsn
  stamped_or_not before pages new k true e = refl
  stamped_or_not before pages new k false e = e

  prevs_are : (items : List Record) (before : ℕ → ℕ) (pages : PageMap) → ((k : ℕ) → is_touched k (touched_by items) ≡ true → before k ≡ (pages k).llsn)
      → PrevsFit llsn before (touched_by items) → HavePrevs llsn items pages
  prevs_are [] before pages same fit = tt
  prevs_are (records.Commit id cts ∷ items) before pages same fit = (tt, prevs_are items before pages same fit)
  prevs_are (records.Page page prev change ∷ items) before pages same fit =
      let new : PageView = record (changed_page change (pages page)) { llsn = llsn } in (
        fit.0 ∙ same page (if_equal page page true (is_touched page (touched_by items)) refl),
        prevs_are items (updated before page llsn) (with_page pages page new)
            (λ k on. stamped_or_not before pages new k (k == page) (same k (touched_too (k == page) (is_touched k (touched_by items)) on)))
            fit.1,
      )

module _ (o : CoreOpening) where
  pub rises : (history : History) → HistoryInOrder page_ops (pages_opening o) history → Rise history
  rises [] order = tt
  rises (m ∷ history) order = rises_more (opening_pages o) history m (rises history order.1)
      (λ n on.
      let was = order.0.llsns_rise n (touched_same n m.records ∙ on) in
      subst (λ (p : PageView). p.llsn < m.llsn) (sym (folded_is o history n was.0 was.1)) was.2)

  pub prevs_hold : (history : History) → HistoryInOrder page_ops (pages_opening o) history → PrevsHold (opening_pages o) history
  prevs_hold [] order = tt
  prevs_hold (m ∷ history) order = (
    prevs_are m.llsn m.records (λ k. llsn_at page_ops (folded page_ops (pages_opening o) history k)) (pages_after (opening_pages o) history)
        (λ k on.
        let was = order.0.llsns_rise k on in
        ap (llsn_at page_ops) was.1 ∙ ap (λ (p : PageView). p.llsn) (sym (folded_is o history k was.0 was.1)))
        order.0.prevs,
    prevs_hold history order.1,
  )
