-- What a part shows of a key in a world that stands: the newest version is the key's row at the leaf's height, and a former
-- version is at its link for good.
use Rattle.std.proofs.Common.{◌≡◌, ℕ, [], Some, sym, ap, subst, ◌∙◌}
use Rattle.mp_cells.specs.declared.rows.Row.{Row}
use Rattle.mp_cells.specs.PageView.{PageView}
use Rattle.mp_cells.specs.Trees.{row_at, height_of}
use Rattle.mp_cells.specs.Writes.{record_in, undo_at, version_of}
use Rattle.mp_cells.proofs.Places.{row_in_leaf}
use Rattle.mp_cells.proofs.Spare.{with_none}
use Rattle.mp_plans.specs.Fitting.{IsLeafOf}
use Rattle.mp_core_pages.specs.declared.part.GivenPage.{GivenPage}
use Rattle.mp_histories.specs.Histories.{History, older, pages_after}
use Rattle.mp_histories.specs.Chains.{LinksTo, row_of_key, RunsFrom, HasChains}
use Rattle.mp_histories.proofs.Noting.{older_first}
use Rattle.mp_histories.proofs.Standing.{has_chains, undo_stays, runs_before}
use Rattle.mp_core.specs.declared.opening.CoreOpening.{CoreOpening}
use Rattle.mp_core.specs.Invariant.{NumbersFit}
use Rattle.mp_core.specs.World.{CoreWorld, core_part}
use Rattle.mp_facts.specs.Facts.{opening_pages, pages_at_height, pages_now, Facts}
use Rattle.mp_supports.specs.Seeing.{ShowsNewest, ShowsNext}

module _ (o : CoreOpening) (w : CoreWorld) (fit : NumbersFit o) (facts : Facts o w) where
  pub runs_at : (height : ℕ) → RunsFrom (opening_pages o) (older height w.pages.history)
  runs_at height =
      let split = older_first height w.pages.history in
      runs_before (opening_pages o) split.newer (older height w.pages.history) (subst (RunsFrom (opening_pages o)) split.split_is facts.of_versions.runs)

  pub chains_at : (height : ℕ) → HasChains (opening_pages o) (older height w.pages.history)
  chains_at height = has_chains o.trx.base.llsn (opening_pages o) fit.clean (older height w.pages.history) (runs_at height)

  module _ (n : ℕ) where
    -- the newest version that a leaf shows is the key's row at the leaf's height
    pub newest_row : (g : GivenPage PageView) (key : ℕ) (newest : Row) → ShowsNewest (core_part w n) g key newest → newest ≡ row_of_key (pages_at_height o w g.height) key
    newest_row g key newest s =
        let given = facts.of_notes.given n g s.given in
        let leaf : IsLeafOf key (pages_at_height o w g.height g.number) = subst (IsLeafOf key) given.2 s.its_leaf in
        let tree = (chains_at g.height).tree in
        s.newest_is
        ∙ ap (λ (page : PageView). version_of key (row_at key page.rows)) given.2
        ∙ ap (version_of key) (sym (row_in_leaf [] (pages_at_height o w g.height) (height_of (pages_at_height o w g.height)) g.number key (with_none (pages_at_height o w g.height) (height_of (pages_at_height o w g.height)) tree) given.0 leaf.kind leaf.from leaf.until))

    -- what an undo page that was given has at a link is there for good
    pub next_links : (row next : Row) → ShowsNext (core_part w n) row next → LinksTo (undo_at (pages_now o w)) row next
    next_links row next s =
        let given = facts.of_notes.given n s.page s.given in
        let split = older_first s.page.height w.pages.history in
        let runs = subst (RunsFrom (opening_pages o)) split.split_is facts.of_versions.runs in
        let then : undo_at (pages_at_height o w s.page.height) s.link ≡ Some next =
        ap (λ (k : ℕ). record_in (pages_at_height o w s.page.height k) s.link.index) (sym s.number) ∙ ap (λ (page : PageView). record_in page s.link.index) (sym given.2) ∙ s.next_is in
        let later = undo_stays o.trx.base.llsn (opening_pages o) fit.clean split.newer (older s.page.height w.pages.history) runs s.link next then in
        record { link = s.link; linked = s.linked; there = ap (λ (h : History). undo_at (pages_after (opening_pages o) h) s.link) split.split_is ∙ later }
