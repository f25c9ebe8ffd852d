-- Pages and mtrs have what the page core asks of them, and the pages of an opening fit.
use Rattle.std.proofs.Common.{◌≡◌, ℕ, zero, suc, ◌<◌, ◌==◌, ◌||◌, Bool, true, false, if◌then◌else◌, List, [], ◌∷◌, length, Some, slice_get, refl, sym, ap, ◌∙◌, arith}
use Rattle.mp_cells.specs.declared.records.Record.{Record}
use Rattle.mp_cells.specs.declared.records.Record.TheVariants as records
use Rattle.mp_cells.specs.declared.records.Mtr.{Mtr}
use Rattle.mp_cells.specs.PageView.{PageView, blank_page}
use Rattle.mp_cells.specs.Plans.{page_or, plan_of, touches}
use Rattle.mp_cells.specs.PageMaps.{page_at}
use Rattle.mp_cells.proofs.MtrPages.{mtr_touched, mtr_untouched}
use Rattle.mp_core_pages.specs.Histories.{is_touched, PageLaws}
use Rattle.mp_core_pages.specs.PageWorld.{PagesFit}
use Rattle.mp_core.specs.declared.opening.CoreOpening.{CoreOpening}
use Rattle.mp_core.specs.Contents.{touched_by, page_ops, pages_opening}
use Rattle.mp_core.specs.Invariant.{NumbersFit}

by_test : (t b c : Bool) → b ≡ c → (if t then true else b) ≡ (t || c)
by_test true b c e = refl
by_test false b c e = e

-- the pages that an mtr touches are those of its plan
pub touched_same : (k : ℕ) (items : List Record) → is_touched k (touched_by items) ≡ touches k (plan_of items)
touched_same k [] = refl
touched_same k (records.Page page prev change ∷ items) = by_test (k == page) (is_touched k (touched_by items)) (touches k (plan_of items)) (touched_same k items)
touched_same k (records.Commit id cts ∷ items) = touched_same k items

pub page_laws : PageLaws page_ops
page_laws = record {
  touched = λ m k y touch. mtr_touched m (λ _. y) k (sym (touched_same k m.records) ∙ touch);
  untouched = λ m k y apart. mtr_untouched m (λ _. y) k (sym (touched_same k m.records) ∙ apart);
}

there_within : (pages : List PageView) (k : ℕ) (y : PageView) → slice_get pages k ≡ Some y → k < length pages
there_within [] k y is = absurd (cc)
there_within (x ∷ pages) zero y is = omega arith
there_within (x ∷ pages) (suc k) y is = let rest = there_within pages k y is in omega arith

pub pages_fit : (o : CoreOpening) → NumbersFit o → PagesFit {M = Mtr} page_ops (pages_opening o)
pages_fit o fair = record {
  some_primaries = fair.trx.some_primaries;
  all_pages = fair.count;
  within_base =
      λ k y is.
      let within = there_within o.pages k y is in
      let below = fair.clean.llsns k (omega (arith, within, fair.count)) in
      let same : page_at o.pages k ≡ y = ap (λ x. page_or (blank_page 0) x) is in
      omega (arith, below, ap (λ (x : PageView). x.llsn) same);
  llsns_fit = fair.llsns_fit;
}
