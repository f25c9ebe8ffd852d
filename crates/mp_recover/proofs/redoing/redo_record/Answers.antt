-- The record's page alone.
use Rattle.std.proofs.Common.{◌≡◌, ℕ, slice_get, slice_set, Some, sym, subst, arith}
use Rattle.mp_cells.specs.declared.records.Record.{Record}
use Rattle.mp_cells.specs.declared.records.Record.TheVariants as records
use Rattle.mp_cells.specs.PageMaps.{page_at}
use Rattle.mp_recover.specs.Redoing.{refusal_of, record_redone, RecordFits}
use Rattle.mp_recover.proofs.Redone.{record_on}
use Rattle.mp_recover.proofs.redoing.redo_record.Goals as goal

pub returns-in-Page-clause-redone : goal.returns-in-Page-clause-redone
returns-in-Page-clause-redone c =
    let pages = c.args.pages.now.items in
    let page = c.in-Page.page in
    let old = c.page_mut.result.now in
    let new = c.redo_page.new.page in
    let fits = subst RecordFits c.in-Page.is c.requires.fits in
    let there : slice_get pages page ≡ Some old = subst (λ (k : ℕ). slice_get pages k ≡ Some old) c.from.ensures c.page_mut.ensures.page in
    subst (λ (item : Record). (page_at (slice_set pages c.from.result new), refusal_of c.redo_page.result) ≡ record_redone c.args.llsn item (page_at pages)) (sym c.in-Page.is)
    (subst (λ (k : ℕ). (page_at (slice_set pages k new), refusal_of c.redo_page.result) ≡ record_redone c.args.llsn (records.Page page c.in-Page.prev c.in-Page.change) (page_at pages)) (sym c.from.ensures)
    (record_on pages page c.args.llsn c.in-Page.prev c.in-Page.change old new (refusal_of c.redo_page.result) (omega (arith, fits.0, c.requires.pages)) there c.redo_page.ensures))
