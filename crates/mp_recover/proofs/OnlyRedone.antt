-- Redoing refuses for a gap or for a change that can't be applied.
use Rattle.std.proofs.Common.{◌≡◌, ℕ, ◌==◌, Bool, true, false, cond, List, [], ◌∷◌, Option, Some, None, sym, subst}
use Rattle.mp_cells.specs.declared.changes.Change.{Change}
use Rattle.mp_cells.specs.declared.records.Record.{Record}
use Rattle.mp_cells.specs.declared.records.Record.TheVariants as records
use Rattle.mp_cells.specs.PageView.{PageView}
use Rattle.mp_cells.specs.Changes.{applied}
use Rattle.mp_cells.specs.Trees.{PageMap}
use Rattle.mp_recover.specs.declared.refusals.RecoverRefusal.{RecoverRefusal}
use Rattle.mp_recover.specs.declared.refusals.RecoverRefusal.TheVariants.{Gap}
use Rattle.mp_recover.specs.Redoing.{OnlyRedo, changed_or_refused, page_redone, record_redone, unless_refused, records_redone}

page_only : (number llsn prev : ℕ) (change : Change) (page : PageView) → OnlyRedo (page_redone number llsn prev change page).1
page_only number llsn prev change page = by_test (page.llsn == prev) (applied change page)
  where
    by_test : (test : Bool) (found : Option PageView) → OnlyRedo (cond test (changed_or_refused number llsn page found) (page, Some (Gap number prev page.llsn))).1
    by_test true None = tt
    by_test true (Some new) = tt
    by_test false found = tt

unless_only : (next : PageMap → PageMap × Option RecoverRefusal) → ((f : PageMap) → OnlyRedo (next f).1) → (a : PageMap × Option RecoverRefusal) → OnlyRedo a.1 → OnlyRedo (unless_refused next a).1
unless_only next only (f, None) h = only f
unless_only next only (f, Some refusal) h = h

records_only : (llsn : ℕ) (items : List Record) (pages : PageMap) → OnlyRedo (records_redone llsn items pages).1
records_only llsn [] pages = tt
records_only llsn (records.Page number prev change ∷ items) pages =
    unless_only (λ new. records_redone llsn items new) (records_only llsn items) (record_redone llsn (records.Page number prev change) pages) (page_only number llsn prev change (pages number))
records_only llsn (records.Commit id cts ∷ items) pages = records_only llsn items pages

pub redone_only : (llsn : ℕ) (items : List Record) (pages new : PageMap) (refusal : Option RecoverRefusal) → (new, refusal) ≡ records_redone llsn items pages → OnlyRedo refusal
redone_only llsn items pages new refusal e = subst (λ (a : PageMap × Option RecoverRefusal). OnlyRedo a.1) (sym e) (records_only llsn items pages)
