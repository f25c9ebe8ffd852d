-- A record redone in a list of pages is redone in their map.
use Rattle.std.proofs.Common.{◌≡◌, ◌≢◌, ℕ, ◌<◌, ◌==◌, Bool, true, false, cond, List, [], ◌∷◌, length, get_or, slice_get, slice_set, Option, Some, sym, ap, ◌∙◌, inl, inr, arith}
use Rattle.std.specs.List.{AllByRecursion}
use Rattle.std.proofs.lemmas.Bool.Decides.{nat_tests}
use Rattle.std.proofs.lemmas.List.{get_or-set_same, get_or-set_other, get_or_past}
use Rattle.std.proofs.lemmas.Option.{slice_get_cases, get_or_from_slice_get}
use Rattle.mp_cells.specs.declared.changes.Change.{Change}
use Rattle.mp_cells.specs.declared.records.Record.{Record}
use Rattle.mp_cells.specs.declared.records.Record.TheVariants as records
use Rattle.mp_cells.specs.PageView.{PageView, blank_page}
use Rattle.mp_cells.specs.Mtrs.{IsPageRecord, AreRecords}
use Rattle.mp_cells.specs.Trees.{PageMap}
use Rattle.mp_cells.specs.Plans.{page_or, with_page}
use Rattle.mp_cells.specs.PageMaps.{page_at}
use Rattle.mp_cells.proofs.ChangeCells.{has_cells}
use Rattle.mp_recover.specs.declared.refusals.RecoverRefusal.{RecoverRefusal}
use Rattle.mp_recover.specs.Redoing.{page_redone, record_redone, RecordFits}
use Rattle.mp_recover.proofs.Filling.{here_or_not}

pub same_maps : (f g : PageMap) → ((n : ℕ) → f n ≡ g n) → f ≡ g
same_maps f g same = λ i. λ n. same n i

page_at_is : (pages : List PageView) (n : ℕ) → page_at pages n ≡ get_or pages n (blank_page 0)
page_at_is pages n = elim (slice_get_cases pages n).1 [
  | inl found ↦ ap (page_or (blank_page 0)) found.2 ∙ sym (get_or_from_slice_get pages n found.0 (blank_page 0) found.2)
  | inr past ↦ ap (page_or (blank_page 0)) past.1 ∙ sym (get_or_past pages n (blank_page 0) past.0)
]

pub test_here : (n m : ℕ) → n ≡ m → (n == m) ≡ true
test_here n m e = grind (arith, nat_tests, e)

pub test_other : (n m : ℕ) → n ≢ m → (n == m) ≡ false
test_other n m apart = grind (arith, nat_tests, apart)

-- another page in a list is another page in its map
pub page_at_set : (pages : List PageView) (number : ℕ) (page : PageView) → number < length pages → page_at (slice_set pages number page) ≡ with_page (page_at pages) number page
page_at_set pages number page lt = same_maps (page_at (slice_set pages number page)) (with_page (page_at pages) number page) each
  where
    each : (n : ℕ) → page_at (slice_set pages number page) n ≡ with_page (page_at pages) number page n
    each n = elim (here_or_not n number) [
      | inl e ↦
          page_at_is (slice_set pages number page) n ∙ ap (λ (k : ℕ). get_or (slice_set pages number page) k (blank_page 0)) e ∙ get_or-set_same pages number page (blank_page 0) lt
          ∙ sym (ap (λ (b : Bool). cond b page (page_at pages n)) (test_here n number e))
      | inr apart ↦
          page_at_is (slice_set pages number page) n ∙ get_or-set_other pages number n page (blank_page 0) apart ∙ sym (page_at_is pages n)
          ∙ sym (ap (λ (b : Bool). cond b page (page_at pages n)) (test_other n number apart))
    ]

pub record_on : (pages : List PageView) (number llsn prev : ℕ) (change : Change) (old new : PageView) (refusal : Option RecoverRefusal) → number < length pages
    → slice_get pages number ≡ Some old → (new, refusal) ≡ page_redone number llsn prev change old
    → (page_at (slice_set pages number new), refusal) ≡ record_redone llsn (records.Page number prev change) (page_at pages)
record_on pages number llsn prev change old new refusal lt is redone =
    ap (λ (f : PageMap). (f, refusal)) (page_at_set pages number new lt)
    ∙ ap (λ (a : PageView × Option RecoverRefusal). (with_page (page_at pages) number a.0, a.1)) redone
    ∙ ap (λ (p : PageView). (with_page (page_at pages) number (page_redone number llsn prev change p).0, (page_redone number llsn prev change p).1)) (sym (ap (page_or (blank_page 0)) is))

-- the records of an mtr that a log may hold can be tried
record_fits : (llsn : ℕ) (item : Record) → IsPageRecord llsn item → RecordFits item
record_fits llsn (records.Page number prev change) is = (is.0, has_cells change is.2)
record_fits llsn (records.Commit id cts) is = tt

all_fit : (llsn : ℕ) (items : List Record) → AllByRecursion (IsPageRecord llsn) items → AllByRecursion RecordFits items
all_fit llsn [] all = tt
all_fit llsn (item ∷ items) all = (record_fits llsn item all.0, all_fit llsn items all.1)

pub records_fit : (llsn : ℕ) (items : List Record) → AreRecords llsn items → AllByRecursion RecordFits items
records_fit llsn [] are = tt
records_fit llsn (records.Page number prev change ∷ items) are = all_fit llsn (records.Page number prev change ∷ items) are.2
records_fit llsn (records.Commit id cts ∷ []) are = (tt, tt)
records_fit llsn (records.Commit id cts ∷ item ∷ items) are = all_fit llsn (records.Commit id cts ∷ item ∷ items) are.2
