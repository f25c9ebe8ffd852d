-- Where the records of each page follow on one another, all of them can be redone, and each page has all of its own.
use Rattle.std.proofs.Common.{◌≡◌, ◌≢◌, ℕ, ◌<◌, ◌≤◌, ◌==◌, nat_lt, Bool, true, false, cond, List, [], ◌∷◌, ◌++◌, Option, Some, None, IsSome, refl, sym, ap, subst, ◌∙◌, inl, inr, arith}
use mathlib.Core.Bool.{false≢true}
use Rattle.std.specs.List.{AllByRecursion}
use Rattle.std.proofs.lemmas.Bool.{cases_lt}
use Rattle.std.proofs.lemmas.Bool.Decides.{nat_tests}
use Rattle.mp_cells.specs.declared.changes.Change.{Change}
use Rattle.mp_cells.specs.declared.records.Record.{Record}
use Rattle.mp_cells.specs.declared.records.Record.TheVariants as records
use Rattle.mp_cells.specs.declared.records.Mtr.{Mtr}
use Rattle.mp_cells.specs.PageView.{PageView}
use Rattle.mp_cells.specs.Changes.{applied}
use Rattle.mp_cells.specs.Mtrs.{IsMtr}
use Rattle.mp_cells.specs.Trees.{PageMap}
use Rattle.mp_cells.specs.Plans.{CanApply, page_or, with_page}
use Rattle.mp_recover.specs.declared.refusals.RecoverRefusal.{RecoverRefusal}
use Rattle.mp_recover.specs.declared.refusals.RecoverRefusal.TheVariants.{Gap}
use Rattle.mp_recover.specs.PageRecords.{PageRecord, records_of, page_list, not_yet, redone, redone_all, CanRedo, AreLinked, PageInOrder, InOrder, pages_redone}
use Rattle.mp_recover.specs.Redoing.{changed_or_refused, page_redone, record_redone, unless_refused, records_redone, mtrs_redone, RecordFits}
use Rattle.mp_recover.proofs.Filling.{here_or_not}
use Rattle.mp_recover.proofs.Redone.{same_maps, test_here, test_other, records_fit}

-- a page has what the next of its records want
abbrev pub IsReady : List PageRecord → PageView → Type 0
IsReady items page = AreLinked page.llsn items × CanRedo items page

abbrev Answer : Type 0
Answer = PageMap × Option RecoverRefusal

-- a record on its page
changed_some : (number llsn : ℕ) (page : PageView) (found : Option PageView) → IsSome found → changed_or_refused number llsn page found ≡ (record (page_or page found) { llsn = llsn }, None)
changed_some number llsn page None some = absurd (false≢true some)
changed_some number llsn page (Some new) some = refl

one_redone : (number llsn prev : ℕ) (change : Change) (page : PageView) → prev ≡ page.llsn → CanApply change page
    → page_redone number llsn prev change page ≡ (redone (record { at = llsn; prev = prev; change = change }) page, None)
one_redone number llsn prev change page e can =
    ap (λ (b : Bool). cond b (changed_or_refused number llsn page (applied change page)) (page, Some (Gap number prev page.llsn))) (test_here page.llsn prev (sym e))
    ∙ changed_some number llsn page (applied change page) can

-- what is left is ready after the first ones
ready_after : (xs ys : List PageRecord) (page : PageView) → IsReady (xs ++ ys) page → IsReady ys (redone_all xs page)
ready_after [] ys page ready = ready
ready_after (r ∷ xs) ys page ready = ready_after xs ys (redone r page) (ready.0.1, ready.1.1)

redone_append : (xs ys : List PageRecord) (page : PageView) → redone_all (xs ++ ys) page ≡ redone_all ys (redone_all xs page)
redone_append [] ys page = refl
redone_append (r ∷ xs) ys page = redone_append xs ys (redone r page)

module _ (llsn number prev : ℕ) (change : Change) (items : List Record) (pages : PageMap) where
  abbrev its : PageRecord
  its = record { at = llsn; prev = prev; change = change }

  abbrev after : PageMap
  after = with_page pages number (redone its (pages number))

  list_here : (n : ℕ) → n ≡ number → records_of n llsn (records.Page number prev change ∷ items) ≡ its ∷ records_of n llsn items
  list_here n e = ap (λ (b : Bool). cond b (its ∷ records_of n llsn items) (records_of n llsn items)) (test_here n number e)

  list_other : (n : ℕ) → n ≢ number → records_of n llsn (records.Page number prev change ∷ items) ≡ records_of n llsn items
  list_other n apart = ap (λ (b : Bool). cond b (its ∷ records_of n llsn items) (records_of n llsn items)) (test_other n number apart)

  page_here : (n : ℕ) → n ≡ number → after n ≡ redone its (pages n)
  page_here n e = ap (λ (b : Bool). cond b (redone its (pages number)) (pages n)) (test_here n number e) ∙ ap (λ (k : ℕ). redone its (pages k)) (sym e)

  page_other : (n : ℕ) → n ≢ number → after n ≡ pages n
  page_other n apart = ap (λ (b : Bool). cond b (redone its (pages number)) (pages n)) (test_other n number apart)

  step_ready : (more : ℕ → List PageRecord) → ((n : ℕ) → IsReady (records_of n llsn (records.Page number prev change ∷ items) ++ more n) (pages n))
      → (n : ℕ) → IsReady (records_of n llsn items ++ more n) (after n)
  step_ready more ready n = elim (here_or_not n number) [
    | inl e ↦
        let this = subst (λ (xs : List PageRecord). IsReady (xs ++ more n) (pages n)) (list_here n e) (ready n) in
        subst (IsReady (records_of n llsn items ++ more n)) (sym (page_here n e)) (this.0.1, this.1.1)
    | inr apart ↦
        subst (IsReady (records_of n llsn items ++ more n)) (sym (page_other n apart)) (subst (λ (xs : List PageRecord). IsReady (xs ++ more n) (pages n)) (list_other n apart) (ready n))
  ]

  step_pages : ◌≡◌ {A = PageMap} (λ n. redone_all (records_of n llsn items) (after n)) (λ n. redone_all (records_of n llsn (records.Page number prev change ∷ items)) (pages n))
  step_pages = same_maps (λ (n : ℕ). redone_all (records_of n llsn items) (after n)) (λ (n : ℕ). redone_all (records_of n llsn (records.Page number prev change ∷ items)) (pages n)) each
    where
      each : (n : ℕ) → redone_all (records_of n llsn items) (after n) ≡ redone_all (records_of n llsn (records.Page number prev change ∷ items)) (pages n)
      each n = elim (here_or_not n number) [
        | inl e ↦ ap (redone_all (records_of n llsn items)) (page_here n e) ∙ sym (ap (λ (xs : List PageRecord). redone_all xs (pages n)) (list_here n e))
        | inr apart ↦ ap (redone_all (records_of n llsn items)) (page_other n apart) ∙ sym (ap (λ (xs : List PageRecord). redone_all xs (pages n)) (list_other n apart))
      ]

  step_record : (more : ℕ → List PageRecord) → ((n : ℕ) → IsReady (records_of n llsn (records.Page number prev change ∷ items) ++ more n) (pages n))
      → record_redone llsn (records.Page number prev change) pages ≡ (after, None)
  step_record more ready =
      let this = subst (λ (xs : List PageRecord). IsReady (xs ++ more number) (pages number)) (list_here number refl) (ready number) in
      ap (λ (a : PageView × Option RecoverRefusal). (with_page pages number a.0, a.1)) (one_redone number llsn prev change (pages number) this.0.0 this.1.0)

-- the records of an mtr
items_redone : (llsn : ℕ) (items : List Record) (pages : PageMap) (more : ℕ → List PageRecord) → ((n : ℕ) → IsReady (records_of n llsn items ++ more n) (pages n))
    → records_redone llsn items pages ≡ ((λ (n : ℕ). redone_all (records_of n llsn items) (pages n)), None)
items_redone llsn [] pages more ready = refl
items_redone llsn (records.Page number prev change ∷ items) pages more ready =
    ap (unless_refused (λ new. records_redone llsn items new)) (step_record llsn number prev change items pages more ready)
    ∙ items_redone llsn items (after llsn number prev change items pages) more (step_ready llsn number prev change items pages more ready)
    ∙ ap (λ (f : PageMap). (f, None)) (step_pages llsn number prev change items pages)
items_redone llsn (records.Commit id cts ∷ items) pages more ready = items_redone llsn items pages more ready

-- and of mtrs
pub all_redone : (mtrs : List Mtr) (pages : PageMap) → ((n : ℕ) → IsReady (page_list n mtrs) (pages n)) → mtrs_redone mtrs pages ≡ ((λ (n : ℕ). redone_all (page_list n mtrs) (pages n)), None)
all_redone [] pages ready = refl
all_redone (mtr ∷ mtrs) pages ready =
    let new : PageMap = λ n. redone_all (records_of n mtr.llsn mtr.records) (pages n) in
    ap (unless_refused (λ f. mtrs_redone mtrs f)) (items_redone mtr.llsn mtr.records pages (λ n. page_list n mtrs) ready)
    ∙ all_redone mtrs new (λ n. ready_after (records_of n mtr.llsn mtr.records) (page_list n mtrs) (pages n) (ready n))
    ∙ ap (λ (f : PageMap). (f, None)) (same_maps (λ (n : ℕ). redone_all (page_list n mtrs) (new n)) (λ (n : ℕ). redone_all (page_list n (mtr ∷ mtrs)) (pages n))
    (λ n. sym (redone_append (records_of n mtr.llsn mtr.records) (page_list n mtrs) (pages n))))

-- ---- a stored page that has none of the records

-- all of an mtr's records of a page are above the base
records_above : (base n llsn : ℕ) (items : List Record) → base < llsn → AllByRecursion (λ (r : PageRecord). base < r.at) (records_of n llsn items)
records_above base n llsn [] lt = tt
records_above base n llsn (records.Page number prev change ∷ items) lt = by_test (n == number) (records_above base n llsn items lt)
  where
    by_test : (b : Bool) → AllByRecursion (λ (r : PageRecord). base < r.at) (records_of n llsn items)
        → AllByRecursion (λ (r : PageRecord). base < r.at) (cond b (record { at = llsn; prev = prev; change = change } ∷ records_of n llsn items) (records_of n llsn items))
    by_test true rest = (lt, rest)
    by_test false rest = rest
records_above base n llsn (records.Commit id cts ∷ items) lt = records_above base n llsn items lt

above_append : (base : ℕ) (xs ys : List PageRecord) → AllByRecursion (λ (r : PageRecord). base < r.at) xs → AllByRecursion (λ (r : PageRecord). base < r.at) ys → AllByRecursion (λ (r : PageRecord). base < r.at) (xs ++ ys)
above_append base [] ys all more = more
above_append base (x ∷ xs) ys all more = (all.0, above_append base xs ys all.1 more)

list_above : (base n : ℕ) (mtrs : List Mtr) → AllByRecursion (λ (m : Mtr). base < m.llsn) mtrs → AllByRecursion (λ (r : PageRecord). base < r.at) (page_list n mtrs)
list_above base n [] all = tt
list_above base n (mtr ∷ mtrs) all = above_append base (records_of n mtr.llsn mtr.records) (page_list n mtrs) (records_above base n mtr.llsn mtr.records all.0) (list_above base n mtrs all.1)

test_above : (a b : ℕ) → a < b → nat_lt a b ≡ true
test_above a b lt = grind (arith, nat_tests, lt)

has_none : (base llsn : ℕ) (items : List PageRecord) → llsn ≤ base → AllByRecursion (λ (r : PageRecord). base < r.at) items → not_yet llsn items ≡ items
has_none base llsn [] le all = refl
has_none base llsn (r ∷ items) le all =
    ap (λ (b : Bool). cond b (r ∷ not_yet llsn items) (not_yet llsn items)) (test_above llsn r.at (omega (arith, le, all.0)))
    ∙ ap (λ (xs : List PageRecord). r ∷ xs) (has_none base llsn items le all.1)

linked_all : (base : ℕ) (stored : PageView) (items : List PageRecord) → not_yet stored.llsn items ≡ items → PageInOrder base stored items → IsReady items stored
linked_all base stored [] none order = (tt, tt)
linked_all base stored (r ∷ items) none order = ((order.first none, order.linked.1), subst (λ (xs : List PageRecord). CanRedo xs stored) none order.changes)

-- an mtr that a log may hold has no record of a page behind the last
records_beyond : (n llsn : ℕ) (items : List Record) → 4096 ≤ n → AllByRecursion RecordFits items → records_of n llsn items ≡ []
records_beyond n llsn [] le all = refl
records_beyond n llsn (records.Page number prev change ∷ items) le all =
    ap (λ (b : Bool). cond b (record { at = llsn; prev = prev; change = change } ∷ records_of n llsn items) (records_of n llsn items))
    (test_other n number (λ e. omega (arith, e, le, all.0.0)))
    ∙ records_beyond n llsn items le all.1
records_beyond n llsn (records.Commit id cts ∷ items) le all = records_beyond n llsn items le all.1

list_beyond : (n : ℕ) (mtrs : List Mtr) → 4096 ≤ n → AllByRecursion IsMtr mtrs → page_list n mtrs ≡ []
list_beyond n [] le all = refl
list_beyond n (mtr ∷ mtrs) le all =
    ap (λ (xs : List PageRecord). xs ++ page_list n mtrs) (records_beyond n mtr.llsn mtr.records le (records_fit mtr.llsn mtr.records all.0.records)) ∙ list_beyond n mtrs le all.1

-- mtrs that are in order over clean pages are all redone
pub in_order_redone : (base : ℕ) (stored : PageMap) (mtrs : List Mtr) → ((n : ℕ) → (stored n).llsn ≤ base) → AllByRecursion (λ (m : Mtr). base < m.llsn) mtrs
    → AllByRecursion IsMtr mtrs → InOrder base stored mtrs → mtrs_redone mtrs stored ≡ (pages_redone stored mtrs, None)
in_order_redone base stored mtrs low above are order =
    all_redone mtrs stored ready
    ∙ ap (λ (f : PageMap). (f, None)) (same_maps (λ (n : ℕ). redone_all (page_list n mtrs) (stored n)) (pages_redone stored mtrs) (λ n. ap (λ (xs : List PageRecord). redone_all xs (stored n)) (sym (none n))))
  where
    none : (n : ℕ) → not_yet (stored n).llsn (page_list n mtrs) ≡ page_list n mtrs
    none n = has_none base (stored n).llsn (page_list n mtrs) (low n) (list_above base n mtrs above)

    ready : (n : ℕ) → IsReady (page_list n mtrs) (stored n)
    ready n = elim (cases_lt n 4096) [
      | inl lt ↦ linked_all base (stored n) (page_list n mtrs) (none n) (order n lt)
      | inr le ↦ subst (λ (xs : List PageRecord). IsReady xs (stored n)) (sym (list_beyond n mtrs le are)) (tt, tt)
    ]
