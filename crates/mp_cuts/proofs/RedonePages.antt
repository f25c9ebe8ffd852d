-- The records of a page in a history that runs can be redone one after another, and leave the page that the history leaves.
use Rattle.std.proofs.Common.{◌≡◌, ℕ, ◌<◌, ◌≤◌, ◌==◌, ◌||◌, nat_lt, Bool, true, false, cond, List, [], ◌∷◌, ◌++◌, reverse, Option, Some, None, IsSome, refl, sym, ap, subst, ◌∙◌, arith, eqb-true, append-nil}
use Rattle.std.specs.Option.{option_map}
use Rattle.std.specs.List.{AllByRecursion}
use Rattle.std.proofs.lemmas.Bool.Decides.{nat_tests}
use Rattle.std.proofs.lemmas.Grind.{reverse_onto, flat_map-append}
use Rattle.mp_cells.specs.declared.changes.Change.{Change}
use Rattle.mp_cells.specs.declared.records.Record.{Record}
use Rattle.mp_cells.specs.declared.records.Record.TheVariants as records
use Rattle.mp_cells.specs.declared.records.Mtr.{Mtr}
use Rattle.mp_cells.specs.PageView.{PageView}
use Rattle.mp_cells.specs.Changes.{applied}
use Rattle.mp_cells.specs.Trees.{PageMap, IsClean}
use Rattle.mp_cells.specs.Plans.{MeetsAll, changed_page, with_page, of_page, after_changes, plan_of, touches}
use Rattle.mp_cells.specs.PageMaps.{stamp, HavePrevs}
use Rattle.mp_cells.proofs.ByPage.{Meets-pages}
use Rattle.mp_cells.proofs.Llsns.{with_llsn, applied-llsn, changed_page-llsn, after_changes-llsn}
use Rattle.mp_cells.proofs.KeyEdits.{All-append}
use Rattle.mp_histories.specs.KeyOps.{FirstIs}
use Rattle.mp_histories.specs.Histories.{History, pages_after}
use Rattle.mp_histories.specs.Chains.{RunsFrom}
use Rattle.mp_histories.specs.Cuts.{PrevsHold}
use Rattle.mp_histories.proofs.Applying.{meets_of}
use Rattle.mp_recover.specs.PageRecords.{PageRecord, records_of, page_list, not_yet, redone, redone_all, CanRedo, AreLinked, AreLinkedFrom, InOrder, pages_redone}
use Rattle.mp_recover.proofs.Redone.{same_maps}
use Rattle.mp_recover.proofs.RedoneInOrder.{IsReady}

-- ---- one list of records behind another

ready_append : (xs ys : List PageRecord) (page : PageView) → IsReady xs page → IsReady ys (redone_all xs page) → IsReady (xs ++ ys) page
ready_append [] ys page ready more = more
ready_append (r ∷ xs) ys page ready more =
    let rest = ready_append xs ys (redone r page) (ready.0.1, ready.1.1) more in
    ((ready.0.0, rest.0), (ready.1.0, rest.1))

redone_append : (xs ys : List PageRecord) (page : PageView) → redone_all (xs ++ ys) page ≡ redone_all ys (redone_all xs page)
redone_append [] ys page = refl
redone_append (r ∷ xs) ys page = redone_append xs ys (redone r page)

-- ---- the records of one mtr

some_mapped : {A B : Type 0} (f : A → B) (x : Option A) → IsSome x → IsSome (option_map f x)
some_mapped f None some = some
some_mapped f (Some x) some = refl

stamped_twice : (t : Bool) (llsn : ℕ) (page : PageView) → stamp t llsn (with_llsn llsn page) ≡ with_llsn llsn page
stamped_twice true llsn page = refl
stamped_twice false llsn page = refl

module _ (n llsn : ℕ) where
  abbrev record_of : ℕ → Change → PageRecord
  record_of prev change = record { at = llsn; prev = prev; change = change }

  can_redo : (items : List Record) (old : ℕ) (page : PageView) → MeetsAll (of_page n (plan_of items)) page → CanRedo (records_of n llsn items) (with_llsn old page)
  can_redo [] old page meets = tt
  can_redo (records.Commit id cts ∷ items) old page meets = can_redo items old page meets
  can_redo (records.Page number prev change ∷ items) old page meets = by_test (n == number) meets (λ m. can_redo items llsn (changed_page change page) m) (λ m. can_redo items old page m)
    where
      by_test : (b : Bool) → MeetsAll (cond b (change ∷ of_page n (plan_of items)) (of_page n (plan_of items))) page
          → (MeetsAll (of_page n (plan_of items)) (changed_page change page) → CanRedo (records_of n llsn items) (with_llsn llsn (changed_page change page)))
          → (MeetsAll (of_page n (plan_of items)) page → CanRedo (records_of n llsn items) (with_llsn old page))
          → CanRedo (cond b (record_of prev change ∷ records_of n llsn items) (records_of n llsn items)) (with_llsn old page)
      by_test true m next same = (
        subst (λ (x : Option PageView). IsSome x) (sym (applied-llsn change page old)) (some_mapped (with_llsn old) (applied change page) m.0),
        subst (CanRedo (records_of n llsn items)) (sym (ap (with_llsn llsn) (changed_page-llsn change page old))) (next m.1),
      )
      by_test false m next same = same m

  redone_is : (items : List Record) (page : PageView) → redone_all (records_of n llsn items) page ≡ stamp (touches n (plan_of items)) llsn (after_changes (of_page n (plan_of items)) page)
  redone_is [] page = refl
  redone_is (records.Commit id cts ∷ items) page = redone_is items page
  redone_is (records.Page number prev change ∷ items) page = by_test (n == number) (redone_is items (with_llsn llsn (changed_page change page))) (redone_is items page)
    where
      by_test : (b : Bool)
          → redone_all (records_of n llsn items) (with_llsn llsn (changed_page change page)) ≡ stamp (touches n (plan_of items)) llsn (after_changes (of_page n (plan_of items)) (with_llsn llsn (changed_page change page)))
          → redone_all (records_of n llsn items) page ≡ stamp (touches n (plan_of items)) llsn (after_changes (of_page n (plan_of items)) page)
          → redone_all (cond b (record_of prev change ∷ records_of n llsn items) (records_of n llsn items)) page
          ≡ stamp (b || touches n (plan_of items)) llsn (after_changes (cond b (change ∷ of_page n (plan_of items)) (of_page n (plan_of items))) page)
      by_test true next same =
          next
          ∙ ap (stamp (touches n (plan_of items)) llsn) (after_changes-llsn (of_page n (plan_of items)) (changed_page change page) llsn)
          ∙ stamped_twice (touches n (plan_of items)) llsn (after_changes (of_page n (plan_of items)) (changed_page change page))
      by_test false next same = same

  are_linked : (items : List Record) (pages : PageMap) → HavePrevs llsn items pages → AreLinked (pages n).llsn (records_of n llsn items)
  are_linked [] pages prevs = tt
  are_linked (records.Commit id cts ∷ items) pages prevs = are_linked items pages prevs.1
  are_linked (records.Page number prev change ∷ items) pages prevs =
      by_test (n == number) refl (are_linked items (with_page pages number (record (changed_page change (pages number)) { llsn = llsn })) prevs.1)
    where
      by_test : (b : Bool) → (n == number) ≡ b → AreLinked (cond b (record (changed_page change (pages number)) { llsn = llsn }) (pages n)).llsn (records_of n llsn items)
          → AreLinked (pages n).llsn (cond b (record_of prev change ∷ records_of n llsn items) (records_of n llsn items))
      by_test true e rest = (prevs.0 ∙ ap (λ (k : ℕ). (pages k).llsn) (sym (eqb-true n number e)), rest)
      by_test false e rest = rest

-- ---- the records of a history

pub list_step : (n : ℕ) (m : Mtr) (made : History) → page_list n (reverse (m ∷ made)) ≡ page_list n (reverse made) ++ records_of n m.llsn m.records
list_step n m made =
    ap (page_list n) (reverse_onto made m [])
    ∙ flat_map-append (λ (x : Mtr). records_of n x.llsn x.records) (reverse made) (m ∷ [])
    ∙ ap (λ (l : List PageRecord). page_list n (reverse made) ++ l) (append-nil (records_of n m.llsn m.records))

-- what a page is ready for, and what it becomes
record Redoes (opening : PageMap) (made : History) (n : ℕ) : Type 0 where
  ready : IsReady (page_list n (reverse made)) (opening n)
  leaves : redone_all (page_list n (reverse made)) (opening n) ≡ pages_after opening made n

module _ (base : ℕ) (opening : PageMap) (clean : IsClean base opening) where
  redoes : (made : History) → RunsFrom opening made → PrevsHold opening made → (n : ℕ) → Redoes opening made n
  redoes [] runs prevs n = record { ready = (tt, tt); leaves = refl }
  redoes (m ∷ made) runs prevs n =
      let old = redoes made runs.1 prevs.1 n in
      let page = pages_after opening made n in
      let here : IsReady (records_of n m.llsn m.records) page = (
        are_linked n m.llsn m.records (pages_after opening made) prevs.0,
        can_redo n m.llsn m.records page.llsn page (Meets-pages (plan_of m.records) (pages_after opening made) (meets_of base opening clean made m runs) n),
      ) in
      record {
        ready = subst (λ (l : List PageRecord). IsReady l (opening n)) (sym (list_step n m made))
            (ready_append (page_list n (reverse made)) (records_of n m.llsn m.records) (opening n) old.ready
            (subst (IsReady (records_of n m.llsn m.records)) (sym old.leaves) here));
        leaves = ap (λ (l : List PageRecord). redone_all l (opening n)) (list_step n m made)
            ∙ redone_append (page_list n (reverse made)) (records_of n m.llsn m.records) (opening n)
            ∙ ap (redone_all (records_of n m.llsn m.records)) old.leaves
            ∙ redone_is n m.llsn m.records page;
      }

-- ---- all records are above the base

records_above : (base n llsn : ℕ) (items : List Record) → base < llsn → AllByRecursion (λ (r : PageRecord). base < r.at) (records_of n llsn items)
records_above base n llsn [] lt = tt
records_above base n llsn (records.Page number prev change ∷ items) lt = by_test (n == number) (records_above base n llsn items lt)
  where
    by_test : (b : Bool) → AllByRecursion (λ (r : PageRecord). base < r.at) (records_of n llsn items)
        → AllByRecursion (λ (r : PageRecord). base < r.at) (cond b (record { at = llsn; prev = prev; change = change } ∷ records_of n llsn items) (records_of n llsn items))
    by_test true rest = (lt, rest)
    by_test false rest = rest
records_above base n llsn (records.Commit id cts ∷ items) lt = records_above base n llsn items lt

list_above : (base n : ℕ) (mtrs : List Mtr) → AllByRecursion (λ (m : Mtr). base < m.llsn) mtrs → AllByRecursion (λ (r : PageRecord). base < r.at) (page_list n mtrs)
list_above base n [] all = tt
list_above base n (m ∷ mtrs) all = All-append (λ (r : PageRecord). base < r.at) (records_of n m.llsn m.records) (page_list n mtrs) (records_above base n m.llsn m.records all.0) (list_above base n mtrs all.1)

test_above : (a b : ℕ) → a < b → nat_lt a b ≡ true
test_above a b lt = grind (arith, nat_tests, lt)

none_yet : (base llsn : ℕ) (items : List PageRecord) → llsn ≤ base → AllByRecursion (λ (r : PageRecord). base < r.at) items → not_yet llsn items ≡ items
none_yet base llsn [] le all = refl
none_yet base llsn (r ∷ items) le all =
    let above = all.0 in
    ap (λ (b : Bool). cond b (r ∷ not_yet llsn items) (not_yet llsn items)) (test_above llsn r.at (omega (arith, le, above)))
    ∙ ap (λ (xs : List PageRecord). r ∷ xs) (none_yet base llsn items le all.1)

-- ---- all pages

linked_from : (base llsn : ℕ) (items : List PageRecord) → llsn ≤ base → AreLinked llsn items → AreLinkedFrom base items
linked_from base llsn [] le linked = tt
linked_from base llsn (r ∷ items) le linked = (let is = linked.0 in omega (arith, le, is), linked.1)

first_linked : (llsn : ℕ) (items : List PageRecord) → AreLinked llsn items → FirstIs (λ r. r.prev ≡ llsn) items
first_linked llsn [] linked = tt
first_linked llsn (r ∷ items) linked = linked.0

module _ (base : ℕ) (opening : PageMap) (clean : IsClean base opening) (low : (n : ℕ) → (opening n).llsn ≤ base)
    (made : History) (runs : RunsFrom opening made) (prevs : PrevsHold opening made) (above : AllByRecursion (λ (m : Mtr). base < m.llsn) (reverse made)) where
  none : (n : ℕ) → not_yet (opening n).llsn (page_list n (reverse made)) ≡ page_list n (reverse made)
  none n = none_yet base (opening n).llsn (page_list n (reverse made)) (low n) (list_above base n (reverse made) above)

  pub in_order : InOrder base opening (reverse made)
  in_order n lt =
      let here = redoes base opening clean made runs prevs n in
      record {
        linked = linked_from base (opening n).llsn (page_list n (reverse made)) (low n) here.ready.0;
        first = λ e. first_linked (opening n).llsn (page_list n (reverse made)) here.ready.0;
        ahead = λ over. absurd (let least = low n in omega (arith, over, least));
        changes = subst (λ (l : List PageRecord). CanRedo l (opening n)) (sym (none n)) here.ready.1;
      }

  pub redone_pages : pages_redone opening (reverse made) ≡ pages_after opening made
  redone_pages = same_maps (pages_redone opening (reverse made)) (pages_after opening made)
      (λ n. ap (λ (l : List PageRecord). redone_all l (opening n)) (none n) ∙ (redoes base opening clean made runs prevs n).leaves)
