-- A page's LLSN is that of the last mtr that changed it; `prev`s carry over to cuts.
use Rattle.std.proofs.Common.{◌≡◌, ℕ, ◌<◌, ◌==◌, ◌||◌, Bool, true, false, List, [], ◌∷◌, ◌++◌, refl, sym, ap, subst, ◌∙◌, inl, inr, arith}
use Rattle.std.specs.List.{AllByRecursion}
use Rattle.std.proofs.lemmas.Bool.{cases_eq, eq-eqb}
use Rattle.mp_cells.specs.declared.changes.Change.{Change}
use Rattle.mp_cells.specs.declared.records.Record.{Record}
use Rattle.mp_cells.specs.declared.records.Record.TheVariants as records
use Rattle.mp_cells.specs.declared.records.Mtr.{Mtr}
use Rattle.mp_cells.specs.PageView.{PageView}
use Rattle.mp_cells.specs.Trees.{PageMap}
use Rattle.mp_cells.specs.Plans.{changed_page, with_page, plan_of, touches}
use Rattle.mp_cells.specs.PageMaps.{after_record, HavePrevs}
use Rattle.mp_cells.proofs.ByPage.{with_page-here, with_page-other}
use Rattle.mp_cells.proofs.MtrPages.{mtr_touched, mtr_untouched}
use Rattle.mp_histories.specs.Histories.{History, pages_after, touching}
use Rattle.mp_histories.specs.Cuts.{IsCut, Rise, PrevsHold}
use Rattle.mp_histories.proofs.Writers.{decided}
use Rattle.mp_histories.proofs.ByPages.{changes_page, touching-in, touching-out, by_touching}

-- the LLSN of the last of some mtrs, or another one where there is none
abbrev last_llsn : ℕ → History → ℕ
last_llsn opening [] = opening
last_llsn opening (mtr ∷ made) = mtr.llsn

page_llsn : (opening : PageMap) (made : History) (n : ℕ) → (pages_after opening made n).llsn ≡ last_llsn (opening n).llsn (touching n made)
page_llsn opening [] n = refl
page_llsn opening (mtr ∷ made) n = elim (decided (changes_page n mtr)) [
  | inl e ↦ mtr_touched mtr (pages_after opening made) n e ∙ ap (last_llsn (opening n).llsn) (sym (touching-in n mtr made e))
  | inr e ↦ ap (λ (p : PageView). p.llsn) (mtr_untouched mtr (pages_after opening made) n e) ∙ page_llsn opening made n ∙ ap (last_llsn (opening n).llsn) (sym (touching-out n mtr made e))
]

-- below the last one's LLSN all are
all_less : (low high : ℕ) (made : History) → low < high → AllByRecursion (λ e. e.llsn < low) made → AllByRecursion (λ e. e.llsn < high) made
all_less low high [] lt h = tt
all_less low high (e ∷ made) lt h = (omega (arith, lt, h.0), all_less low high made lt h.1)

below_last : (base bound n : ℕ) (made : History) → Rise made → last_llsn base (touching n made) < bound → AllByRecursion (λ e. e.llsn < bound) (touching n made)
below_last base bound n [] rise lt = tt
below_last base bound n (mtr ∷ made) rise lt = elim (decided (changes_page n mtr)) [
  | inl e ↦
      let here : mtr.llsn < bound = subst (λ (ms : History). last_llsn base ms < bound) (touching-in n mtr made e) lt in
      subst (AllByRecursion (λ (x : Mtr). x.llsn < bound)) (sym (touching-in n mtr made e)) (here, all_less mtr.llsn bound (touching n made) here (rise.0 n e))
  | inr e ↦
      subst (AllByRecursion (λ (x : Mtr). x.llsn < bound)) (sym (touching-out n mtr made e))
      (below_last base bound n made rise.1 (subst (λ (ms : History). last_llsn base ms < bound) (touching-out n mtr made e) lt))
]

pub rises_more : (opening : PageMap) (made : History) (mtr : Mtr) → Rise made → ((n : ℕ) → touches n (plan_of mtr.records) ≡ true → (pages_after opening made n).llsn < mtr.llsn) → Rise (mtr ∷ made)
rises_more opening made mtr rise above =
    (λ n e. below_last (opening n).llsn mtr.llsn n made rise (subst (λ (k : ℕ). k < mtr.llsn) (page_llsn opening made n) (above n e)), rise)

-- ---- `prev`s

-- two maps have the same pages where some records change them
abbrev SameWhere : List Record → PageMap → PageMap → Type 0
SameWhere items pages other = (n : ℕ) → touches n (plan_of items) ≡ true → other n ≡ pages n

or_left : (a b : Bool) → a ≡ true → (a || b) ≡ true
or_left true b e = refl
or_left false b e = absurd cc

or_right : (a b : Bool) → b ≡ true → (a || b) ≡ true
or_right true b e = refl
or_right false b e = e

same_after : (llsn page : ℕ) (change : Change) (pages other : PageMap) (items : List Record) → other page ≡ pages page → SameWhere items pages other
    → SameWhere items (with_page pages page (record (changed_page change (pages page)) { llsn = llsn })) (with_page other page (record (changed_page change (other page)) { llsn = llsn }))
same_after llsn page change pages other items here same n e =
    let new : PageView → PageView = λ (p : PageView). record (changed_page change p) { llsn = llsn } in
    elim (cases_eq n page) [
      | inl k ↦
          ap (with_page other page (new (other page))) k ∙ with_page-here other page (new (other page)) ∙ ap new here
          ∙ sym (ap (with_page pages page (new (pages page))) k ∙ with_page-here pages page (new (pages page)))
      | inr ne ↦ with_page-other other page (new (other page)) n ne ∙ same n e ∙ sym (with_page-other pages page (new (pages page)) n ne)
    ]

prevs_else : (llsn : ℕ) (items : List Record) (pages other : PageMap) → SameWhere items pages other → HavePrevs llsn items pages → HavePrevs llsn items other
prevs_else llsn [] pages other same h = tt
prevs_else llsn (records.Commit id cts ∷ items) pages other same h = (tt, prevs_else llsn items pages other same h.1)
prevs_else llsn (records.Page page prev change ∷ items) pages other same h =
    let here : other page ≡ pages page = same page (or_left (page == page) (touches page (plan_of items)) (eq-eqb page page refl)) in
    let rest : SameWhere items pages other = λ n e. same n (or_right (n == page) (touches n (plan_of items)) e) in (
      h.0 ∙ sym (ap (λ (p : PageView). p.llsn) here),
      prevs_else llsn items (after_record llsn (records.Page page prev change) pages) (after_record llsn (records.Page page prev change) other) (same_after llsn page change pages other items here rest) h.1,
    )

prevs_before : (opening : PageMap) (later earlier : History) → PrevsHold opening (later ++ earlier) → PrevsHold opening earlier
prevs_before opening [] earlier h = h
prevs_before opening (mtr ∷ later) earlier h = prevs_before opening later earlier h.1

pub cut_prevs : (opening : PageMap) (made : History) → PrevsHold opening made → (cut : History) → IsCut made cut → PrevsHold opening cut
cut_prevs opening made prevs [] h = tt
cut_prevs opening made prevs (mtr ∷ cut) h =
    let o = h.0 in
    let before = prevs_before opening o.later (mtr ∷ o.earlier) (subst (PrevsHold opening) o.split_is prevs) in
    (prevs_else mtr.llsn mtr.records (pages_after opening o.earlier) (pages_after opening cut) (λ n e. by_touching opening cut o.earlier n (o.same n e)) before.0, cut_prevs opening made prevs cut h.1)
