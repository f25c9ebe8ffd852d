-- A page after a history is the fold of the mtrs that change it.
use Rattle.std.proofs.Common.{◌≡◌, ℕ, Bool, true, false, cond, List, [], ◌∷◌, ◌++◌, refl, sym, ap, ◌∙◌, inl, inr}
use Rattle.std.proofs.lemmas.List.Elements.{filter-append}
use Rattle.mp_cells.specs.declared.records.Mtr.{Mtr}
use Rattle.mp_cells.specs.declared.changes.Change.{Change}
use Rattle.mp_cells.specs.PageView.{PageView}
use Rattle.mp_cells.specs.Trees.{PageMap}
use Rattle.mp_cells.specs.Plans.{plan_of, touches, of_page, after_changes}
use Rattle.mp_cells.specs.PageMaps.{stamp}
use Rattle.mp_cells.proofs.MtrPages.{of_page-untouched}
use Rattle.mp_histories.specs.Histories.{History, pages_after, touching}
use Rattle.mp_histories.proofs.Writers.{decided}

-- an mtr changes a page
abbrev pub changes_page : ℕ → Mtr → Bool
changes_page n mtr = touches n (plan_of mtr.records)

pub touching-in : (n : ℕ) (mtr : Mtr) (made : History) → changes_page n mtr ≡ true → touching n (mtr ∷ made) ≡ mtr ∷ touching n made
touching-in n mtr made e = ap (λ (b : Bool). cond b (mtr ∷ touching n made) (touching n made)) e

pub touching-out : (n : ℕ) (mtr : Mtr) (made : History) → changes_page n mtr ≡ false → touching n (mtr ∷ made) ≡ touching n made
touching-out n mtr made e = ap (λ (b : Bool). cond b (mtr ∷ touching n made) (touching n made)) e

pub touching-append : (n : ℕ) (later earlier : History) → touching n (later ++ earlier) ≡ touching n later ++ touching n earlier
touching-append n later earlier = filter-append (changes_page n) later earlier

abbrev page_step : ℕ → Mtr → PageView → PageView
page_step n mtr page = stamp (changes_page n mtr) mtr.llsn (after_changes (of_page n (plan_of mtr.records)) page)

abbrev page_fold : ℕ → History → PageView → PageView
page_fold n [] page = page
page_fold n (mtr ∷ made) page = page_step n mtr (page_fold n made page)

untouched_step : (n : ℕ) (mtr : Mtr) (page : PageView) → changes_page n mtr ≡ false → page_step n mtr page ≡ page
untouched_step n mtr page e =
    ap (λ (b : Bool). stamp b mtr.llsn (after_changes (of_page n (plan_of mtr.records)) page)) e
    ∙ ap (λ (changes : List Change). after_changes changes page) (of_page-untouched (plan_of mtr.records) n e)

fold_of : (opening : PageMap) (made : History) (n : ℕ) → pages_after opening made n ≡ page_fold n made (opening n)
fold_of opening [] n = refl
fold_of opening (mtr ∷ made) n = ap (λ (page : PageView). stamp (changes_page n mtr) mtr.llsn (after_changes (of_page n (plan_of mtr.records)) page)) (fold_of opening made n)

fold_touching : (n : ℕ) (made : History) (page : PageView) → page_fold n made page ≡ page_fold n (touching n made) page
fold_touching n [] page = refl
fold_touching n (mtr ∷ made) page = elim (decided (changes_page n mtr)) [
  | inl e ↦ ap (page_step n mtr) (fold_touching n made page) ∙ ap (λ (ms : History). page_fold n ms page) (sym (touching-in n mtr made e))
  | inr e ↦ untouched_step n mtr (page_fold n made page) e ∙ fold_touching n made page ∙ ap (λ (ms : History). page_fold n ms page) (sym (touching-out n mtr made e))
]

-- the same mtrs on a page leave the same page
pub by_touching : (opening : PageMap) (one other : History) (n : ℕ) → touching n one ≡ touching n other → pages_after opening one n ≡ pages_after opening other n
by_touching opening one other n e =
    fold_of opening one n ∙ fold_touching n one (opening n) ∙ ap (λ (ms : History). page_fold n ms (opening n)) e ∙ sym (fold_touching n other (opening n)) ∙ sym (fold_of opening other n)
