-- The invariant holds wherever allowed events lead.
use Rattle.std.proofs.Common.{◌≡◌, ℕ, zero, suc, ◌+◌, ◌<◌, ◌≤◌, List, [], ◌∷◌, length, map, refl, sym, ◌∙◌, subst, inl, arith, Option, None, Some, slice_get}
use Rattle.std.proofs.lemmas.List.{length-map}
use mathlib.Core.Option.{some}
use lib.ListN.{get_elem?}
use Rattle.mp_machine.specs.Lists.{total}
use Rattle.mp_machine.specs.Machine.{run, AllAllowed, run_from, AllowedFrom}
use Rattle.mp_machine.proofs.Time.{kept, in_time}
use Rattle.mp_core_pages.specs.declared.opening.PagesOpening.{PagesOpening}
use Rattle.mp_core_pages.specs.declared.event.PagesEvent.{PagesEvent}
use Rattle.mp_core_pages.specs.Histories.{PageOps, PageLaws, is_touched, llsn_at}
use Rattle.mp_core_pages.specs.PageWorld.{standing, pages_start, PagesFit, paging}
use Rattle.mp_core_pages.specs.PageInvariant.{PagesInv}
use Rattle.mp_core_pages.specs.Briefs.{llsn_ops}
use Rattle.mp_core_pages.proofs.Choices.{if_true, if_false}
use Rattle.mp_core_pages.proofs.LockWords.{free_word}
use Rattle.mp_core_pages.proofs.Keeps.{keeps_pages}

total_zero : (count : ℕ) → total (λ _. 0) count ≡ 0
total_zero zero = refl
total_zero (suc count) = let rest = total_zero count in omega arith

module _ {P : Type 0} where
  -- at the opening each frame is at home with its page
  home_page : (pages : List P) (k : ℕ) → standing (get_elem? (map some pages) k) ≡ slice_get pages k
  home_page [] k = refl
  home_page (y ∷ pages) zero = refl
  home_page (y ∷ pages) (suc k) = home_page pages k

  home_there : (pages : List P) (k : ℕ) → k < length pages → (y : P) × (get_elem? (map some pages) k ≡ some (some y))
  home_there [] k within = absurd (omega arith)
  home_there (y ∷ pages) zero within = (y, refl)
  home_there (y ∷ pages) (suc k) within = home_there pages k (omega arith)

module _ {P M : Type 0} (ops : PageOps P M) (opening : PagesOpening P) (fit : PagesFit {M = M} ops opening) where
  first_llsn : (k : ℕ) (x : Option P) → slice_get opening.pages k ≡ x → llsn_at ops x ≤ opening.base
  first_llsn k None is = omega arith
  first_llsn k (Some y) is = fit.within_base k y is

  pub pages_inv_start : PagesInv ops opening (pages_start opening)
  pages_inv_start = record {
    page_locks = record {
      words = λ k. inl (omega arith);
      named = λ n k from to. free_word n from;
      nodes = λ n k has. absurd (has refl);
      alone = λ n m k writes has. absurd (has refl);
    };
    frame_turns = record {
      slots = length-map opening.pages some ∙ fit.all_pages;
      at_home = λ k range free. home_there opening.pages k (subst (λ c. k < c) (sym fit.all_pages) range);
      taken = λ k range out. absurd (out refl);
      named = λ n k y out. let none_out : None ≡ Some y = out in cc;
    };
    mtr_logs = record {
      ascend = λ n. tt;
      durable = λ n. (omega arith, omega arith);
      few = λ n. omega arith;
      counted = sym (total_zero (opening.primaries + 1));
      last = λ n. omega arith;
      told = λ n. omega arith;
      pages = λ k. let first = first_llsn k (slice_get opening.pages k) refl in omega arith;
    };
    mtr_history = record { makers = λ m is. absurd is; own = λ n. refl; order = tt };
    page_frames = record {
      prefix = λ k. record {
        height = 0;
        within = omega arith;
        is_folded = home_page opening.pages k;
        durable =
            λ m is touch. absurd is;
      };
      missing = λ m k is touch. absurd is;
      contents_whole = λ n k y there. let none_there : None ≡ Some y = there in cc;
      frames_whole = λ k nobody. home_page opening.pages k;
      gave_below = λ n k. omega arith;
    };
    given_pages = λ n g is. absurd is;
  }

  module _ (laws : PageLaws ops) where
    -- with the last event first
    pub pages_law : (es : List (PagesEvent P M)) → AllAllowed (paging ops opening) es → PagesInv ops opening
        (run (paging ops opening) es)
    pages_law = kept (paging ops opening) (PagesInv ops opening) pages_inv_start
        (λ es e all i. keeps_pages ops laws opening fit 0 (run (paging ops opening) es) e i all.0.1.0 all.0.1.1)

    -- and in the order of time
    pub pages_law_in_time : (events : List (PagesEvent P M)) → AllowedFrom (paging ops opening)
        (pages_start opening) events → PagesInv ops opening
        (run_from (paging ops opening) (pages_start opening) events)
    pages_law_in_time = in_time (paging ops opening) (PagesInv ops opening) pages_law

-- at LLSNs alone
pub llsn_laws : PageLaws llsn_ops
llsn_laws = record {
  touched = λ m k y touch. if_true (is_touched k m.touched) m.llsn y touch;
  untouched = λ m k y apart. if_false (is_touched k m.touched) m.llsn y apart;
}
