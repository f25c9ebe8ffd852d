-- An mtr is made, a node's log is durable further on, and a page is given: the LLSNs stay in order and within their
-- bound.
use Rattle.std.proofs.Common.{◌≡◌, ℕ, ◌+◌, ◌<◌, ◌≤◌, max, true, false, List, [], ◌∷◌, length, refl, sym, ap, ◌∙◌, subst, ⊎_elim, arith}
use Rattle.std.proofs.lemmas.Bool.{cases_Bool}
use mathlib.Core.Logic.{dite}
use native.Mathlib.Decide.{ℕ_discrete}
use Rattle.mp_machine.specs.Lists.{IsIn, updated, pushed}
use Rattle.mp_machine.proofs.Lists.{pushed_here, pushed_else, total_length_pushed}
use Rattle.mp_core_pages.specs.declared.opening.PagesOpening.{PagesOpening}
use Rattle.mp_core_pages.specs.declared.opening.Touch.{Touch}
use Rattle.mp_core_pages.specs.declared.opening.TheConstants.{MOST_MTRS}
use Rattle.mp_core_pages.specs.declared.part.GivenPage.{GivenPage}
use Rattle.mp_core_pages.specs.declared.part.Placed.{Placed}
use Rattle.mp_core_pages.specs.Histories.{PageOps, PageLaws, is_touched, PrevsFit, placed, llsn_at, folded, made_by, GoesOn}
use Rattle.mp_core_pages.specs.PageParts.{durable_llsn, last_llsn, told_llsn}
use Rattle.mp_core_pages.specs.PageWorld.{IsPagesNode}
use Rattle.mp_core_pages.specs.PageInvariant.{Ascends, IsDurable, MtrLogs, MtrHistory}
use Rattle.mp_core_pages.proofs.Choices.{if_equal, if_differs}
use Rattle.mp_core_pages.proofs.Prefixes.{untouched_same, touched_llsn}

-- what the records tell depends on the pages that they touch alone
touched_more : (k : ℕ) (t : Touch) (ts : List Touch) → is_touched k ts ≡ true → is_touched k (t ∷ ts) ≡ true
touched_more k t ts h = dite (ℕ_discrete k t.page) (λ same. if_equal k t.page true (is_touched k ts) same)
    (λ other. if_differs k t.page true (is_touched k ts) other ∙ h)

pub prevs_same : (llsn : ℕ) (f g : ℕ → ℕ) (ts : List Touch) → ((k : ℕ) → is_touched k ts ≡ true → f k ≡ g k)
    → PrevsFit llsn f ts → PrevsFit llsn g ts
prevs_same llsn f g [] same fit = tt
prevs_same llsn f g (t ∷ ts) same fit = (
  fit.0 ∙ same t.page (if_equal t.page t.page true (is_touched t.page ts) refl),
  prevs_same llsn (updated f t.page llsn) (updated g t.page llsn) ts
      (λ k h.
      dite (ℕ_discrete k t.page)
      (λ own. if_equal k t.page llsn (f k) own ∙ sym (if_equal k t.page llsn (g k) own))
      (λ other. if_differs k t.page llsn (f k) other ∙ same k (touched_more k t ts h)
      ∙ sym (if_differs k t.page llsn (g k) other)))
      fit.1,
)

module _ {P M : Type 0} (ops : PageOps P M) (laws : PageLaws ops) (opening : PagesOpening P) where
  -- what is durable stays so as a log is durable further on
  pub durable_more : (durables : ℕ → List ℕ) (n v : ℕ) (m : M) → durable_llsn opening.base (durables n) ≤ v
      → IsDurable ops opening.base durables m → IsDurable ops opening.base (pushed durables n v) m
  durable_more durables n v m more is =
      dite (ℕ_discrete (ops.maker_of m) n)
      (λ same.
      let now : durable_llsn opening.base (pushed durables n v (ops.maker_of m)) ≡ v =
      ap (λ j. durable_llsn opening.base (pushed durables n v j)) same ∙ ap (durable_llsn opening.base)
      (pushed_here durables n v) in
      let was : durable_llsn opening.base (durables (ops.maker_of m)) ≡ durable_llsn opening.base (durables n) =
      ap (λ j. durable_llsn opening.base (durables j)) same in
      omega arith)
      (λ other. subst (λ l. ops.mtr_llsn m ≤ durable_llsn opening.base l)
      (sym (pushed_else durables n v (ops.maker_of m) other)) is)

  module _ (history : List M) (made : ℕ → List (Placed M)) (durables : ℕ → List ℕ) (given : ℕ → List (GivenPage P))
      (i : MtrLogs ops opening history made durables given) (n : ℕ) where
    pub logs_given : (g : GivenPage P) → ops.llsn_of g.page ≤ opening.base + length history
        → MtrLogs ops opening history made durables (pushed given n g)
    logs_given g within = record {
      ascend = i.ascend;
      durable = i.durable;
      few = i.few;
      counted = i.counted;
      last = i.last;
      told = λ j.
          let was = i.told n in
          dite (ℕ_discrete j n)
          (λ same.
          let now : told_llsn ops (pushed given n g j) ≡ max (ops.llsn_of g.page) (told_llsn ops (given n)) =
          ap (λ l. told_llsn ops (pushed given n g l)) same ∙ ap (told_llsn ops) (pushed_here given n g) in
          omega arith)
          (λ other. subst (λ l. told_llsn ops l ≤ opening.base + length history)
          (sym (pushed_else given n g j other)) (i.told j));
      pages = i.pages;
    }

    pub logs_durable : (v : ℕ) → durable_llsn opening.base (durables n) ≤ v → v ≤ last_llsn ops opening.base (made n)
        → MtrLogs ops opening history made (pushed durables n v) given
    logs_durable v low high = record {
      ascend = i.ascend;
      durable = λ j.
          let was = i.durable n in
          dite (ℕ_discrete j n)
          (λ same.
          let now : durable_llsn opening.base (pushed durables n v j) ≡ v =
          ap (λ l. durable_llsn opening.base (pushed durables n v l)) same ∙ ap (durable_llsn opening.base)
          (pushed_here durables n v) in
          let top : last_llsn ops opening.base (made j) ≡ last_llsn ops opening.base (made n) =
          ap (λ l. last_llsn ops opening.base (made l)) same in
          (omega arith, omega arith))
          (λ other. subst (λ l. (opening.base ≤ durable_llsn opening.base l)
          × (durable_llsn opening.base l ≤ last_llsn ops opening.base (made j)))
          (sym (pushed_else durables n v j other)) (i.durable j));
      few = i.few;
      counted = i.counted;
      last = i.last;
      told = i.told;
      pages = i.pages;
    }

    module _ (m : M) where
      abbrev MadeNow : ℕ → List (Placed M)
      MadeNow = pushed made n (placed (length history) m)

      made_here : (j : ℕ) → j ≡ n → MadeNow j ≡ placed (length history) m ∷ made n
      made_here j same = ap MadeNow same ∙ pushed_here made n (placed (length history) m)

      pub logs_make : IsPagesNode opening n → last_llsn ops opening.base (made n) < ops.mtr_llsn m
          → ops.mtr_llsn m ≤ max (last_llsn ops opening.base (made n)) (told_llsn ops (given n)) + 1
          → length (made n) < MOST_MTRS → GoesOn ops opening history m
          → MtrLogs ops opening (m ∷ history) MadeNow durables given
      logs_make node above next few on =
          let top = i.last n in
          let told = i.told n in
          let within : ops.mtr_llsn m ≤ opening.base + length (m ∷ history) = omega arith in
          record {
            ascend = λ j.
                dite (ℕ_discrete j n)
                (λ same. subst (λ l. Ascends ops opening.base l) (sym (made_here j same)) (above, i.ascend n))
                (λ other. subst (λ l. Ascends ops opening.base l)
                (sym (pushed_else made n (placed (length history) m) j other)) (i.ascend j));
            durable = λ j.
                let was = i.durable j in
                dite (ℕ_discrete j n)
                (λ same.
                let now : last_llsn ops opening.base (MadeNow j) ≡ ops.mtr_llsn m = ap (last_llsn ops opening.base)
                (made_here j same) in
                let before : last_llsn ops opening.base (made j) ≡ last_llsn ops opening.base (made n) =
                ap (λ l. last_llsn ops opening.base (made l)) same in
                (was.0, omega arith))
                (λ other. subst (λ l. (opening.base ≤ durable_llsn opening.base (durables j))
                × (durable_llsn opening.base (durables j) ≤ last_llsn ops opening.base l))
                (sym (pushed_else made n (placed (length history) m) j other)) was);
            few = λ j.
                dite (ℕ_discrete j n)
                (λ same. let now : length (MadeNow j) ≡ length (made n) + 1 = ap length (made_here j same)
                ∙ omega arith in omega arith)
                (λ other. subst (λ l. length l ≤ MOST_MTRS)
                (sym (pushed_else made n (placed (length history) m) j other)) (i.few j));
            counted = let more = total_length_pushed made n (placed (length history) m) (opening.primaries + 1)
                (omega arith) in let count = i.counted in omega arith;
            last = λ j.
                let was = i.last j in
                dite (ℕ_discrete j n)
                (λ same. subst (λ l. last_llsn ops opening.base l ≤ opening.base + length (m ∷ history))
                (sym (made_here j same)) within)
                (λ other. subst (λ l. last_llsn ops opening.base l ≤ opening.base + length (m ∷ history))
                (sym (pushed_else made n (placed (length history) m) j other)) (omega arith));
            told = λ j. let was = i.told j in omega arith;
            pages = λ k.
                let was = i.pages k in
                ⊎_elim
                (λ (touch : is_touched k (ops.touches m) ≡ true). let now =
                touched_llsn ops laws opening history m k on touch in omega arith)
                (λ (apart : is_touched k (ops.touches m) ≡ false). let now = ap (llsn_at ops)
                (untouched_same ops laws opening m k apart (folded ops opening history k)) in omega arith)
                (cases_Bool (is_touched k (ops.touches m)));
          }

      pub history_make : IsPagesNode opening n → ops.maker_of m ≡ n → GoesOn ops opening history m
          → MtrHistory ops opening history made → MtrHistory ops opening (m ∷ history) MadeNow
      history_make node own on h = record {
        makers = λ x is. ⊎_elim (λ (e : x ≡ m). subst (λ j. IsPagesNode opening j)
            (sym (ap ops.maker_of e ∙ own)) node) (λ (old : IsIn x history). h.makers x old) is;
        own = λ j.
            dite (ℕ_discrete j n)
            (λ same.
            made_here j same
            ∙ ap (λ l. placed (length history) m ∷ l) (h.own n ∙ ap (λ l. made_by ops l history) (sym same))
            ∙ sym (if_equal (ops.maker_of m) j (placed (length history) m ∷ made_by ops j history)
            (made_by ops j history) (own ∙ sym same)))
            (λ other.
            pushed_else made n (placed (length history) m) j other
            ∙ h.own j
            ∙ sym (if_differs (ops.maker_of m) j (placed (length history) m ∷ made_by ops j history)
            (made_by ops j history) (λ e. other (sym e ∙ own))));
        order = (on, h.order);
      }
