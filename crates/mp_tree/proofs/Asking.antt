-- Calls on a pager one after another.
use Rattle.std.proofs.Common.{◌≡◌, ℕ, ◌+◌, ◌-◌, ◌^◌, ◌≤◌, min, List, [], ◌∷◌, ◌++◌, length, Some, Result, Ok, Err, refl, subst, ◌∙◌, arith}
use Rattle.std.specs.Borrow.{Bor}
use Rattle.std.specs.List.{AllByRecursion}
use Rattle.std.proofs.lemmas.List.{length-append}
use Rattle.mp_model.specs.declared.waiting.NotYet.{NotYet}
use Rattle.mp_cells.specs.PageView.{PageView}
use Rattle.mp_cells.specs.Trees.{PageMap, uses}
use Rattle.mp_cells.proofs.KeyEdits.{All-append}
use Rattle.mp_cells.proofs.Uses.{uses-append, uses-head, one_if-same}
use Rattle.mp_page.specs.Pagers.{Handed, Extends, Hands}
use Rattle.mp_tree.specs.Searches.{Asks}

-- calls that have waited for nothing so far
pub record Unwaited {P : Type 0} (handed : P → Handed) (waits : P → ℕ) (last : P → NotYet) (follows : P → P → Type 0) (May : PageMap → ℕ → Type 0) (most : ℕ) (old new : P) : Type 0 where
  pub same : follows old new
  pub kept : (n : ℕ) (page : PageView) → handed old n ≡ Some page → handed new n ≡ Some page
  pub waits_same : waits new ≡ waits old
  pub last_same : last new ≡ last old
  pub asked : List ℕ
  pub few : length asked ≤ most
  pub may : (pages : PageMap) → Extends pages (handed new) → AllByRecursion (May pages) asked
  pub others : (n : ℕ) → uses n asked ≡ 0 → handed new n ≡ handed old n

-- a map that has what is handed out later has what was handed out before
pub extends_before : {P : Type 0} (handed : P → Handed) (old new : P) (pages : PageMap) → ((n : ℕ) (page : PageView) → handed old n ≡ Some page → handed new n ≡ Some page) → Extends pages (handed new) → Extends pages (handed old)
extends_before handed old new pages kept e = λ n page h. e n page (kept n page h)

-- what two lists don't use neither of them uses
pub parts_unused : (n : ℕ) (xs ys : List ℕ) → uses n (xs ++ ys) ≡ 0 → (uses n xs ≡ 0) × (uses n ys ≡ 0)
parts_unused n xs ys h = (omega (arith, h, uses-append n xs ys), omega (arith, h, uses-append n xs ys))

not_itself : (n : ℕ) (number : ℕ) → uses n (number ∷ []) ≡ 0 → n ≡ number → ⊥
not_itself n number h e = (uses-head n number [] h).0 (e' n number e)
  where
    e' : (n number : ℕ) → n ≡ number → number ≡ n
    e' n number e = omega (arith, e)

module _ {P : Type 0} (handed : P → Handed) (waits : P → ℕ) (last : P → NotYet) (follows : P → P → Type 0) (withholds : P → ℕ → Type 0) (May : PageMap → ℕ → Type 0) where
  pub asked_none : ((p : P) → follows p p) → (most : ℕ) (p : P) → Unwaited handed waits last follows May most p p
  asked_none self most p = record { same = self p; kept = λ n page h. h; waits_same = refl; last_same = refl; asked = []; few = omega arith; may = λ pages e. tt; others = λ n none. refl }

  pub asked_more : ((a b c : P) → follows a b → follows b c → follows a c) → (m k most : ℕ) → m + k ≤ most → (old mid new : P) → Unwaited handed waits last follows May m old mid → Unwaited handed waits last follows May k mid new → Unwaited handed waits last follows May most old new
  asked_more on m k most le old mid new a b = record {
    same = on old mid new a.same b.same;
    kept = λ n page h. b.kept n page (a.kept n page h);
    waits_same = b.waits_same ∙ a.waits_same;
    last_same = b.last_same ∙ a.last_same;
    asked = a.asked ++ b.asked;
    few = omega (arith, le, a.few, b.few, length-append a.asked b.asked);
    may = λ pages e. All-append (May pages) a.asked b.asked (a.may pages (extends_before handed mid new pages b.kept e)) (b.may pages e);
    others = λ n none. let parts = parts_unused n a.asked b.asked none in b.others n parts.1 ∙ a.others n parts.0;
  }

  -- one page more
  pub asked_page : (old new : P) (number : ℕ) (result : Result (Bor PageView) NotYet) (page : Bor PageView) → ((pages : PageMap) → Extends pages (handed new) → May pages number) → Hands handed waits last follows withholds old new number result → result ≡ Ok page
      → Unwaited handed waits last follows May 1 old new × (handed new number ≡ Some page.now)
  asked_page old new number result page may h e =
      let t = subst (Hands handed waits last follows withholds old new number) e h in (
        record {
          same = t.same;
          kept = t.kept;
          waits_same = t.quiet.0;
          last_same = t.quiet.1;
          asked = number ∷ [];
          few = omega arith;
          may = λ pages k. (may pages k, tt);
          others = λ n none. t.others n (not_itself n number none);
        },
        t.page,
      )

  -- the calls end well, or wait
  pub asked_all : {A : Type 0} (most : ℕ) (old new : P) (value : A) → Unwaited handed waits last follows May most old new → Asks {A = A} handed waits last follows withholds May most old new (Ok value)
  asked_all most old new value a = record { same = a.same; kept = a.kept; quiet = (a.waits_same, a.last_same); waited = tt; asked = a.asked; few = a.few; may = a.may; others = a.others; withheld = tt }

  pub asked_wait : (A : Type 0) → ((a b c : P) → follows a b → follows b c → follows a c) → (m most : ℕ) → m + 1 ≤ most → (old mid new : P) (number : ℕ) (result : Result (Bor PageView) NotYet) (wait : NotYet) → ((pages : PageMap) → Extends pages (handed new) → May pages number)
      → Unwaited handed waits last follows May m old mid → Hands handed waits last follows withholds mid new number result → result ≡ Err wait → Asks {A = A} handed waits last follows withholds May most old new (Err wait)
  asked_wait A on m most le old mid new number result wait may a h e =
      let t = subst (Hands handed waits last follows withholds mid new number) e h in
      record {
        same = on old mid new a.same t.same;
        kept = λ n page k. t.kept n page (a.kept n page k);
        quiet = tt;
        waited = (subst (λ (w : ℕ). min (w + 1) (2 ^ 64 - 1) ≤ waits new) a.waits_same t.waited.1, t.waited.2);
        asked = a.asked ++ number ∷ [];
        few = omega (arith, le, a.few, length-append a.asked (number ∷ []));
        may = λ pages k. All-append (May pages) a.asked (number ∷ []) (a.may pages (extends_before handed mid new pages t.kept k)) (may pages k, tt);
        others = λ n none. let parts = parts_unused n a.asked (number ∷ []) none in t.others n (not_itself n number parts.1) ∙ a.others n parts.0;
        withheld = (number, omega (arith, uses-append number a.asked (number ∷ []), one_if-same number), t.withheld);
      }

  -- what a call that asks answers
  pub asks_ok : {A : Type 0} (most : ℕ) (old new : P) (result : Result A NotYet) (value : A) → Asks handed waits last follows withholds May most old new result → result ≡ Ok value → Unwaited handed waits last follows May most old new
  asks_ok {A} most old new result value h e =
      let t = subst (Asks {A = A} handed waits last follows withholds May most old new) e h in
      record { same = t.same; kept = t.kept; waits_same = t.quiet.0; last_same = t.quiet.1; asked = t.asked; few = t.few; may = t.may; others = t.others }

  pub asks_wait : {A : Type 0} (B : Type 0) → ((a b c : P) → follows a b → follows b c → follows a c) → (m k most : ℕ) → m + k ≤ most → (old mid new : P) (result : Result A NotYet) (wait : NotYet)
      → Unwaited handed waits last follows May m old mid → Asks handed waits last follows withholds May k mid new result → result ≡ Err wait → Asks {A = B} handed waits last follows withholds May most old new (Err wait)
  asks_wait {A} B on m k most le old mid new result wait a h e =
      let t = subst (Asks {A = A} handed waits last follows withholds May k mid new) e h in
      record {
        same = on old mid new a.same t.same;
        kept = λ n page x. t.kept n page (a.kept n page x);
        quiet = tt;
        waited = (subst (λ (w : ℕ). min (w + 1) (2 ^ 64 - 1) ≤ waits new) a.waits_same t.waited.0, t.waited.1);
        asked = a.asked ++ t.asked;
        few = omega (arith, le, a.few, t.few, length-append a.asked t.asked);
        may = λ pages x. All-append (May pages) a.asked t.asked (a.may pages (extends_before handed mid new pages t.kept x)) (t.may pages x);
        others = λ n none. let parts = parts_unused n a.asked t.asked none in t.others n parts.1 ∙ a.others n parts.0;
        withheld = (t.withheld.0, omega (arith, t.withheld.1, uses-append t.withheld.0 a.asked t.asked), t.withheld.2);
      }

-- the pages that may be asked for are among others that may be
pub all_wider : (P Q : ℕ → Type 0) → ((n : ℕ) → P n → Q n) → (xs : List ℕ) → AllByRecursion P xs → AllByRecursion Q xs
all_wider P Q f [] h = tt
all_wider P Q f (x ∷ xs) h = (f x h.0, all_wider P Q f xs h.1)

pub asks_wider : {P : Type 0} {A : Type 0} (handed : P → Handed) (waits : P → ℕ) (last : P → NotYet) (follows : P → P → Type 0) (withholds : P → ℕ → Type 0) (May Other : PageMap → ℕ → Type 0) → ((pages : PageMap) (n : ℕ) → May pages n → Other pages n)
    → (most : ℕ) (old new : P) (result : Result A NotYet) → Asks handed waits last follows withholds May most old new result → Asks handed waits last follows withholds Other most old new result
asks_wider handed waits last follows withholds May Other f most old new result t = record {
  same = t.same;
  kept = t.kept;
  quiet = t.quiet;
  waited = t.waited;
  asked = t.asked;
  few = t.few;
  may = λ pages e. all_wider (May pages) (Other pages) (f pages) t.asked (t.may pages e);
  others = t.others;
  withheld = t.withheld;
}
