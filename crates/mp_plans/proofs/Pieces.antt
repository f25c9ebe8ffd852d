-- Parts of a plan that change three pages, each once, and the place of a new child.
use Rattle.std.proofs.Common.{◌≡◌, ◌≢◌, ℕ, ◌+◌, ◌<◌, ◌≤◌, ◌==◌, not, Bool, true, false, cond, List, [], ◌∷◌, ◌++◌, length, Some, None, refl, sym, ap, subst, ◌∙◌, inl, inr, arith}
use Rattle.std.proofs.lemmas.Bool.{cases_eq, eq-eqb, and_from, lt-ltb}
use Rattle.std.proofs.lemmas.Bool.Decides.{nat_tests}
use Rattle.mp_cells.specs.declared.changes.Change.{Change}
use Rattle.mp_cells.specs.declared.kinds.Kind.TheVariants.{Inner}
use Rattle.mp_cells.specs.declared.changes.Change.TheVariants.{PutChild}
use Rattle.mp_cells.specs.declared.children.Child.{Child}
use Rattle.mp_cells.specs.PageView.{PageView}
use Rattle.mp_cells.specs.Keys.{holds, with_cell}
use Rattle.mp_cells.specs.Changes.{applied, takes_child}
use Rattle.mp_cells.specs.Trees.{PageMap, low_of, uses}
use Rattle.mp_cells.proofs.KeyOrder.{Rises, absent_above}
use Rattle.mp_cells.specs.Plans.{Plan, after_plan, Meets, of_page, after_changes, MeetsAll}
use Rattle.mp_cells.proofs.ByPage.{after_plan-page, Meets-from_pages}
use Rattle.mp_cells.proofs.Heights.{numbers}
use Rattle.mp_plans.proofs.Reshaping.{can_apply, changed_is}
use Rattle.mp_plans.proofs.Steps.{kind_test}
use Rattle.mp_plans.proofs.Halves.{split_at, put_between}

-- ---- plans by their pages

pub of_page-here : (n m : ℕ) (change : Change) (plan : Plan) → n ≡ m → of_page n ((m, change) ∷ plan) ≡ change ∷ of_page n plan
of_page-here n m change plan e = ap (λ (b : Bool). cond b (change ∷ of_page n plan) (of_page n plan)) (eq-eqb n m e)

pub of_page-other : (n m : ℕ) (change : Change) (plan : Plan) → n ≢ m → of_page n ((m, change) ∷ plan) ≡ of_page n plan
of_page-other n m change plan apart = let test : (n == m) ≡ false = grind (arith, nat_tests) in ap (λ (b : Bool). cond b (change ∷ of_page n plan) (of_page n plan)) test

-- three pages, each changed once
pub record Three (pages : PageMap) (a b c : ℕ) (A B C : PageView) (plan : Plan) : Type 0 where
  pub meets : Meets plan pages
  pub at_a : after_plan plan pages a ≡ A
  pub at_b : after_plan plan pages b ≡ B
  pub at_c : after_plan plan pages c ≡ C
  pub others : (n : ℕ) → n ≢ a → n ≢ b → n ≢ c → after_plan plan pages n ≡ pages n

pub three : (pages : PageMap) (a b c : ℕ) (f g h : Change) (A B C : PageView) → a ≢ b → a ≢ c → b ≢ c → applied f (pages a) ≡ Some A → applied g (pages b) ≡ Some B → applied h (pages c) ≡ Some C → Three pages a b c A B C ((a, f) ∷ (b, g) ∷ (c, h) ∷ [])
three pages a b c f g h A B C ab ac bc fa gb hc =
    let plan : Plan = (a, f) ∷ (b, g) ∷ (c, h) ∷ [] in
    let ba : b ≢ a = λ (e : b ≡ a). ab (sym e) in
    let ca : c ≢ a = λ (e : c ≡ a). ac (sym e) in
    let cb : c ≢ b = λ (e : c ≡ b). bc (sym e) in
    let of_a : of_page a plan ≡ f ∷ [] = of_page-here a a f ((b, g) ∷ (c, h) ∷ []) refl ∙ ap (λ (xs : List Change). f ∷ xs) (of_page-other a b g ((c, h) ∷ []) ab ∙ of_page-other a c h [] ac) in
    let of_b : of_page b plan ≡ g ∷ [] = of_page-other b a f ((b, g) ∷ (c, h) ∷ []) ba ∙ of_page-here b b g ((c, h) ∷ []) refl ∙ ap (λ (xs : List Change). g ∷ xs) (of_page-other b c h [] bc) in
    let of_c : of_page c plan ≡ h ∷ [] = of_page-other c a f ((b, g) ∷ (c, h) ∷ []) ca ∙ of_page-other c b g ((c, h) ∷ []) cb ∙ of_page-here c c h [] refl in
    let of_n : (n : ℕ) → n ≢ a → n ≢ b → n ≢ c → of_page n plan ≡ [] = λ n na nb nc. of_page-other n a f ((b, g) ∷ (c, h) ∷ []) na ∙ of_page-other n b g ((c, h) ∷ []) nb ∙ of_page-other n c h [] nc in
    record {
      meets = Meets-from_pages plan pages (λ n. elim (cases_eq n a) [
        | inl same ↦ subst (λ (k : ℕ). MeetsAll (of_page k plan) (pages k)) (sym same) (subst (λ (xs : List Change). MeetsAll xs (pages a)) (sym of_a) (can_apply f (pages a) A fa, tt))
        | inr na ↦ elim (cases_eq n b) [
          | inl same ↦ subst (λ (k : ℕ). MeetsAll (of_page k plan) (pages k)) (sym same) (subst (λ (xs : List Change). MeetsAll xs (pages b)) (sym of_b) (can_apply g (pages b) B gb, tt))
          | inr nb ↦ elim (cases_eq n c) [
            | inl same ↦ subst (λ (k : ℕ). MeetsAll (of_page k plan) (pages k)) (sym same) (subst (λ (xs : List Change). MeetsAll xs (pages c)) (sym of_c) (can_apply h (pages c) C hc, tt))
            | inr nc ↦ subst (λ (xs : List Change). MeetsAll xs (pages n)) (sym (of_n n na nb nc)) tt
          ]
        ]
      ]);
      at_a = after_plan-page plan pages a ∙ ap (λ (xs : List Change). after_changes xs (pages a)) of_a ∙ changed_is f (pages a) A fa;
      at_b = after_plan-page plan pages b ∙ ap (λ (xs : List Change). after_changes xs (pages b)) of_b ∙ changed_is g (pages b) B gb;
      at_c = after_plan-page plan pages c ∙ ap (λ (xs : List Change). after_changes xs (pages c)) of_c ∙ changed_is h (pages c) C hc;
      others = λ n na nb nc. after_plan-page plan pages n ∙ ap (λ (xs : List Change). after_changes xs (pages n)) (of_n n na nb nc);
    }

-- ---- a new child between a child and the next

-- where a child stands among rising ones
pub record ChildAt (m low high : ℕ) (children : List Child) : Type 0 where
  pub before : List Child
  pub child : Child
  pub behind : List Child
  pub whole : children ≡ before ++ child ∷ behind
  pub page_is : child.page ≡ m
  pub not_before : uses m (numbers before) ≡ 0
  pub not_behind : uses m (numbers behind) ≡ 0
  pub from : low ≤ child.low
  pub until : low_of behind high ≤ high

pub lower : (low high : ℕ) (before : List Child) (child : Child) (behind : List Child) → Rises (λ c. c.low) low high (before ++ child ∷ behind) → (low ≤ child.low) × (low_of behind high ≤ high)
lower low high [] child behind r = (r.0, next behind r.2)
  where
    next : (ys : List Child) → Rises (λ c. c.low) (child.low + 1) high ys → low_of ys high ≤ high
    next [] s = omega arith
    next (y ∷ ys) s = omega (arith, s.1)
lower low high (b ∷ before) child behind r = let rest = lower (b.low + 1) high before child behind r.2 in (omega (arith, r.0, rest.0), rest.1)

pub not_held : (low high key : ℕ) (before : List Child) (child : Child) (behind : List Child) → Rises (λ c. c.low) low high (before ++ child ∷ behind) → child.low < key → key < low_of behind high → holds (λ c. c.low) key (before ++ child ∷ behind) ≡ false
not_held low high key [] child behind r above below = let none = none_from behind (child.low + 1) r.2 below in grind (arith, nat_tests, none)
  where
    none_from : (ys : List Child) (from : ℕ) → Rises (λ c. c.low) from high ys → key < low_of ys high → holds (λ c. c.low) key ys ≡ false
    none_from [] from s lt = refl
    none_from (y ∷ ys) from s lt = grind (arith, nat_tests, absent_above (λ (c : Child). c.low) key (y.low + 1) high ys s.2 (omega arith))
not_held low high key (b ∷ before) child behind r above below =
    let under = lower (b.low + 1) high before child behind r.2 in
    let rest = not_held (b.low + 1) high key before child behind r.2 above below in
    grind (arith, nat_tests, rest, under.0)

-- so the parent takes it, right behind that child
pub child_fits : (page : PageView) (m : ℕ) (new : Child) (before : List Child) (child : Child) (behind : List Child) → page.kind ≡ Inner → page.children ≡ before ++ child ∷ behind → Rises (λ c. c.low) page.low page.high page.children → child.page ≡ m → uses m (numbers before) ≡ 0 → uses m (numbers behind) ≡ 0 → child.low < new.low → new.low < low_of behind page.high → length page.children < 124
    → (applied (PutChild new) page ≡ Some (record page { children = with_cell (λ c. c.low) new page.children })) × (with_cell (λ c. c.low) new page.children ≡ split_at m new page.children)
child_fits page m new before child behind kind whole rises is none_before none_behind above below room =
    let r : Rises (λ c. c.low) page.low page.high (before ++ child ∷ behind) = subst (Rises (λ (c : Child). c.low) page.low page.high) whole rises in
    let bounds = lower page.low page.high before child behind r in
    let held : holds (λ c. c.low) new.low page.children ≡ false = ap (holds (λ (c : Child). c.low) new.low) whole ∙ not_held page.low page.high new.low before child behind r above below in
    let low_test = lt-ltb page.low new.low (omega (arith, bounds.0)) in
    let high_test = lt-ltb new.low page.high (omega (arith, bounds.1)) in
    let free : not (holds (λ c. c.low) new.low page.children) ≡ true = ap not held in
    let test : takes_child new page ≡ true = and_from _ _ (and_from _ _ (and_from _ _ (and_from _ _ (kind_test Inner page kind) low_test) high_test) free) (lt-ltb (length page.children) 124 room) in (
      ap (λ (b : Bool). cond b (Some (record page { children = with_cell (λ c. c.low) new page.children })) None) test,
      ap (with_cell (λ (c : Child). c.low) new) whole ∙ put_between m page.low page.high new child before behind r is none_before none_behind above below ∙ ap (split_at m new) (sym whole),
    )
