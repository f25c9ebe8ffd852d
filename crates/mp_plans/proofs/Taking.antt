-- Several pages are taken: each is spare then, and nothing else changes.
use Rattle.mp_plans.specs.Fitting.{IsClear}
use Rattle.std.proofs.Common.{◌≡◌, ◌≢◌, ℕ, ◌+◌, ◌<◌, ◌≤◌, Bool, true, cond, List, [], ◌∷◌, Some, None, refl, ap, ◌∙◌, arith}
use Rattle.std.specs.List.{AllByRecursion}
use Rattle.std.proofs.lemmas.Bool.{and_from, eq-eqb, le-leb, lt-ltb}
use Rattle.mp_cells.specs.declared.changes.Change.TheVariants.{TakePage}
use Rattle.mp_cells.specs.declared.kinds.Kind.TheVariants.{Meta}
use Rattle.mp_cells.specs.PageView.{PageView, bit_of, with_bit}
use Rattle.mp_cells.specs.Changes.{applied, takes_page}
use Rattle.mp_cells.specs.Trees.{PageMap, uses}
use Rattle.mp_cells.specs.Plans.{Plan, after_plan, with_page}
use Rattle.mp_plans.specs.Growth.{takes}
use Rattle.mp_cells.proofs.ByPage.{with_page-here, with_page-other}
use Rattle.mp_cells.proofs.Uses.{one_if-same, uses-head}
use Rattle.mp_cells.proofs.Bits.{with_bit-other}
use Rattle.mp_cells.proofs.Spare.{TreeWith, content_of}
use Rattle.mp_plans.proofs.Reshaping.{changed_is, Reshapes, reshapes_none, reshapes_then}
use Rattle.mp_plans.proofs.Steps.{kind_test, take_step}

-- spare pages in another order
pub respare : (spare spare' : List ℕ) (pages : PageMap) (height : ℕ) → ((n : ℕ) → uses n spare ≡ uses n spare') → TreeWith spare pages height → TreeWith spare' pages height
respare spare spare' pages height same tree = record {
  sound = tree.sound;
  meta = tree.meta;
  levels = tree.levels;
  leaf_fill = tree.leaf_fill;
  inner_fill = tree.inner_fill;
  root_fill = tree.root_fill;
  bits = λ n lt. omega (arith, tree.bits n lt, same n);
  blank = tree.blank;
  unused = λ n lt h. tree.unused n lt (omega (arith, h, same n));
}

pub respared : (spare spare' spare'' : List ℕ) (plan : Plan) (pages : PageMap) (height height' : ℕ) → ((n : ℕ) → uses n spare' ≡ uses n spare'') → Reshapes spare spare' plan pages height height' → Reshapes spare spare'' plan pages height height'
respared spare spare' spare'' plan pages height height' same r = record { changes = r.changes; meets = r.meets; tree = respare spare' spare'' (after_plan plan pages) height' same r.tree; rows = r.rows; undo = r.undo }

pub record Taken (spare : List ℕ) (numbers : List ℕ) (pages : PageMap) (height : ℕ) : Type 0 where
  pub spare_after : List ℕ
  pub counts : (n : ℕ) → uses n spare_after ≡ uses n spare + uses n numbers
  pub shape : Reshapes spare spare_after (takes numbers) pages height height
  pub others : (n : ℕ) → n ≢ 0 → after_plan (takes numbers) pages n ≡ pages n

all_clear : (numbers : List ℕ) (meta new : PageView) (m : ℕ) → ((n : ℕ) → n < 4096 → n ≢ m → bit_of new.bits n ≡ bit_of meta.bits n) → uses m numbers ≡ 0 → AllByRecursion (IsClear meta) numbers → AllByRecursion (IsClear new) numbers
all_clear [] meta new m same none h = tt
all_clear (n ∷ numbers) meta new m same none h =
    let parts = uses-head m n numbers none in
    ((h.0.0, h.0.1, same n h.0.1 parts.0 ∙ h.0.2), all_clear numbers meta new m same parts.1 h.1)

pub take_all : (spare : List ℕ) (numbers : List ℕ) (pages : PageMap) (height : ℕ) → TreeWith spare pages height → AllByRecursion (IsClear (pages 0)) numbers → ((n : ℕ) → uses n numbers ≤ 1) → Taken spare numbers pages height
take_all spare [] pages height tree clear once = record { spare_after = spare; counts = λ n. omega arith; shape = reshapes_none spare pages height tree; others = λ n h. refl }
take_all spare (m ∷ numbers) pages height tree clear once =
    let first = take_step spare pages height m tree clear.0.0 clear.0.1 clear.0.2 in
    let old = pages 0 in
    let page : PageView = record old { bits = with_bit old.bits m } in
    let test : takes_page m old ≡ true = and_from _ _ (and_from _ _ (and_from _ _ (kind_test Meta old tree.meta) (le-leb 2 m clear.0.0)) (lt-ltb m 4096 clear.0.1)) (eq-eqb (bit_of old.bits m) 0 clear.0.2) in
    let is : applied (TakePage m) old ≡ Some page = ap (λ (b : Bool). cond b (Some page) None) test in
    let after : after_plan ((0, TakePage m) ∷ []) pages ≡ with_page pages 0 page = ap (with_page pages 0) (changed_is (TakePage m) old page is) in
    let new = after_plan ((0, TakePage m) ∷ []) pages in
    let at_zero : new 0 ≡ page = ap (λ (p : PageMap). p 0) after ∙ with_page-here pages 0 page in
    let bits = (content_of Meta old (tree.sound 0 (omega arith)) tree.meta).1 in
    let none : uses m numbers ≡ 0 = omega (arith, once m, one_if-same m) in
    let rest = take_all (m ∷ spare) numbers new height first.tree (all_clear numbers old (new 0) m (λ n lt other. ap (λ (p : PageView). bit_of p.bits n) at_zero ∙ with_bit-other old.bits m n clear.0.1 bits other) none clear.1) (λ n. omega (arith, once n)) in
    record {
      spare_after = rest.spare_after;
      counts = λ n. omega (arith, rest.counts n);
      shape = reshapes_then spare (m ∷ spare) rest.spare_after ((0, TakePage m) ∷ []) (takes numbers) pages height height height first rest.shape;
      others = λ n h. rest.others n h ∙ ap (λ (p : PageMap). p n) after ∙ with_page-other pages 0 page n h;
    }
