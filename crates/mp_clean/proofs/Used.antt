-- A level that fits uses each page once at most, and a search for a page's low fence comes to it there.
use Rattle.std.proofs.Common.{◌≡◌, ◌≢◌, ℕ, zero, suc, ◌<◌, ◌≤◌, ◌==◌, List, [], ◌∷◌, ◌++◌, refl, ap, subst, inl, inr, arith}
use Rattle.std.specs.List.{AllByRecursion}
use Rattle.std.proofs.lemmas.Bool.{cases_eq}
use Rattle.mp_cells.specs.declared.kinds.Kind.TheVariants.{Leaf, Inner}
use Rattle.mp_cells.specs.declared.children.Child.{Child}
use Rattle.mp_cells.specs.Children.{IsChild}
use Rattle.mp_cells.specs.PageView.{PageView, IsPage}
use Rattle.mp_cells.specs.Trees.{PageMap, top, root, low_of, Fits, below, Levels, leaves, pages_under, child_at, leaf_at, uses}
use Rattle.mp_cells.proofs.ChildSpelling.{child_page_range}
use Rattle.mp_cells.proofs.Heights.{numbers}
use Rattle.mp_cells.proofs.Places.{not_in_level, parts_uses, in_parts}
use Rattle.mp_cells.proofs.Spare.{leaf_facts, inner_facts}
use Rattle.mp_cells.proofs.TreeSearch.{InRange, IsAt, below_in_range, fits_parts, goes_down}
use Rattle.mp_cells.proofs.Uses.{uses-append, one_if-same, one_if-other, one_if-is, one_if-most}
use Rattle.mp_clean.specs.CleanPages.{kind_above}

-- the fences of a page of the tree
pub fence_range : (height : ℕ) (page : PageView) → IsPage page → page.kind ≡ kind_above height → (page.low < page.high) × (page.high ≤ top)
fence_range zero page h e = let f = leaf_facts page h e in (f.low_below, f.high_most)
fence_range (suc height) page h e = let f = inner_facts page h e in (f.low_below, f.high_most)

module _ (pages : PageMap) (sound : (n : ℕ) → n < 4096 → IsPage (pages n)) (height : ℕ) where
  level_bound : (high : ℕ) (level : List Child) → InRange level → Fits pages (kind_above height) high level → low_of level high ≤ high
  level_bound high [] r f = omega arith
  level_bound high (child ∷ level) r f = omega (arith, (fence_range height (pages child.page) (sound child.page r.0) f.0).0, f.1, f.2, level_bound high level r.1 f.3)

  -- a page that begins before a level isn't in it
  not_behind : (high n : ℕ) (level : List Child) → InRange level → Fits pages (kind_above height) high level → (pages n).low < low_of level high → uses n (numbers level) ≡ 0
  not_behind high n [] r f lt = refl
  not_behind high n (child ∷ level) r f lt =
      let here = fence_range height (pages child.page) (sound child.page r.0) f.0 in
      let apart : child.page ≢ n = λ (e : child.page ≡ n). absurd (omega (arith, lt, f.1, ap (λ (m : ℕ). (pages m).low) e)) in
      omega (arith, one_if-other child.page n apart, not_behind high n level r.1 f.3 (omega (arith, lt, here.0, f.1, f.2)))

  -- nor one that begins behind it
  not_before : (high n : ℕ) (level : List Child) → InRange level → Fits pages (kind_above height) high level → high ≤ (pages n).low → uses n (numbers level) ≡ 0
  not_before high n [] r f le = refl
  not_before high n (child ∷ level) r f le =
      let here = fence_range height (pages child.page) (sound child.page r.0) f.0 in
      let end = level_bound high level r.1 f.3 in
      let apart : child.page ≢ n = λ (e : child.page ≡ n). absurd (omega (arith, le, here.0, f.2, end, ap (λ (m : ℕ). (pages m).low) e)) in
      omega (arith, one_if-other child.page n apart, not_before high n level r.1 f.3 le)

  pub used_most : (high n : ℕ) (level : List Child) → InRange level → Fits pages (kind_above height) high level → uses n (numbers level) ≤ 1
  used_most high n [] r f = omega arith
  used_most high n (child ∷ level) r f = elim (cases_eq child.page n) [
    | inl same ↦
        let here = fence_range height (pages child.page) (sound child.page r.0) f.0 in
        let rest = not_behind high n level r.1 f.3 (omega (arith, here.0, f.2, ap (λ (m : ℕ). (pages m).low) same)) in
        omega (arith, one_if-most (child.page == n), rest)
    | inr other ↦ omega (arith, one_if-other child.page n other, used_most high n level r.1 f.3)
  ]

  -- the child at a key is the page of the level that begins there
  pub at_this : (key high n : ℕ) (level : List Child) (child : Child) → IsAt key high level child → InRange level → Fits pages (kind_above height) high level
      → (pages n).low ≡ key → 1 ≤ uses n (numbers level) → child.page ≡ n
  at_this key high n level child at r f low some =
      let range = in_parts at.before child at.behind (subst InRange at.whole r) in
      let parts = fits_parts pages (kind_above height) high at.before child at.behind (subst (Fits pages (kind_above height) high) at.whole f) in
      let front = not_before child.low n at.before range.0 parts.front (omega (arith, low, at.from)) in
      let back = not_behind high n at.behind range.1 parts.back (omega (arith, low, at.until)) in
      let all : uses n (numbers level) ≡ uses n (numbers (at.before ++ child ∷ at.behind)) = ap (λ (xs : List Child). uses n (numbers xs)) at.whole in
      one_if-is child.page n (omega (arith, some, all, parts_uses n child.page at.before child at.behind refl, front, back))

-- a page that a search comes to is in the level
pub at_used : (key high n : ℕ) (level : List Child) (child : Child) → IsAt key high level child → child.page ≡ n → 1 ≤ uses n (numbers level)
at_used key high n level child at e =
    let all : uses n (numbers level) ≡ uses n (numbers (at.before ++ child ∷ at.behind)) = ap (λ (xs : List Child). uses n (numbers xs)) at.whole in
    omega (arith, all, parts_uses n n at.before child at.behind e, one_if-same n)

-- where a search comes to among the leaves
pub at_leaf : (pages : PageMap) → ((n : ℕ) → n < 4096 → IsPage (pages n)) → (key height : ℕ) (level : List Child) (child : Child) → InRange level → Levels pages height level
    → IsAt key top level child → IsAt key top (leaves pages height level) (leaf_at pages height key child)
at_leaf pages sound key zero level child r l at = at
at_leaf pages sound key (suc height) level child r l at =
    at_leaf pages sound key height (below pages level) (child_at key (pages child.page).children) (below_in_range pages sound top level r l.0) l.1 (goes_down pages sound key top level child r l.0 at)

pub at_root : (key : ℕ) → key < top → IsAt key top (root ∷ []) root
at_root key lt = record { before = []; behind = []; whole = refl; from = omega arith; until = lt }

-- a page of another kind is in no level
pub not_under : (pages : PageMap) (height n : ℕ) (level : List Child) → Levels pages height level → (pages n).kind ≢ Leaf → (pages n).kind ≢ Inner → uses n (pages_under pages height level) ≡ 0
not_under pages zero n level l leaf inner = not_in_level pages Leaf top n level l leaf
not_under pages (suc height) n level l leaf inner =
    omega (arith, uses-append n (numbers level) (pages_under pages height (below pages level)), not_in_level pages Inner top n level l.0 inner, not_under pages height n (below pages level) l.1 leaf inner)

-- no child is the root
abbrev pub NotRoot : Child → Type 0
NotRoot child = child.page ≢ 1

pub children_apart : (children more : List Child) → AllByRecursion IsChild children → AllByRecursion NotRoot more → AllByRecursion NotRoot (children ++ more)
children_apart [] more h k = k
children_apart (child ∷ children) more h k = ((λ (e : child.page ≡ 1). absurd (omega (arith, e, (child_page_range child.page h.0.page).0))), children_apart children more h.1 k)

pub apart_unused : (level : List Child) → AllByRecursion NotRoot level → uses 1 (numbers level) ≡ 0
apart_unused [] h = refl
apart_unused (child ∷ level) h = omega (arith, one_if-other child.page 1 h.0, apart_unused level h.1)
