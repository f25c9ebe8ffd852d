-- A level fits where the children of each page above it do.
use Rattle.std.proofs.Common.{◌≡◌, ℕ, ◌<◌, List, [], ◌∷◌, ◌++◌, refl, sym, subst, ◌∙◌}
use Rattle.std.specs.List.{AllByRecursion}
use Rattle.mp_cells.specs.declared.kinds.Kind.{Kind}
use Rattle.mp_cells.specs.declared.kinds.Kind.TheVariants.{Inner}
use Rattle.mp_cells.specs.declared.children.Child.{Child}
use Rattle.mp_cells.specs.PageView.{IsPage}
use Rattle.mp_cells.specs.Trees.{PageMap, low_of, Fits, below}
use Rattle.mp_cells.proofs.TreeSearch.{InRange, low_of-below}

-- one part of a level after another
fits_joined : (pages : PageMap) (kind : Kind) (mid high : ℕ) (xs ys : List Child) → Fits pages kind mid xs → Fits pages kind high ys → low_of ys high ≡ mid → Fits pages kind high (xs ++ ys)
fits_joined pages kind mid high [] ys f g e = g
fits_joined pages kind mid high (x ∷ xs) ys f g e = (f.0, f.1, f.2 ∙ next xs, fits_joined pages kind mid high xs ys f.3 g e)
  where
    next : (xs : List Child) → low_of xs mid ≡ low_of (xs ++ ys) high
    next [] = sym e
    next (x ∷ xs) = refl

fits_front : (pages : PageMap) (kind : Kind) (high : ℕ) (xs ys : List Child) → Fits pages kind high (xs ++ ys) → Fits pages kind (low_of ys high) xs
fits_front pages kind high [] ys f = tt
fits_front pages kind high (x ∷ xs) ys f = (f.0, f.1, f.2 ∙ next xs, fits_front pages kind high xs ys f.3)
  where
    next : (xs : List Child) → low_of (xs ++ ys) high ≡ low_of xs (low_of ys high)
    next [] = refl
    next (x ∷ xs) = refl

fits_back : (pages : PageMap) (kind : Kind) (high : ℕ) (xs ys : List Child) → Fits pages kind high (xs ++ ys) → Fits pages kind high ys
fits_back pages kind high [] ys f = f
fits_back pages kind high (x ∷ xs) ys f = fits_back pages kind high xs ys f.3

-- the children of a page fit up to its high fence
abbrev pub ChildrenFit : PageMap → Kind → ℕ → Type 0
ChildrenFit pages kind n = Fits pages kind (pages n).high (pages n).children

pub fits_below : (pages : PageMap) → ((n : ℕ) → n < 4096 → IsPage (pages n)) → (kind : Kind) (high : ℕ) (level : List Child) → InRange level → Fits pages Inner high level
    → AllByRecursion (λ child. ChildrenFit pages kind child.page) level → Fits pages kind high (below pages level)
fits_below pages sound kind high [] r f h = tt
fits_below pages sound kind high (child ∷ level) r f h =
    fits_joined pages kind (pages child.page).high high (pages child.page).children (below pages level) h.0 (fits_below pages sound kind high level r.1 f.3 h.1) (low_of-below pages sound high level r.1 f.3 ∙ sym f.2)

pub children_fit : (pages : PageMap) → ((n : ℕ) → n < 4096 → IsPage (pages n)) → (kind : Kind) (high : ℕ) (before : List Child) (child : Child) (behind : List Child)
    → InRange (before ++ child ∷ behind) → Fits pages Inner high (before ++ child ∷ behind) → Fits pages kind high (below pages (before ++ child ∷ behind)) → ChildrenFit pages kind child.page
children_fit pages sound kind high [] child behind r f g =
    subst (λ (bound : ℕ). Fits pages kind bound (pages child.page).children) (low_of-below pages sound high behind r.1 f.3 ∙ sym f.2) (fits_front pages kind high (pages child.page).children (below pages behind) g)
children_fit pages sound kind high (b ∷ before) child behind r f g =
    children_fit pages sound kind high before child behind r.1 f.3 (fits_back pages kind high (pages b.page).children (below pages (before ++ child ∷ behind)) g)
