-- Parts of a plan that keep the rows of a tree and the undo records, one after another.
use Rattle.mp_cells.proofs.KeyEdits.{All-append}
use Rattle.std.proofs.Common.{◌≡◌, ◌≢◌, ℕ, Bool, false, cond, List, [], ◌∷◌, ◌++◌, Some, None, IsSome, refl, sym, ap, subst, ◌∙◌, inl, inr}
use Rattle.std.specs.List.{slice_get, AllByRecursion}
use Rattle.std.proofs.lemmas.Bool.{cases_eq}
use Rattle.mp_cells.specs.declared.changes.Change.{Change}
use Rattle.mp_cells.specs.declared.kinds.Kind.TheVariants.{Undo}
use Rattle.mp_cells.specs.declared.rows.Link.{Link}
use Rattle.mp_cells.specs.PageView.{PageView, is_of}
use Rattle.mp_cells.specs.Changes.{applied}
use Rattle.mp_cells.specs.Trees.{PageMap, tree_rows}
use Rattle.mp_cells.specs.Plans.{Plan, CanApply, page_or, changed_page, with_page, after_change, after_plan, Meets}
use Rattle.mp_cells.specs.Writes.{record_in, undo_at, IsStep}
use Rattle.mp_cells.proofs.ByPage.{with_page-here, with_page-other}
use Rattle.mp_cells.proofs.Spare.{TreeWith}

pub after_plan-append : (p q : Plan) (pages : PageMap) → after_plan (p ++ q) pages ≡ after_plan q (after_plan p pages)
after_plan-append [] q pages = refl
after_plan-append (step ∷ p) q pages = after_plan-append p q (after_change step pages)

pub Meets-append : (p q : Plan) (pages : PageMap) → Meets p pages → Meets q (after_plan p pages) → Meets (p ++ q) pages
Meets-append [] q pages m n = n
Meets-append (step ∷ p) q pages m n = (m.0, Meets-append p q (after_change step pages) m.1 n)

-- a change that can be applied
pub can_apply : (change : Change) (page new : PageView) → applied change page ≡ Some new → CanApply change page
can_apply change page new e = subst IsSome (sym e) refl

pub changed_is : (change : Change) (page new : PageView) → applied change page ≡ Some new → changed_page change page ≡ new
changed_is change page new e = ap (page_or page) e

-- what holds of the new page and of the others holds of all
pub at_page : (pages : PageMap) (m : ℕ) (page : PageView) (P : ℕ → PageView → Type 0) → P m page → ((n : ℕ) → n ≢ m → P n (pages n)) → (n : ℕ) → P n (with_page pages m page n)
at_page pages m page P here others n = elim (cases_eq n m) [
  | inl same ↦ subst (λ (k : ℕ). P k (with_page pages m page k)) (sym same) (subst (P m) (sym (with_page-here pages m page)) here)
  | inr other ↦ subst (P n) (sym (with_page-other pages m page n other)) (others n other)
]

-- a page that isn't an undo page has no record
pub no_record : (page : PageView) (index : ℕ) → is_of Undo page ≡ false → record_in page index ≡ None
no_record page index e = ap (λ (b : Bool). cond b (slice_get page.rows index) None) e

pub undo_kept : (pages : PageMap) (m : ℕ) (page : PageView) → ((index : ℕ) → record_in page index ≡ record_in (pages m) index) → (link : Link) → undo_at (with_page pages m page) link ≡ undo_at pages link
undo_kept pages m page same link = at_page pages m page (λ n view. record_in view link.index ≡ record_in (pages n) link.index) (same link.index) (λ n other. refl) link.page

-- a part of a plan that leaves a tree with these spare pages, and the same rows and undo records
pub record Reshapes (spare spare' : List ℕ) (plan : Plan) (pages : PageMap) (height height' : ℕ) : Type 0 where
  pub changes : AllByRecursion IsStep plan
  pub meets : Meets plan pages
  pub tree : TreeWith spare' (after_plan plan pages) height'
  pub rows : tree_rows (after_plan plan pages) height' ≡ tree_rows pages height
  pub undo : (link : Link) → undo_at (after_plan plan pages) link ≡ undo_at pages link

pub reshapes_none : (spare : List ℕ) (pages : PageMap) (height : ℕ) → TreeWith spare pages height → Reshapes spare spare [] pages height height
reshapes_none spare pages height tree = record { changes = tt; meets = tt; tree = tree; rows = refl; undo = λ link. refl }

pub reshapes_then : (spare spare' spare'' : List ℕ) (p q : Plan) (pages : PageMap) (height height' height'' : ℕ) → Reshapes spare spare' p pages height height' → Reshapes spare' spare'' q (after_plan p pages) height' height'' → Reshapes spare spare'' (p ++ q) pages height height''
reshapes_then spare spare' spare'' p q pages height height' height'' a b =
    let all = after_plan-append p q pages in
    record {
      changes = All-append IsStep p q a.changes b.changes;
      meets = Meets-append p q pages a.meets b.meets;
      tree = subst (λ (m : PageMap). TreeWith spare'' m height'') (sym all) b.tree;
      rows = ap (λ (m : PageMap). tree_rows m height'') all ∙ b.rows ∙ a.rows;
      undo = λ link. ap (λ (m : PageMap). undo_at m link) all ∙ b.undo link ∙ a.undo link;
    }
