-- Pages that pass their tests are clean, and pages that are clean pass them.
use Rattle.std.proofs.Common.{ℕ, sym, ap, subst, ◌∙◌}
use Rattle.mp_cells.specs.PageMaps.{page_at}
use Rattle.mp_cells.specs.PageView.{PageView}
use Rattle.mp_cells.specs.Trees.{top, root}
use Rattle.mp_clean.specs.CleanPages.{kind_above}
use Rattle.mp_clean.proofs.PageTests.{PageTests, fenced, page_tests, tests_page}
use Rattle.mp_clean.proofs.PagesToTree.{pages_clean}
use Rattle.mp_clean.proofs.TreeToPages.{each_tested}
use Rattle.mp_clean.proofs.clean.is_clean_under.Goals as goal

pub returns-then-is_root : goal.returns-then-is_root
returns-then-is_root c =
    let pages = page_at c.args.pages.now.items in
    let base = c.args.base in
    let height = c.height_of-height.result in (
      λ passed.
          let each = c.are_clean_pages.ensures.0 passed in
          pages_clean base height pages (record {
            sound = λ n lt. (each n lt).0;
            small = c.height_of-height.ensures.most;
            meta = ap (λ (p : PageView). p.kind) (sym c.requires.meta) ∙ c.requires.kind;
            first = fenced pages (kind_above height) top root (sym c.is_root.ensures ∙ c.if-is_root.true);
            each = λ n lt. page_tests base height pages n (each n lt).1;
          }) c.height_of-height.ensures.value,
      λ clean. c.are_clean_pages.ensures.1 (λ n lt. (
        clean.tree.sound n lt,
        tests_page base height pages n (subst (λ (h : ℕ). PageTests base h pages n) (sym c.height_of-height.ensures.value) (each_tested base pages clean n lt)),
      )),
    )
