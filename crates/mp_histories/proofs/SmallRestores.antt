-- After the put of the small history its restore is well made, and no other row can be put back.
use Rattle.std.proofs.Common.{◌≡◌, ◌≢◌, ℕ, ◌+◌, ◌<◌, ◌≤◌, ◌==◌, false, List, [], ◌∷◌, length, Option, Some, None, refl, sym, ap, subst, ◌∙◌, inl, inr, arith}
use Rattle.std.proofs.lemmas.Bool.{cases_eq}
use Rattle.std.proofs.lemmas.Bool.Decides.{nat_tests}
use Rattle.mp_model.specs.declared.ids.TrxId.{TrxId}
use Rattle.mp_cells.specs.declared.changes.Change.{Change}
use Rattle.mp_cells.specs.declared.changes.Change.TheVariants.{RestoreRow}
use Rattle.mp_cells.specs.declared.kinds.Kind.TheVariants.{Blank, Leaf, Inner, Undo}
use Rattle.mp_cells.specs.declared.records.Record.{Record}
use Rattle.mp_cells.specs.declared.records.Record.TheVariants as records
use Rattle.mp_cells.specs.declared.rows.Row.{Row}
use Rattle.mp_cells.specs.Keys.{with_cell}
use Rattle.mp_cells.specs.PageView.{PageView, IsPage, leaf_page, bit_of, is_of}
use Rattle.mp_cells.specs.SmallMaps.{fresh_map, gone_row}
use Rattle.mp_cells.specs.Trees.{PageMap, top, IsTree, one_if, tree_rows}
use Rattle.mp_cells.specs.Plans.{Plan, CanApply, after_plan, after_changes, of_page, AgreesOn, touches, plan_of}
use Rattle.mp_cells.specs.Writes.{record_in, rows_restored, WellRestore, Restores}
use Rattle.mp_cells.proofs.ByPage.{after_plan-page}
use Rattle.mp_cells.proofs.MtrPages.{of_page-untouched}
use Rattle.mp_cells.proofs.Shapes.{SameNode, Keeps, kept_tree}
use Rattle.mp_cells.proofs.Spare.{with_none, of_none}
use Rattle.mp_histories.specs.KeyOps.{below_top}
use Rattle.mp_histories.specs.Histories.{pages_after, by_version, rows_of_versions, live_on}
use Rattle.mp_histories.specs.Chains.{row_over, row_of_key, MakesPut, MakesRestore, RunsFrom}
use Rattle.mp_histories.specs.SmallHistory.{small_row, small_put, small_restore, wrong_restore}
use Rattle.mp_histories.proofs.RootLeaves.{flat_rows}
use Rattle.mp_histories.proofs.SmallPuts.{gone_is_row, small_put_is_well}
use Rattle.mp_histories.proofs.Lists.{heads_same}

abbrev plan : Plan
plan = plan_of small_restore.records

abbrev given : PageMap
given = pages_after fresh_map (small_put ∷ [])

module _ (pages : PageMap) (agrees : AgreesOn plan given pages) (height : ℕ) (tree : IsTree pages height) where
  abbrev new : PageMap
  new = after_plan plan pages

  root_at : pages 1 ≡ leaf_page 5 0 top (small_row ∷ [])
  root_at = agrees.0

  new_root : new 1 ≡ leaf_page 5 0 top (gone_row 7 ∷ [])
  new_root = after_plan-page plan pages 1 ∙ ap (after_changes (of_page 1 plan)) root_at

  new_else : (n : ℕ) → n ≢ 1 → new n ≡ pages n
  new_else n ne =
      let root : (n == 1) ≡ false = grind (arith, nat_tests) in
      let none : touches n plan ≡ false = rw root refl in
      after_plan-page plan pages n ∙ ap (λ (changes : List Change). after_changes changes (pages n)) (of_page-untouched plan n none)

  each : (P : ℕ → PageView → PageView → Type 0) → P 1 (leaf_page 5 0 top (small_row ∷ [])) (leaf_page 5 0 top (gone_row 7 ∷ [])) → ((n : ℕ) → n ≢ 1 → P n (pages n) (pages n)) → (n : ℕ) → P n (pages n) (new n)
  each P root others n = elim (cases_eq n 1) [
    | inl e ↦ subst (λ (k : ℕ). P k (pages k) (new k)) (sym e) (subst (λ (p : PageView). P 1 (pages 1) p) (sym new_root) (subst (λ (p : PageView). P 1 p (leaf_page 5 0 top (gone_row 7 ∷ []))) (sym root_at) root))
    | inr a ↦ subst (P n (pages n)) (sym (new_else n a)) (others n a)
  ]

  meta_same : new 0 ≡ pages 0
  meta_same = new_else 0 (λ (x : 0 ≡ 1). omega (arith, x))

  keeps : Keeps [] [] pages new
  keeps = record {
    shape = record {
      leaf = each (λ n a b. a.kind ≡ Leaf → SameNode a b) (λ e. record { kind = refl; low = refl; high = refl; children = refl }) (λ n a e. record { kind = refl; low = refl; high = refl; children = refl });
      inner = each (λ n a b. a.kind ≡ Inner → SameNode a b) (λ e. absurd cc) (λ n a e. record { kind = refl; low = refl; high = refl; children = refl });
    };
    sound = each (λ n a b. n < 4096 → IsPage b) (λ lt. record { llsn = omega arith; content = (refl, refl, (gone_is_row, tt)) }) (λ n a lt. tree.sound n lt);
    meta = ap (λ (p : PageView). p.kind) meta_same ∙ tree.meta;
    leaf_before = each (λ n a b. b.kind ≡ Leaf → a.kind ≡ Leaf) (λ e. refl) (λ n a e. e);
    inner_before = each (λ n a b. b.kind ≡ Inner → a.kind ≡ Inner) (λ e. absurd cc) (λ n a e. e);
    rows = each (λ n a b. a.kind ≡ Leaf → length a.rows ≤ length b.rows) (λ e. omega arith) (λ n a e. omega arith);
    bits = λ n lt. subst (λ (p : PageView). bit_of p.bits n + one_if (is_of Undo (pages n)) + 0 ≡ bit_of (pages 0).bits n + one_if (is_of Undo (new n)) + 0) (sym meta_same)
        (each (λ n a b. bit_of (pages 0).bits n + one_if (is_of Undo a) + 0 ≡ bit_of (pages 0).bits n + one_if (is_of Undo b) + 0) refl (λ n a. refl) n);
    blank = λ n lt e.
        let old : (pages n).kind ≡ Blank = tree.blank n lt (subst (λ (p : PageView). bit_of p.bits n ≡ 0) meta_same e) in
        each (λ n a b. a.kind ≡ Blank → b.kind ≡ Blank) (λ k. absurd cc) (λ n a k. k) n old;
    unused = λ n lt h. absurd (omega (arith, h));
  }

  new_tree : IsTree new height
  new_tree = of_none new height (kept_tree [] [] pages new height keeps (with_none pages height tree))

  old_rows : tree_rows pages height ≡ small_row ∷ []
  old_rows = flat_rows pages height tree (ap (λ (p : PageView). p.kind) root_at) ∙ ap (λ (p : PageView). p.rows) root_at

  new_rows : tree_rows new height ≡ gone_row 7 ∷ []
  new_rows = flat_rows new height new_tree (ap (λ (p : PageView). p.kind) new_root) ∙ ap (λ (p : PageView). p.rows) new_root

  small_restores : Restores plan (gone_row 7) pages height
  small_restores = record {
    changes = ((omega arith, gone_is_row), tt);
    meets = (subst (CanApply (RestoreRow (gone_row 7))) (sym root_at) refl, tt);
    tree = new_tree;
    rows = new_rows ∙ ap (λ (rows : List Row). with_cell (λ (r : Row). r.key) (gone_row 7) rows) (sym old_rows);
    undo = λ link. each (λ n a b. record_in b link.index ≡ record_in a link.index) refl (λ n a. refl) link.page;
  }

small_restore_is_well : WellRestore given (gone_row 7) plan
small_restore_is_well = record { restores = λ pages agrees height tree. small_restores pages agrees height tree; one = (1, refl) }

-- a put, and its restore
pub small_runs : RunsFrom fresh_map (small_restore ∷ small_put ∷ [])
small_runs = (
  record { llsn = omega arith; kind = inr (inl (record { row = gone_row 7; well = small_restore_is_well; former = refl; no_commit = refl })) },
  (record { llsn = omega arith; kind = inl (record { row = small_row; writer = refl; well = small_put_is_well; no_commit = refl }) }, tt),
)

-- another row put back is neither a put, nor a restore, nor a commit
wrong_put : MakesPut fresh_map (small_put ∷ []) wrong_restore → ⊥
wrong_put p = let none : 0 ≡ 1 = ap (λ (rows : List Row). length rows) p.well.puts in omega (arith, none)

wrong_back : MakesRestore fresh_map (small_put ∷ []) wrong_restore → ⊥
wrong_back p =
    let row : small_row ≡ p.row = heads_same small_row p.row [] [] (ap rows_restored p.well.one.1) in
    let gone : small_row ≡ row_over (rows_of_versions (below_top by_version (live_on small_row.key (small_put ∷ [])))) (row_of_key fresh_map small_row.key) =
    subst (λ (r : Row). r ≡ row_over (rows_of_versions (below_top by_version (live_on r.key (small_put ∷ [])))) (row_of_key fresh_map r.key)) (sym row) p.former in
    let writer : ◌≡◌ {A = Option TrxId} (Some (record { node = 1; slot = 0; version = 1 })) None = ap (λ (r : Row). r.writer) gone in
    absurd cc

pub wrong_runs : RunsFrom fresh_map (wrong_restore ∷ small_put ∷ []) → ⊥
wrong_runs runs = elim (runs.0.kind) [
  | inl p ↦ wrong_put p
  | inr (inl p) ↦ wrong_back p
  | inr (inr p) ↦ no_commit p.id p.cts p.alone
]
  where
    no_commit : (id : TrxId) (cts : ℕ) → wrong_restore.records ≡ records.Commit id cts ∷ [] → ⊥
    no_commit id cts e = let none : 1 ≡ 0 = ap (λ (rs : List Record). length (plan_of rs)) e in omega (arith, none)
