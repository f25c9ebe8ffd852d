-- The end of a write: the former version becomes an undo record, and the row is put. And a row that is put back.
use Rattle.mp_cells.proofs.KeyEdits.{All-append}
use Rattle.std.proofs.Common.{◌≡◌, ℕ, ◌<◌, ◌≤◌, ◌||◌, nat_lt, Bool, true, cond, [], ◌∷◌, ◌++◌, length, Some, None, refl, sym, ap, subst, ◌∙◌}
use Rattle.std.specs.Prelude.{is_some}
use Rattle.std.proofs.lemmas.Bool.{and_from, le-leb, lt-ltb}
use Rattle.mp_cells.specs.declared.changes.Change.TheVariants.{RestoreRow, PutRow, PutUndo}
use Rattle.mp_cells.specs.declared.kinds.Kind.TheVariants.{Leaf, Undo}
use Rattle.mp_cells.specs.declared.rows.Row.{Row}
use Rattle.mp_cells.specs.PageView.{PageView}
use Rattle.mp_cells.specs.Keys.{with_cell}
use Rattle.mp_cells.specs.Rows.{IsRow}
use Rattle.mp_cells.specs.Changes.{applied, takes_row, is_within, holds_row}
use Rattle.mp_cells.specs.Trees.{PageMap, IsTree, tree_rows, row_at}
use Rattle.mp_cells.proofs.AppliedPages.{applied-page, held_within}
use Rattle.mp_cells.specs.Plans.{Plan, with_page, after_plan}
use Rattle.mp_cells.specs.Writes.{undo_at, version_of, WritesRow, Restores, WellRestore, IsStep}
use Rattle.mp_cells.proofs.Spare.{with_none, of_none, leaf_facts, kind_apart}
use Rattle.mp_plans.proofs.Reshaping.{after_plan-append, Meets-append, can_apply, changed_is, Reshapes}
use Rattle.mp_plans.proofs.Steps.{kind_test, record_step, leaf_put}

-- what a write needs of a map: an undo page with a free place, and a leaf that takes the row
pub record Ready (mid : PageMap) (u m : ℕ) (former row : Row) : Type 0 where
  pub undo_range : u < 4096
  pub undo_kind : (mid u).kind ≡ Undo
  pub undo_room : length (mid u).rows < 15
  pub former_row : IsRow former
  pub leaf_range : m < 4096
  pub leaf_kind : (mid m).kind ≡ Leaf
  pub from : (mid m).low ≤ row.key
  pub until : row.key < (mid m).high
  pub room : (holds_row row.key (mid m) || nat_lt (length (mid m).rows) 15) ≡ true
  pub is_row : IsRow row
  pub writer : is_some row.writer ≡ true
  pub link : row.link ≡ Some (record { page = u; index = length (mid u).rows })

pub finished : (plan : Plan) (pages : PageMap) (height height' u m : ℕ) (former row : Row) → Reshapes [] [] plan pages height height' → former ≡ version_of row.key (row_at row.key (tree_rows pages height)) → Ready (after_plan plan pages) u m former row → WritesRow (plan ++ (u, PutUndo former) ∷ (m, PutRow row) ∷ []) row pages height
finished plan pages height height' u m former row shape is_former r =
    let mid = after_plan plan pages in
    let first = record_step [] mid height' u former shape.tree r.undo_range r.undo_kind r.undo_room r.former_row in
    let next = after_plan ((u, PutUndo former) ∷ []) mid in
    let apart = kind_apart mid m u Leaf Undo r.leaf_kind r.undo_kind (λ (x : Leaf ≡ Undo). absurd cc) in
    let same : next m ≡ mid m = first.others m apart in
    let old = next m in
    let page : PageView = record old { rows = with_cell (λ x. x.key) row old.rows } in
    let kind : old.kind ≡ Leaf = ap (λ (p : PageView). p.kind) same ∙ r.leaf_kind in
    let from : old.low ≤ row.key = subst (λ (p : PageView). p.low ≤ row.key) (sym same) r.from in
    let until : row.key < old.high = subst (λ (p : PageView). row.key < p.high) (sym same) r.until in
    let room : (holds_row row.key old || nat_lt (length old.rows) 15) ≡ true = subst (λ (p : PageView). (holds_row row.key p || nat_lt (length p.rows) 15) ≡ true) (sym same) r.room in
    let within : is_within row.key old ≡ true = and_from _ _ (le-leb old.low row.key from) (lt-ltb row.key old.high until) in
    let test : takes_row row old ≡ true = and_from _ _ (and_from _ _ (and_from _ _ (kind_test Leaf old kind) within) r.writer) room in
    let is : applied (PutRow row) old ≡ Some page = ap (λ (b : Bool). cond b (Some page) None) test in
    let put = leaf_put [] next height' m row first.tree r.leaf_range kind from until (applied-page (PutRow row) old page (first.tree.sound m r.leaf_range) r.is_row is) in
    let tail : Plan = (u, PutUndo former) ∷ (m, PutRow row) ∷ [] in
    let last : after_plan tail mid ≡ with_page next m page = ap (with_page next m) (changed_is (PutRow row) old page is) in
    let all : after_plan (plan ++ tail) pages ≡ with_page next m page = after_plan-append plan tail pages ∙ last in
    record {
      changes = All-append IsStep plan tail shape.changes ((r.undo_range, r.former_row), ((r.leaf_range, r.is_row), tt));
      meets = Meets-append plan tail pages shape.meets (first.meets.0, (can_apply (PutRow row) old page is, tt));
      new_height = height';
      tree = subst (λ (p : PageMap). IsTree p height') (sym all) (of_none (with_page next m page) height' put.tree);
      rows = ap (λ (p : PageMap). tree_rows p height') all ∙ put.rows ∙ ap (with_cell (λ (x : Row). x.key) row) (first.rows ∙ shape.rows);
      link = record { page = u; index = length (mid u).rows };
      linked = r.link;
      undo = record {
        fresh = sym (shape.undo (record { page = u; index = length (mid u).rows })) ∙ first.fresh;
        added = λ other. ap (λ (p : PageMap). undo_at p other) all ∙ put.undo other ∙ first.added other
            ∙ rw (shape.undo other, is_former) refl;
      };
    }

-- ---- a row is put back

restored : (pages : PageMap) (height m : ℕ) (row : Row) → IsTree pages height → m < 4096 → (pages m).kind ≡ Leaf → holds_row row.key (pages m) ≡ true → IsRow row → Restores ((m, RestoreRow row) ∷ []) row pages height
restored pages height m row tree lt kind held is_row =
    let old = pages m in
    let page : PageView = record old { rows = with_cell (λ x. x.key) row old.rows } in
    let facts = leaf_facts old (tree.sound m lt) kind in
    let within = held_within (λ (x : Row). x.key) old.low old.high row.key old.rows facts.rises held in
    let is : applied (RestoreRow row) old ≡ Some page = ap (λ (b : Bool). cond b (Some page) None) (and_from _ _ (kind_test Leaf old kind) held) in
    let put = leaf_put [] pages height m row (with_none pages height tree) lt kind within.0 within.1 (applied-page (RestoreRow row) old page (tree.sound m lt) is_row is) in
    let all : after_plan ((m, RestoreRow row) ∷ []) pages ≡ with_page pages m page = ap (with_page pages m) (changed_is (RestoreRow row) old page is) in
    record {
      changes = ((lt, is_row), tt);
      meets = (can_apply (RestoreRow row) old page is, tt);
      tree = subst (λ (p : PageMap). IsTree p height) (sym all) (of_none (with_page pages m page) height put.tree);
      rows = ap (λ (p : PageMap). tree_rows p height) all ∙ put.rows;
      undo = λ link. ap (λ (p : PageMap). undo_at p link) all ∙ put.undo link;
    }

pub well_restored : (given : PageMap) (m : ℕ) (row : Row) → m < 4096 → (given m).kind ≡ Leaf → holds_row row.key (given m) ≡ true → IsRow row → WellRestore given row ((m, RestoreRow row) ∷ [])
well_restored given m row lt kind held is_row = record {
  restores = λ pages agrees height tree. restored pages height m row tree lt (ap (λ (p : PageView). p.kind) agrees.0 ∙ kind) (ap (holds_row row.key) agrees.0 ∙ held) is_row;
  one = (m, refl);
}
