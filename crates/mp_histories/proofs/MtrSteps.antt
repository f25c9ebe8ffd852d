-- What one well-made mtr does: the pages stay a tree, undo records stay, and each key's row and versions stay, get one
-- more, or lose those of the newest one's writer.
use Rattle.std.proofs.Common.{◌≡◌, ℕ, ◌<◌, ◌^◌, ◌==◌, ◌⊎◌, Bool, true, false, cond, List, [], ◌∷◌, ◌++◌, length, map, Some, is_some, refl, sym, ap, subst, ◌∙◌, inl, inr}
use Rattle.std.proofs.lemmas.Bool.{eqb-true}
use Rattle.mp_cells.specs.declared.changes.Change.TheVariants.{RestoreRow}
use Rattle.mp_cells.specs.declared.records.Mtr.{Mtr}
use Rattle.mp_cells.specs.declared.rows.Link.{Link}
use Rattle.mp_cells.specs.declared.rows.Row.{Row}
use Rattle.mp_cells.specs.PageView.{PageView}
use Rattle.mp_cells.specs.Keys.{with_cell}
use Rattle.mp_cells.specs.Trees.{PageMap, IsTree, tree_rows, row_at, height_of, rows_in}
use Rattle.mp_cells.specs.Plans.{Plan, after_plan, plan_of, touches}
use Rattle.mp_cells.specs.Writes.{undo_at, version_of, rows_put, rows_restored, WritesRow, Restores}
use Rattle.mp_cells.specs.PageMaps.{after_mtr}
use Rattle.mp_cells.proofs.Heights.{height_is}
use Rattle.mp_cells.proofs.Links.{added_there, kept_there, agrees_itself}
use Rattle.mp_cells.proofs.MtrPages.{mtr_content, mtr_touched, mtr_untouched}
use Rattle.mp_cells.proofs.RowsPut.{row_at-with_cell}
use Rattle.mp_cells.proofs.SamePages.{same_tree, same_rows, same_undo}
use Rattle.mp_histories.specs.KeyOps.{KeyOp, put, restore, below_top}
use Rattle.mp_histories.specs.Histories.{History, pages_after, Version, by_version, rows_of_versions, of_key, ops_of, ops_on, live_on}
use Rattle.mp_histories.specs.Chains.{row_over, LinksTo, row_of_key, MakesPut, MakesRestore, MakesCommit, WellMade, LeavesKey}
use Rattle.mp_histories.proofs.Writers.{decided}
use Rattle.mp_histories.proofs.ChainFacts.{Within}

-- ---- what an mtr does to a key

abbrev puts_at : ℕ → List Row → List (KeyOp Version)
puts_at at rows = map (λ row. put (record { at = at; row = row })) rows

abbrev restores : List Row → List (KeyOp Version)
restores rows = map (λ row. restore) rows

put_ops : (key at : ℕ) (puts back : List Row) (row : Row) → puts ≡ row ∷ [] → back ≡ [] → puts_at at (of_key key puts) ++ restores (of_key key back) ≡ cond (row.key == key) (put (record { at = at; row = row }) ∷ []) []
put_ops key at puts back row e f =
    ap (λ (rs : List Row). puts_at at (of_key key rs) ++ restores (of_key key back)) e
    ∙ ap (λ (rs : List Row). puts_at at (of_key key (row ∷ [])) ++ restores (of_key key rs)) f
    ∙ by_test (row.key == key)
  where
    by_test : (b : Bool) → puts_at at (cond b (row ∷ []) []) ++ restores [] ≡ cond b (put (record { at = at; row = row }) ∷ []) []
    by_test true = refl
    by_test false = refl

back_ops : (key at : ℕ) (puts back : List Row) (row : Row) → puts ≡ [] → back ≡ row ∷ [] → puts_at at (of_key key puts) ++ restores (of_key key back) ≡ cond (row.key == key) (restore ∷ []) []
back_ops key at puts back row e f =
    ap (λ (rs : List Row). puts_at at (of_key key rs) ++ restores (of_key key back)) e
    ∙ ap (λ (rs : List Row). restores (of_key key rs)) f
    ∙ by_test (row.key == key)
  where
    by_test : (b : Bool) → restores (cond b (row ∷ []) []) ≡ cond b (restore ∷ []) []
    by_test true = refl
    by_test false = refl

-- a put and a restore, of any key, over any history
pub put_on : (mtr : Mtr) (row : Row) → rows_put (plan_of mtr.records) ≡ row ∷ [] → rows_restored (plan_of mtr.records) ≡ [] → (key : ℕ) (b : Bool) → (row.key == key) ≡ b → (made : History) → ops_on key (mtr ∷ made) ≡ cond b (put (record { at = length made; row = row }) ∷ []) [] ++ ops_on key made
put_on mtr row puts back key b e made =
    ap (λ (xs : List (KeyOp Version)). xs ++ ops_on key made)
    (put_ops key (length made) (rows_put (plan_of mtr.records)) (rows_restored (plan_of mtr.records)) row puts back ∙ ap (λ (c : Bool). cond c (put (record { at = length made; row = row }) ∷ []) []) e)

pub back_on : (mtr : Mtr) (row : Row) (page : ℕ) → plan_of mtr.records ≡ (page, RestoreRow row) ∷ [] → (key : ℕ) (b : Bool) → (row.key == key) ≡ b → (made : History) → ops_on key (mtr ∷ made) ≡ cond b (restore ∷ []) [] ++ ops_on key made
back_on mtr row page one key b e made =
    ap (λ (xs : List (KeyOp Version)). xs ++ ops_on key made)
    (back_ops key (length made) (rows_put (plan_of mtr.records)) (rows_restored (plan_of mtr.records)) row (ap rows_put one) (ap rows_restored one) ∙ ap (λ (c : Bool). cond c (restore ∷ []) []) e)

pub none_on : (mtr : Mtr) → MakesCommit mtr → (key : ℕ) (made : History) → ops_on key (mtr ∷ made) ≡ ops_on key made
none_on mtr p key made = ap (λ (plan : Plan). ops_of key (length made) plan ++ ops_on key made) (ap plan_of p.alone)

-- ---- the pages

module _ (mtr : Mtr) (pages : PageMap) (height height' : ℕ) (llsn : mtr.llsn < 2 ^ 62) (old : IsTree pages height) (tree : IsTree (after_plan (plan_of mtr.records) pages) height') where
  llsns_after : (n : ℕ) → n < 4096 → (after_mtr mtr pages n).llsn < 2 ^ 62
  llsns_after n lt = elim (decided (touches n (plan_of mtr.records))) [
    | inl e ↦ subst (λ (k : ℕ). k < 2 ^ 62) (sym (mtr_touched mtr pages n e)) llsn
    | inr e ↦ subst (λ (p : PageView). p.llsn < 2 ^ 62) (sym (mtr_untouched mtr pages n e)) (old.sound n lt).llsn
  ]

  tree_after : IsTree (after_mtr mtr pages) height'
  tree_after = same_tree (after_plan (plan_of mtr.records) pages) (after_mtr mtr pages) (mtr_content mtr pages) height' llsns_after tree

  tree_of_map : IsTree (after_mtr mtr pages) (height_of (after_mtr mtr pages))
  tree_of_map = subst (IsTree (after_mtr mtr pages)) (height_is (after_mtr mtr pages) height' tree_after) tree_after

  rows_after : rows_in (after_mtr mtr pages) ≡ tree_rows (after_plan (plan_of mtr.records) pages) height'
  rows_after =
      ap (tree_rows (after_mtr mtr pages)) (sym (height_is (after_mtr mtr pages) height' tree_after))
      ∙ same_rows (after_plan (plan_of mtr.records) pages) (after_mtr mtr pages) (mtr_content mtr pages) height'

undo_after : (mtr : Mtr) (pages : PageMap) (link : Link) → undo_at (after_mtr mtr pages) link ≡ undo_at (after_plan (plan_of mtr.records) pages) link
undo_after mtr pages link = same_undo (after_plan (plan_of mtr.records) pages) (after_mtr mtr pages) (mtr_content mtr pages) link

-- ---- a step of a history

module _ (opening : PageMap) (made : History) (mtr : Mtr) where
  pub record KeyPut (key : ℕ) : Type 0 where
    pub version : Version
    pub puts : rows_put (plan_of mtr.records) ≡ version.row ∷ []
    pub at : version.at ≡ length made
    pub ops : ops_on key (mtr ∷ made) ≡ put version ∷ ops_on key made
    pub row : row_of_key (pages_after opening (mtr ∷ made)) key ≡ version.row
    pub links : LinksTo (undo_at (pages_after opening (mtr ∷ made))) version.row (row_of_key (pages_after opening made) key)
    pub key_is : version.row.key ≡ key
    pub writer : is_some version.row.writer ≡ true

  pub record KeyBack (key : ℕ) : Type 0 where
    pub put_back : Row
    pub back : rows_restored (plan_of mtr.records) ≡ put_back ∷ []
    pub key_is : put_back.key ≡ key
    pub former : put_back ≡ row_over (rows_of_versions (below_top by_version (live_on put_back.key made))) (row_of_key opening put_back.key)
    pub ops : ops_on key (mtr ∷ made) ≡ restore ∷ ops_on key made
    pub row : row_of_key (pages_after opening (mtr ∷ made)) key ≡ row_over (rows_of_versions (below_top by_version (live_on key made))) (row_of_key opening key)

  pub record Advances : Type 0 where
    pub tree : IsTree (pages_after opening (mtr ∷ made)) (height_of (pages_after opening (mtr ∷ made)))
    pub more : Within (undo_at (pages_after opening made)) (undo_at (pages_after opening (mtr ∷ made)))
    pub keys : (key : ℕ) → LeavesKey opening made mtr key ⊎ (KeyPut key ⊎ KeyBack key)

  row_with : (key : ℕ) (row : Row) (b : Bool) → (row.key == key) ≡ b → rows_in (pages_after opening (mtr ∷ made)) ≡ with_cell (λ (r : Row). r.key) row (rows_in (pages_after opening made)) → row_of_key (pages_after opening (mtr ∷ made)) key ≡ version_of key (cond b (Some row) (row_at key (rows_in (pages_after opening made))))
  row_with key row b e rows =
      ap (λ (rs : List Row). version_of key (row_at key rs)) rows
      ∙ ap (version_of key) (row_at-with_cell key row (rows_in (pages_after opening made)) ∙ ap (λ (c : Bool). cond c (Some row) (row_at key (rows_in (pages_after opening made)))) e)

  after_put : mtr.llsn < 2 ^ 62 → IsTree (pages_after opening made) (height_of (pages_after opening made)) → MakesPut opening made mtr → Advances
  after_put llsn tree p =
      let pages = pages_after opening made in
      let plan = plan_of mtr.records in
      let new = after_mtr mtr pages in
      let height = height_of pages in
      let w : WritesRow plan p.row pages height = p.well.writes pages (agrees_itself plan pages) height tree in
      let former : Row = row_of_key pages p.row.key in
      let rows : rows_in new ≡ with_cell (λ (r : Row). r.key) p.row (rows_in pages) = rows_after mtr pages height w.new_height llsn tree w.tree ∙ w.rows in
      record {
        tree = tree_of_map mtr pages height w.new_height llsn tree w.tree;
        more = λ link row there. undo_after mtr pages link ∙ kept_there pages (after_plan plan pages) w.link link former row w.undo there;
        keys = λ key. elim (decided (p.row.key == key)) [
          | inl e ↦ inr (inl (record {
            version = record { at = length made; row = p.row };
            puts = p.well.puts;
            at = refl;
            ops = put_on mtr p.row p.well.puts p.well.restores key true e made;
            row = row_with key p.row true e rows;
            links = record {
              link = w.link;
              linked = w.linked;
              there = undo_after mtr pages w.link ∙ added_there pages (after_plan plan pages) w.link former w.undo ∙ ap (λ (k : ℕ). Some (row_of_key pages k)) (eqb-true p.row.key key e);
            };
            key_is = eqb-true p.row.key key e;
            writer = p.writer;
          }))
          | inr e ↦ inl (record {
            ops = put_on mtr p.row p.well.puts p.well.restores key false e made;
            now = row_with key p.row false e rows;
          })
        ];
      }

  after_restore : mtr.llsn < 2 ^ 62 → IsTree (pages_after opening made) (height_of (pages_after opening made)) → MakesRestore opening made mtr → Advances
  after_restore llsn tree p =
      let pages = pages_after opening made in
      let plan = plan_of mtr.records in
      let new = after_mtr mtr pages in
      let height = height_of pages in
      let w : Restores plan p.row pages height = p.well.restores pages (agrees_itself plan pages) height tree in
      let rows : rows_in new ≡ with_cell (λ (r : Row). r.key) p.row (rows_in pages) = rows_after mtr pages height height llsn tree w.tree ∙ w.rows in
      record {
        tree = tree_of_map mtr pages height height llsn tree w.tree;
        more = λ link row there. undo_after mtr pages link ∙ w.undo link ∙ there;
        keys = λ key. elim (decided (p.row.key == key)) [
          | inl e ↦ inr (inr (record {
            put_back = p.row;
            back = ap rows_restored p.well.one.1;
            key_is = eqb-true p.row.key key e;
            former = p.former;
            ops = back_on mtr p.row p.well.one.0 p.well.one.1 key true e made;
            row = row_with key p.row true e rows ∙ p.former ∙ ap (λ (k : ℕ). row_over (rows_of_versions (below_top by_version (live_on k made))) (row_of_key opening k)) (eqb-true p.row.key key e);
          }))
          | inr e ↦ inl (record {
            ops = back_on mtr p.row p.well.one.0 p.well.one.1 key false e made;
            now = row_with key p.row false e rows;
          })
        ];
      }

  after_commit : mtr.llsn < 2 ^ 62 → IsTree (pages_after opening made) (height_of (pages_after opening made)) → MakesCommit mtr → Advances
  after_commit llsn tree p =
      let pages = pages_after opening made in
      let none : plan_of mtr.records ≡ [] = ap plan_of p.alone in
      let height = height_of pages in
      let same : IsTree (after_plan (plan_of mtr.records) pages) height = subst (λ (plan : Plan). IsTree (after_plan plan pages) height) (sym none) tree in
      record {
        tree = tree_of_map mtr pages height height llsn tree same;
        more = λ link row there. undo_after mtr pages link ∙ ap (λ (plan : Plan). undo_at (after_plan plan pages) link) none ∙ there;
        keys = λ key. inl (record {
          ops = none_on mtr p key made;
          now = ap (λ (rs : List Row). version_of key (row_at key rs)) (rows_after mtr pages height height llsn tree same ∙ ap (λ (plan : Plan). tree_rows (after_plan plan pages) height) none);
        });
      }

  pub advance : IsTree (pages_after opening made) (height_of (pages_after opening made)) → WellMade opening made mtr → Advances
  advance tree well = elim (well.kind) [
    | inl p ↦ after_put well.llsn tree p
    | inr (inl p) ↦ after_restore well.llsn tree p
    | inr (inr p) ↦ after_commit well.llsn tree p
  ]
