-- What a write reads and takes makes its plan the plan of a write.
use Rattle.mp_plans.specs.Fitting.{IsClear, WriteFits}
use Rattle.std.proofs.Common.{◌≡◌, ℕ, ◌^◌, ◌<◌, ◌≤◌, nat_lt, Bool, true, false, cond, List, length, Option, Some, None, IfSome, refl, sym, ap, subst, ◌∙◌, arith}
use Rattle.std.specs.Prelude.{is_none}
use Rattle.std.specs.List.{AllByRecursion}
use Rattle.std.proofs.lemmas.Bool.{and_from, le-leb, lt-ltb, ltb-true}
use Rattle.mp_model.specs.Values.{is_value}
use Rattle.mp_cells.specs.declared.kinds.Kind.TheVariants.{Undo}
use Rattle.mp_cells.specs.declared.rows.Link.{Link}
use Rattle.mp_cells.specs.Rows.{IsRow, is_writer}
use Rattle.mp_cells.specs.Trees.{PageMap, root, IsTree, leaf_at, uses}
use Rattle.mp_cells.proofs.TreeSearch.{tree_found}
use Rattle.mp_cells.specs.Plans.{Plan}
use Rattle.mp_plans.specs.Growth.{Growth, growth_of, write_plan}
use Rattle.mp_cells.specs.Writes.{WellPut}
use Rattle.mp_plans.proofs.WritePlans.{well_written}
use Rattle.mp_tree.specs.declared.search.Stop.{Stop}
use Rattle.mp_tree.specs.declared.growth.Reading.{Reading}
use Rattle.mp_tree.specs.declared.new_pages.New.{New}
use Rattle.mp_tree.specs.declared.write.Write.{Write}
use Rattle.mp_tree.specs.Planning.{shape_of, HasPages, HasUndo, undo_place, IsReading}
use Rattle.mp_tree.specs.Writing.{HasNew, needed_for, IsWrite, link_of, row_of, kind_of}
use Rattle.mp_tree.proofs.GrowthShapes.{fits_growth}
use Rattle.mp_tree.proofs.NewPages.{clear_ones}

-- the place in the current undo page
abbrev pub PlaceFits : PageMap → Option Link → Type 0
PlaceFits given None = Unit {0}
PlaceFits given (Some link) = (2 ≤ link.page) × (link.page < 4096) × ((given link.page).kind ≡ Undo) × (length (given link.page).rows < 15) × (link.index ≡ length (given link.page).rows)

pub place_fits : (given : PageMap) (undo_page : Option ℕ) → HasUndo given undo_page → IfSome undo_page (λ u. (2 ≤ u) × (u < 4096)) → PlaceFits given (undo_place given undo_page)
place_fits given None has range = tt
place_fits given (Some u) has range = by_test (nat_lt (length (given u).rows) 15) refl
  where
    by_test : (t : Bool) → nat_lt (length (given u).rows) 15 ≡ t → PlaceFits given (cond t (Some (record { page = u; index = length (given u).rows })) None)
    by_test true e = (range.0, range.1, has, ltb-true (length (given u).rows) 15 e, refl)
    by_test false e = tt

-- the row that is put is one that a page may keep
row_kept : (write : Write) (link : Link) → write.key < 2 ^ 32 → IfSome write.value (λ value. is_value value ≡ true) → is_writer write.writer ≡ true → 2 ≤ link.page → link.page < 4096 → link.index < 15 → IsRow (row_of write link)
row_kept write link key value writer low high index = record {
  key = key;
  value = value;
  origin = and_from _ _ writer (and_from _ _ (and_from _ _ (le-leb 2 link.page low) (lt-ltb link.page 4096 high)) (lt-ltb link.index 15 index));
}

write_fits : (given : PageMap) (height : ℕ) (write : Write) (place : Option Link) (new : New) → IsTree given height → PlaceFits given place → HasNew given (is_none place) (growth_of given height write.key) new
    → write.key < 2 ^ 32 → IfSome write.value (λ value. is_value value ≡ true) → is_writer write.writer ≡ true
    → WriteFits given (growth_of given height write.key) (leaf_at given height write.key root).page (is_none place) (link_of place new.undo).page new.first new.second new.third (row_of write (link_of place new.undo))
write_fits given height write None new tree fits has key value writer =
    let growth = growth_of given height write.key in
    let leaf = tree_found given height write.key tree key in
    let ones = clear_ones given height tree (needed_for true growth) in
    let clear = subst (AllByRecursion (IsClear (given 0))) (sym has.lowest) ones.0 in
    record {
      range = leaf.range;
      is_leaf = record { kind = leaf.kind; from = leaf.from; until = leaf.until };
      fits = fits_growth given height write.key tree key;
      clear = clear;
      once = subst (λ (xs : List ℕ). (n : ℕ) → uses n xs ≤ 1) (sym has.lowest) ones.1;
      undo = tt;
      is_row = row_kept write (link_of None new.undo) key value writer clear.0.0 clear.0.1 (omega arith);
      writer = refl;
      link = refl;
    }
write_fits given height write (Some link) new tree fits has key value writer =
    let growth = growth_of given height write.key in
    let leaf = tree_found given height write.key tree key in
    let ones = clear_ones given height tree (needed_for false growth) in
    record {
      range = leaf.range;
      is_leaf = record { kind = leaf.kind; from = leaf.from; until = leaf.until };
      fits = fits_growth given height write.key tree key;
      clear = subst (AllByRecursion (IsClear (given 0))) (sym has.lowest) ones.0;
      once = subst (λ (xs : List ℕ). (n : ℕ) → uses n xs ≤ 1) (sym has.lowest) ones.1;
      undo = (fits.1, fits.2, fits.3);
      is_row = row_kept write link key value writer fits.0 fits.1 (omega (arith, fits.3, fits.4));
      writer = refl;
      link = ap (λ (n : ℕ). Some (record { page = link.page; index = n })) fits.4;
    }

-- the plan is that of the tree's growth
pub is_write : (given : PageMap) (height : ℕ) (write : Write) (undo_page : Option ℕ) (reading : Reading) (new : New) (plan : Plan) → IsTree given height → HasUndo given undo_page → IfSome undo_page (λ u. (2 ≤ u) × (u < 4096))
    → IsReading given height write.key undo_page reading → HasNew given (is_none reading.place) (shape_of reading.growth) new
    → write.key < 2 ^ 32 → IfSome write.value (λ value. is_value value ≡ true) → is_writer write.writer ≡ true
    → (given reading.leaf.number ≡ reading.leaf.page → HasPages given reading.growth → plan ≡ write_plan (shape_of reading.growth) reading.leaf.number (is_none reading.place) (link_of reading.place new.undo).page given new.first new.second new.third (row_of write (link_of reading.place new.undo)))
    → IsWrite given height write undo_page (kind_of (shape_of reading.growth)) plan
is_write given height write undo_page reading new plan tree undo range is has key value writer made =
    let growth = growth_of given height write.key in
    let place = undo_place given undo_page in
    let m = (leaf_at given height write.key root).page in
    let number : reading.leaf.number ≡ m = ap (λ (s : Stop). s.number) is.leaf in
    let page : given reading.leaf.number ≡ reading.leaf.page = ap given number ∙ sym (ap (λ (s : Stop). s.page) is.leaf) in
    let has1 : HasNew given (is_none place) (shape_of reading.growth) new = subst (λ (p : Option Link). HasNew given (is_none p) (shape_of reading.growth) new) is.place has in
    let has2 : HasNew given (is_none place) growth new = subst (λ (g : Growth). HasNew given (is_none place) g new) is.growth has1 in
    let link = link_of place new.undo in
    let exact : plan ≡ write_plan growth m (is_none place) link.page given new.first new.second new.third (row_of write link) =
    made page is.pages
    ∙ ap (λ (g : Growth). write_plan g reading.leaf.number (is_none reading.place) (link_of reading.place new.undo).page given new.first new.second new.third (row_of write (link_of reading.place new.undo))) is.growth
    ∙ ap (λ (n : ℕ). write_plan growth n (is_none reading.place) (link_of reading.place new.undo).page given new.first new.second new.third (row_of write (link_of reading.place new.undo))) number
    ∙ ap (λ (p : Option Link). write_plan growth m (is_none p) (link_of p new.undo).page given new.first new.second new.third (row_of write (link_of p new.undo))) is.place in
    let fits = write_fits given height write place new tree (place_fits given undo_page undo range) has2 key value writer in
    record {
      kind_is = ap kind_of is.growth;
      new = new;
      pages = has2;
      link = link;
      link_is = refl;
      exact = exact;
      well = subst (WellPut given (row_of write link)) (sym exact) (well_written given growth m (is_none place) link.page new.first new.second new.third (row_of write link) fits);
    }
