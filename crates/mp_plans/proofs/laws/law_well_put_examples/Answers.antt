-- By the plan of a write, by the undo records after it, and by counting.
use Rattle.std.proofs.Common.{◌≡◌, ℕ, ◌≤◌, ◌==◌, true, List, [], ◌∷◌, Option, Some, None, length, refl, ap, ◌∙◌, arith}
use Rattle.mp_cells.specs.declared.rows.Link.{Link}
use Rattle.mp_cells.specs.declared.rows.Row.{Row}
use Rattle.mp_cells.specs.SmallMaps.{fresh_map, gone_row}
use Rattle.mp_cells.specs.Plans.{Plan, after_plan}
use Rattle.mp_cells.specs.Writes.{undo_at, WellPut, WritesRow}
use Rattle.mp_cells.proofs.SmallTrees.{fresh_is_tree}
use Rattle.mp_cells.specs.Trees.{uses}
use Rattle.mp_cells.proofs.Uses.{one_if-most}
use Rattle.mp_cells.proofs.Links.{added_there, agrees_itself}
use Rattle.mp_plans.specs.Growth.{stays}
use Rattle.mp_plans.specs.FirstPut.{first_row, first_put}
use Rattle.mp_plans.proofs.WritePlans.{well_written}
use Rattle.mp_plans.proofs.laws.law_well_put_examples.Goals as goal

pub returns-clause-first : goal.returns-clause-first
returns-clause-first c = well_written fresh_map stays 1 true 2 0 0 0 (first_row 0) (record {
  range = omega arith;
  is_leaf = record { kind = refl; from = omega arith; until = omega arith };
  fits = refl;
  clear = ((omega arith, omega arith, refl), tt);
  once = λ n. once n;
  undo = tt;
  is_row = record { key = omega arith; value = tt; origin = refl };
  writer = refl;
  link = refl;
})
  where
    once : (n : ℕ) → uses n (2 ∷ []) ≤ 1
    once n = omega (arith, one_if-most (2 == n))

-- what the plan does to a fresh map
over_fresh : (row : Row) (plan : Plan) → WellPut fresh_map row plan → WritesRow plan row fresh_map 0
over_fresh row plan well = well.writes fresh_map (agrees_itself plan fresh_map) 0 fresh_is_tree

same_some : {T : Type 0} (x y : T) → Some x ≡ Some y → x ≡ y
same_some x y e = cc

pub returns-clause-behind : goal.returns-clause-behind
returns-clause-behind c = λ well.
    let plan = first_put (gone_row 7) (first_row 1) in
    let w = over_fresh (first_row 1) plan well in
    let link : Link = record { page = 2; index = 1 } in
    let same : link ≡ w.link = same_some link w.link w.linked in
    let there = added_there fresh_map (after_plan plan fresh_map) w.link (gone_row 7) w.undo in
    let none : ◌≡◌ {A = Option Row} None (Some (gone_row 7)) = ap (undo_at (after_plan plan fresh_map)) same ∙ there in
    absurd cc

pub returns-clause-former : goal.returns-clause-former
returns-clause-former c = λ well.
    let plan = first_put (gone_row 8) (first_row 0) in
    let w = over_fresh (first_row 0) plan well in
    let link : Link = record { page = 2; index = 0 } in
    let same : link ≡ w.link = same_some link w.link w.linked in
    let there = added_there fresh_map (after_plan plan fresh_map) w.link (gone_row 7) w.undo in
    let rows : ◌≡◌ {A = Option Row} (Some (gone_row 8)) (Some (gone_row 7)) = ap (undo_at (after_plan plan fresh_map)) same ∙ there in
    let keys : ◌≡◌ {A = ℕ} 8 7 = ap (λ (r : Row). r.key) (same_some (gone_row 8) (gone_row 7) rows) in
    omega (arith, keys)

pub returns-clause-empty : goal.returns-clause-empty
returns-clause-empty c = λ given row well. absurd (omega (arith, ap (λ (rows : List Row). length rows) well.puts))

pub returns-clause-twice : goal.returns-clause-twice
returns-clause-twice c = λ given row m well. absurd (omega (arith, ap (λ (rows : List Row). length rows) well.puts))

pub returns-clause-kept : goal.returns-clause-kept
returns-clause-kept c = λ given row former u m well. absurd (omega (arith, ap (λ (rows : List Row). length rows) well.keeps.1))

pub returns-clause-taken : goal.returns-clause-taken
returns-clause-taken c = λ given row plan a b d e f g well. absurd (omega (arith, well.taken))
