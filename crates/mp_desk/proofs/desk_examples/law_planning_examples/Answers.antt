use Rattle.std.proofs.Common.{◌≡◌, List, [], ◌∷◌, length, refl, ap, arith}
use Rattle.mp_cells.specs.declared.rows.Row.{Row}
use Rattle.mp_cells.specs.Plans.{Plan, plan_of}
use Rattle.mp_cells.specs.SmallMaps.{fresh_map, gone_row, two_leaves}
use Rattle.mp_cells.proofs.SmallTrees.{fresh_is_tree, two_is_tree}
use Rattle.mp_histories.specs.Histories.{pages_after}
use Rattle.mp_histories.specs.SmallHistory.{small_row, small_put, small_restore}
use Rattle.mp_histories.proofs.Contents.{put_else, restore_else}
use Rattle.mp_histories.proofs.SmallPuts.{small_put_is_well}
use Rattle.mp_facts.proofs.SmallRestore.{restore_well}
use Rattle.mp_supports.proofs.SmallParts.{no_none}
use Rattle.mp_desk.proofs.SmallDesks.{met_here}
use Rattle.mp_desk.proofs.desk_examples.law_planning_examples.Goals as goal

pub returns-clause-puts : goal.returns-clause-puts
returns-clause-puts c = λ pages shows undo height tree.
    let zero = shows 0 (fresh_map 0) refl in
    let one = shows 1 (fresh_map 1) refl in
    let two = shows 2 (fresh_map 2) refl in
    (record { page = 2; index = 0 }, put_else (plan_of small_put.records) fresh_map pages small_row (zero, (two, (two, (one, tt)))) small_put_is_well)

pub returns-clause-puts_none : goal.returns-clause-puts_none
returns-clause-puts_none c = λ h.
    let put = h fresh_map (λ k page shown. absurd (no_none page shown)) tt 0 fresh_is_tree in
    let count : 0 ≡ 1 = ap (λ (l : List Row). length l) put.1.puts in
    omega (arith, count)

pub returns-clause-puts_back : goal.returns-clause-puts_back
returns-clause-puts_back c = λ pages shows height tree some.
    let root = pages_after fresh_map (small_put ∷ []) in
    restore_else (plan_of small_restore.records) root pages (gone_row 7) (shows 1 (root 1) refl, tt) restore_well

pub returns-clause-puts_none_back : goal.returns-clause-puts_none_back
returns-clause-puts_none_back c = λ h.
    let back = h two_leaves (λ k page shown. absurd (no_none page shown)) 1 two_is_tree refl in
    let count : 0 ≡ 1 = ap (λ (l : Plan). length l) back.one.1 in
    omega (arith, count)

pub returns-clause-refused : goal.returns-clause-refused
returns-clause-refused c = λ p pool before after wait h. met_here p before after wait h

pub returns-clause-not_full : goal.returns-clause-not_full
returns-clause-not_full c = λ p before after h. no_none h.0 h.1
