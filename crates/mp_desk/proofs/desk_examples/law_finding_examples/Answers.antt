use Rattle.std.proofs.Common.{◌≡◌, None, refl, inl, inr, lit<, arith}
use Rattle.mp_cells.specs.SmallMaps.{fresh_map}
use Rattle.mp_cells.proofs.SmallTrees.{fresh_is_tree}
use Rattle.mp_core_pages.specs.declared.page_lock.Held.TheVariants.{No, Read}
use Rattle.mp_supports.specs.SmallParts.{version_by, only_undo}
use Rattle.mp_supports.proofs.SmallParts.{no_none}
use Rattle.mp_desk.specs.SmallDesks.{root_buffer, least_wait}
use Rattle.mp_desk.proofs.ReachedFacts.{known_world}
use Rattle.mp_desk.proofs.SmallDesks.{met_here, met_no_least, root_is_leaf, way_to_root, shown_lies, none_at_zero}
use Rattle.mp_desk.proofs.desk_examples.law_finding_examples.Goals as goal

read_not_no : Read ≡ No → ⊥
read_not_no e = absurd cc

pub returns-clause-misses : goal.returns-clause-misses
returns-clause-misses c = λ p k before after missed. inr (refl, missed)

pub returns-clause-misses_no_view : goal.returns-clause-misses_no_view
returns-clause-misses_no_view c = λ p before after h. met_no_least p before after (met_here p before after least_wait h)

pub returns-clause-met : goal.returns-clause-met
returns-clause-met c = met_here

pub returns-clause-met_no_view : goal.returns-clause-met_no_view
returns-clause-met_no_view c = met_no_least

pub returns-clause-leaf : goal.returns-clause-leaf
returns-clause-leaf c = λ run. record { leaf = root_buffer; buffer = refl; its_leaf = root_is_leaf 5 (lit< tt); lock = read_not_no }

pub returns-clause-not_without_its_lock : goal.returns-clause-not_without_its_lock
returns-clause-not_without_its_lock c = λ run h. h.lock refl

pub returns-clause-way : goal.returns-clause-way
returns-clause-way c = way_to_root

pub returns-clause-no_way : goal.returns-clause-no_way
returns-clause-no_way c = λ h. h.on_way fresh_map (λ k page shown. absurd (no_none page shown)) 0 fresh_is_tree 1 (0, omega arith, refl) refl

pub returns-clause-in_each : goal.returns-clause-in_each
returns-clause-in_each c = λ n w facts agrees. facts

pub returns-clause-not_in_each : goal.returns-clause-not_in_each
returns-clause-not_in_each c = λ n reached h. let k = known_world n reached in h k.world k.facts k.agrees

pub returns-clause-lies : goal.returns-clause-lies
returns-clause-lies c = shown_lies

pub returns-clause-not_on_page_zero : goal.returns-clause-not_on_page_zero
returns-clause-not_on_page_zero c = none_at_zero

pub returns-clause-record_at : goal.returns-clause-record_at
returns-clause-record_at c = record { page = only_undo (version_by None None 98); given = inl refl; number = refl; row_is = refl }

pub returns-clause-no_record : goal.returns-clause-no_record
returns-clause-no_record c = λ h. absurd h.given
