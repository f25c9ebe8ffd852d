use Rattle.std.proofs.Common.{◌≡◌, ◌<◌, ◌≤◌, ℕ, false, List, [], ◌∷◌, length, refl, sym, ap, subst, ◌∙◌, inl, lit≤, arith}
use Rattle.std.proofs.lemmas.Bool.{false≢true}
use Rattle.mp_cells.specs.Plans.{Plan}
use Rattle.mp_core_trx.specs.Events.{IsNode}
use Rattle.mp_core_pages.specs.declared.page_lock.Held.TheVariants.{No, Read}
use Rattle.mp_core.specs.declared.part.CorePart.{CorePart}
use Rattle.mp_core.specs.declared.part.DownPart.{DownPart}
use Rattle.mp_core.specs.Downs.{first_down_part, goes_down_by}
use Rattle.mp_shared.specs.SmallNodes.{node_of_first}
use Rattle.mp_buffer_fusion.specs.PoolExamples.{blank_buffer}
use Rattle.mp_supports.specs.SmallParts.{part_before_steps}
use Rattle.mp_supports.proofs.Extending.{core_extends_refl}
use Rattle.mp_supports.proofs.SmallParts.{no_none}
use Rattle.mp_desk.specs.Desks.{DeskAgrees}
use Rattle.mp_desk.specs.SmallDesks.{desk_with}
use Rattle.mp_desk.proofs.Moving.{looks_none, locks_none}
use Rattle.mp_desk.proofs.AtDesk.{brings_none, given_emptied}
use Rattle.mp_desk.proofs.SmallMaking.{only_first}
use Rattle.mp_desk.proofs.desk_examples.law_at_desk_examples.Goals as goal

empty_agrees : DeskAgrees (desk_with [] 0) part_before_steps
empty_agrees = record {
  pool = record {
    shows = λ k b is. absurd (no_none b is);
    keeps = λ k less. let none : 0 < 0 = less in absurd (omega (arith, none));
  };
  not_below = lit≤ tt;
  not_above = lit≤ tt;
  seen = λ k b is. absurd (no_none b is);
  undo_page = tt;
}

none_one : (x : ℕ) (xs : List ℕ) → x ∷ xs ≡ [] → ⊥
none_one x xs e = absurd cc

read_not_no : Read ≡ No → ⊥
read_not_no e = absurd cc

pub returns-clause-agrees : goal.returns-clause-agrees
returns-clause-agrees c = empty_agrees

pub returns-clause-not_above_all_told : goal.returns-clause-not_above_all_told
returns-clause-not_above_all_told c = λ h. let above : 7 ≤ 0 = h.not_above in omega (arith, above)

pub returns-clause-at_desk : goal.returns-clause-at_desk
returns-clause-at_desk c = λ run reached. record {
  its_run = refl;
  reached = reached;
  part = (
    λ none. no_none part_before_steps (sym none),
    λ q has. subst (λ (r : CorePart). IsNode r.trx.opening 1) (only_first run part_before_steps 1 q has) (lit≤ tt, lit≤ tt),
  );
  frames = refl;
  agrees = λ q has. subst (DeskAgrees (desk_with [] 0)) (only_first run part_before_steps 1 q has) empty_agrees;
  written = λ k b is dirty. absurd (no_none b is);
}

pub returns-clause-not_with_a_frame : goal.returns-clause-not_with_a_frame
returns-clause-not_with_a_frame c = λ run desk p n three at. none_one 3 [] (sym three ∙ at.frames)

pub returns-clause-moves : goal.returns-clause-moves
returns-clause-moves c = λ run. looks_none 1 (node_of_first run part_before_steps)

pub returns-clause-goes_not_down : goal.returns-clause-goes_not_down
returns-clause-goes_not_down c = λ run h.
    let moved = h.mine part_before_steps refl in
    let down : CorePart = record part_before_steps { downs = goes_down_by 1 first_down_part } in
    let own : 1 ≡ 0 = ap (λ (r : CorePart). r.downs.own) (only_first run down 1 moved.0 moved.1) ∙ ap (λ (d : DownPart). d.own) moved.3 in
    omega (arith, own)

pub returns-clause-given : goal.returns-clause-given
returns-clause-given c = record { given = inl refl; number = refl; page_is = refl; knew = lit≤ tt; since = λ x none. absurd none }

pub returns-clause-not_given : goal.returns-clause-not_given
returns-clause-not_given c = λ h. absurd h.given

pub returns-clause-afresh : goal.returns-clause-afresh
returns-clause-afresh c = λ desk p n none q has. (q, core_extends_refl q, given_emptied q q desk.pool none)

pub returns-clause-not_afresh : goal.returns-clause-not_afresh
returns-clause-not_afresh c = λ run h. let was = h part_before_steps refl in false≢true (was.2 (blank_buffer 5 false) (inl refl)).0

pub returns-clause-same_work : goal.returns-clause-same_work
returns-clause-same_work c = (refl, refl)

pub returns-clause-another_plan : goal.returns-clause-another_plan
returns-clause-another_plan c = λ desk h. let count : 1 ≡ 0 = ap (λ (l : Plan). length l) h.0 in omega (arith, count)

pub returns-clause-keeps_locks : goal.returns-clause-keeps_locks
returns-clause-keeps_locks c = locks_none

pub returns-clause-loses_a_lock : goal.returns-clause-loses_a_lock
returns-clause-loses_a_lock c = λ run h. h.held 0 read_not_no refl

pub returns-clause-brings_none : goal.returns-clause-brings_none
returns-clause-brings_none c = brings_none

pub returns-clause-not_one_more : goal.returns-clause-not_one_more
returns-clause-not_one_more c = λ p n h. let few : 1 ≤ 0 = h.few in omega (arith, few)
