-- Field by field.
use Rattle.std.proofs.Common.{◌≡◌, ℕ, ◌≤◌, true, false, List, [], length, refl, sym, ap, subst, ◌∙◌, arith}
use Rattle.std.proofs.lemmas.Option.{slice_get_within}
use Rattle.mp_outside.specs.declared.disks.Disk.{Ghosts}
use Rattle.mp_outside.specs.Faults.{one_more}
use Rattle.mp_files.proofs.Places.{same_some}
use Rattle.mp_log.specs.Logs.{IsText, HoldsOnly}
use Rattle.mp_log.specs.Tails.{LogView}
use Rattle.mp_opening.specs.Openings.{IsLogFrom}
use Rattle.mp_opening.specs.SmallOpenings.{first_log}
use Rattle.mp_opening.proofs.examples.law_handed_examples.Goals as goal

is_first : {D : Type 0} (g : Ghosts D) (disk : D) → IsText [] (g.seen disk) → HoldsOnly [] (g.image disk) → IsLogFrom g 0 1 (first_log disk)
is_first g disk text only = record {
  live = refl;
  node = refl;
  nothing = refl;
  last = omega arith;
  stands = λ tells.
      ([], record { reads = text; images = only; mtrs = record { each = tt; rising = refl }; sizes = tt; place = refl; last = refl; bytes = refl }, tt);
}

pub returns-clause-first : goal.returns-clause-first
returns-clause-first g c = λ disk text only. is_first g.D.Disk disk text only

pub returns-clause-not_second : goal.returns-clause-not_second
returns-clause-not_second g c = λ disk is. let no : ◌≡◌ {A = ℕ} 1 2 = is.node in absurd (omega (arith, no))

pub returns-clause-not_closed : goal.returns-clause-not_closed
returns-clause-not_closed g c = λ log closed is. let no : true ≡ false = sym is.live ∙ closed in absurd cc

pub returns-clause-not_above : goal.returns-clause-not_above
returns-clause-not_above g c = λ log last is. absurd (omega (arith, last, is.last))

pub returns-clause-at_its_place : goal.returns-clause-at_its_place
returns-clause-at_its_place g c = λ disk text only log is. subst (λ (l : LogView _). IsLogFrom g.D.Disk 0 1 l) (same_some (first_log disk) log is) (is_first g.D.Disk disk text only)

pub returns-clause-not_at_another : goal.returns-clause-not_at_another
returns-clause-not_at_another g c = λ disk at. let no : ◌≡◌ {A = ℕ} 1 2 = (at (first_log disk) refl).node in absurd (omega (arith, no))

pub returns-clause-none_left : goal.returns-clause-none_left
returns-clause-none_left g c = λ old new opened one hands. let none : length new.logs.items ≡ 0 = ap (λ (ds : List _). length ds) hands.none in absurd (omega (arith, none, one))

pub returns-clause-not_unsynced : goal.returns-clause-not_unsynced
returns-clause-not_unsynced g c = λ old new opened file tells image other hands. other (hands.synced tells file image)

pub returns-clause-not_to_blame : goal.returns-clause-not_to_blame
returns-clause-not_to_blame g c = λ old new before after rose.
    let no : one_more 0 ≤ 0 = subst (λ (n : ℕ). one_more n ≤ 0) before (subst (λ (n : ℕ). one_more (g.D.Disk.faults old.store) ≤ n) after rose) in absurd (omega (arith, no))

pub returns-clause-no_ninth : goal.returns-clause-no_ninth
returns-clause-no_ninth g c = λ old new eight rose.
    absurd (omega (arith, rose.1, eight, slice_get_within old.logs.items rose.0 rose.2.before rose.2.was))
