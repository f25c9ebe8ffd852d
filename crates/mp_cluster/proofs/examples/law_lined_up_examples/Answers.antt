-- By their parts.
use Rattle.std.proofs.Common.{◌≡◌, ℕ, ◌≤◌, List, [], length, slice_get, refl, sym, ap, subst, ◌∙◌, arith}
use Rattle.std.proofs.lemmas.Option.{slice_get_within}
use Rattle.mp_outside.specs.Faults.{one_more}
use Rattle.mp_files.proofs.Nines.{KeptNine-refl, KeptNine-still}
use Rattle.mp_files.proofs.Places.{same_some}
use Rattle.mp_histories.proofs.Lists.{nothing_there}
use Rattle.mp_members.specs.Running.{logs_of}
use Rattle.mp_cluster.proofs.examples.law_lined_up_examples.Goals as goal

pub returns-clause-none_there : goal.returns-clause-none_there
returns-clause-none_there g c = record { count = refl; each = λ place x y was now. absurd cc }

pub returns-clause-not_gone : goal.returns-clause-not_gone
returns-clause-not_gone g c = λ disk there. let count = there.count in omega (arith, count)

pub returns-clause-not_down : goal.returns-clause-not_down
returns-clause-not_down g c = λ script base m down lined. let up = lined.up 1 in absurd (omega (arith, down, up))

pub returns-clause-no_logs : goal.returns-clause-no_logs
returns-clause-no_logs g c = λ base m none has.
    let zero : length (logs_of m) ≡ 0 = ap (λ (ls : List _). length ls) none in
    let eight = has.count in
    absurd (omega (arith, zero, eight))

pub returns-clause-all_at_work : goal.returns-clause-all_at_work
returns-clause-all_at_work g c = λ base m eight all. record {
  count = eight;
  idle = λ place past log at. let within = slice_get_within (logs_of m) place log at in absurd (omega (arith, within, past, eight, all));
}

pub returns-clause-not_without_a_fault : goal.returns-clause-not_without_a_fault
returns-clause-not_without_a_fault g c = λ disks disk first none failed.
    let place : failed.0.0 ≡ 0 = (let is = failed.0.1 in omega (arith, is)) in
    let rose = failed.0.2 in
    let before : rose.before ≡ disk = same_some rose.before disk (sym rose.was ∙ ap (λ (n : ℕ). slice_get disks.logs.items n) place ∙ first) in
    let after : rose.after ≡ disk = same_some rose.after disk (sym rose.now ∙ ap (λ (n : ℕ). slice_get disks.logs.items n) place ∙ first) in
    let no : one_more (g.D.Disk.faults disk) ≤ g.D.Disk.faults disk =
    subst (λ (d : _). one_more (g.D.Disk.faults d) ≤ g.D.Disk.faults disk) before (subst (λ (d : _). one_more (g.D.Disk.faults rose.before) ≤ g.D.Disk.faults d) after rose.rose) in
    let zero : one_more 0 ≤ 0 = subst (λ (n : ℕ). one_more n ≤ n) none no in
    absurd (omega (arith, zero))

pub returns-clause-not_with_nobody : goal.returns-clause-not_with_nobody
returns-clause-not_with_nobody g c = λ old new failed. let no = failed.0.1 in absurd (omega (arith, no))

pub returns-clause-not_over : goal.returns-clause-not_over
returns-clause-not_over g c = λ script base m disks disk one up. nothing_there disk [] (sym up.none ∙ one)

pub returns-clause-refused : goal.returns-clause-refused
returns-clause-refused g c = λ disks. record {
  nine = KeptNine-still g.D.Disk disks disks (KeptNine-refl g.D.Disk disks);
  store = (KeptNine-refl g.D.Disk disks).store;
  finds = λ tells. tt;
  leaves = tt;
  cause = tt;
}

pub returns-clause-not_blamed : goal.returns-clause-not_blamed
returns-clause-not_blamed g c = λ disks still is. still is.cause

pub returns-clause-not_another_mode : goal.returns-clause-not_another_mode
returns-clause-not_another_mode g c = λ script o old new told. let mode = told.mode_is in absurd cc
