use Rattle.std.proofs.Common.{◌≡◌, ℕ, List, length, refl, sym, ap, ◌∙◌, inr, ⊎_elim, arith}
use Rattle.std.specs.Prelude.{slice_get}
use Rattle.mp_files.proofs.Nines.{StillDisk-refl}
use Rattle.mp_script.proofs.Options.{not_some}
use Rattle.mp_primary.specs.Primaries.{PrimaryView}
use Rattle.mp_members.proofs.SameMembers.{IsSameMember-refl, AreSameMembers-refl}
use Rattle.mp_members.proofs.examples.law_member_examples.Goals as goal

two_one : ◌≡◌ {A = ℕ} 2 1 → ⊥
two_one e = absurd cc

zero_one : ◌≡◌ {A = ℕ} 0 1 → ⊥
zero_one e = absurd cc

one_zero : ◌≡◌ {A = ℕ} 1 0 → ⊥
one_zero e = absurd cc

pub returns-clause-same_member : goal.returns-clause-same_member
returns-clause-same_member g c = λ pr. IsSameMember-refl g.D.Disk pr

pub returns-clause-another_number : goal.returns-clause-another_number
returns-clause-another_number g c = λ old new one two same. two_one (sym two ∙ same.number ∙ one)

pub returns-clause-up_again : goal.returns-clause-up_again
returns-clause-up_again g c = λ old new was up same. zero_one (sym up ∙ same.stays (λ none. one_zero (sym was ∙ none)) ∙ was)

pub returns-clause-fell : goal.returns-clause-fell
returns-clause-fell g c = λ pr up rose. record {
  number = refl;
  work_is = refl;
  disk = StillDisk-refl g.D.Disk pr.media.log.disk;
  fell = λ down. inr rose;
  stays = λ down. absurd (down up);
}

pub returns-clause-not_fell : goal.returns-clause-not_fell
returns-clause-not_fell g c = λ pr number up still same. ⊎_elim (λ (was : pr.down ≡ pr.number). zero_one (sym up ∙ was ∙ number)) still (same.fell (sym number))

pub returns-clause-fell_with : goal.returns-clause-fell_with
returns-clause-fell_with g c = λ pr number up. record {
  number = refl;
  work_is = refl;
  disk = StillDisk-refl g.D.Disk pr.media.log.disk;
  fell = λ down. absurd (two_one (down ∙ number));
  stays = λ down. absurd (down up);
}

pub returns-clause-same : goal.returns-clause-same
returns-clause-same g c = λ m. AreSameMembers-refl g.D.Disk m

pub returns-clause-fewer : goal.returns-clause-fewer
returns-clause-fewer g c = λ old new pr one none same.
    zero_one (sym (ap (λ (l : List (PrimaryView g.row.D.Denot)). length l) none) ∙ same.count ∙ ap (λ (l : List (PrimaryView g.row.D.Denot)). length l) one)

pub returns-clause-failed : goal.returns-clause-failed
returns-clause-failed g c = λ old new before after was now rose. record {
  place = 0;
  number_is = refl;
  before = before;
  after = after;
  was = ap (λ (l : List (PrimaryView g.row.D.Denot)). slice_get l 0) was;
  now = ap (λ (l : List (PrimaryView g.row.D.Denot)). slice_get l 0) now;
  rose = rose;
}

pub returns-clause-not_there : goal.returns-clause-not_there
returns-clause-not_there g c = λ old new pr one failed.
    let number = failed.number_is in
    let place : failed.place ≡ 1 = omega (arith, number) in
    not_some failed.before (sym (ap (λ (l : List (PrimaryView g.row.D.Denot)). slice_get l 1) one) ∙ ap (slice_get old.primaries.items) (sym place) ∙ failed.was)
