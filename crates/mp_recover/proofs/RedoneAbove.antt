-- One mtr more of those above a base.
use Rattle.std.proofs.Common.{◌≡◌, ℕ, nat_lt, Bool, true, false, cond, List, [], ◌∷◌, ◌++◌, append-nil, append_assoc, Option, None, Result, Ok, Err, refl, sym, ap, subst, ◌∙◌}
use Rattle.mp_outside.specs.declared.disks.Disk.{Ghosts}
use Rattle.mp_cells.specs.declared.records.Mtr.{Mtr}
use Rattle.mp_cells.specs.Trees.{PageMap}
use Rattle.mp_files.specs.Nine.{seen_at, EachTells, KeptLogs}
use Rattle.mp_files.proofs.Nines.{KeptDisk-still, RoseOf-later}
use Rattle.mp_recover.specs.declared.lanes.Lane.{Lane}
use Rattle.mp_recover.specs.declared.refusals.RecoverRefusal.{RecoverRefusal}
use Rattle.mp_recover.specs.declared.refusals.RecoverRefusal.TheVariants as recover
use Rattle.mp_recover.specs.declared.commits.CommitId.{CommitId}
use Rattle.mp_recover.specs.Merging.{MergeRefuses, MergeCause, RedoCause, Merges, GivesMerged}
use Rattle.mp_recover.specs.Redoing.{unless_refused, records_redone, mtrs_redone, mtrs_above, above_redone, commit_ids, ids_in, RedoesOne, RedoesAll}
use Rattle.mp_recover.proofs.Filling.{seen_same, tells_same}

-- the first mtr, and then the others
pub first_redone : (base : ℕ) (mtr : Mtr) (mtrs : List Mtr) (pages : PageMap) → mtrs_redone (mtrs_above base (mtr ∷ mtrs)) pages ≡ unless_refused (λ new. mtrs_redone (mtrs_above base mtrs) new) (above_redone base mtr pages)
first_redone base mtr mtrs pages = by_test (nat_lt base mtr.llsn)
  where
    by_test : (b : Bool) → mtrs_redone (cond b (mtr ∷ mtrs_above base mtrs) (mtrs_above base mtrs)) pages
        ≡ unless_refused (λ new. mtrs_redone (mtrs_above base mtrs) new) (cond b (records_redone mtr.llsn mtr.records pages) (pages, None))
    by_test true = refl
    by_test false = refl

pub first_ids : (base : ℕ) (mtr : Mtr) (mtrs : List Mtr) → ids_in (mtrs_above base (mtr ∷ mtrs)) ≡ ids_in (mtrs_above base (mtr ∷ [])) ++ ids_in (mtrs_above base mtrs)
first_ids base mtr mtrs = by_test (nat_lt base mtr.llsn)
  where
    by_test : (b : Bool) → ids_in (cond b (mtr ∷ mtrs_above base mtrs) (mtrs_above base mtrs)) ≡ ids_in (cond b (mtr ∷ []) []) ++ ids_in (mtrs_above base mtrs)
    by_test true = ap (λ (xs : List CommitId). xs ++ ids_in (mtrs_above base mtrs)) (sym (append-nil (commit_ids mtr.records)))
    by_test false = refl

-- a refusal of one is that of all
pub refused_all : (files : ℕ → List ℕ) (base : ℕ) (all : List Mtr) (mtr : Mtr) (rest : List Mtr) (old pages new : PageMap) (ids ids_after : List CommitId) (refusal : RecoverRefusal)
    → RedoesOne base mtr pages new ids ids_after (Err refusal) → mtrs_redone (mtrs_above base (mtr ∷ rest)) pages ≡ mtrs_redone (mtrs_above base all) old
    → RedoesAll files base all old new (Err refusal)
refused_all files base all mtr rest old pages new ids ids_after (recover.Store place) one e = absurd one
refused_all files base all mtr rest old pages new ids ids_after recover.StoreDisk one e = absurd one
refused_all files base all mtr rest old pages new ids ids_after (recover.Log primary place) one e = absurd one
refused_all files base all mtr rest old pages new ids ids_after (recover.LogDisk primary) one e = absurd one
refused_all files base all mtr rest old pages new ids ids_after (recover.Gap page wanted found) one e =
    sym e ∙ first_redone base mtr rest pages ∙ ap (unless_refused (λ f. mtrs_redone (mtrs_above base rest) f)) one
refused_all files base all mtr rest old pages new ids ids_after (recover.NotApplicable page llsn) one e =
    sym e ∙ first_redone base mtr rest pages ∙ ap (unless_refused (λ f. mtrs_redone (mtrs_above base rest) f)) one
refused_all files base all mtr rest old pages new ids ids_after (recover.Spent last) one e = absurd one
refused_all files base all mtr rest old pages new ids ids_after recover.Memory one e = tt

-- so is one of the merge
pub merge_refused : (files : ℕ → List ℕ) (base : ℕ) (all : List Mtr) (old new : PageMap) (refusal : RecoverRefusal) → MergeRefuses files refusal → RedoesAll files base all old new (Err refusal)
merge_refused files base all old new (recover.Store place) h = absurd h
merge_refused files base all old new recover.StoreDisk h = absurd h
merge_refused files base all old new (recover.Log primary place) h = h
merge_refused files base all old new (recover.LogDisk primary) h = tt
merge_refused files base all old new (recover.Gap page wanted found) h = absurd h
merge_refused files base all old new (recover.NotApplicable page llsn) h = absurd h
merge_refused files base all old new (recover.Spent last) h = absurd h
merge_refused files base all old new recover.Memory h = tt

module _ {D : Type 0} (g : Ghosts D) where
  -- what the merge gives of logs that read as at first
  pub gives_on : (old mid : List D) (fronts new : List Lane) (mtrs : List Mtr) (result : Result (Option Mtr) RecoverRefusal) → KeptLogs g old mid → EachTells g old
      → ((ms : List Mtr) → EachTells g mid → Merges fronts (seen_at g mid) ms → GivesMerged (seen_at g mid) ms new result)
      → Merges fronts (seen_at g old) mtrs → GivesMerged (seen_at g old) mtrs new result
  gives_on old mid fronts new mtrs result kept tell gives merges =
      let same : seen_at g mid ≡ seen_at g old = λ i. λ k. seen_same g old mid kept k i in
      subst (λ (files : ℕ → List ℕ). GivesMerged files mtrs new result) same
      (gives mtrs (tells_same g old mid kept tell) (subst (λ (files : ℕ → List ℕ). Merges fronts files mtrs) (sym same) merges))

  -- a disk that failed now failed in all
  pub cause_later : (old mid new : List D) (refusal : RecoverRefusal) → KeptLogs g old mid → MergeCause g mid new refusal → RedoCause g old new refusal
  cause_later old mid new (recover.Store place) kept h = tt
  cause_later old mid new recover.StoreDisk kept h = h
  cause_later old mid new (recover.Log primary place) kept h = tt
  cause_later old mid new (recover.LogDisk primary) kept h =
      RoseOf-later g primary old mid new kept.count (λ place before after was now. KeptDisk-still g before after (kept.each place before after was now)) h
  cause_later old mid new (recover.Gap page wanted found) kept h = tt
  cause_later old mid new (recover.NotApplicable page llsn) kept h = tt
  cause_later old mid new (recover.Spent last) kept h = tt
  cause_later old mid new recover.Memory kept h = tt

  -- no disk is at fault where a record can't be redone
  pub one_cause : (old new : List D) (base : ℕ) (mtr : Mtr) (pages after : PageMap) (ids ids_after : List CommitId) (refusal : RecoverRefusal) → RedoesOne base mtr pages after ids ids_after (Err refusal) → RedoCause g old new refusal
  one_cause old new base mtr pages after ids ids_after (recover.Store place) h = tt
  one_cause old new base mtr pages after ids ids_after recover.StoreDisk h = h
  one_cause old new base mtr pages after ids ids_after (recover.Log primary place) h = tt
  one_cause old new base mtr pages after ids ids_after (recover.LogDisk primary) h = absurd h
  one_cause old new base mtr pages after ids ids_after (recover.Gap page wanted found) h = tt
  one_cause old new base mtr pages after ids ids_after (recover.NotApplicable page llsn) h = tt
  one_cause old new base mtr pages after ids ids_after (recover.Spent last) h = tt
  one_cause old new base mtr pages after ids ids_after recover.Memory h = tt

-- what is left, after one mtr more
pub left_after : (base : ℕ) (mtr : Mtr) (rest : List Mtr) (pages new : PageMap) (ids ids_after all_ids : List CommitId) (all : PageMap × Option RecoverRefusal)
    → RedoesOne base mtr pages new ids ids_after (Ok tt) → mtrs_redone (mtrs_above base (mtr ∷ rest)) pages ≡ all → ids ++ ids_in (mtrs_above base (mtr ∷ rest)) ≡ all_ids
    → (mtrs_redone (mtrs_above base rest) new ≡ all) × (ids_after ++ ids_in (mtrs_above base rest) ≡ all_ids)
left_after base mtr rest pages new ids ids_after all_ids all one e f = (
  sym (first_redone base mtr rest pages ∙ ap (unless_refused (λ g. mtrs_redone (mtrs_above base rest) g)) one.0) ∙ e,
  ap (λ (xs : List CommitId). xs ++ ids_in (mtrs_above base rest)) one.1 ∙ append_assoc ids (ids_in (mtrs_above base (mtr ∷ []))) (ids_in (mtrs_above base rest))
      ∙ ap (λ (xs : List CommitId). ids ++ xs) (sym (first_ids base mtr rest)) ∙ f,
)
