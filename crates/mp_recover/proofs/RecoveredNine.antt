-- Recovery of nine disks: what was loaded, and then what was saved.
use Rattle.std.proofs.Common.{◌≡◌, ℕ, List, length, ap, ◌∙◌, arith}
use Rattle.mp_outside.specs.declared.disks.Disk.{Ghosts}
use Rattle.mp_outside.specs.Disks.{Only}
use Rattle.mp_files.specs.declared.disks.Disks.{Disks}
use Rattle.mp_files.specs.Nine.{Image, Every, as_read, KeptNine, StillNine, RoseOf}
use Rattle.mp_files.proofs.Nines.{KeptNine-trans, KeptNine-still, KeptDisk-still, StillNine-trans, RoseOf-later}
use Rattle.mp_store.specs.declared.headers.Header.{Header}
use Rattle.mp_store.specs.StoreFiles.{header_in_force}
use Rattle.mp_recover.specs.declared.commits.CommitId.{CommitId}
use Rattle.mp_recover.specs.declared.loading.Loaded.{Loaded}
use Rattle.mp_recover.specs.declared.recovering.Recovered.{Recovered}
use Rattle.mp_recover.specs.declared.refusals.RecoverRefusal.{RecoverRefusal}
use Rattle.mp_recover.specs.declared.refusals.RecoverRefusal.TheVariants as recover
use Rattle.mp_recover.specs.Checkpoints.{LeavesAll, RecoverCause}
use Rattle.mp_recover.specs.Finding.{newest_base}
use Rattle.mp_recover.specs.Images.{SoundImage}
use Rattle.mp_recover.specs.Merging.{MergeCause, RedoCause}
use Rattle.mp_recover.specs.Recovering.{IsLoaded, LoadedFits, AnswersFor, IsRecovered}
use Rattle.mp_recover.specs.SavingLoaded.{HeaderSpent, LoadedSaved}
use Rattle.mp_recover.proofs.LoadingNine.{not_spent}
use Rattle.mp_recover.proofs.RecoveredImages.{saved_recovered}

module _ {D : Type 0} (g : Ghosts D) (old mid new : Disks D) (kept : KeptNine g old mid) where
  pub still_after : StillNine g mid new → StillNine g old new
  still_after still = StillNine-trans g old mid new (KeptNine-still g old mid kept) still

  pub leaves_after : (refusal : RecoverRefusal) → LeavesAll g mid new refusal → LeavesAll g old new refusal
  leaves_after (recover.Store place) h = KeptNine-trans g old mid new kept h
  leaves_after recover.StoreDisk h = tt
  leaves_after (recover.Log primary place) h = KeptNine-trans g old mid new kept h
  leaves_after (recover.LogDisk primary) h = tt
  leaves_after (recover.Gap page wanted found) h = KeptNine-trans g old mid new kept h
  leaves_after (recover.NotApplicable page llsn) h = KeptNine-trans g old mid new kept h
  leaves_after (recover.Spent last) h = KeptNine-trans g old mid new kept h
  leaves_after recover.Memory h = KeptNine-trans g old mid new kept h

  rose_after_kept : (primary : ℕ) → RoseOf g primary mid.logs.items new.logs.items → RoseOf g primary old.logs.items new.logs.items
  rose_after_kept primary rose =
      RoseOf-later g primary old.logs.items mid.logs.items new.logs.items kept.logs.count (λ place before after was now. KeptDisk-still g before after (kept.logs.each place before after was now)) rose

  pub cause_after : (refusal : RecoverRefusal) → RecoverCause g mid new refusal → RecoverCause g old new refusal
  cause_after (recover.Store place) h = tt
  cause_after recover.StoreDisk h = omega (arith, kept.store.count, h)
  cause_after (recover.Log primary place) h = tt
  cause_after (recover.LogDisk primary) h = rose_after_kept primary h
  cause_after (recover.Gap page wanted found) h = tt
  cause_after (recover.NotApplicable page llsn) h = tt
  cause_after (recover.Spent last) h = tt
  cause_after recover.Memory h = tt

  -- a cause in the logs alone
  pub merge_cause_after : (refusal : RecoverRefusal) → MergeCause g mid.logs.items new.logs.items refusal → RecoverCause g old new refusal
  merge_cause_after (recover.Store place) h = absurd h
  merge_cause_after recover.StoreDisk h = absurd h
  merge_cause_after (recover.Log primary place) h = tt
  merge_cause_after (recover.LogDisk primary) h = rose_after_kept primary h
  merge_cause_after (recover.Gap page wanted found) h = absurd h
  merge_cause_after (recover.NotApplicable page llsn) h = absurd h
  merge_cause_after (recover.Spent last) h = absurd h
  merge_cause_after recover.Memory h = tt

  pub redo_cause_after : (refusal : RecoverRefusal) → RedoCause g mid.logs.items new.logs.items refusal → RecoverCause g old new refusal
  redo_cause_after (recover.Store place) h = tt
  redo_cause_after recover.StoreDisk h = absurd h
  redo_cause_after (recover.Log primary place) h = tt
  redo_cause_after (recover.LogDisk primary) h = rose_after_kept primary h
  redo_cause_after (recover.Gap page wanted found) h = tt
  redo_cause_after (recover.NotApplicable page llsn) h = tt
  redo_cause_after (recover.Spent last) h = tt
  redo_cause_after recover.Memory h = tt

-- where all nine were only looked at, all is left
pub all_left_be : {D : Type 0} (g : Ghosts D) (old new : Disks D) (refusal : RecoverRefusal) → KeptNine g old new → LeavesAll g old new refusal
all_left_be g old new (recover.Store place) kept = kept
all_left_be g old new recover.StoreDisk kept = tt
all_left_be g old new (recover.Log primary place) kept = kept
all_left_be g old new (recover.LogDisk primary) kept = tt
all_left_be g old new (recover.Gap page wanted found) kept = kept
all_left_be g old new (recover.NotApplicable page llsn) kept = kept
all_left_be g old new (recover.Spent last) kept = kept
all_left_be g old new recover.Memory kept = kept

-- what is answered of what was loaded
pub answers_for : (image : Image) (loaded : Loaded) (r : Recovered) → IsLoaded image loaded → (HeaderSpent loaded → ⊥) → r.base ≡ newest_base loaded.header.base loaded.found.ids.items → r.kept ≡ length loaded.found.ids.items
    → r.undone ≡ loaded.undone → AnswersFor image r
answers_for image loaded r is spent base kept undone = record {
  no_fault = is.no_fault;
  not_refused = is.not_refused;
  not_spent = not_spent image loaded is spent;
  base = base ∙ ap (λ (h : Header). newest_base h.base loaded.found.ids.items) is.header_is ∙ ap (newest_base (header_in_force image.store).base) is.ids;
  kept = kept ∙ ap (λ (ids : List CommitId). length ids) is.ids;
  undone = undone ∙ is.undone;
}

pub images_recovered : {D : Type 0} (g : Ghosts D) (old mid new : Disks D) (loaded : Loaded) → KeptNine g old mid → SoundImage (as_read g old) → IsLoaded (as_read g old) loaded → LoadedFits loaded
    → Only (g.seen mid.store) (g.image mid.store) → Every g new (LoadedSaved g loaded mid) → Every g new (IsRecovered (as_read g old))
images_recovered g old mid new loaded kept sound is fits only saved after there =
    saved_recovered (as_read g old) sound loaded is fits after (saved after there).empty g mid kept.store.quiet.same only (saved after there)
