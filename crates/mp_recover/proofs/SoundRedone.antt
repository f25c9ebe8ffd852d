-- Sound images have no fault, and each of their mtrs above the base can be redone.
use Rattle.std.proofs.Common.{◌≡◌, ℕ, zero, suc, ◌+◌, ◌<◌, List, [], ◌∷◌, ◌++◌, Option, None, sym, ap, subst, arith}
use Rattle.std.specs.Prelude.{nat_lt, slice_index}
use Rattle.std.specs.List.{flat_map, AllByRecursion}
use Rattle.mp_cells.specs.declared.records.Mtr.{Mtr}
use Rattle.mp_cells.specs.Mtrs.{IsMtr}
use Rattle.mp_cells.specs.Trees.{PageMap}
use Rattle.mp_cells.proofs.KeyEdits.{All-append, All-filter}
use Rattle.mp_files.specs.Nine.{Image, log_of}
use Rattle.mp_histories.specs.Cuts.{log_place}
use Rattle.mp_histories.proofs.Sorting.{all_sorted}
use Rattle.mp_log.specs.Logs.{IsOf, mtrs_of}
use Rattle.mp_log.specs.Readers.{log_mtrs}
use Rattle.mp_log.proofs.ReadWhole.{text_read}
use Rattle.mp_recover.specs.declared.refusals.RecoverRefusal.{RecoverRefusal}
use Rattle.mp_recover.specs.Images.{all_primaries, base_llsn, all_logged, logged_above, LogsAreSound, SoundImage}
use Rattle.mp_recover.specs.Recovering.{redone_by, HasNoFault}
use Rattle.mp_recover.proofs.RecoveredImages.{sound_redone}

-- what holds for each primary holds for that of each place
at_primary : (P : ℕ → Type 0) → AllByRecursion P all_primaries → (place : ℕ) → place < 8 → P (place + 1)
at_primary P all zero lt = all.0
at_primary P all (suc zero) lt = all.1.0
at_primary P all (suc (suc zero)) lt = all.1.1.0
at_primary P all (suc (suc (suc zero))) lt = all.1.1.1.0
at_primary P all (suc (suc (suc (suc zero)))) lt = all.1.1.1.1.0
at_primary P all (suc (suc (suc (suc (suc zero))))) lt = all.1.1.1.1.1.0
at_primary P all (suc (suc (suc (suc (suc (suc zero)))))) lt = all.1.1.1.1.1.1.0
at_primary P all (suc (suc (suc (suc (suc (suc (suc zero))))))) lt = all.1.1.1.1.1.1.1.0
at_primary P all (suc (suc (suc (suc (suc (suc (suc (suc place)))))))) lt = absurd (omega (arith, lt))

pub sound_no_fault : (image : Image) → SoundImage image → HasNoFault image
sound_no_fault image sound = record {
  store = sound.store.sound;
  logs = at_primary (λ n. (log_mtrs n (log_of n image)).1 ≡ None) sound.logs;
}

-- ---- the mtrs of logs of the grammar are of the grammar

of_log : (node : ℕ) (mtrs : List Mtr) → AllByRecursion (IsOf node) mtrs → AllByRecursion IsMtr mtrs
of_log node [] all = tt
of_log node (mtr ∷ mtrs) all = (all.0.0, of_log node mtrs all.1)

of_file : (node : ℕ) (file : List ℕ) → ((place : ℕ) → slice_index file place < 256) → (log_mtrs node file).1 ≡ None → AllByRecursion IsMtr (log_mtrs node file).0
of_file node file bytes none =
    let read = text_read node file bytes none in
    subst (AllByRecursion IsMtr) (sym read.3) (of_log node (mtrs_of read.0) read.1.mtrs.each)

of_files : (image : Image) (ns : List ℕ) → ((n place : ℕ) → slice_index (log_of n image) place < 256) → AllByRecursion (λ n. (log_mtrs n (log_of n image)).1 ≡ None) ns
    → AllByRecursion IsMtr (flat_map (λ n. (log_mtrs n (log_of n image)).0) ns)
of_files image [] bytes all = tt
of_files image (n ∷ ns) bytes all =
    All-append IsMtr (log_mtrs n (log_of n image)).0 (flat_map (λ m. (log_mtrs m (log_of m image)).0) ns) (of_file n (log_of n image) (bytes n) all.0) (of_files image ns bytes all.1)

logged_are : (image : Image) → ((n place : ℕ) → slice_index (log_of n image) place < 256) → LogsAreSound image → AllByRecursion IsMtr (logged_above image)
logged_are image bytes sound =
    All-filter IsMtr (λ (m : Mtr). nat_lt (base_llsn image) m.llsn) (all_logged image)
    (all_sorted log_place IsMtr (flat_map (λ n. (log_mtrs n (log_of n image)).0) all_primaries) (of_files image all_primaries bytes sound))

pub sound_not_refused : (image : Image) → ((n place : ℕ) → slice_index (log_of n image) place < 256) → SoundImage image → (redone_by image).1 ≡ None
sound_not_refused image bytes sound = ap (λ (x : PageMap × Option RecoverRefusal). x.1) (sound_redone image sound (logged_are image bytes sound.logs))
