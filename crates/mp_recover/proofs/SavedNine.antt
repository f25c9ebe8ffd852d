-- What was loaded is saved.
use Rattle.std.proofs.Common.{◌≡◌, subst}
use Rattle.mp_outside.specs.declared.disks.Disk.{Ghosts}
use Rattle.mp_files.specs.declared.disks.Disks.{Disks}
use Rattle.mp_files.specs.Nine.{Every}
use Rattle.mp_recover.specs.declared.loading.Loaded.{Loaded}
use Rattle.mp_recover.specs.Checkpoints.{AreEmpty}
use Rattle.mp_recover.specs.SavingLoaded.{LoadedSaved}

-- where no mtr was above the base, the logs alone were emptied
pub kept_saved : {D : Type 0} (g : Ghosts D) (loaded : Loaded) (old new : Disks D) → loaded.found.llsn ≡ loaded.header.llsn → new.store ≡ old.store → Every g new AreEmpty → Every g new (LoadedSaved g loaded old)
kept_saved {D} g loaded old new same same_store empty image is = record {
  kept = λ e. subst (λ (store : D). g.image store image.store) same_store is.store;
  flipped = λ must. absurd (must same);
  empty = empty image is;
}
