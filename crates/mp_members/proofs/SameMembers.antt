-- The same members, from one state to the next.
use Rattle.std.proofs.Common.{◌≡◌, ◌⊎◌, refl, sym, ◌∙◌, inl, inr, ⊎_elim, arith}
use Rattle.mp_outside.specs.declared.disks.Disk.{Ghosts}
use Rattle.mp_files.specs.Nine.{StillDisk, DiskRose}
use Rattle.mp_files.proofs.Places.{At-refl, At-trans}
use Rattle.mp_files.proofs.Nines.{StillDisk-refl, StillDisk-trans}
use Rattle.mp_primary.specs.Primaries.{PrimaryView}
use Rattle.mp_members.specs.declared.members.Members.{Members}
use Rattle.mp_members.specs.Running.{IsSameMember, AreSameMembers}

module _ {D : Type 0} (g : Ghosts D) where
  -- a count that rose by the first or by the second of two steps rose
  rose_first : (old mid new : D) → DiskRose g old mid → StillDisk g mid new → DiskRose g old new
  rose_first old mid new rose still = let count = still.count in omega (arith, rose, count)

  rose_second : (old mid new : D) → StillDisk g old mid → DiskRose g mid new → DiskRose g old new
  rose_second old mid new still rose = let count = still.count in omega (arith, rose, count)

  pub IsSameMember-refl : (pr : PrimaryView D) → IsSameMember g pr pr
  IsSameMember-refl pr = record { number = refl; work_is = refl; disk = StillDisk-refl g pr.media.log.disk; fell = λ down. inl down; stays = λ down. refl }

  pub IsSameMember-trans : (old mid new : PrimaryView D) → IsSameMember g old mid → IsSameMember g mid new → IsSameMember g old new
  IsSameMember-trans old mid new first then_ = record {
    number = then_.number ∙ first.number;
    work_is = then_.work_is ∙ first.work_is;
    disk = StillDisk-trans g old.media.log.disk mid.media.log.disk new.media.log.disk first.disk then_.disk;
    fell = fell;
    stays = λ down. then_.stays (λ up. down (sym (first.stays down) ∙ up)) ∙ first.stays down;
  }
    where
      fell : new.down ≡ new.number → (old.down ≡ new.number) ⊎ DiskRose g old.media.log.disk new.media.log.disk
      fell down = ⊎_elim
          (λ (was : mid.down ≡ new.number). ⊎_elim
          (λ (is : old.down ≡ mid.number). inl (is ∙ sym then_.number))
          (λ rose. inr (rose_first old.media.log.disk mid.media.log.disk new.media.log.disk rose then_.disk))
          (first.fell (was ∙ then_.number)))
          (λ rose. inr (rose_second old.media.log.disk mid.media.log.disk new.media.log.disk first.disk rose))
          (then_.fell down)

  pub AreSameMembers-refl : (m : Members D) → AreSameMembers g m m
  AreSameMembers-refl m = record {
    shared = refl;
    idle = refl;
    count = refl;
    each = At-refl (IsSameMember g) IsSameMember-refl m.primaries.items;
  }

  pub AreSameMembers-trans : (old mid new : Members D) → AreSameMembers g old mid → AreSameMembers g mid new → AreSameMembers g old new
  AreSameMembers-trans old mid new first then_ = record {
    shared = then_.shared ∙ first.shared;
    idle = then_.idle ∙ first.idle;
    count = then_.count ∙ first.count;
    each = λ place. At-trans (IsSameMember g) IsSameMember-trans old.primaries.items mid.primaries.items new.primaries.items first.count place (first.each place) (then_.each place);
  }
