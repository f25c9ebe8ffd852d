-- The disks of members' logs: the same members have the same disks and the same idle logs, and a disk that failed is that of its
-- primary.
use Rattle.std.proofs.Common.{◌≡◌, ℕ, List, ◌++◌, length, map, slice_get, Some, sym, ap, subst, ◌∙◌, arith}
use Rattle.std.proofs.lemmas.List.{length-append, length-map}
use Rattle.mp_outside.specs.declared.disks.Disk.{Ghosts}
use Rattle.mp_files.specs.Nine.{At, KeptDisk, StillDisk, RoseOf}
use Rattle.mp_files.proofs.Nines.{KeptDisk-still, StillDisk-refl, StillDisk-trans, RoseOf-later}
use Rattle.mp_files.proofs.Places.{At-trans}
use Rattle.mp_log.specs.Tails.{LogView}
use Rattle.mp_primary.specs.Primaries.{PrimaryView}
use Rattle.mp_members.specs.declared.members.Members.{Members}
use Rattle.mp_members.specs.Running.{logs_of, AreSameMembers, MemberFailed}
use Rattle.mp_core_trx.specs.declared.opening.Base.{Base}
use Rattle.mp_cluster.specs.StepRuns.{AreStillThere, HasIdleLogs}
use Rattle.mp_cluster.proofs.PlacesOfLists.{mapped_at, from_mapped, front_at, both_at, behind_at}

module _ {D : Type 0} where
  abbrev pub disks_in : List (LogView D) → List D
  disks_in logs = map (λ log. log.disk) logs

  abbrev its_log : PrimaryView D → LogView D
  its_log pr = pr.media.log

module _ {D : Type 0} (g : Ghosts D) where
  pub StillThere-trans : (old mid new : List D) → AreStillThere g old mid → AreStillThere g mid new → AreStillThere g old new
  StillThere-trans old mid new first then_ = record {
    count = then_.count ∙ first.count;
    each = λ place. At-trans (StillDisk g) (StillDisk-trans g) old mid new first.count place (first.each place) (then_.each place);
  }

  -- the logs of the same members
  abbrev IsSameLog : LogView D → LogView D → Type 0
  IsSameLog old new = StillDisk g old.disk new.disk

  same_logs : (old new : Members D) → AreSameMembers g old new → (place : ℕ) → At IsSameLog (logs_of old) (logs_of new) place
  same_logs old new same place =
      let count = length-map old.primaries.items its_log in
      let counted = length-map new.primaries.items its_log in
      let many = same.count in
      subst (λ (idle : List (LogView D)). At IsSameLog (logs_of old) (map its_log new.primaries.items ++ idle) place) (sym idle_is)
      (both_at IsSameLog (λ log. StillDisk-refl g log.disk) (map its_log old.primaries.items) (map its_log new.primaries.items) old.idle.items (omega (arith, count, counted, many)) front place)
    where
      idle_is : new.idle.items ≡ old.idle.items
      idle_is = ap (λ idle. idle.items) same.idle

      front : (at : ℕ) → At IsSameLog (map its_log old.primaries.items) (map its_log new.primaries.items) at
      front at x y was now =
          let before = from_mapped its_log old.primaries.items at x was in
          let after = from_mapped its_log new.primaries.items at y now in
          subst (λ (log : LogView D). IsSameLog log y) (sym before.2) (subst (λ (log : LogView D). IsSameLog (its_log before.0) log) (sym after.2) (same.each at before.0 after.0 before.1 after.1).disk)

  -- there are as many
  pub same_count : (old new : Members D) → AreSameMembers g old new → length (logs_of new) ≡ length (logs_of old)
  same_count old new same =
      let sum_old = length-append (map its_log old.primaries.items) old.idle.items in
      let sum_new = length-append (map its_log new.primaries.items) new.idle.items in
      let count_old = length-map old.primaries.items its_log in
      let count_new = length-map new.primaries.items its_log in
      let many = same.count in
      let idle = ap (λ v. length v.items) same.idle in
      omega (arith, sum_old, sum_new, count_old, count_new, many, idle)

  pub same_disks : (old new : Members D) → AreSameMembers g old new → AreStillThere g (disks_in (logs_of old)) (disks_in (logs_of new))
  same_disks old new same = record {
    count = length-map (logs_of new) (λ (log : LogView D). log.disk) ∙ same_count old new same ∙ sym (length-map (logs_of old) (λ (log : LogView D). log.disk));
    each = each_same;
  }
    where
      each_same : (place : ℕ) → At (StillDisk g) (disks_in (logs_of old)) (disks_in (logs_of new)) place
      each_same place x y was now =
          let before = from_mapped (λ (log : LogView D). log.disk) (logs_of old) place x was in
          let after = from_mapped (λ (log : LogView D). log.disk) (logs_of new) place y now in
          subst (λ (disk : D). StillDisk g disk y) (sym before.2) (subst (λ (disk : D). StillDisk g (before.0).disk disk) (sym after.2) (same_logs old new same place before.0 after.0 before.1 after.1))

  -- and the idle ones are as they were
  pub same_idle : (base : Base) (old new : Members D) → AreSameMembers g old new → HasIdleLogs g base old → HasIdleLogs g base new
  same_idle base old new same has = record {
    count = same_count old new same ∙ has.count;
    idle = λ place past log at.
        let count = same.count in
        let old_count = length-map old.primaries.items its_log in
        let new_count = length-map new.primaries.items its_log in
        let idle_is : new.idle.items ≡ old.idle.items = ap (λ idle. idle.items) same.idle in
        has.idle place (omega (arith, past, count)) log
        (behind_at (map its_log old.primaries.items) (map its_log new.primaries.items) old.idle.items (omega (arith, old_count, new_count, count)) place (omega (arith, past, count, old_count))
        ∙ ap (λ (idle : List (LogView D)). slice_get (map its_log new.primaries.items ++ idle) place) (sym idle_is)
        ∙ at);
  }

  -- the disk of a member's log, among all
  pub disk_at : (m : Members D) (place : ℕ) (pr : PrimaryView D) → slice_get m.primaries.items place ≡ Some pr → slice_get (disks_in (logs_of m)) place ≡ Some pr.media.log.disk
  disk_at m place pr at = mapped_at (λ (log : LogView D). log.disk) (logs_of m) place pr.media.log (front_at (map its_log m.primaries.items) m.idle.items place pr.media.log (mapped_at its_log m.primaries.items place pr at))

  pub failed_disk : (primary : ℕ) (old new : Members D) → MemberFailed g primary old new → RoseOf g primary (disks_in (logs_of old)) (disks_in (logs_of new))
  failed_disk primary old new failed = (
    failed.place,
    failed.number_is,
    record {
      before = failed.before.media.log.disk;
      after = failed.after.media.log.disk;
      was = disk_at old failed.place failed.before failed.was;
      now = disk_at new failed.place failed.after failed.now;
      rose = failed.rose;
    },
  )

  -- so it is where their disks were put back
  pub stopped_there : (old new : Members D) (disks : List D) → AreSameMembers g old new → disks ≡ disks_in (logs_of new) → AreStillThere g (disks_in (logs_of old)) disks
  stopped_there old new disks same back = subst (AreStillThere g (disks_in (logs_of old))) (sym back) (same_disks old new same)

  -- logs that were opened over disks and only looked at them
  pub opened_there : (disks : List D) (logs : List (LogView D)) → length logs ≡ length disks → ((place : ℕ) → At (λ disk log. KeptDisk g disk log.disk) disks logs place) → AreStillThere g disks (disks_in logs)
  opened_there disks logs many kept = record {
    count = length-map logs (λ (log : LogView D). log.disk) ∙ many;
    each = λ place x y was now.
        let log = from_mapped (λ (l : LogView D). l.disk) logs place y now in
        subst (λ (disk : D). StillDisk g x disk) (sym log.2) (KeptDisk-still g x (log.0).disk (kept place x log.0 was log.1));
  }

  -- a count that rose over these disks rose over those from before
  pub rose_before : (primary : ℕ) (old mid new : List D) → AreStillThere g old mid → RoseOf g primary mid new → RoseOf g primary old new
  rose_before primary old mid new still rose = RoseOf-later g primary old mid new still.count still.each rose
