-- A primary that is down went down with one whose log's disk failed.
use Rattle.std.proofs.Common.{◌≡◌, ℕ, List, [], ◌∷◌, sym, subst, arith}
use Rattle.std.specs.List.{AllByRecursion}
use Rattle.mp_model.specs.declared.transcripts.Down.{Down}
use Rattle.mp_script.specs.DownLines.{down_lines}
use Rattle.mp_script.proofs.DownLines.{line_is_of}
use Rattle.mp_script.proofs.ItemsAbove.{all_of}
use Rattle.mp_core_trx.specs.Events.{IsNode}
use Rattle.mp_outside.specs.declared.disks.Disk.{Ghosts}
use Rattle.mp_files.specs.Nine.{RoseOf}
use Rattle.mp_supports.specs.Work.{Work}
use Rattle.mp_verdict.specs.Orders.{NodeEntry}
use Rattle.mp_members.specs.declared.members.Members.{Members}
use Rattle.mp_members.specs.Running.{downs_in, logs_of, AreMembers, AreSameMembers}
use Rattle.mp_members.proofs.DownMembers.{down_by_another, failed_where_down}
use Rattle.mp_cluster.proofs.SameDisks.{disks_in, failed_disk, rose_before}
use Rattle.mp_cluster.specs.StepRuns.{AreStillThere}

module _ {D : Type 0} (g : Ghosts D) where
  -- members that were up went down with those whose disks failed
  pub lines_rose : (work : Work) (old new : Members D) (given : List NodeEntry) → AreMembers g work new given → AreSameMembers g old new → ((n : ℕ) → downs_in old n ≡ 0)
      → AllByRecursion (λ (line : Down). RoseOf g line.by (disks_in (logs_of old)) (disks_in (logs_of new))) (down_lines (downs_in new) 1 new.shared.opening.trx.primaries)
  lines_rose work old new given members same up = all_of (λ (line : Down). RoseOf g line.by (disks_in (logs_of old)) (disks_in (logs_of new))) (down_lines (downs_in new) 1 new.shared.opening.trx.primaries) (λ line there.
      let is = line_is_of (downs_in new) 1 new.shared.opening.trx.primaries line there in
      let low = is.low in
      let high = is.high in
      let node : IsNode new.shared.opening.trx line.primary = (low, omega (arith, high)) in
      let with = down_by_another g work new given members line.primary node is.is_down in
      subst (λ (n : ℕ). RoseOf g n (disks_in (logs_of old)) (disks_in (logs_of new))) (sym is.by_is)
      (failed_disk g (downs_in new line.primary) old new (failed_where_down g work old new given (downs_in new line.primary) members same with.0 (up (downs_in new line.primary)) with.1)))

  -- what rose over these disks rose over those from before
  pub all_before : (lines : List Down) (old mid new : List D) → AreStillThere g old mid → AllByRecursion (λ (line : Down). RoseOf g line.by mid new) lines → AllByRecursion (λ (line : Down). RoseOf g line.by old new) lines
  all_before [] old mid new still all = tt
  all_before (line ∷ lines) old mid new still all = (rose_before g line.by old mid new still all.0, all_before lines old mid new still all.1)
