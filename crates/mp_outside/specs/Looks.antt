-- Effects of calls on a disk, in one word each, for the contracts of the crates above.
use Rattle.std.specs.Prelude.{◌≡◌, ℕ, ◌≤◌, List, IsTrue}
use Rattle.mp_outside.specs.Disks.{Quiet, Only}
use Rattle.mp_outside.specs.declared.disks.Disk.{Ghosts}

module _ {D : Type 0} (g : Ghosts D) where
  -- a call only looked: the disk tells as before and reads as before, no image is new, it is known to be no shorter, and its count of faults didn't fall
  pub record Looks (old new : D) : Type 0 where
    pub tells : g.tells new ≡ g.tells old
    pub quiet : Quiet (g.seen old) (g.image old) (g.seen new) (g.image new)
    pub known : g.known old ≤ g.known new
    pub count : g.faults old ≤ g.faults new

  -- where a disk tells, and a crash before the call leaves what a read gives, this holds of all that a crash after it leaves
  abbrev pub Leaves : D → D → (List ℕ → Type 0) → Type 0
  Leaves old new P = IsTrue (g.tells old) → Only (g.seen old) (g.image old) → (c : List ℕ) → g.image new c → P c
