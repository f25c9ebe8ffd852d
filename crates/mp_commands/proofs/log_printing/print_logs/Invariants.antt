-- The logs below the place are printed, and have no fault; the others weren't touched.
use Rattle.std.proofs.Common.{◌≡◌, ℕ, ◌≤◌, None, slice_get}
use Rattle.mp_files.specs.Nine.{seen_at, KeptLogs}
use Rattle.mp_commands.specs.LogTexts.{texts_below, mtrs_below, fault_below, TellBelow}
use Rattle.mp_commands.proofs.log_printing.print_logs.Given as goal

abbrev pub invariant-loop-place : goal.invariant-loop-place
invariant-loop-place g l =
    KeptLogs g.D.Disk l.initial.logs.items l.logs.items
    × ((k : ℕ) → l.place ≤ k → slice_get l.logs.items k ≡ slice_get l.initial.logs.items k)
    × (TellBelow g.D.Disk l.place l.initial.logs.items →
    (l.text.items ≡ texts_below (seen_at g.D.Disk l.initial.logs.items) l.place)
    × (l.total ≡ mtrs_below (seen_at g.D.Disk l.initial.logs.items) l.place)
    × (fault_below (seen_at g.D.Disk l.initial.logs.items) l.place ≡ None))
