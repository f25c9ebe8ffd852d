-- The logs below the place are of their grammar.
use Rattle.mp_files.specs.Nine.{seen_at, EachTells, KeptLogs}
use Rattle.mp_recover.specs.ReadingLogs.{SoundBelow}
use Rattle.mp_recover.proofs.reading.read_logs.Given as goal

abbrev pub invariant-loop-place : goal.invariant-loop-place
invariant-loop-place g l = KeptLogs g.D.Disk l.initial.logs.items l.logs.items × (EachTells g.D.Disk l.initial.logs.items → SoundBelow (seen_at g.D.Disk l.initial.logs.items) l.place)
