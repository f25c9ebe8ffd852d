-- All eight, or up to the one that was refused.
use Rattle.std.proofs.Common.{ℕ, List, sym, subst, ◌∙◌, arith}
use Rattle.mp_files.specs.Nine.{seen_at, KeptLogs}
use Rattle.mp_recover.specs.ReadingLogs.{SoundBelow}
use Rattle.mp_opening.specs.OpeningLogs.{LogsCause}
use Rattle.mp_opening.proofs.OpenedLogs.{opened_count, sound_all, stops_room, stops_kept, stops_finds, stops_cause}
use Rattle.mp_opening.proofs.logs.open_logs.Goals as goal

pub put_before-requires : goal.put_before-requires
put_before-requires g c =
    let room = stops_room g.D.Disk c.in-Err.refusal c.args.disks.now.items c.open_each.new.disks.items c.open_each.new.logs.items c.in-Err.ensures.stops in
    omega (arith, room, c.args.disks.now.ok.0, c.args.disks.now.ok.1, c.open_each.ensures.capacity)

pub returns-in-Ok-open_each-clause-count : goal.returns-in-Ok-open_each-clause-count
returns-in-Ok-open_each-clause-count g c = opened_count g.D.Disk 1 c.args.disks.now.items c.open_each.new.logs.items c.in-Ok-open_each.ensures.opened ∙ c.requires

pub returns-in-Ok-open_each-clause-finds : goal.returns-in-Ok-open_each-clause-finds
returns-in-Ok-open_each-clause-finds g c = λ tell.
    subst (λ (n : ℕ). SoundBelow (seen_at g.D.Disk c.args.disks.now.items) n) c.requires
    (sound_all g.D.Disk c.args.disks.now.items c.open_each.new.logs.items c.in-Ok-open_each.ensures.opened tell)

pub returns-in-Err-clause-kept : goal.returns-in-Err-clause-kept
returns-in-Err-clause-kept g c =
    subst (λ (ds : List _). KeptLogs g.D.Disk c.args.disks.now.items ds) (sym c.put_before.ensures)
    (stops_kept g.D.Disk c.in-Err.refusal c.args.disks.now.items c.open_each.new.disks.items c.open_each.new.logs.items c.in-Err.ensures.stops)

pub returns-in-Err-clause-finds : goal.returns-in-Err-clause-finds
returns-in-Err-clause-finds g c = λ tell.
    stops_finds g.D.Disk c.in-Err.refusal c.args.disks.now.items c.open_each.new.disks.items c.open_each.new.logs.items c.in-Err.ensures.stops c.requires tell

pub returns-in-Err-clause-cause : goal.returns-in-Err-clause-cause
returns-in-Err-clause-cause g c =
    subst (λ (ds : List _). LogsCause g.D.Disk c.args.disks.now.items ds c.in-Err.refusal) (sym c.put_before.ensures)
    (stops_cause g.D.Disk c.in-Err.refusal c.args.disks.now.items c.open_each.new.disks.items c.open_each.new.logs.items c.in-Err.ensures.stops)
