-- Mtr by mtr, until the reader is at the end.
use Rattle.std.proofs.Common.{Ok, Err, sym, ap, subst}
use Rattle.mp_files.proofs.Nines.{KeptDisk-refl, KeptDisk-trans}
use Rattle.mp_log.specs.Readers.{ReaderView, Remains, GivesNext, log_mtrs}
use Rattle.mp_log.proofs.Given.{fresh_remains}
use Rattle.mp_recover.proofs.ReadingLogs.{reader_refuses, reader_gives}
use Rattle.mp_recover.proofs.reading.read_log.Goals as goal

pub loop-init : goal.loop-init
loop-init g c =
    let file = g.D.Disk.seen c.args.disk.now in
    let all = log_mtrs c.args.primary file in (
      KeptDisk-refl g.D.Disk c.args.disk.now,
      ap (λ (r : ReaderView). r.state) c.in_ok-reader.ensures,
      λ tells. (all.0, subst (λ (r : ReaderView). Remains r file all.0 all.1) (sym c.in_ok-reader.ensures) (fresh_remains c.args.primary file)),
    )

pub returns-in-Ok-None-clause-finds : goal.returns-in-Ok-None-clause-finds
returns-in-Ok-None-clause-finds g c = λ tells.
    let d = g.D.Disk in
    let file = d.seen c.args.disk.now in
    let fault = (log_mtrs c.args.primary file).1 in
    let inv = c.loop.invariant in
    let left = inv.2 tells in
    let end = subst (λ found. GivesNext file left.0 fault c.next.new.self (Ok found)) c.in-Ok-None.field-0-is
    (reader_gives d c.args.disk.now c.loop.disk c.loop.reader c.next.new.self left.0 fault (Ok c.in-Ok-None.field-0) inv.0 c.in-Ok-None.ensures.gives tells left.1) in
    end.1

pub returns-in-Err-clause-finds : goal.returns-in-Err-clause-finds
returns-in-Err-clause-finds g c = λ tells.
    let d = g.D.Disk in
    let file = d.seen c.args.disk.now in
    let fault = (log_mtrs c.args.primary file).1 in
    let inv = c.loop.invariant in
    let left = inv.2 tells in
    reader_refuses file left.0 fault c.next.new.self c.in-Err.refusal
    (reader_gives d c.args.disk.now c.loop.disk c.loop.reader c.next.new.self left.0 fault (Err c.in-Err.refusal) inv.0 c.in-Err.ensures.gives tells left.1)

pub loop-preserved : goal.loop-preserved
loop-preserved g c =
    let d = g.D.Disk in
    let file = d.seen c.args.disk.now in
    let fault = (log_mtrs c.args.primary file).1 in
    let inv = c.loop.invariant in (
      KeptDisk-trans d c.args.disk.now c.loop.disk c.next.new.disk inv.0 (record { tells = c.next.ensures.tells; quiet = c.next.ensures.quiet; count = c.next.ensures.count }),
      c.in-Ok-Some.ensures.goes_on c.in-Ok-Some.mtr (ap Ok c.in-Ok-Some.field-0-is),
      λ tells.
          let left = inv.2 tells in
          let more = subst (λ found. GivesNext file left.0 fault c.next.new.self (Ok found)) c.in-Ok-Some.field-0-is
          (reader_gives d c.args.disk.now c.loop.disk c.loop.reader c.next.new.self left.0 fault (Ok c.in-Ok-Some.field-0) inv.0 c.in-Ok-Some.ensures.gives tells left.1) in
          (more.0, more.2),
    )
