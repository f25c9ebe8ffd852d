-- Mtr by mtr, until the reader is at the end.
use Rattle.std.proofs.Common.{Ok, Err, refl, sym, ap, subst, arith}
use Rattle.mp_log.specs.Readers.{ReaderView, Remains, GivesNext, log_mtrs}
use Rattle.mp_log.proofs.Given.{fresh_remains}
use Rattle.mp_files.proofs.Nines.{KeptDisk-refl, KeptDisk-trans}
use Rattle.mp_commands.proofs.LogTexts.{next_gives, refusal_finds, text_on, count_on, text_end, count_end}
use Rattle.mp_commands.proofs.log_printing.push_mtrs.Goals as goal

pub loop-count-init : goal.loop-count-init
loop-count-init g c =
    let file = g.D.Disk.seen c.args.disk.now in
    let all = log_mtrs c.args.primary file in (
      KeptDisk-refl g.D.Disk c.args.disk.now,
      ap (λ (r : ReaderView). r.state) c.in_ok-reader.ensures,
      λ tells. (all.0, subst (λ (r : ReaderView). Remains r file all.0 all.1) (sym c.in_ok-reader.ensures) (fresh_remains c.args.primary file), refl, omega arith),
    )

pub returns-in-Ok-None-clause-text : goal.returns-in-Ok-None-clause-text
returns-in-Ok-None-clause-text g c tells =
    let d = g.D.Disk in
    let file = d.seen c.args.disk.now in
    let fault = (log_mtrs c.args.primary file).1 in
    let inv = c.loop-count.invariant in
    let left = inv.2 tells in
    let end = subst (λ found. GivesNext file left.0 fault c.next.new.self (Ok found)) c.in-Ok-None.field-0-is (next_gives d c.args.disk.now c.loop-count.disk c.loop-count.reader c.next.new.self left.0 fault (Ok c.in-Ok-None.field-0) inv.0 c.in-Ok-None.ensures.gives tells left.1) in
    (text_end c.loop-count.text.items _ left.0 end.0 left.2, count_end c.loop-count.count _ left.0 end.0 left.3)

pub returns-in-Ok-None-clause-finds : goal.returns-in-Ok-None-clause-finds
returns-in-Ok-None-clause-finds g c tells =
    let d = g.D.Disk in
    let file = d.seen c.args.disk.now in
    let fault = (log_mtrs c.args.primary file).1 in
    let inv = c.loop-count.invariant in
    let left = inv.2 tells in
    let end = subst (λ found. GivesNext file left.0 fault c.next.new.self (Ok found)) c.in-Ok-None.field-0-is (next_gives d c.args.disk.now c.loop-count.disk c.loop-count.reader c.next.new.self left.0 fault (Ok c.in-Ok-None.field-0) inv.0 c.in-Ok-None.ensures.gives tells left.1) in
    end.1

pub returns-in-Err-clause-finds : goal.returns-in-Err-clause-finds
returns-in-Err-clause-finds g c tells =
    let d = g.D.Disk in
    let file = d.seen c.args.disk.now in
    let fault = (log_mtrs c.args.primary file).1 in
    let inv = c.loop-count.invariant in
    let left = inv.2 tells in
    refusal_finds file left.0 fault c.next.new.self c.in-Err.refusal (next_gives d c.args.disk.now c.loop-count.disk c.loop-count.reader c.next.new.self left.0 fault (Err c.in-Err.refusal) inv.0 c.in-Err.ensures.gives tells left.1)

pub loop-count-preserved : goal.loop-count-preserved
loop-count-preserved g c =
    let d = g.D.Disk in
    let file = d.seen c.args.disk.now in
    let fault = (log_mtrs c.args.primary file).1 in
    let inv = c.loop-count.invariant in
    let mtr = c.in-Ok-Some.mtr in (
      KeptDisk-trans d c.args.disk.now c.loop-count.disk c.next.new.disk inv.0 (record { tells = c.next.ensures.tells; quiet = c.next.ensures.quiet; count = c.next.ensures.count }),
      c.in-Ok-Some.ensures.goes_on mtr (ap Ok c.in-Ok-Some.field-0-is),
      λ tells.
          let left = inv.2 tells in
          let more = subst (λ found. GivesNext file left.0 fault c.next.new.self (Ok found)) c.in-Ok-Some.field-0-is (next_gives d c.args.disk.now c.loop-count.disk c.loop-count.reader c.next.new.self left.0 fault (Ok c.in-Ok-Some.field-0) inv.0 c.in-Ok-Some.ensures.gives tells left.1) in
          (more.0, more.2, text_on c.loop-count.text.items c.push_mtr.new.text.items _ mtr left.0 more.0 c.in_ok-push_mtr-in-Ok-Some.ensures more.1 left.2, count_on c.loop-count.count _ mtr left.0 more.0 more.1 left.3),
    )
