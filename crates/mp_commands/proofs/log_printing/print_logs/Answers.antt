-- Log by log.
use Rattle.mp_model.specs.Listed.{Listed}
use Rattle.std.proofs.Common.{◌∙◌, ◌+◌, Ok, Err, refl, sym, arith, ℕ}
use Rattle.mp_files.specs.Nine.{seen_at}
use Rattle.mp_files.proofs.Nines.{KeptLogs-refl}
use Rattle.mp_commands.proofs.LogsBelow.{texts_none, mtrs_none, fault_none, did_first, all_on, one_printed, one_refused}
use Rattle.mp_commands.proofs.log_printing.print_logs.Goals as goal

pub loop-place-init : goal.loop-place-init
loop-place-init g c =
    let logs = c.args.logs.now.items in
    let files = seen_at g.D.Disk logs in
    (KeptLogs-refl g.D.Disk logs, λ k least. refl, λ tells. (c.new-text.ensures ∙ sym (texts_none files), sym (mtrs_none files), fault_none files))

pub returns-in-Err-clause-kept : goal.returns-in-Err-clause-kept
returns-in-Err-clause-kept g c =
    let d = g.D.Disk in
    let old = c.args.logs.now.items in
    let mid = c.loop-place.logs.items in
    let new = c.push_log_at.new.logs.items in
    let place = c.loop-place.place in
    let inv = c.loop-place.invariant in
    all_on d (place + 1) place old mid new c.loop-place.text.items c.push_log_at.new.text.items (Err c.in-Err.refusal) inv.0 c.in-Err.ensures.count c.in-Err.ensures.others
    (did_first d (place + 1) place old mid new c.loop-place.text.items c.push_log_at.new.text.items (Err c.in-Err.refusal) (inv.1 place (omega arith)) c.in-Err.ensures.did)

pub returns-in-Err-clause-finds : goal.returns-in-Err-clause-finds
returns-in-Err-clause-finds g c =
    let d = g.D.Disk in
    let old = c.args.logs.now.items in
    let mid = c.loop-place.logs.items in
    let new = c.push_log_at.new.logs.items in
    let place = c.loop-place.place in
    let inv = c.loop-place.invariant in
    one_refused d (Listed ℕ) place old new c.loop-place.text.items c.push_log_at.new.text.items c.in-Err.refusal c.refused.result (omega (arith, c.loop-place-test.true, c.len-place-end.ensures)) (c.in-Err.ensures.count ∙ inv.0.count)
    (did_first d (place + 1) place old mid new c.loop-place.text.items c.push_log_at.new.text.items (Err c.in-Err.refusal) (inv.1 place (omega arith)) c.in-Err.ensures.did) c.refused.ensures (λ tells. (inv.2 tells).2)

pub returns-in-None-clause-kept : goal.returns-in-None-clause-kept
returns-in-None-clause-kept g c =
    let d = g.D.Disk in
    let old = c.args.logs.now.items in
    let mid = c.loop-place.logs.items in
    let new = c.push_log_at.new.logs.items in
    let place = c.loop-place.place in
    let inv = c.loop-place.invariant in
    all_on d (place + 1) place old mid new c.loop-place.text.items c.push_log_at.new.text.items (Ok c.in-Ok.count) inv.0 c.in-Ok.ensures.count c.in-Ok.ensures.others
    (did_first d (place + 1) place old mid new c.loop-place.text.items c.push_log_at.new.text.items (Ok c.in-Ok.count) (inv.1 place (omega arith)) c.in-Ok.ensures.did)

pub loop-place-preserved : goal.loop-place-preserved
loop-place-preserved g c =
    let d = g.D.Disk in
    let old = c.args.logs.now.items in
    let mid = c.loop-place.logs.items in
    let new = c.push_log_at.new.logs.items in
    let place = c.loop-place.place in
    let inv = c.loop-place.invariant in
    let did = did_first d (place + 1) place old mid new c.loop-place.text.items c.push_log_at.new.text.items (Ok c.in-Ok.count) (inv.1 place (omega arith)) c.in-Ok.ensures.did in (
      all_on d (place + 1) place old mid new c.loop-place.text.items c.push_log_at.new.text.items (Ok c.in-Ok.count) inv.0 c.in-Ok.ensures.count c.in-Ok.ensures.others did,
      λ k least. c.in-Ok.ensures.others k (λ e. absurd (omega (arith, e, least))) ∙ inv.1 k (omega (arith, least)),
      one_printed d place c.in-Ok.count old new c.loop-place.text.items c.push_log_at.new.text.items c.loop-place.total c.in-Some.total (omega (arith, c.loop-place-test.true, c.len-place-end.ensures)) (c.in-Ok.ensures.count ∙ inv.0.count) did c.in-Some.ensures.1 inv.2,
    )
