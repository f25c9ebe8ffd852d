use Rattle.std.proofs.Common.{Err, inl, subst}
use Rattle.mp_supports.specs.Supports.{no_trace}
use Rattle.mp_desk.specs.declared.halts.WriteHalt.{WriteHalt}
use Rattle.mp_primary.specs.WriteTurns.{AfterWrite}
use Rattle.mp_primary.proofs.HeldUp.{full_refusal}
use Rattle.mp_primary.proofs.Stops.{quiet_stop}
use Rattle.mp_primary.proofs.WriteStops.{failed_inside}
use Rattle.mp_primary.proofs.primary.Primary.halt_write.Goals as goal

pub wait-requires : goal.wait-requires
wait-requires g c =
    let h = c.requires.after in
    let a = subst (λ (x : WriteHalt). AfterWrite g.D.Disk c.args.shared.now h.0 c.args.self.now h.1 c.args.node.now c.args.number c.args.trx h.2 c.args.key (Err x)) c.in-Word.is h.3 in
    record { work = (h.0, h.1, a.0.tries.session, a.0.tries.line, a.0.tries.comes, a.0.work, inl a.1) }

pub returns-in-Word : goal.returns-in-Word
returns-in-Word g c = λ old before verb after.
    let a = subst (λ (x : WriteHalt). AfterWrite g.D.Disk c.args.shared.now old c.args.self.now before c.args.node.now c.args.number c.args.trx verb c.args.key (Err x)) c.in-Word.is after in
    c.wait.ensures old before a.0.tries.session a.0.tries.line a.0.tries.comes a.0.work a.0.quiet (inl a.1) tt

pub wait_for_writer-requires : goal.wait_for_writer-requires
wait_for_writer-requires g c =
    let h = c.requires.after in
    let a = subst (λ (x : WriteHalt). AfterWrite g.D.Disk c.args.shared.now h.0 c.args.self.now h.1 c.args.node.now c.args.number c.args.trx h.2 c.args.key (Err x)) c.in-Writer.is h.3 in
    record { held = (h.0, h.1, c.args.trx, h.2, a.0, a.1) }

pub returns-in-Writer : goal.returns-in-Writer
returns-in-Writer g c = λ old before verb after.
    let a = subst (λ (x : WriteHalt). AfterWrite g.D.Disk c.args.shared.now old c.args.self.now before c.args.node.now c.args.number c.args.trx verb c.args.key (Err x)) c.in-Writer.is after in
    c.wait_for_writer.ensures old before c.args.trx verb a.0 a.1

pub refuse_committed-requires : goal.refuse_committed-requires
refuse_committed-requires g c =
    let h = c.requires.after in
    let a = subst (λ (x : WriteHalt). AfterWrite g.D.Disk c.args.shared.now h.0 c.args.self.now h.1 c.args.node.now c.args.number c.args.trx h.2 c.args.key (Err x)) c.in-Conflict.is h.3 in
    record { held = (h.0, h.1, h.2, a.0, a.1) }

pub returns-in-Conflict : goal.returns-in-Conflict
returns-in-Conflict g c = λ old before verb after.
    let a = subst (λ (x : WriteHalt). AfterWrite g.D.Disk c.args.shared.now old c.args.self.now before c.args.node.now c.args.number c.args.trx verb c.args.key (Err x)) c.in-Conflict.is after in
    c.refuse_committed.ensures old before verb a.0 a.1

pub refuse_held-requires : goal.refuse_held-requires
refuse_held-requires g c =
    let h = c.requires.after in
    let a = subst (λ (x : WriteHalt). AfterWrite g.D.Disk c.args.shared.now h.0 c.args.self.now h.1 c.args.node.now c.args.number c.args.trx h.2 c.args.key (Err x)) c.in-Held.is h.3 in
    record { held = (h.0, h.1, h.2, a.0, a.1) }

pub returns-in-Held : goal.returns-in-Held
returns-in-Held g c = λ old before verb after.
    let a = subst (λ (x : WriteHalt). AfterWrite g.D.Disk c.args.shared.now old c.args.self.now before c.args.node.now c.args.number c.args.trx verb c.args.key (Err x)) c.in-Held.is after in
    c.refuse_held.ensures old before verb a.0 a.1

pub refuse_now-requires : goal.refuse_now-requires
refuse_now-requires g c =
    let h = c.requires.after in
    let a = subst (λ (x : WriteHalt). AfterWrite g.D.Disk c.args.shared.now h.0 c.args.self.now h.1 c.args.node.now c.args.number c.args.trx h.2 c.args.key (Err x)) c.in-Full.is h.3 in
    record { held = (h.0, h.1, h.2, c.args.key, (a.0, full_refusal g.D.Disk c.args.shared.now h.0 c.args.self.now h.1 c.args.node.now c.args.number c.args.trx h.2 c.args.key a.0 a.1)) }

pub returns-in-Full : goal.returns-in-Full
returns-in-Full g c = λ old before verb after.
    let a = subst (λ (x : WriteHalt). AfterWrite g.D.Disk c.args.shared.now old c.args.self.now before c.args.node.now c.args.number c.args.trx verb c.args.key (Err x)) c.in-Full.is after in
    c.refuse_now.ensures old before verb c.args.key a.0 (full_refusal g.D.Disk c.args.shared.now old c.args.self.now before c.args.node.now c.args.number c.args.trx verb c.args.key a.0 a.1)

pub stop_now-requires : goal.stop_now-requires
stop_now-requires g c =
    let h = c.requires.after in
    let a = subst (λ (x : WriteHalt). AfterWrite g.D.Disk c.args.shared.now h.0 c.args.self.now h.1 c.args.node.now c.args.number c.args.trx h.2 c.args.key (Err x)) c.in-Failed.is h.3 in
    record { work = (c.args.shared.now, h.0, h.1, c.args.node.now, no_trace, a.tries.session, a.tries.line, a.tries.comes, failed_inside g.D.Disk c.args.shared.now h.0 c.args.self.now _ c.self.view_is h.1 c.args.node.now c.args.number c.args.trx h.2 c.args.key a) }

pub returns-in-Failed : goal.returns-in-Failed
returns-in-Failed g c = λ old before verb after.
    let a = subst (λ (x : WriteHalt). AfterWrite g.D.Disk c.args.shared.now old c.args.self.now before c.args.node.now c.args.number c.args.trx verb c.args.key (Err x)) c.in-Failed.is after in
    c.stop_now.ensures c.args.shared.now old before c.args.node.now no_trace a.tries.session a.tries.line a.tries.comes (failed_inside g.D.Disk c.args.shared.now old c.args.self.now _ c.self.view_is before c.args.node.now c.args.number c.args.trx verb c.args.key a) (quiet_stop old a.tries.line before c.args.node.now a.quiet)
