use Rattle.std.proofs.Common.{true, false}
use Rattle.mp_primary.proofs.HeldUp.{holder_named, held_refusal, held_stranger, version_now, named_old, fits_old}
use Rattle.mp_primary.proofs.primary.Primary.refuse_held.Goals as goal

pub holder-requires-clause-above : goal.holder-requires-clause-above
holder-requires-clause-above g c =
    let h = c.requires.held in
    (version_now g.D.Disk c.args.shared.now h.0 c.args.self.now h.1 c.args.node.now c.args.number c.args.trx h.2 c.args.key h.3 c.args.id (holder_named g.D.Disk c.args.shared.now h.0 c.args.self.now h.1 c.args.node.now c.args.number c.args.trx h.2 c.args.key h.3 c.args.id h.4)).0

pub holder-requires-clause-within : goal.holder-requires-clause-within
holder-requires-clause-within g c =
    let h = c.requires.held in
    (version_now g.D.Disk c.args.shared.now h.0 c.args.self.now h.1 c.args.node.now c.args.number c.args.trx h.2 c.args.key h.3 c.args.id (holder_named g.D.Disk c.args.shared.now h.0 c.args.self.now h.1 c.args.node.now c.args.number c.args.trx h.2 c.args.key h.3 c.args.id h.4)).1

pub refuse_now-requires : goal.refuse_now-requires
refuse_now-requires g c =
    let h = c.requires.held in
    let f = c.in-Ok.ensures.fits in
    record { held = (h.0, h.1, h.2, c.args.key, (h.3, held_refusal g.D.Disk c.args.shared.now h.0 c.args.self.now h.1 c.args.node.now c.args.number c.args.trx h.2 c.args.key h.3 c.args.id c.in-Ok.name (named_old g.D.Disk c.args.shared.now h.0 c.args.self.now h.1 c.args.node.now c.args.number c.args.trx h.2 c.args.key h.3 c.args.id c.in-Ok.name f.0) (fits_old g.D.Disk c.args.shared.now h.0 c.args.self.now h.1 c.args.node.now c.args.number c.args.trx h.2 c.args.key h.3 c.args.id c.in-Ok.name true f.1) h.4)) }

pub returns-in-Ok : goal.returns-in-Ok
returns-in-Ok g c = λ old before verb held cause.
    let f = c.in-Ok.ensures.fits in
    c.refuse_now.ensures old before verb c.args.key held (held_refusal g.D.Disk c.args.shared.now old c.args.self.now before c.args.node.now c.args.number c.args.trx verb c.args.key held c.args.id c.in-Ok.name (named_old g.D.Disk c.args.shared.now old c.args.self.now before c.args.node.now c.args.number c.args.trx verb c.args.key held c.args.id c.in-Ok.name f.0) (fits_old g.D.Disk c.args.shared.now old c.args.self.now before c.args.node.now c.args.number c.args.trx verb c.args.key held c.args.id c.in-Ok.name true f.1) cause)

pub wait-requires : goal.wait-requires
wait-requires g c =
    let h = c.requires.held in
    let waits = (let s = c.in-Err.ensures.stranger in
    held_stranger g.D.Disk c.args.shared.now h.0 c.args.self.now h.1 c.args.node.now c.args.number c.args.trx h.2 c.args.key h.3 c.args.id s.1.0 (named_old g.D.Disk c.args.shared.now h.0 c.args.self.now h.1 c.args.node.now c.args.number c.args.trx h.2 c.args.key h.3 c.args.id s.1.0 s.1.1) c.in-Err.wait s.0 (fits_old g.D.Disk c.args.shared.now h.0 c.args.self.now h.1 c.args.node.now c.args.number c.args.trx h.2 c.args.key h.3 c.args.id s.1.0 false s.1.2) h.4) in
    record { work = (h.0, h.1, h.3.tries.session, h.3.tries.line, h.3.tries.comes, h.3.work, waits) }

pub returns-in-Err : goal.returns-in-Err
returns-in-Err g c = λ old before verb held cause.
    let waits = (let s = c.in-Err.ensures.stranger in
    held_stranger g.D.Disk c.args.shared.now old c.args.self.now before c.args.node.now c.args.number c.args.trx verb c.args.key held c.args.id s.1.0 (named_old g.D.Disk c.args.shared.now old c.args.self.now before c.args.node.now c.args.number c.args.trx verb c.args.key held c.args.id s.1.0 s.1.1) c.in-Err.wait s.0 (fits_old g.D.Disk c.args.shared.now old c.args.self.now before c.args.node.now c.args.number c.args.trx verb c.args.key held c.args.id s.1.0 false s.1.2) cause) in
    c.wait.ensures old before held.tries.session held.tries.line held.tries.comes held.work held.quiet waits tt
