use Rattle.std.proofs.Common.{true, false}
use Rattle.mp_primary.proofs.HeldUp.{writer_named, writer_waits, writer_wrote, writer_stranger, version_now, named_old, fits_old}
use Rattle.mp_primary.proofs.primary.Primary.wait_for_writer.Goals as goal

pub holder-requires-clause-above : goal.holder-requires-clause-above
holder-requires-clause-above g c =
    let h = c.requires.held in
    (version_now g.D.Disk c.args.shared.now h.0 c.args.self.now h.1 c.args.node.now c.args.number h.2 h.3 c.args.key h.4 c.args.id (writer_named g.D.Disk c.args.shared.now h.0 c.args.self.now h.1 c.args.node.now c.args.number h.2 h.3 c.args.key h.4 c.args.id h.5)).0

pub holder-requires-clause-within : goal.holder-requires-clause-within
holder-requires-clause-within g c =
    let h = c.requires.held in
    (version_now g.D.Disk c.args.shared.now h.0 c.args.self.now h.1 c.args.node.now c.args.number h.2 h.3 c.args.key h.4 c.args.id (writer_named g.D.Disk c.args.shared.now h.0 c.args.self.now h.1 c.args.node.now c.args.number h.2 h.3 c.args.key h.4 c.args.id h.5)).1

pub wait-requires : goal.wait-requires
wait-requires g c =
    let h = c.requires.held in
    let f = c.in-Ok.ensures.fits in
    let named = named_old g.D.Disk c.args.shared.now h.0 c.args.self.now h.1 c.args.node.now c.args.number h.2 h.3 c.args.key h.4 c.args.id c.in-Ok.name f.0 in
    record { work = (h.0, h.1, h.4.tries.session, h.4.tries.line, h.4.tries.comes, h.4.work, writer_waits g.D.Disk c.args.shared.now h.0 c.args.self.now h.1 c.args.node.now c.args.number h.2 h.3 c.args.key h.4 c.args.id c.in-Ok.name named (fits_old g.D.Disk c.args.shared.now h.0 c.args.self.now h.1 c.args.node.now c.args.number h.2 h.3 c.args.key h.4 c.args.id c.in-Ok.name true f.1) h.5) }

pub wait-requires-in-Err : goal.wait-requires-in-Err
wait-requires-in-Err g c =
    let h = c.requires.held in
    let waits = (let s = c.in-Err.ensures.stranger in
    writer_stranger g.D.Disk c.args.shared.now h.0 c.args.self.now h.1 c.args.node.now c.args.number h.2 h.3 c.args.key h.4 c.args.id s.1.0 (named_old g.D.Disk c.args.shared.now h.0 c.args.self.now h.1 c.args.node.now c.args.number h.2 h.3 c.args.key h.4 c.args.id s.1.0 s.1.1) c.in-Err.wait s.0 (fits_old g.D.Disk c.args.shared.now h.0 c.args.self.now h.1 c.args.node.now c.args.number h.2 h.3 c.args.key h.4 c.args.id s.1.0 false s.1.2) h.5) in
    record { work = (h.0, h.1, h.4.tries.session, h.4.tries.line, h.4.tries.comes, h.4.work, waits) }

pub returns-in-Ok : goal.returns-in-Ok
returns-in-Ok g c = λ old before trx verb held cause.
    let f = c.in-Ok.ensures.fits in
    let named = named_old g.D.Disk c.args.shared.now old c.args.self.now before c.args.node.now c.args.number trx verb c.args.key held c.args.id c.in-Ok.name f.0 in
    let fits = fits_old g.D.Disk c.args.shared.now old c.args.self.now before c.args.node.now c.args.number trx verb c.args.key held c.args.id c.in-Ok.name true f.1 in
    c.wait.ensures old before held.tries.session held.tries.line held.tries.comes held.work held.quiet (writer_waits g.D.Disk c.args.shared.now old c.args.self.now before c.args.node.now c.args.number trx verb c.args.key held c.args.id c.in-Ok.name named fits cause) (writer_wrote g.D.Disk c.args.shared.now old c.args.self.now before c.args.node.now c.args.number trx verb c.args.key held c.args.id c.in-Ok.name named fits)

pub returns-in-Err : goal.returns-in-Err
returns-in-Err g c = λ old before trx verb held cause.
    let waits = (let s = c.in-Err.ensures.stranger in
    writer_stranger g.D.Disk c.args.shared.now old c.args.self.now before c.args.node.now c.args.number trx verb c.args.key held c.args.id s.1.0 (named_old g.D.Disk c.args.shared.now old c.args.self.now before c.args.node.now c.args.number trx verb c.args.key held c.args.id s.1.0 s.1.1) c.in-Err.wait s.0 (fits_old g.D.Disk c.args.shared.now old c.args.self.now before c.args.node.now c.args.number trx verb c.args.key held c.args.id s.1.0 false s.1.2) cause) in
    c.wait-in-Err.ensures old before held.tries.session held.tries.line held.tries.comes held.work held.quiet waits tt
