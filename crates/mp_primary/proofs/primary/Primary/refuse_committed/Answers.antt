use Rattle.mp_primary.proofs.HeldUp.{committer_named, committed_refusal, committed_stranger, version_now, named_old}
use Rattle.mp_primary.proofs.primary.Primary.refuse_committed.Goals as goal

pub committer-requires-clause-above : goal.committer-requires-clause-above
committer-requires-clause-above g c =
    let h = c.requires.held in
    (version_now g.D.Disk c.args.shared.now h.0 c.args.self.now h.1 c.args.node.now c.args.number c.args.trx h.2 c.args.key h.3 c.args.id (committer_named g.D.Disk c.args.shared.now h.0 c.args.self.now h.1 c.args.node.now c.args.number c.args.trx h.2 c.args.key h.3 c.args.id c.args.cts h.4)).0

pub committer-requires-clause-within : goal.committer-requires-clause-within
committer-requires-clause-within g c =
    let h = c.requires.held in
    (version_now g.D.Disk c.args.shared.now h.0 c.args.self.now h.1 c.args.node.now c.args.number c.args.trx h.2 c.args.key h.3 c.args.id (committer_named g.D.Disk c.args.shared.now h.0 c.args.self.now h.1 c.args.node.now c.args.number c.args.trx h.2 c.args.key h.3 c.args.id c.args.cts h.4)).1

pub refuse_now-requires : goal.refuse_now-requires
refuse_now-requires g c =
    let h = c.requires.held in
    let f = c.in-Ok.ensures.apart in
    record { held = (h.0, h.1, h.2, c.args.key, (h.3, committed_refusal g.D.Disk c.args.shared.now h.0 c.args.self.now h.1 c.args.node.now c.args.number c.args.trx h.2 c.args.key h.3 c.args.id f.0 (named_old g.D.Disk c.args.shared.now h.0 c.args.self.now h.1 c.args.node.now c.args.number c.args.trx h.2 c.args.key h.3 c.args.id f.0 f.1) c.args.cts f.2 h.4)) }

pub returns-in-Ok : goal.returns-in-Ok
returns-in-Ok g c = λ old before verb held cause.
    let f = c.in-Ok.ensures.apart in
    c.refuse_now.ensures old before verb c.args.key held (committed_refusal g.D.Disk c.args.shared.now old c.args.self.now before c.args.node.now c.args.number c.args.trx verb c.args.key held c.args.id f.0 (named_old g.D.Disk c.args.shared.now old c.args.self.now before c.args.node.now c.args.number c.args.trx verb c.args.key held c.args.id f.0 f.1) c.args.cts f.2 cause)

pub wait-requires : goal.wait-requires
wait-requires g c =
    let h = c.requires.held in
    let waits = (let s = c.in-Err.ensures.stranger in
    committed_stranger g.D.Disk c.args.shared.now h.0 c.args.self.now h.1 c.args.node.now c.args.number c.args.trx h.2 c.args.key h.3 c.args.id s.1.0 (named_old g.D.Disk c.args.shared.now h.0 c.args.self.now h.1 c.args.node.now c.args.number c.args.trx h.2 c.args.key h.3 c.args.id s.1.0 s.1.1) c.in-Err.wait c.args.cts s.0 s.1.2 h.4) in
    record { work = (h.0, h.1, h.3.tries.session, h.3.tries.line, h.3.tries.comes, h.3.work, waits) }

pub returns-in-Err : goal.returns-in-Err
returns-in-Err g c = λ old before verb held cause.
    let waits = (let s = c.in-Err.ensures.stranger in
    committed_stranger g.D.Disk c.args.shared.now old c.args.self.now before c.args.node.now c.args.number c.args.trx verb c.args.key held c.args.id s.1.0 (named_old g.D.Disk c.args.shared.now old c.args.self.now before c.args.node.now c.args.number c.args.trx verb c.args.key held c.args.id s.1.0 s.1.1) c.in-Err.wait c.args.cts s.0 s.1.2 cause) in
    c.wait.ensures old before held.tries.session held.tries.line held.tries.comes held.work held.quiet waits tt
