use Rattle.std.proofs.Common.{Result, subst}
use Rattle.mp_cells.specs.declared.rows.Row.{Row}
use Rattle.mp_desk.specs.declared.halts.WriteHalt.{WriteHalt}
use Rattle.mp_primary.specs.WriteTurns.{AfterWrite}
use Rattle.mp_primary.proofs.primary.Primary.end_write.Goals as goal

pub answer_write-requires : goal.answer_write-requires
answer_write-requires g c =
    let h = c.requires.after in
    record { put = (h.0, h.1, c.args.trx, subst (λ (x : Result Row WriteHalt). AfterWrite g.D.Disk c.args.shared.now h.0 c.args.self.now h.1 c.args.node.now c.args.number c.args.trx c.args.verb c.args.key x) c.in-Ok.is h.2) }

pub returns-in-Ok : goal.returns-in-Ok
returns-in-Ok g c = λ old before after.
    c.answer_write.ensures old before c.args.trx (subst (λ (x : Result Row WriteHalt). AfterWrite g.D.Disk c.args.shared.now old c.args.self.now before c.args.node.now c.args.number c.args.trx c.args.verb c.args.key x) c.in-Ok.is after)

pub halt_write-requires : goal.halt_write-requires
halt_write-requires g c =
    let h = c.requires.after in
    record { after = (h.0, h.1, c.args.verb, subst (λ (x : Result Row WriteHalt). AfterWrite g.D.Disk c.args.shared.now h.0 c.args.self.now h.1 c.args.node.now c.args.number c.args.trx c.args.verb c.args.key x) c.in-Err.is h.2) }

pub returns-in-Err : goal.returns-in-Err
returns-in-Err g c = λ old before after.
    c.halt_write.ensures old before c.args.verb (subst (λ (x : Result Row WriteHalt). AfterWrite g.D.Disk c.args.shared.now old c.args.self.now before c.args.node.now c.args.number c.args.trx c.args.verb c.args.key x) c.in-Err.is after)
