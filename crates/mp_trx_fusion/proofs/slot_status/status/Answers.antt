use Rattle.std.proofs.Common.{sym, ap, ◌∙◌, subst}
use Rattle.mp_trx_fusion.specs.Statuses.{status_of, Stood}
use Rattle.mp_trx_fusion.proofs.Standing.{stood}
use Rattle.mp_trx_fusion.proofs.slot_status.status.Goals as goal

pub returns-clause-stood : goal.returns-clause-stood
returns-clause-stood c =
    let is = c.shown_status.ensures ∙ ap (status_of c.args.id) c.read.ensures.fields in
    subst (Stood c.args.node.now c.args.id) (sym is) (stood c.args.p c.args.id c.args.node.now _ _ c.load_tit-word.ensures)
