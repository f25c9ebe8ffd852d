use Rattle.std.proofs.Common.{Some, inl, inr, refl, sym, ap, ◌∙◌, subst}
use Rattle.mp_shared.specs.Nodes.{NodeView}
use Rattle.mp_desk.specs.declared.desk.Desk.{Desk}
use Rattle.mp_changes.specs.Changing.{HasPutInTurn, changed_text}
use Rattle.mp_changes.proofs.PutTries.{reads_left, none_left, put_left, goes_left, goes_nowhere}
use Rattle.mp_changes.proofs.changes.leave_all.Goals as goal

-- they were let go

pub returns-in-Ok-clause-may : goal.returns-in-Ok-clause-may
returns-in-Ok-clause-may g c = λ trx reads again.
    let left = c.in-Ok.ensures in
    record {
      at_desk = c.let_go.ensures.desk;
      own = ap (λ (d : Desk). d.mtr.node) left.emptied ∙ c.requires.own;
      empty = ap (λ (d : Desk). d.pool) left.emptied;
      reads = reads_left c.args.p c.args.node.now c.let_go.new.node c.requires.desk.part trx left.gone reads;
      left = none_left c.args.p c.args.node.now c.let_go.new.node c.requires.desk.part left.gone;
      log = left.open;
      agrees = (c.requires.agrees.0, (c.in-Ok.ensures.media c.requires.agrees.0 c.requires.agrees.1).0);
    }

pub returns-in-Ok-clause-kept : goal.returns-in-Ok-clause-kept
returns-in-Ok-clause-kept g c = λ key count put.
    put_left c.args.p key (Some changed_text) count c.args.node.now c.let_go.new.node put c.in-Ok.ensures.gone

pub returns-in-Ok-clause-goes : goal.returns-in-Ok-clause-goes
returns-in-Ok-clause-goes g c = goes_left c.args.p c.args.node.now c.let_go.new.node c.in-Ok.ensures.gone

pub returns-in-Ok-clause-left : goal.returns-in-Ok-clause-left
returns-in-Ok-clause-left g c = inl refl

-- the disk failed, and no step was taken

pub returns-in-Err-clause-kept : goal.returns-in-Err-clause-kept
returns-in-Err-clause-kept g c = λ key count put.
    subst (λ (n : NodeView). HasPutInTurn n c.args.p key (Some changed_text) count) (sym c.in-Err.ensures.refused.1) put

pub returns-in-Err-clause-goes : goal.returns-in-Err-clause-goes
returns-in-Err-clause-goes g c = goes_nowhere c.args.p c.args.node.now c.let_go.new.node c.in-Err.ensures.refused.1

pub returns-in-Err-clause-left : goal.returns-in-Err-clause-left
returns-in-Err-clause-left g c = inr (refl, c.in-Err.ensures.closed, c.in-Err.ensures.counts.cause)
