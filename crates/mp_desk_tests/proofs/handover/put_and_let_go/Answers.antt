use Rattle.mp_desk_tests.proofs.FirstParts.{afresh_empty}
use Rattle.mp_desk_tests.proofs.OneWrite.{reads_handed, made_handed, put_agrees}
use Rattle.mp_desk_tests.proofs.handover.put_and_let_go.Goals as goal

pub put-requires-clause-own : goal.put-requires-clause-own
put-requires-clause-own g c = c.requires.own.0

pub put-requires-clause-afresh : goal.put-requires-clause-afresh
put-requires-clause-afresh g c = afresh_empty c.args.node.now c.args.p c.args.desk.now c.requires.own.1

pub let_go-requires-clause-agrees : goal.let_go-requires-clause-agrees
let_go-requires-clause-agrees g c =
    (c.requires.agrees.0, put_agrees _ _ c.in-Ok._former (c.in-Ok.ensures.media c.requires.agrees.0 c.requires.agrees.1))

pub returns-in-Ok-let_go-clause-reads : goal.returns-in-Ok-let_go-clause-reads
returns-in-Ok-let_go-clause-reads g c done =
    reads_handed c.args.p c.args.trx _ _ c.in-Ok._former c.args.node.now c.put.new.node c.let_go.new.node c.requires.desk.part
    c.in-Ok.ensures.wrote c.in-Ok-let_go.ensures.gone c.requires.reads

pub returns-in-Ok-let_go-clause-made : goal.returns-in-Ok-let_go-clause-made
returns-in-Ok-let_go-clause-made g c count made done =
    made_handed c.args.p c.args.trx _ _ c.in-Ok._former c.args.node.now c.put.new.node c.let_go.new.node c.requires.desk.part
    c.in-Ok.ensures.wrote c.in-Ok-let_go.ensures.gone count made

pub returns-in-Ok-let_go-clause-agrees : goal.returns-in-Ok-let_go-clause-agrees
returns-in-Ok-let_go-clause-agrees g c done =
    let work = c.requires.agrees.0 in
    (work, (c.in-Ok-let_go.ensures.media work (put_agrees _ _ c.in-Ok._former (c.in-Ok.ensures.media work c.requires.agrees.1))).0)
