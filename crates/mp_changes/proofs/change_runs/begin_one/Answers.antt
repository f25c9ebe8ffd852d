use Rattle.std.proofs.Common.{ap, ◌∙◌, arith}
use Rattle.mp_shared.specs.Nodes.{NodeView}
use Rattle.mp_desk_tests.proofs.FirstParts.{first_may_begin, begun_fresh, begun_reads}
use Rattle.mp_changes.proofs.change_runs.begin_one.Goals as goal

pub begin-requires-clause-may : goal.begin-requires-clause-may
begin-requires-clause-may c = first_may_begin c.args.node.now c.args.p 4 c.args.version c.requires.first c.requires.version.0
    c.requires.version.1

pub unreachable-requires : goal.unreachable-requires
unreachable-requires c = let four = c.requires.first.begins in let no = c.in-Err.ensures.room (omega (arith, four)) in cc

pub returns-clause-node : goal.returns-clause-node
returns-clause-node c = (
  ap (λ (n : NodeView). n.run) c.in-Ok.ensures.becomes ∙ c.requires.run,
  ap (λ (n : NodeView). n.frames) c.in-Ok.ensures.becomes
      ∙ c.requires.frames,
)

pub returns-clause-fresh : goal.returns-clause-fresh
returns-clause-fresh c = begun_fresh c.args.node.now c.begin.new.node c.args.p 4 c.in-Ok.trx c.requires.first c.in-Ok.ensures.becomes

pub returns-clause-reads : goal.returns-clause-reads
returns-clause-reads c = begun_reads c.args.node.now c.begin.new.node c.args.p 4 c.in-Ok.trx c.requires.first c.in-Ok.ensures.becomes
    c.in-Ok.ensures.begun.0
