-- What is said where nothing failed and what the command reads is of its grammar.
use Rattle.std.proofs.Common.{map, string_bytes}
use Rattle.mp_app.specs.Calls.{read_of}
use Rattle.mp_app.proofs.Completes.{completes}
use Rattle.mp_app.proofs.SaidByCommands.{done_no_sink}
use Rattle.mp_app.proofs.Summed.{one_written}
use Rattle.mp_app.proofs.top.top.Goals as goal

pub returns-clause-complete : goal.returns-clause-complete
returns-clause-complete g c = λ command names nothing order.
    let wrote = c.call.ensures.written (λ is. nothing.no_sink (c.call.ensures.sink_failed is)) in
    completes g.D.Disk (read_of g.S.Source c.args.source.now c.call.new.source) (g.K.Sink.faults c.args.sink.now) (g.K.Sink.faults c.call.new.sink) c.args.disks.now c.call.new.disks nothing
    (map string_bytes c.args.words.now) command names order c.call.result wrote.text wrote.said

-- a number's script has one summary
pub returns-clause-one : goal.returns-clause-one
returns-clause-one g c = λ in_mode number opening done names tell opens room.
    one_written g.D.Disk c.law_one_summary.ensures (read_of g.S.Source c.args.source.now c.call.new.source) c.args.disks.now c.call.new.disks in_mode number opening tell opens room
    (map string_bytes c.args.words.now) c.call.result _ _ names done (c.call.ensures.written (done_no_sink c.call.result done))
