-- What the logs were refused for is said.
use Rattle.mp_app.proofs.Refused.{logs_refused}
use Rattle.mp_app.proofs.plain.answer_logs.Goals as goal

pub returns-in-Err-clause-says : goal.returns-in-Err-clause-says
returns-in-Err-clause-says g c = logs_refused g.D.Disk c.args.logs.now.items c.print_logs.new.logs.items c.in-Err.refusal c.logs_refusal.result c.in-Err.ensures.finds c.logs_refusal.ensures
