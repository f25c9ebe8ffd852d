-- What the store was refused for is said.
use Rattle.mp_app.proofs.Refused.{dump_refused}
use Rattle.mp_app.proofs.plain.answer_dump.Goals as goal

pub returns-in-Err-clause-says : goal.returns-in-Err-clause-says
returns-in-Err-clause-says g c = dump_refused g.D.Disk c.args.store.now c.dump.new.disk c.in-Err.refusal c.store_refusal.result c.in-Err.ensures.finds c.in-Err.ensures.cause c.store_refusal.ensures
