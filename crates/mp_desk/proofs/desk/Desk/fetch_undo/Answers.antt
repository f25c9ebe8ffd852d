use Rattle.std.proofs.Common.{arith}
use Rattle.mp_desk.proofs.AtDesk.{brings_none, brings_upto, undo_range}
use Rattle.mp_desk.proofs.desk.Desk.fetch_undo.Goals as goal

pub fetch-requires-clause-page : goal.fetch-requires-clause-page
fetch-requires-clause-page g c = undo_range c.args.shared.now c.args.self.now c.args.p c.args.node.now c.requires.desk c.in-Some.number c.in-Some.is

pub returns-in-None-clause-brings : goal.returns-in-None-clause-brings
returns-in-None-clause-brings g c = brings_upto c.args.p 0 1 c.args.self.now c.args.self.now c.args.node.now c.args.node.now (omega arith) (brings_none c.args.p c.args.self.now c.args.node.now)
