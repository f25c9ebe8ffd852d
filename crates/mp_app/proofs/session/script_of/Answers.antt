-- The parser's answer is what its bytes spell, or their first fault.
use Rattle.std.proofs.Common.{inl, inr}
use Rattle.mp_app.proofs.session.script_of.Goals as goal

pub returns-in-Err-Fault-clause-refused : goal.returns-in-Err-Fault-clause-refused
returns-in-Err-Fault-clause-refused c = inl (_, rw c.in-Err-Fault.field-0-is at c.in-Err-Fault.ensures.fault, c.script_fault.ensures)

pub returns-in-Err-Memory-clause-refused : goal.returns-in-Err-Memory-clause-refused
returns-in-Err-Memory-clause-refused c = inr c.no_memory.ensures
