-- What is said without a fault is the script that the bytes spell.
use Rattle.mp_script.proofs.ScriptLaws.{gives-found, gives-only}
use Rattle.mp_script.proofs.reading.parse.Goals as goal

pub returns-clause-found : goal.returns-clause-found
returns-clause-found c = gives-found c.args.bytes.now c.read_within.result c.read_within.ensures

pub returns-clause-only : goal.returns-clause-only
returns-clause-only c = gives-only c.args.bytes.now c.read_within.result c.read_within.ensures
