use Rattle.mp_generate.proofs.Counting.{line_count, session_count, all_begins, own_keys, generated_spelled}
use Rattle.mp_generate.proofs.Keys.{each_key}
use Rattle.mp_generate.proofs.laws.law_generated.Goals as goal

pub returns-clause-count : goal.returns-clause-count
returns-clause-count c = line_count

pub returns-clause-of_each : goal.returns-clause-of_each
returns-clause-of_each c = session_count

pub returns-clause-begins : goal.returns-clause-begins
returns-clause-begins c = all_begins

pub returns-clause-own_keys : goal.returns-clause-own_keys
returns-clause-own_keys c = own_keys

pub returns-clause-spelled : goal.returns-clause-spelled
returns-clause-spelled c = generated_spelled

pub returns-clause-each_key : goal.returns-clause-each_key
returns-clause-each_key c = each_key
