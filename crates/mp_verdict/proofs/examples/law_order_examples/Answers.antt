use Rattle.std.proofs.Common.{refl, arith, ◌≡◌, [], ◌∷◌}
use Rattle.mp_script.proofs.DownLines.{no_line}
use Rattle.mp_verdict.proofs.examples.law_order_examples.Goals as goal

pub returns-clause-puts_nothing : goal.returns-clause-puts_nothing
returns-clause-puts_nothing c = λ o id key height m row p. p.was_made

pub returns-clause-no_last_put : goal.returns-clause-no_last_put
returns-clause-no_last_put c = λ o id key height row p. p.is_put.was_made

pub returns-clause-no_lines : goal.returns-clause-no_lines
returns-clause-no_lines c = λ work script opening o w entries line f. no_line line 1 o.trx.primaries f.downs_are

pub returns-clause-merged : goal.returns-clause-merged
returns-clause-merged c = λ opening. record { of_nodes = tt; each = λ n is. refl }

pub returns-clause-not_merged : goal.returns-clause-not_merged
returns-clause-not_merged c = λ opening x entry one m. let same : [] ≡ entry ∷ [] = m.each 1 (omega arith, omega (arith, one)) in absurd cc

pub returns-clause-ordered : goal.returns-clause-ordered
returns-clause-ordered c = λ base. record { rising = tt; views = tt }
