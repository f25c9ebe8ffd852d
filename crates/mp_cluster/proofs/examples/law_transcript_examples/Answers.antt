-- By their parts.
use Rattle.std.proofs.Common.{[], ◌∷◌, refl, arith}
use Rattle.mp_histories.proofs.Lists.{heads_same}
use Rattle.mp_cluster.proofs.examples.law_transcript_examples.Goals as goal

pub returns-clause-no_other : goal.returns-clause-no_other
returns-clause-no_other c = λ o is. omega (arith, is)

pub returns-clause-empty : goal.returns-clause-empty
returns-clause-empty c = record { mode = refl; base_is = refl; part = (refl, refl, refl); downs = refl; commits = refl }

pub returns-clause-not_primary_1 : goal.returns-clause-not_primary_1
returns-clause-not_primary_1 c = λ is. let first = is.part.0 in omega (arith, first)

pub returns-clause-not_one_commit : goal.returns-clause-not_one_commit
returns-clause-not_one_commit c = λ is. let count = is.commits in omega (arith, count)

pub returns-clause-down : goal.returns-clause-down
returns-clause-down c = record { mode = refl; base_is = refl; part = (refl, refl, refl); downs = refl; commits = refl }

pub returns-clause-not_untold : goal.returns-clause-not_untold
returns-clause-not_untold c = λ is. let none = is.downs in absurd cc

pub returns-clause-apart : goal.returns-clause-apart
returns-clause-apart c = record { mode = refl; base_is = refl; primaries = refl; answers = refl; downs = refl; commits = refl }

pub returns-clause-not_descending : goal.returns-clause-not_descending
returns-clause-not_descending c = λ is. let first = heads_same 2 1 (1 ∷ []) (2 ∷ []) is.primaries in omega (arith, first)

pub returns-clause-not_one_thread : goal.returns-clause-not_one_thread
returns-clause-not_one_thread c = λ is. let mode = is.mode in absurd cc
