use Rattle.std.proofs.Common.{◌++◌, ap, refl, ◌∙◌}
use Rattle.mp_generate.specs.Generated.{generated_lines}
use Rattle.mp_generate.proofs.Counting.{generated_spelled}
use Rattle.mp_generate.proofs.making.generate.Goals as goal

pub returns-clause-made : goal.returns-clause-made
returns-clause-made c = record {
  primaries = refl;
  sessions = c.in_ok-sessions.ensures;
  lines = c.in_ok-push_rounds.ensures ∙ ap (λ l. l ++ generated_lines c.args.number) c.new-lines.ensures;
}

pub returns-clause-spelled : goal.returns-clause-spelled
returns-clause-spelled c = generated_spelled c.args.number _ (returns-clause-made c)
