use Rattle.std.proofs.Common.{◌≡◌, refl, ap, inl, arith}
use Rattle.mp_script.specs.declared.statements.Line.{Line}
use Rattle.mp_script.specs.declared.statements.Stmt.{Stmt}
use Rattle.mp_script.specs.declared.statements.Stmt.TheVariants.{Begin, Commit}
use Rattle.mp_supports.specs.SmallParts.{line_of}
use Rattle.mp_supports.proofs.SmallParts.{the_line}
use Rattle.mp_supports.proofs.examples.law_supports_end_examples.Goals as goal

pub returns-clause-skipped : goal.returns-clause-skipped
returns-clause-skipped c = record { line = line_of 1 2 Commit; found = refl; reply = (no_begin, refl); waits = refl }
  where
    no_begin : Commit ≡ Begin → ⊥
    no_begin e = cc

pub returns-clause-no_begin_skipped : goal.returns-clause-no_begin_skipped
returns-clause-no_begin_skipped c = λ s. s.reply.0 (ap (λ (l : Line). l.stmt) (the_line Begin s.line s.found))

pub returns-clause-stopped : goal.returns-clause-stopped
returns-clause-stopped c = record { line = line_of 1 2 Commit; found = refl; reply = (refl, (λ none. let two : 2 ≡ 0 = none in omega (arith, two)), inl refl); waits = refl }

pub returns-clause-not_stopped_while_up : goal.returns-clause-not_stopped_while_up
returns-clause-not_stopped_while_up c = λ s. let two : 0 ≡ 2 = s.reply.0 in omega (arith, two)
