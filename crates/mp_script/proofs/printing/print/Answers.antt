-- Printing and reading again.
use Rattle.std.proofs.Common.{◌++◌, ap, ◌∙◌}
use Rattle.mp_script.specs.Text.{script_text}
use Rattle.mp_script.proofs.Printed.{print-again}
use Rattle.mp_script.proofs.printing.print.Goals as goal

pub returns-clause-again : goal.returns-clause-again
returns-clause-again c = print-again c.push_script.new.text.items c.args.script.now (c.in_ok-push_script.ensures ∙ ap (λ x. x ++ script_text c.args.script.now) c.new-text.ensures)
