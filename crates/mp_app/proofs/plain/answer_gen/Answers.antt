-- The text of the number's script spells it.
use Rattle.std.proofs.Common.{◌≡◌, ◌∙◌, ℕ, List, sym, subst}
use Rattle.mp_script.specs.declared.statements.Script.{Script}
use Rattle.mp_script.specs.Spelling.{IsSpelled, Spells}
use Rattle.mp_script.specs.Text.{script_text}
use Rattle.mp_generate.specs.Generated.{IsGenerated}
use Rattle.mp_app.specs.declared.output.Output.{Output}
use Rattle.mp_app.specs.declared.status.Status.TheVariants.{Done}
use Rattle.mp_app.specs.Outcomes.{GenSays}
use Rattle.mp_app.specs.Printed.{text_of, Prints}
use Rattle.mp_app.proofs.plain.answer_gen.Goals as goal

gen_done : (number : ℕ) (script : Script) (text : List ℕ) (output : Output) → IsGenerated number script → IsSpelled script → text ≡ script_text script → (IsSpelled script → Spells text script)
    → Prints Done text output → GenSays number output.status (text_of output.printed)
gen_done number script text output generated spelled printed again says = rw (says.0) (record {
  script = script;
  generated = generated;
  spelled = subst (λ t. Spells t script) (sym says.1) (again spelled);
  printed = says.1 ∙ printed;
})

pub returns-in-Ok-print_script : goal.returns-in-Ok-print_script
returns-in-Ok-print_script c =
    let printed = c.in-Ok-print_script.ensures in
    gen_done c.args.number c.in-Ok.script c.in-Ok-print_script.text.items c.done.result c.in-Ok.ensures.made c.in-Ok.ensures.spelled printed.text printed.again c.done.ensures
