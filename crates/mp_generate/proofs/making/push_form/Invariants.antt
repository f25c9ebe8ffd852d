use Rattle.std.proofs.Common.{◌≡◌, ◌++◌, ◌-◌, ◌≤◌, map}
use Rattle.mp_script.specs.InTheirPart.{count_from}
use Rattle.mp_generate.specs.Generated.{generated_line, form_lines}
use Rattle.mp_generate.proofs.making.push_form.Given as goal

abbrev pub invariant-loop-session : goal.invariant-loop-session
invariant-loop-session l = record {
  within : l.session ≤ 17;
  pushed : l.lines.items ++ map (generated_line l.number l.round l.form) (count_from l.session (17 - l.session)) ≡ l.fn.lines.items ++ form_lines l.number l.round l.form;
}
