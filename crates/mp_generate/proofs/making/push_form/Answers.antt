use Rattle.std.proofs.Common.{◌++◌, arith}
use Rattle.mp_generate.specs.Generated.{generated_line, form_lines}
use Rattle.mp_generate.proofs.Filling.{pushed}
use Rattle.mp_generate.proofs.making.push_form.Goals as goal

pub loop-session-preserved : goal.loop-session-preserved
loop-session-preserved c =
    let f = generated_line c.args.number c.args.round c.args.form in
    let all = c.args.lines.now.items ++ form_lines c.args.number c.args.round c.args.form in
    let items = c.loop-session.lines.items in
    record {
      within = omega (arith, c.loop-session-test.true);
      pushed = pushed f c.loop-session.session 17 items c.push_line.new.lines.items all c.loop-session-test.true
          c.in_ok-push_line.ensures c.loop-session.invariant.pushed;
    }
