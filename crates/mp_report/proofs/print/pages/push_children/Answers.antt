-- The next line goes behind those before it.
use Rattle.mp_report.specs.Pages.{child_words}
use Rattle.mp_report.proofs.Lined.{lined_more}
use Rattle.mp_report.proofs.print.pages.push_children.Goals as goal

pub loop-i-preserved : goal.loop-i-preserved
loop-i-preserved c = lined_more child_words c.args.page.now.children c.loop-i.i c.child.result _ _ _ c.child.ensures.value c.loop-i.invariant c.in_ok-push_child_line.ensures
