-- The next line goes behind those before it.
use Rattle.mp_report.specs.Pages.{row_words}
use Rattle.mp_report.proofs.Lined.{lined_more}
use Rattle.mp_report.proofs.print.pages.push_rows.Goals as goal

pub loop-i-preserved : goal.loop-i-preserved
loop-i-preserved c = lined_more row_words c.args.page.now.rows c.loop-i.i c.row.result _ _ _ c.row.ensures.value c.loop-i.invariant c.in_ok-push_row_line.ensures
