use Rattle.std.proofs.Common.{sym, ap, ◌∙◌}
use Rattle.mp_core.specs.declared.opening.CoreOpening.{CoreOpening}
use Rattle.mp_lineup.specs.LiningUp.{work_over}
use Rattle.mp_lineup.proofs.FirstRuns.{all_up, runs_first}
use Rattle.mp_lineup.proofs.lining_up.line_up.Goals as goal

pub returns-in-Ok-make_primaries-clause-runs : goal.returns-in-Ok-make_primaries-clause-runs
returns-in-Ok-make_primaries-clause-runs g c =
    let table = c.in-Ok-open_table.ensures in
    let made = c.in-Ok-make_primaries.ensures in
    runs_first g.D.Disk (work_over c.args.script.now c.args.opened.base) _ table.opened.1 table.reached
    (ap (λ (o : CoreOpening). o.trx.base) table.opened.0) (ap (λ (o : CoreOpening). o.trx.begins) table.opened.0)
    (made.count ∙ sym (ap (λ (o : CoreOpening). o.trx.primaries) table.opened.0)) made.made c.in-Ok.ensures.items

pub returns-in-Ok-make_primaries-clause-up : goal.returns-in-Ok-make_primaries-clause-up
returns-in-Ok-make_primaries-clause-up g c = all_up g.D.Disk (work_over c.args.script.now c.args.opened.base) _ c.in-Ok-make_primaries.ensures.made
